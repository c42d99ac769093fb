use Rattle.std.proofs.Common.{◌==◌, ◌∙◌, ap, sym, List, [], ◌∷◌, ◌++◌, Some, Option, option_copied, refl, ℕ, Bor}
use Rattle.std.specs.List.{slice_split}
use Rattle.std.specs.Option.{option_map_or}
use Rattle.sg_sched.proofs.NamesLaws.{names_with, names_end, differ_push, read_twice, read_more}
use Rattle.sg_sched.proofs.names.read_names.Goals as goal

-- the parts of what follows, if anything does
abbrev parts_of : Option (Bor (List ℕ)) → List (List ℕ)
parts_of rest = option_map_or (slice_split (λ b. b == 44)) (option_copied rest) []

pub returns-then-has : goal.returns-then-has
returns-then-has c =
    read_twice _ c.parts.found _ (parts_of c.split_part.result.1) c.split_part.result.0.now c.in-Some.name c.parts.invariant.left c.split_part.ensures.parts c.in-Some.ensures.value (sym c.has.ensures ∙ c.if-has.true)

pub parts-preserved : goal.parts-preserved
parts-preserved c =
    let more = read_more _ c.parts.found _ (parts_of c.split_part.result.1) c.split_part.result.0.now c.in-Some.name c.parts.invariant.left c.split_part.ensures.parts c.in-Some.ensures.value ((c.in-Some.ensures.found).0 refl) in
    record {
      left = more ∙ (λ i. names_with (sym c.in_ok-add.ensures.ok i) (parts_of (c.in-Some-rest.is i)));
      differ = rw c.in_ok-add.ensures.ok (differ_push c.in-Some.name c.parts.found (sym c.has.ensures ∙ c.if-has.false) c.parts.invariant.differ);
    }

pub returns-in-None : goal.returns-in-None
returns-in-None c =
    let more = read_more _ c.parts.found _ (parts_of c.split_part.result.1) c.split_part.result.0.now c.in-Some.name c.parts.invariant.left c.split_part.ensures.parts c.in-Some.ensures.value ((c.in-Some.ensures.found).0 refl) in
    let differ = differ_push c.in-Some.name c.parts.found (sym c.has.ensures ∙ c.if-has.false) c.parts.invariant.differ in
    sym (more ∙ ap (λ o. names_with (c.parts.found ++ c.in-Some.name ∷ []) (parts_of o)) c.in-None.is ∙ names_end _ differ ∙ ap Some (sym c.in_ok-add.ensures.ok))
