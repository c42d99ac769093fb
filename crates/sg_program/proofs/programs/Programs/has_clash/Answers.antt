use Rattle.std.proofs.Common.{◌≡◌, Bool, true, false, not, refl, sym, ap, ◌∙◌, bytes_eq, map}
use Rattle.std.specs.Prelude.{Some, find}
use Rattle.std.specs.List.{list_any}
use Rattle.std.proofs.lemmas.Slice.Eq.{bytes_eq-Decides}
use Rattle.sg_program.specs.Together.{is_named, is_pair, part_of}
use Rattle.sg_program.proofs.Alike.{none_named, other_digest, same_digest, digests_of, any_part}
use Rattle.sg_program.proofs.programs.Programs.has_clash.Goals as goal

not_true : (b : Bool) → not b ≡ true → b ≡ false
not_true true h = sym h
not_true false h = refl

not_false : (b : Bool) → not b ≡ false → b ≡ true
not_false true h = refl
not_false false h = sym h

pub returns-in-None : goal.returns-in-None
returns-in-None c =
    let name = c.name-name.ensures.name ∙ ap (λ g. g.name) c.graph.ensures.graph in
    sym (none_named c.args.program.now c.args.self.now (sym (rw name at c.in-None.ensures)))

pub returns-then-ne : goal.returns-then-ne
returns-then-ne c =
    let name = c.name-name.ensures.name ∙ ap (λ g. g.name) c.graph.ensures.graph in
    let other : bytes_eq c.args.program.now.digest c.in-Some.first.now.digest ≡ false =
    (λ i. bytes_eq (sym c.digest.ensures.digest i) (sym c.digest-in-Some.ensures.digest i)) ∙ not_true _ (sym c.ne.ensures ∙ c.if-ne.true) in
    c.if-ne.true ∙ sym (other_digest c.args.program.now c.in-Some.first.now c.args.self.now (sym (rw name at c.in-Some.ensures)) other)

pub returns-else-ne : goal.returns-else-ne
returns-else-ne c =
    let name = c.name-name.ensures.name ∙ ap (λ g. g.name) c.graph.ensures.graph in
    let same : bytes_eq c.args.program.now.digest c.in-Some.first.now.digest ≡ true =
    (λ i. bytes_eq (sym c.digest.ensures.digest i) (sym c.digest-in-Some.ensures.digest i)) ∙ not_false _ (sym c.ne.ensures ∙ c.if-ne.false) in
    let equal : c.in-Some.first.now.digest ≡ c.args.program.now.digest = sym ((bytes_eq-Decides _ _).0 same) in
    let first : find (is_named c.args.program.now.graph.name) c.args.self.now ≡ Some c.in-Some.first.now = sym (rw name at c.in-Some.ensures) in
    let all = digests_of c.args.program.now.graph.name c.in-Some.first.now c.args.self.now c.args.self.now first (rw (← c.self.view_is) (c.self.invariant.alike c.args.program.now.graph.name)) in
    let parts : c.has_part.result ≡ list_any (is_pair c.args.program.now.graph.name c.args.program.now.role) c.self.inside.parts.keys =
    c.has_part.ensures ∙ (λ i. list_any (is_pair (name i) (c.role.ensures.role i)) c.self.inside.parts.keys) in
    parts ∙ ap (list_any (is_pair c.args.program.now.graph.name c.args.program.now.role)) (c.self.invariant.parts ∙ ap (λ ps. map part_of ps) c.self.view_is)
    ∙ any_part c.args.program.now.graph.name c.args.program.now.role c.args.self.now
    ∙ sym (same_digest c.args.program.now c.in-Some.first.now.digest c.args.self.now equal all)
