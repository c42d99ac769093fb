use Rattle.std.proofs.Common.{◌≡◌, sym, ap, ◌∙◌, refl, arith}
use Rattle.std.specs.Prelude.{Some, None, position}
use Rattle.std.specs.Map.{lookup}
use Rattle.std.proofs.lemmas.Option.{slice_get_read}
use Rattle.sg_program.specs.Together.{is_for}
use Rattle.sg_program.proofs.SameKey.{same_key_is}
use Rattle.sg_program.proofs.Indices.{first_there, none_there}
use Rattle.sg_program.proofs.programs.Programs.find.Goals as goal

pub index-requires : goal.index-requires
index-requires c =
    let at : Some c.in-Some.index.now ≡ position (is_for c.args.digest.now c.args.role) c.self.inside.list.items =
    rw c.in-Some.is at c.get.ensures.value ∙ ap (λ test. lookup test c.self.inside.digests.entries) (same_key_is c.args.digest.now c.args.role) ∙ c.self.invariant.digests c.args.digest.now c.args.role in
    let there = first_there (is_for c.args.digest.now c.args.role) c.self.inside.list.items c.in-Some.index.now (sym at) in
    omega (arith, there.0)

pub returns-in-Some : goal.returns-in-Some
returns-in-Some c =
    let at : Some c.in-Some.index.now ≡ position (is_for c.args.digest.now c.args.role) c.self.inside.list.items =
    rw c.in-Some.is at c.get.ensures.value ∙ ap (λ test. lookup test c.self.inside.digests.entries) (same_key_is c.args.digest.now c.args.role) ∙ c.self.invariant.digests c.args.digest.now c.args.role in
    let there = first_there (is_for c.args.digest.now c.args.role) c.self.inside.list.items c.in-Some.index.now (sym at) in
    rw (← c.self.view_is) (sym (there.1 ∙ slice_get_read c.self.inside.list.items _ c.in-Some.index.now c.index.result.now refl there.0 c.index.ensures))

pub returns-in-None : goal.returns-in-None
returns-in-None c =
    let at : None ≡ position (is_for c.args.digest.now c.args.role) c.self.inside.list.items =
    rw c.in-None.is at c.get.ensures.value ∙ ap (λ test. lookup test c.self.inside.digests.entries) (same_key_is c.args.digest.now c.args.role) ∙ c.self.invariant.digests c.args.digest.now c.args.role in
    rw (← c.self.view_is) (sym (none_there (is_for c.args.digest.now c.args.role) c.self.inside.list.items (sym at)))
