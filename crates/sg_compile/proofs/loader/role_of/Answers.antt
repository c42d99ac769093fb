use Rattle.std.proofs.Common.{◌≡◌, ◌++◌, ◌==◌, ℕ, drop, sym, ◌∙◌}
use Rattle.std.specs.Prelude.{codes}
use Rattle.sg_program.proofs.Indices.{none_there}
use Rattle.sg_compile.proofs.Reading.{begins_yes, no_role, role_read}
use Rattle.sg_compile.proofs.loader.role_of.Goals as goal

pub returns-in-Some : goal.returns-in-Some
returns-in-Some c =
    let begins : c.args.text.now ≡ codes "role " ++ drop 5 c.args.text.now = begins_yes (codes "role ") c.args.text.now (sym c.starts_with.ensures.value ∙ c.if-not-starts_with.false) in
    role_read c.args.text.now (drop 5 c.args.text.now) c.in-Some.end c.new.result begins (sym (rw c.split_at.ensures.back at c.in-Some.ensures.index))
    (rw c.split_at.ensures.back at c.new.ensures.found) (rw c.split_at.ensures.back at c.new.ensures.value)

pub returns-in-None : goal.returns-in-None
returns-in-None c =
    let begins : c.args.text.now ≡ codes "role " ++ drop 5 c.args.text.now = begins_yes (codes "role ") c.args.text.now (sym c.starts_with.ensures.value ∙ c.if-not-starts_with.false) in
    no_role c.args.text.now begins (none_there (λ (b : ℕ). b == 10) (drop 5 c.args.text.now) (sym (rw c.split_at.ensures.back at c.in-None.ensures.index)))
