use Rattle.std.proofs.Common.{◌≡◌, false, None, Some, sym, ◌∙◌, ap, subst}
use Rattle.std.specs.Option.{option_map_or}
use Rattle.sg_protocol.specs.Node.{program_for, starts}
use Rattle.sg_node.proofs.cast.is_starting.Goals as goal

pub returns-in-Some : goal.returns-in-Some
returns-in-Some c =
    c.starts.ensures
    ∙ sym (ap (λ o. option_map_or starts o false) (subst (λ r. program_for c.args.programs.now c.args.digest.now r ≡ Some c.in-Some.first.now) c.role.ensures.role (sym c.in-Some.ensures)))

pub returns-in-None : goal.returns-in-None
returns-in-None c = sym (ap (λ o. option_map_or starts o false) (subst (λ r. program_for c.args.programs.now c.args.digest.now r ≡ None) c.role.ensures.role (sym c.in-None.ensures)))
