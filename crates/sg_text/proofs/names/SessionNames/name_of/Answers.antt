use Rattle.std.proofs.Common.{ap, ◌∙◌}
use Rattle.std.specs.Map.{lookup}
use Rattle.sg_text.specs.Sessions.{Naming}
use Rattle.sg_text.proofs.SameSid.{same}
use Rattle.sg_text.proofs.Tables.{name_found}
use Rattle.sg_text.proofs.names.SessionNames.name_of.Goals as goal

pub returns : goal.returns
returns c letter m e =
    name_found letter m c.args.sid.now c.copied.result (c.copied.ensures ∙ c.get.ensures.value ∙ ap (lookup (same c.args.sid.now)) (ap (λ (t : Naming). t.names) (c.self.view_is ∙ e)))
