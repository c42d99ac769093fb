use Rattle.std.proofs.Common.{◌<◌, Some, length, slice_get, sym, ap, ◌∙◌, subst}
use Rattle.sg_drive.proofs.Turned.{got_at}
use Rattle.sg_drive.specs.Going.{Pending}
use Rattle.sg_drive.specs.Machine.{Machine}
use Rattle.sg_drive.proofs.generator.Generator.take_out.Goals as goal

pub returns-clause-taken : goal.returns-clause-taken
returns-clause-taken c =
    ap (λ (m : Machine). slice_get m.going.pending c.args.index) (sym c.self.view_is)
    ∙ got_at c.self.inside.pending.items c.args.index c.remove.result (subst (λ (m : Machine). c.args.index < length m.going.pending) (sym c.self.view_is) c.requires) ∙ ap (λ (p : Pending). Some p) (sym c.remove.ensures.value)
