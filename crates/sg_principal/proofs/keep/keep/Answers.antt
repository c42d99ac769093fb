use Rattle.std.proofs.Common.{inl, inr, refl}
use Rattle.sg_principal.specs.Model.{setup_held}
use Rattle.sg_principal.proofs.Meanwhile.{nothing_asked}
use Rattle.sg_principal.proofs.keep.keep.Goals as goal

pub returns-in-Ok-clause-keeps : goal.returns-in-Ok-clause-keeps
returns-in-Ok-clause-keeps g c = inl (setup_held c.in-Ok.setup, c.in-Ok.ensures.has, c.keep_setup.ensures.keeps, c.in-Ok.ensures.no_fault)

pub returns-in-Err-clause-keeps : goal.returns-in-Err-clause-keeps
returns-in-Err-clause-keeps g c = inr (refl, nothing_asked g.D.Disk c.args.disk.now (g.met.D.Disk.only_now c.args.disk.now), c.in-Err.ensures.lacks)

pub returns-in-Err-clause-as_before : goal.returns-in-Err-clause-as_before
returns-in-Err-clause-as_before g c = inr refl
