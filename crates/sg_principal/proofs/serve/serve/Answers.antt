use Rattle.std.proofs.Common.{inl, inr, refl}
use Rattle.sg_principal.specs.Model.{principal_held}
use Rattle.sg_principal.proofs.Meanwhile.{nothing_asked}
use Rattle.sg_principal.proofs.serve.serve.Goals as goal

pub returns-in-Ok-clause-serves : goal.returns-in-Ok-clause-serves
returns-in-Ok-clause-serves g c = inl (principal_held c.in-Ok.principal, c.in-Ok.ensures.has, c.serve_principal.ensures.serves, c.in-Ok.ensures.no_fault)

pub returns-in-Err-clause-serves : goal.returns-in-Err-clause-serves
returns-in-Err-clause-serves g c = inr (refl, nothing_asked g.D.Disk c.args.disk.now (g.met.D.Disk.only_now c.args.disk.now), c.in-Err.ensures.lacks)

pub returns-in-Err-clause-as_before : goal.returns-in-Err-clause-as_before
returns-in-Err-clause-as_before g c = inr (refl, refl)

pub returns-in-Err-clause-disk : goal.returns-in-Err-clause-disk
returns-in-Err-clause-disk g c = inr refl
