use Rattle.std.proofs.Common.{◌≡◌, refl, sym, ◌∙◌, ap, subst, length, List, [], ℕ}
use Rattle.sg_ledger.specs.Memory.{Platter, Medium, platter, after_call, IsImage}
use Rattle.sg_ledger.specs.Model.{DiskHeld}
use Rattle.sg_ledger.specs.declared.medium.DiskCall.TheVariants.{Wrote, Tore}
use Rattle.sg_ledger.proofs.Images.{wrote_follows, tore_follows}
use Rattle.sg_ledger.proofs.memory.MemDiskDisk.write.Goals as goal

pub returns-in-Goes-clause-images : goal.returns-in-Goes-clause-images
returns-in-Goes-clause-images c = λ image left.
    let state = c.write.ensures.state ∙ ap (λ (d : DiskHeld). after_call (platter d.medium) (Wrote c.args.at (length c.args.bytes.now)) c.args.bytes.now) c.self.view_is in
    wrote_follows (platter c.args.self.now.medium) c.args.at c.args.bytes.now (c.requires.begins _ refl) image
    (subst (λ (p : Platter). IsImage p image) state left)

pub returns-in-Goes-clause-time : goal.returns-in-Goes-clause-time
returns-in-Goes-clause-time c = rw (← c.self.view_is) c.write.ensures.time

pub returns-in-Fails-clause-images : goal.returns-in-Fails-clause-images
returns-in-Fails-clause-images c = λ image left.
    let state = c.tear.ensures.state ∙ ap (λ (d : DiskHeld). after_call (platter d.medium) (Tore c.args.at (length c.args.bytes.now)) []) c.self.view_is in
    tore_follows (platter c.args.self.now.medium) c.args.at (length c.args.bytes.now) image
    (subst (λ (p : Platter). IsImage p image) state left)
