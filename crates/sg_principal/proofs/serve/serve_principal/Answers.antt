use Rattle.std.proofs.Common.{inl, inr, true, refl, sym, subst, ◌∙◌}
use Rattle.sg_ending.specs.Model.{ending_held}
use Rattle.sg_principal.specs.Ledgers.{IsNotAsked}
use Rattle.sg_principal.specs.Model.{principal_held}
use Rattle.sg_principal.specs.Outside.{application_of, disk_of, stage_at_call}
use Rattle.sg_principal.proofs.Meanwhile.{nothing_asked}
use Rattle.sg_principal.proofs.Serving.{over_later}
use Rattle.sg_principal.proofs.serve.serve_principal.Goals as goal

pub returns-in-Ok-clause-serves : goal.returns-in-Ok-clause-serves
returns-in-Ok-clause-serves g c =
    rw c.in-Some.is (inl (
      c.in-Ok.ledger.joins,
      c.serve_over.ensures.bound ∙ c.in-Ok.ensures.bound,
      c.in-Ok.ensures.opened,
      over_later true c.in-Ok.ledger.joins (principal_held c.args.principal) (application_of g.O.Sink g.L.Link g.L.TimedLink.coming g.R.Fresh g.I.Input (stage_at_call c.args.stage) c.args.input.now) _
          (disk_of g.D.Disk c.args.disk.now) (disk_of g.D.Disk c.open_ledger.new.disk) (disk_of g.D.Disk c.serve_over.new.disk) c.in-Ok.ensures.no_fault (ending_held c.serve_over.result) c.open_ledger.ensures.left c.serve_over.ensures.serves,
    ))

pub returns-in-Err-clause-serves : goal.returns-in-Err-clause-serves
returns-in-Err-clause-serves g c = rw c.in-Some.is (inr (refl, c.open_ledger.ensures.left, c.in-Err.ensures.tried, c.in-Err.ensures.lacks))

pub returns-in-None-clause-serves : goal.returns-in-None-clause-serves
returns-in-None-clause-serves g c =
    rw c.in-None.is (
      c.serve_over-in-None.ensures.serves,
      subst (λ (d : g.row.D.Denot). IsNotAsked (disk_of g.D.Disk c.args.disk.now) (disk_of g.D.Disk d)) (sym (c.serve_over-in-None.ensures.disk refl))
          (nothing_asked g.D.Disk c.args.disk.now (g.met.D.Disk.only_now c.args.disk.now)),
    )
