use Rattle.std.proofs.Common.{inl, inr, refl, ap, ◌∙◌}
use Rattle.sg_ending.specs.Model.{ending_held}
use Rattle.sg_principal.specs.Ledgers.{ending_of_keep}
use Rattle.sg_principal.specs.Model.{setup_held}
use Rattle.sg_principal.specs.Outside.{disk_of, stage_at_call, stage_of}
use Rattle.sg_principal.proofs.Keeping.{after_ledger}
use Rattle.sg_principal.proofs.Playing.{waits}
use Rattle.sg_principal.proofs.keep.keep_setup.Goals as goal

pub returns-in-Ok-clause-keeps : goal.returns-in-Ok-clause-keeps
returns-in-Ok-clause-keeps g c =
    inl (
      c.in-Ok.ledger.joins,
      g.D.Disk.moment c.open_ledger.new.disk,
      c.play_over.result,
      c.play_over.ensures.bound ∙ c.in-Ok.ensures.bound,
      c.in-Ok.ensures.opened,
      c.open_ledger.ensures.any_moment.later,
      waits c.args.setup.keys _ _ (ending_held c.ended.result) (λ e. c.ended.ensures.ending ∙ ap ending_of_keep e) c.play_over.ensures.waits,
      after_ledger c.in-Ok.ledger.joins (setup_held c.args.setup) c.args.most (stage_of g.O.Sink g.L.Link g.R.Fresh (stage_at_call c.args.stage)) _
          (disk_of g.D.Disk c.args.disk.now) (disk_of g.D.Disk c.open_ledger.new.disk) (disk_of g.D.Disk c.play_over.new.disk) c.play_over.result c.in-Ok.ensures.no_fault (g.met.D.Disk.counts_now c.args.disk.now) c.open_ledger.ensures.any_moment c.play_over.ensures.ends,
      c.ended.ensures.ending,
    )

pub returns-in-Ok-clause-as_before : goal.returns-in-Ok-clause-as_before
returns-in-Ok-clause-as_before g c = inl c.ended.ensures.played

pub returns-in-Err-clause-keeps : goal.returns-in-Err-clause-keeps
returns-in-Err-clause-keeps g c = inr (refl, c.open_ledger.ensures.left, c.open_ledger.ensures.any_moment, c.in-Err.ensures.tried, c.in-Err.ensures.lacks)

pub returns-in-Err-clause-as_before : goal.returns-in-Err-clause-as_before
returns-in-Err-clause-as_before g c = inr refl
