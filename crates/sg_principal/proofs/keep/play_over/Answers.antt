use Rattle.std.proofs.Common.{Some, inl, inr, refl, ap, ◌∙◌}
use Rattle.sg_keep.specs.KeptRuns.{RepresentsMore}
use Rattle.sg_principal.specs.Ledgers.{play_over}
use Rattle.sg_principal.specs.Model.{setup_held}
use Rattle.sg_principal.specs.Outside.{disk_of, link_of, output_of}
use Rattle.sg_principal.proofs.Keeping.{after_link, without_link}
use Rattle.sg_principal.proofs.Meanwhile.{kept_throughout, meanwhile}
use Rattle.sg_principal.proofs.Playing.{at_address, unopened}
use Rattle.sg_principal.proofs.keep.play_over.Goals as goal

pub returns-in-Err-clause-ends : goal.returns-in-Err-clause-ends
returns-in-Err-clause-ends g c =
    without_link c.args.ledger.joins (setup_held c.args.setup) c.args.most (output_of g.O.Sink (c.args.stage.out).now) (g.R.Fresh.random (c.args.stage.fresh).now)
    (link_of g.L.Link (c.args.stage.link).now) (link_of g.L.Link c.open.new.self) c.open.ensures.kept c.open.ensures.kept_sent c.open.ensures.never_falls g.D.Disk c.args.disk.now (g.met.D.Disk.only_now c.args.disk.now) c.in-Err.ensures.failed c.requires.represents

pub returns-clause-ends : goal.returns-clause-ends
returns-clause-ends g c =
    after_link c.args.ledger.joins (setup_held c.args.setup) c.args.most (output_of g.O.Sink (c.args.stage.out).now) (g.R.Fresh.random (c.args.stage.fresh).now)
    (link_of g.L.Link (c.args.stage.link).now) (link_of g.L.Link c.open.new.self) c.open.ensures.kept c.open.ensures.kept_sent c.open.ensures.never_falls
    (record { out = output_of g.O.Sink c.keep-came.new.out; link = link_of g.L.Link c.keep-came.new.link; random = g.R.Fresh.random c.keep-came.new.fresh }) (disk_of g.D.Disk c.args.disk.now) (disk_of g.D.Disk c.keep-came.new.disk) c.keep-came.result
    (record {
      plays = c.keep-came.ensures.kept;
      any_moment = meanwhile g.D.Disk c.args.disk.now c.keep-came.new.disk (RepresentsMore c.args.ledger.joins) c.keep-came.ensures.any_moment;
      throughout = λ ds ws d w. kept_throughout g.D.Disk c.args.disk.now c.keep-came.new.disk (g.O.Sink.written (c.args.stage.out).now) (g.O.Sink.written c.keep-came.new.out)
          (play_over c.args.ledger.joins (setup_held c.args.setup) c.args.most ds ws) (c.keep-came.ensures.throughout ds ws d w);
      faults = c.keep-came.ensures.faults;
      left = c.keep-came.ensures.left;
      at_most = c.keep-came.ensures.at_most;
    })

pub returns-in-Err-clause-waits : goal.returns-in-Err-clause-waits
returns-in-Err-clause-waits g c = inr (
  refl,
  unopened (output_of g.O.Sink (c.args.stage.out).now) (g.R.Fresh.random (c.args.stage.fresh).now) (link_of g.L.Link (c.args.stage.link).now) (link_of g.L.Link c.open.new.self)
      c.open.ensures.kept c.open.ensures.kept_sent c.in-Err.ensures.kept_bound c.in-Err.ensures.failed,
)

pub returns-clause-waits : goal.returns-clause-waits
returns-clause-waits g c = inl (c.keep-came.ensures.link_bound ∙ c.in-Ok.ensures.waits ∙ ap Some (at_address c.listen.result c.args.setup.keys c.listen.ensures.ip c.listen.ensures.port))
