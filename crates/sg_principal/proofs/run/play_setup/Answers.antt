use Rattle.std.proofs.Common.{Some, inl, inr, refl, ap, ◌∙◌}
use Rattle.sg_principal.specs.Model.{setup_held}
use Rattle.sg_principal.specs.Outside.{link_of, output_of}
use Rattle.sg_principal.proofs.Playing.{after_link, at_address, unopened, without_link}
use Rattle.sg_principal.proofs.run.play_setup.Goals as goal

pub returns-in-Ok-clause-waits : goal.returns-in-Ok-clause-waits
returns-in-Ok-clause-waits g c = inl (c.play_on.ensures.bound ∙ c.in-Ok.ensures.waits ∙ ap Some (at_address c.listen.result c.args.setup.keys c.listen.ensures.ip c.listen.ensures.port))

pub returns-in-Err-clause-waits : goal.returns-in-Err-clause-waits
returns-in-Err-clause-waits g c = inr (
  refl,
  unopened (output_of g.O.Sink (c.args.stage.out).now) (g.R.Fresh.random (c.args.stage.fresh).now) (link_of g.L.Link (c.args.stage.link).now) (link_of g.L.Link c.open.new.self)
      c.open.ensures.kept c.open.ensures.kept_sent c.in-Err.ensures.kept_bound c.in-Err.ensures.failed,
)

pub returns-in-Ok-clause-ends : goal.returns-in-Ok-clause-ends
returns-in-Ok-clause-ends g c =
    after_link (output_of g.O.Sink (c.args.stage.out).now) (g.R.Fresh.random (c.args.stage.fresh).now) (link_of g.L.Link (c.args.stage.link).now) (link_of g.L.Link c.open.new.self)
    c.open.ensures.kept c.open.ensures.kept_sent (setup_held c.args.setup) c.args.most c.open.ensures.never_falls _ c.play_on.result c.play_on.ensures.ends

pub returns-in-Err-clause-ends : goal.returns-in-Err-clause-ends
returns-in-Err-clause-ends g c =
    without_link (output_of g.O.Sink (c.args.stage.out).now) (g.R.Fresh.random (c.args.stage.fresh).now) (link_of g.L.Link (c.args.stage.link).now) (link_of g.L.Link c.open.new.self)
    c.open.ensures.kept c.open.ensures.kept_sent (setup_held c.args.setup) c.args.most c.open.ensures.never_falls c.in-Err.ensures.failed
