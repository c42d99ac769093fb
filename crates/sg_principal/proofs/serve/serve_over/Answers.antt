use Rattle.std.proofs.Common.{Some, inl, inr, refl, ap, ◌∙◌}
use Rattle.sg_setup.specs.Setup.{waits_at}
use Rattle.sg_principal.specs.Outside.{input_of, output_of, port_of}
use Rattle.sg_principal.proofs.Playing.{at_address}
use Rattle.sg_principal.proofs.Serving.{opened, unopened}
use Rattle.sg_principal.proofs.serve.serve_over.Goals as goal

pub returns-in-Ok-clause-serves : goal.returns-in-Ok-clause-serves
returns-in-Ok-clause-serves g c =
    inr (
      port_of g.L.Link g.L.TimedLink.coming c.open_at.new.self,
      c.answer_all.result,
      opened (port_of g.L.Link g.L.TimedLink.coming (c.args.stage.link).now) (port_of g.L.Link g.L.TimedLink.coming c.open_at.new.self) c.open_at.ensures.kept c.open_at.ensures.kept_sent
          (waits_at c.args.principal.keys) (c.in-Ok.ensures.waits ∙ ap Some (at_address c.listen.result c.args.principal.keys c.listen.ensures.ip c.listen.ensures.port)) c.open_at.ensures.never_falls,
      c.answer_all.ensures.ends,
      c.ended.ensures.ending,
    )

pub returns-in-Err-clause-serves : goal.returns-in-Err-clause-serves
returns-in-Err-clause-serves g c =
    inl (
      unopened (port_of g.L.Link g.L.TimedLink.coming (c.args.stage.link).now) (port_of g.L.Link g.L.TimedLink.coming c.open_at.new.self) c.open_at.ensures.kept c.open_at.ensures.kept_sent
          (output_of g.O.Sink (c.args.stage.out).now) (g.R.Fresh.random (c.args.stage.fresh).now) (input_of g.I.Input c.args.input.now) c.in-Err.ensures.kept_bound c.in-Err.ensures.failed,
      (refl, λ image left. left),
      refl,
      refl,
    )
