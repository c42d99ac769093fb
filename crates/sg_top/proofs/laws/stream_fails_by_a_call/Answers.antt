-- The law of connections.
use Rattle.sg_principal.specs.Outside.{output_of}
use Rattle.sg_top.specs.Outside.{reports_of, stream_of}
use Rattle.sg_top.proofs.Connections.{stream_fails}
use Rattle.sg_top.proofs.laws.stream_fails_by_a_call.Goals as goal

pub returns : goal.returns
returns g c = stream_fails g.C.Conns
    (reports_of g.F.Files g.O.Sink g.L.Link g.L.TimedLink.coming g.R.Fresh g.D.Disk (stream_of g.C.Conns) g.P.Link g.P.TimedLink.coming g.I.Input) (output_of g.E.Sink) c.rises_are_of_one_call.ensures
