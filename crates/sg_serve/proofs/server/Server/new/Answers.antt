use Rattle.std.proofs.Common.{List, subst, arith}
use Rattle.sg_play.specs.Played.{beginning}
use Rattle.sg_play.specs.Representation.{RepresentsPlay}
use Rattle.sg_script.specs.Script.{Choice}
use Rattle.sg_serve.specs.Served.{joins_kept}
use Rattle.sg_serve.proofs.server.Server.new.Goals as goal

pub returns-in-Ok-clause-represents : goal.returns-in-Ok-clause-represents
returns-in-Ok-clause-represents c = λ random. record {
  player = subst (λ (l : List Choice). RepresentsPlay c.in-Ok.player (beginning c.args.keys.now c.args.programs.now (joins_kept c.args.ledger) l random)) c.new.ensures (c.in-Ok.ensures.represents (joins_kept c.args.ledger) random c.requires);
  graphs = c.new-in-Ok.ensures;
  enough = omega arith;
  last = c.new-in-Ok-2.ensures;
}
