use Rattle.std.proofs.Common.{List, refl, subst}
use Rattle.sg_node.proofs.Life.{new_nodes, represents_new}
use Rattle.sg_script.specs.Script.{Choice}
use Rattle.sg_play.specs.Queues.{HoldsChoices}
use Rattle.sg_play.proofs.player.Player.new.Goals as goal

pub returns-in-Ok-clause-represents : goal.returns-in-Ok-clause-represents
returns-in-Ok-clause-represents c = λ first random is. record {
  node = represents_new c.args.node c.args.keys.now c.args.programs.now first is;
  answered = (new_nodes c.args.keys.now c.args.programs.now first).1;
  keys = refl;
  programs = refl;
  choices = subst (λ (l : List Choice). HoldsChoices c.in-Ok.choices l) c.into_vec.ensures c.in-Ok.ensures;
  names = c.new-names.ensures;
  steps = refl;
  frames = refl;
}
