use Rattle.std.proofs.Common.{[], ap, ◌∙◌}
use Rattle.sg_protocol.specs.Keyring.{Keyring}
use Rattle.sg_protocol.specs.NodeStates.{new_state}
use Rattle.sg_principal.specs.Outside.{stage_at_call, stage_of}
use Rattle.sg_principal.proofs.Playing.{not_begun}
use Rattle.sg_principal.proofs.run.play_by.Goals as goal

pub returns-in-Ok-clause-ends : goal.returns-in-Ok-clause-ends
returns-in-Ok-clause-ends g c = record {
  plays = λ ds ws d w. c.play.ensures.played [] ds ws (c.in-Ok.ensures.made ∙ ap (λ (k : Keyring). new_state k c.args.programs.now []) c.requires.keys) d w;
  left = c.play.ensures.left;
  at_most = c.play.ensures.at_most;
  faults = c.play.ensures.faults;
}

pub returns-in-Err-clause-ends : goal.returns-in-Err-clause-ends
returns-in-Err-clause-ends g c = not_begun (record { keys = c.args.keys.now; programs = c.args.programs.now; script = c.args.script }) c.args.most (stage_of g.O.Sink g.L.Link g.R.Fresh (stage_at_call c.args.stage))
