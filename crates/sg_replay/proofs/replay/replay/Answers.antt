use Rattle.sg_protocol.specs.Texts.{real}
use Rattle.sg_ending.specs.Model.{ending_held}
use Rattle.sg_replay.proofs.Refused.{no_schedule}
use Rattle.sg_replay.proofs.Spelled.{spelled_taken}
use Rattle.sg_replay.proofs.replay.replay.Goals as goal

pub replay_schedule-ending-requires-clause-can : goal.replay_schedule-ending-requires-clause-can
replay_schedule-ending-requires-clause-can g c = record {
  meant = c.in-Ok.ensures.meant;
  honest = spelled_taken real c.args.bytes.now c.in-Ok.schedule c.in-Ok.ensures.found;
}

pub returns-in-Err : goal.returns-in-Err
returns-in-Err g c = no_schedule c.args.bytes.now _ c.in-Err.fault (ending_held c.refused.result) c.refused.ensures c.in-Err.ensures.wrong
