-- What holds of the runs of replays, by the core's laws.
use Rattle.sg_protocol.proofs.Awaited.{delivery_is_complete}
use Rattle.sg_protocol.proofs.Causes.{claims_are_kept}
use Rattle.sg_protocol.proofs.LastSteps.{frames_show_last_steps}
use Rattle.sg_protocol.proofs.RealHash.{real_hash}
use Rattle.sg_protocol.proofs.Roles.{none_takes_two_roles, sessions_have_one_cast}
use Rattle.sg_protocol.proofs.Sendings.{receipts_have_sends}
use Rattle.sg_protocol.specs.Texts.{real}
use Rattle.sg_world.specs.Laws.{LawsHold}
use Rattle.sg_world.proofs.ReportText.{hold_is, says_hold}

-- the laws of the core, for a replay
pub laws_hold : LawsHold
laws_hold r has = record {
  premises = (hold_is r, says_hold r);
  one_cast = sessions_have_one_cast real real_hash r.programs r.schedule has.compiled has.schedule;
  one_role = none_takes_two_roles real real_hash r.programs r.schedule has.compiled has.schedule;
  receipts = receipts_have_sends real real_hash r.programs r.schedule has.compiled has.schedule;
  last_steps = λ p l who bs f cast g past. frames_show_last_steps real real_hash r.programs r.schedule who bs f l cast g past has.compiled has.schedule p;
  delivery = delivery_is_complete real real_hash r.programs r.schedule has.compiled has.schedule;
  claims = claims_are_kept real real_hash r.programs r.schedule has.compiled has.schedule;
}
