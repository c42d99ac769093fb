use Rattle.sg_protocol.proofs.Reachable.{states_are_reachable}
use Rattle.sg_protocol.proofs.RealHash.{real_hash}
use Rattle.sg_protocol.specs.Texts.{real}
use Rattle.sg_role.specs.Model.{state_of}
use Rattle.sg_role.proofs.send.after_step.Goals as goal

pub invariant_of-result : goal.invariant_of-result
invariant_of-result c =
    let s = state_of c.args.step.kept.value in
    record { counted = c.requires.counted; reachable = (states_are_reachable real real_hash).before s.program s.held c.requires.reachable }
