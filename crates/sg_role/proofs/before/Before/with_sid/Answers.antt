use Rattle.std.proofs.Common.{sym, ap, ◌∙◌, subst}
use Rattle.sg_protocol.specs.Texts.{real, session_id, session_text_of}
use Rattle.sg_protocol.proofs.Reachable.{states_are_reachable}
use Rattle.sg_protocol.proofs.RealHash.{real_hash}
use Rattle.sg_role.specs.Invariant.{HoldsBefore}
use Rattle.sg_role.specs.Model.{state_of}
use Rattle.sg_role.proofs.before.Before.with_sid.Goals as goal

pub invariant_of-result : goal.invariant_of-result
invariant_of-result c = subst HoldsBefore (sym (ap state_of c.in_ok-kept.ensures ∙ c.in_ok-new.ensures)) (record {
  counted = c.requires.count;
  reachable = (states_are_reachable real real_hash).is_new c.args.program.now (session_id real c.args.cast) c.args.cast c.facts.ensures.program (real_hash (session_text_of c.args.cast))
      (record { version = c.facts.ensures.version; fields = c.facts.ensures.cast }) c.requires.graph;
})
