use Rattle.std.proofs.Common.{◌≡◌, ◌<◌, length, false, None, Some, if◌then◌else◌, sym, ◌∙◌, ap, subst}
use Rattle.indexmap.specs.IndexMap.{set_value_at}
use Rattle.sg_role.specs.Accepting.{Acceptance, goes_on, state_after}
use Rattle.sg_role.specs.Sending.{TurnsOrEnds}
use Rattle.sg_node.specs.Slots.{Table, left_after}
use Rattle.sg_node.specs.declared.sessions.Live.TheVariants.{AtTurn}
use Rattle.sg_node.proofs.Indices.{live_at}
use Rattle.sg_node.proofs.InSlots.{at_set, length_set, set_twice, left_turn}
use Rattle.sg_node.proofs.deliver.take.Goals as goal
use Rattle.sg_node.proofs.deliver.take.Goals.{in-Turn, in_default-taken}

-- a role that has ended leaves its slot empty
left_ended : (a : Acceptance) → goes_on a.program.graph (a.after.kept).place ≡ false → None ≡ left_after a
left_ended a h = sym (ap (λ b. if b then Some (AtTurn (state_after a)) else None) h)

pub put-requires-clause-empty : goal.put-requires-clause-empty
put-requires-clause-empty c = ap (λ z. live_at z c.args.index) c.take.ensures.slots ∙ at_set c.args.sessions.now.slots c.args.index None c.requires.within

pub put-requires-clause-within : goal.put-requires-clause-within
put-requires-clause-within c = subst (λ k. c.args.index < k) (sym (ap length c.take.ensures.slots ∙ length_set c.args.sessions.now.slots c.args.index None)) c.requires.within

pub returns-clause-slots : goal.returns-clause-slots
returns-clause-slots c =
    let a = c.args.accepted in
    let slots = c.args.sessions.now.slots in
    let told = c.accept_unchecked-event.ensures.taken in
    elim c.match-taken.branch [
      | in-Turn w ↦ ap (λ (t : Table). t.slots) w.sessions-is ∙ w.put.ensures.slots ∙ ap (λ z. set_value_at z c.args.index (Some (AtTurn w.in-Turn.turn))) c.take.ensures.slots
          ∙ set_twice slots c.args.index None (Some (AtTurn w.in-Turn.turn))
          ∙ ap (set_value_at slots c.args.index) (left_turn a w.in-Turn.turn (subst (TurnsOrEnds (goes_on a.program.graph (a.after.kept).place) (state_after a)) w.in-Turn.is told))
      | in_default-taken w ↦ ap (λ (t : Table). t.slots) w.sessions-is ∙ c.take.ensures.slots
          ∙ ap (set_value_at slots c.args.index) (left_ended a (subst (TurnsOrEnds (goes_on a.program.graph (a.after.kept).place) (state_after a)) w.in_default-taken.is told))
    ]
