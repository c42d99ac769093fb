-- A state that goes on by a call represents the past with the call.
use Rattle.std.specs.Prelude.{◌≡◌, ◌⊎◌, ℕ, List, [], ◌∷◌, Option, Some, None, IsSomeAnd}
use Rattle.std.specs.List.{AllByRecursion}
use Rattle.std.proofs.Common.{sym, subst, inl, inr}
use Rattle.std.proofs.lemmas.List.Elements.{All-from_recursion}
use Rattle.sg_model.proofs.Small.{all-append}
use Rattle.sg_protocol.specs.Calls.{Call}
use Rattle.sg_protocol.specs.Keyring.{Program}
use Rattle.sg_protocol.specs.Node.{Node}
use Rattle.sg_protocol.specs.Past.{Past, new_node, node_of, past_after}
use Rattle.sg_protocol.specs.IsSchedule.{IsProgram}
use Rattle.sg_protocol.specs.Ranges.{IsCallInRange}
use Rattle.sg_protocol.specs.Acting.{answer}
use Rattle.sg_protocol.specs.Texts.{real}
use Rattle.sg_protocol.specs.Reachable.{IsReachableAtTurn, IsReachableWaiting}
use Rattle.sg_protocol.specs.NodeStates.{NodeState, IsReachableLive, RepresentsNode, RepresentsPast, state_after}
use Rattle.sg_protocol.proofs.Progressing.{node_more}
use Rattle.sg_protocol.proofs.NodeStates.{node_states_represent}
use Rattle.sg_protocol.proofs.RealHash.{real_hash}
use Rattle.sg_node.specs.Answers.{GoesOn}
use Rattle.sg_node.specs.Invariant.{HoldsNode, IfLive, IsSlot}
use Rattle.sg_node.specs.Slots.{Slot, held_at, held_in}
use Rattle.sg_node.specs.declared.node.Node.TheInside.{Inside}
use Rattle.sg_node.specs.declared.sessions.Live.{Live}
use Rattle.sg_node.specs.declared.sessions.Live.TheVariants.{AtTurn, Waiting}

-- some sound session stands behind each thing that a node holds
module _ (n : Inside) where
  one_reachable : (sid : List ℕ) (r : ℕ) (l : Option Live) → IfLive n.programs.now sid r l → AllByRecursion (IsReachableLive real n.programs.now) (held_at l)
  one_reachable sid r None k = tt
  one_reachable sid r (Some (AtTurn s)) k = (subst (λ (o : Option Program). IsSomeAnd o (λ p. IsReachableAtTurn real p s.held ⊎ IsReachableWaiting real p s.held)) (sym k.program) (inl k.reachable), tt)
  one_reachable sid r (Some (Waiting s)) k = (subst (λ (o : Option Program). IsSomeAnd o (λ p. IsReachableAtTurn real p s.held ⊎ IsReachableWaiting real p s.held)) (sym k.program) (inr k.reachable), tt)

  each_reachable : (ss : List Slot) → AllByRecursion (IsSlot n.programs.now n.joins.pairs) ss → AllByRecursion (IsReachableLive real n.programs.now) (held_in ss)
  each_reachable [] a = tt
  each_reachable (s ∷ ss) a = all-append (IsReachableLive real n.programs.now) (held_at s.1) (held_in ss) (one_reachable (s.0).0 (s.0).1 s.1 a.0.1) (each_reachable ss a.1)

  pub all_reachable : HoldsNode n → AllByRecursion (IsReachableLive real n.programs.now) (held_in n.sessions.slots)
  all_reachable h = each_reachable n.sessions.slots h.slots

-- so it does, if its programs are programs, sound sessions stand behind what it holds, and the call is in range
pub goes_on : (old new : NodeState) (call : Call) (past : Past) → AllByRecursion (IsProgram real) old.programs → AllByRecursion (IsReachableLive real old.programs) old.live → IsCallInRange call → RepresentsPast old past
    → new ≡ state_after old call (answer real (node_of past) call) → GoesOn old new call past
goes_on old new call past programs reachable good st e = record {
  state = e;
  represents =
      let n : Node = node_of past in
      let ip : AllByRecursion (IsProgram real) n.programs = subst (AllByRecursion (IsProgram real)) st.programs programs in
      let its : AllByRecursion (IsReachableLive real n.programs) old.live = subst (λ ps. AllByRecursion (IsReachableLive real ps) old.live) st.programs reachable in
      subst (λ z. RepresentsPast z (past_after real past call)) (sym e)
      (subst (RepresentsNode (state_after old call (answer real n call))) (sym (node_more (new_node past.keys past.programs past.first) past.calls (record { call = call; answer = answer real n call })))
      ((node_states_represent real real_hash).after_reachable old n call (All-from_recursion (IsProgram real) n.programs ip) (All-from_recursion (IsReachableLive real n.programs) old.live its) good st));
}
