-- What the node's table says of its live sessions.
use Rattle.std.specs.Prelude.{◌≡◌, ℕ, zero, suc, false, List, [], ◌∷◌, find, bytes_eq, refl, Option, Some, None}
use Rattle.std.specs.List.{AllByRecursion}
use Rattle.std.specs.Option.{option_map_or}
use Rattle.std.proofs.Common.{sym, ap, subst}
use Rattle.indexmap.specs.IndexMap.{set_value_at}
use Rattle.sg_protocol.specs.Keyring.{Program}
use Rattle.sg_protocol.specs.Session.{Session}
use Rattle.sg_protocol.specs.Calls.{Abandon, Abandoned, NotAbandoned}
use Rattle.sg_protocol.specs.Node.{Node, session_with}
use Rattle.sg_protocol.specs.Acting.{answer}
use Rattle.sg_protocol.specs.Texts.{real}
use Rattle.sg_protocol.specs.Representation.{Held}
use Rattle.sg_protocol.specs.NodeStates.{RepresentsLive, RepresentEach, RepresentsIf, RepresentsNode, has_sid, replace_held}
use Rattle.sg_protocol.proofs.NodeStates.{node_states_represent}
use Rattle.sg_protocol.proofs.RealHash.{real_hash}
use Rattle.sg_node.specs.declared.node.Node.TheInside.{Inside}
use Rattle.sg_node.specs.declared.sessions.Live.TheVariants.{AtTurn, Waiting}
use Rattle.sg_node.specs.Slots.{Slot, state_in, held_in, is_of, first_index}
use Rattle.sg_node.specs.Invariant.{IsSlot, HoldsNode, node_state}
use Rattle.sg_node.proofs.Indices.{Tests, held_first, none_held}

-- a slot passes if what is held there has the sid
test_sid : (ps : List Program) (js : List (List ℕ × ℕ)) (sid : List ℕ) (s : Slot) → IsSlot ps js s → Tests (has_sid sid) (is_of false sid) s
test_sid ps js sid (k, None) h = refl
test_sid ps js sid (k, Some (AtTurn s)) h = ap (λ z. bytes_eq z sid) (sym h.1.sid)
test_sid ps js sid (k, Some (Waiting s)) h = ap (λ z. bytes_eq z sid) (sym h.1.sid)

pub tests_sid : (ps : List Program) (js : List (List ℕ × ℕ)) (sid : List ℕ) (ss : List Slot) → AllByRecursion (IsSlot ps js) ss → AllByRecursion (Tests (has_sid sid) (is_of false sid)) ss
tests_sid ps js sid [] h = tt
tests_sid ps js sid (s ∷ ss) h = (test_sid ps js sid s h.0, tests_sid ps js sid ss h.1)

-- a slot that is emptied
pub emptied : (ps : List Program) (js : List (List ℕ × ℕ)) (ss : List Slot) (i : ℕ) → AllByRecursion (IsSlot ps js) ss → AllByRecursion (IsSlot ps js) (set_value_at ss i None)
emptied ps js [] i h = tt
emptied ps js (s ∷ ss) zero h = ((h.0.0, tt), h.1)
emptied ps js (s ∷ ss) (suc i) h = (h.0, emptied ps js ss i h.1)

-- ---- the session with a sid

pub no_session : (ps : List Program) (hs : List Held) (ss : List Session) (sid : List ℕ) → RepresentEach ps hs ss → find (has_sid sid) hs ≡ None → session_with ss sid ≡ None
no_session ps hs ss sid e f = go (session_with ss sid) (subst (λ o. RepresentsIf ps o (session_with ss sid)) f ((node_states_represent real real_hash).finds_session ps hs ss sid e))
  where
    go : (o : Option Session) → RepresentsIf ps None o → o ≡ None
    go None s = refl
    go (Some x) s = absurd s

pub some_session : (ps : List Program) (hs : List Held) (ss : List Session) (sid : List ℕ) (h : Held) → RepresentEach ps hs ss → find (has_sid sid) hs ≡ Some h → (s : Session) × (session_with ss sid ≡ Some s) × RepresentsLive ps h s
some_session ps hs ss sid h e f = go (session_with ss sid) (subst (λ o. RepresentsIf ps o (session_with ss sid)) f ((node_states_represent real real_hash).finds_session ps hs ss sid e))
  where
    go : (o : Option Session) → RepresentsIf ps (Some h) o → (s : Session) × (o ≡ Some s) × RepresentsLive ps h s
    go None s = absurd s
    go (Some x) s = (x, refl, s)

-- ---- an abandonment

module _ (n : Inside) (h : HoldsNode n) (m : Node) (st : RepresentsNode (node_state n) m) (sid : List ℕ) where
  tests : AllByRecursion (Tests (has_sid sid) (is_of false sid)) n.sessions.slots
  tests = tests_sid n.programs.now n.joins.pairs sid n.sessions.slots h.slots

  pub not_abandoned : first_index (is_of false sid) n.sessions.slots ≡ None → answer real m (Abandon sid) ≡ NotAbandoned
  not_abandoned e = ap (λ (o : Option Session). option_map_or (λ s. Abandoned) o NotAbandoned) (no_session m.programs (held_in n.sessions.slots) m.live sid st.live (none_held (has_sid sid) (is_of false sid) n.sessions.slots tests e))

  pub abandoned : (i : ℕ) → first_index (is_of false sid) n.sessions.slots ≡ Some i → answer real m (Abandon sid) ≡ Abandoned
  abandoned i e =
      let f = held_first (has_sid sid) (is_of false sid) n.sessions.slots i tests e in
      let s = some_session m.programs (held_in n.sessions.slots) m.live sid (state_in f.live).held st.live f.found in
      ap (λ (o : Option Session). option_map_or (λ s. Abandoned) o NotAbandoned) s.1

-- what is live after it
pub left : (n : Inside) → HoldsNode n → (sid : List ℕ) (i : ℕ) → first_index (is_of false sid) n.sessions.slots ≡ Some i →
    held_in (set_value_at n.sessions.slots i None) ≡ replace_held (has_sid sid) (λ h. []) (held_in n.sessions.slots)
left n h sid i e = (held_first (has_sid sid) (is_of false sid) n.sessions.slots i (tests_sid n.programs.now n.joins.pairs sid n.sessions.slots h.slots) e).replaced None (λ h. []) refl
