-- The session of a node for which what is live in a slot stands.
use Rattle.std.specs.Prelude.{◌≡◌, ℕ, zero, suc, ◌<◌, ◌==◌, ◌⊎◌, Bool, true, if◌then◌else◌, List, [], ◌∷◌, length, map, slice_get, find, refl, Option, Some, None, unwrap_or, IsSomeAnd}
use Rattle.std.specs.List.{AllByRecursion}
use Rattle.std.proofs.Common.{sym, ◌∙◌, ap, subst, inl, inr, arith}
use Rattle.indexmap.specs.IndexMap.{set_value_at}
use Rattle.std.proofs.lemmas.Bool.{cases_Bool}
use Rattle.sg_model.proofs.Small.{clash}
use Rattle.sg_model.specs.Shape.{role_at}
use Rattle.sg_protocol.specs.Graph.{Graph, shape}
use Rattle.sg_protocol.specs.Keyring.{Program}
use Rattle.sg_protocol.specs.Session.{Session, at_turn}
use Rattle.sg_protocol.specs.Node.{Node, program_for}
use Rattle.sg_protocol.specs.Texts.{real}
use Rattle.sg_protocol.specs.Representation.{Held, held, RepresentsAtTurn, RepresentsWaiting}
use Rattle.sg_protocol.specs.Reachable.{IsReachableAtTurn, IsReachableWaiting}
use Rattle.sg_protocol.specs.IsSchedule.{IsProgram}
use Rattle.sg_protocol.specs.NodeStates.{RepresentsLive, RepresentsIf, RepresentsNode, replace_held}
use Rattle.sg_role.specs.Accepting.{Acceptance, goes_on, state_after}
use Rattle.sg_role.specs.Model.{RoleState}
use Rattle.sg_node.specs.declared.node.Node.TheInside.{Inside}
use Rattle.sg_node.specs.declared.sessions.Live.{Live}
use Rattle.sg_node.specs.declared.sessions.Live.TheVariants.{AtTurn, Waiting}
use Rattle.sg_node.specs.Slots.{Slot, state_in, held_at, held_in, first_index, left_after}
use Rattle.sg_node.specs.Invariant.{IsLiveAt, IfLive, IsSlot, HoldsNode, node_state}
use Rattle.sg_node.proofs.Indices.{live_at, some_none, Tests, First, held_first, none_held}

-- at its turn or waiting, it represents the session
abbrev pub RepresentsAs : Live → Session → Type 0
RepresentsAs (AtTurn t) s = RepresentsAtTurn t.program.graph t.held s
RepresentsAs (Waiting t) s = RepresentsWaiting t.program.graph t.held s

-- the session is there, and it represents it under the session's program
pub record Its (ps : List Program) (l : Live) (o : Option Session) : Type 0 where
  pub session : Session
  pub is : o ≡ Some session
  pub program : program_for ps (session.cast).graph session.role ≡ Some (state_in l).program
  pub represents : RepresentsAs l session

-- the test of the turn reads what is held
pub turn_held : (g : Graph) (h : Held) (s : Session) → h ≡ held g s → (role_at (shape g) (h.kept).place == h.role) ≡ at_turn g s
turn_held g h s e = ap (λ (z : Held). role_at (shape g) (z.kept).place == z.role) e

module _ (ps : List Program) (h : Held) (s : Session) where
  holds : (p : Program) → RepresentsAtTurn p.graph h s ⊎ RepresentsWaiting p.graph h s → h ≡ held p.graph s
  holds p (inl t) = t.holds
  holds p (inr w) = w.before.holds

  -- it stands under the program for its own graph and role
  pub under : (p : Program) → program_for ps (h.cast).graph h.role ≡ Some p → RepresentsLive ps h s → (program_for ps (s.cast).graph s.role ≡ Some p) × (RepresentsAtTurn p.graph h s ⊎ RepresentsWaiting p.graph h s)
  under p q l = go (program_for ps (s.cast).graph s.role) refl l
    where
      go : (o : Option Program) → program_for ps (s.cast).graph s.role ≡ o → IsSomeAnd o (λ p. RepresentsAtTurn p.graph h s ⊎ RepresentsWaiting p.graph h s) → (program_for ps (s.cast).graph s.role ≡ Some p) × (RepresentsAtTurn p.graph h s ⊎ RepresentsWaiting p.graph h s)
      go None e k = absurd k
      go (Some x) e k =
          let same : Some x ≡ Some p = sym e ∙ ap (λ (z : Held). program_for ps (z.cast).graph z.role) (sym (holds x k)) ∙ q in
          (e ∙ same, subst (λ (z : Program). RepresentsAtTurn z.graph h s ⊎ RepresentsWaiting z.graph h s) (ap (λ o. unwrap_or o x) same) k)

turns : (p : Program) (h : Held) (s : Session) → IsReachableAtTurn real p h → RepresentsAtTurn p.graph h s ⊎ RepresentsWaiting p.graph h s → RepresentsAtTurn p.graph h s
turns p h s b (inl t) = t
turns p h s b (inr w) = clash (role_at (shape p.graph) (h.kept).place == h.role) (turn_held p.graph h b.session b.represents.holds ∙ b.represents.turn) (turn_held p.graph h s w.before.holds ∙ w.waits)

waits : (p : Program) (h : Held) (s : Session) → IsReachableWaiting real p h → RepresentsAtTurn p.graph h s ⊎ RepresentsWaiting p.graph h s → RepresentsWaiting p.graph h s
waits p h s b (inl t) = clash (role_at (shape p.graph) (h.kept).place == h.role) (turn_held p.graph h s t.holds ∙ t.turn) (turn_held p.graph h b.session b.represents.before.holds ∙ b.represents.waits)
waits p h s b (inr w) = w

-- what is live represents the session that is found for it
pub its : (ps : List Program) (id : List ℕ) (r : ℕ) (l : Live) → IsLiveAt ps id r l → (o : Option Session) (s : Session) → o ≡ Some s → RepresentsLive ps (state_in l).held s → Its ps l o
its ps id r (AtTurn t) at o s e k = let u = under ps t.held s t.program at.program k in record { session = s; is = e; program = u.0; represents = turns t.program t.held s at.reachable u.1 }
its ps id r (Waiting t) at o s e k = let u = under ps t.held s t.program at.program k in record { session = s; is = e; program = u.0; represents = waits t.program t.held s at.reachable u.1 }

-- ---- slots

-- what is live in a slot stands there rightly, and so may what is put into it
pub record AtIndex (ps : List Program) (js : List (List ℕ × ℕ)) (ss : List Slot) (i : ℕ) (l : Live) : Type 0 where
  pub key : List ℕ × ℕ
  pub live : IsLiveAt ps key.0 key.1 l
  pub put : (w : Option Live) → IfLive ps key.0 key.1 w → AllByRecursion (IsSlot ps js) (set_value_at ss i w)

pub at_index : (ps : List Program) (js : List (List ℕ × ℕ)) (ss : List Slot) (i : ℕ) (l : Live) → AllByRecursion (IsSlot ps js) ss → live_at ss i ≡ Some l → AtIndex ps js ss i l
at_index ps js [] i l h e = some_none l (sym e)
at_index ps js ((k, None) ∷ ss) zero l h e = some_none l (sym e)
at_index ps js ((k, Some x) ∷ ss) zero l h e = record {
  key = k;
  live = subst (IsLiveAt ps k.0 k.1) (ap (λ o. unwrap_or o x) e) h.0.1;
  put = λ w g. ((h.0.0, g), h.1);
}
at_index ps js (s ∷ ss) (suc i) l h e =
    let a : AtIndex ps js ss i l = at_index ps js ss i l h.1 e in
    record { key = a.key; live = a.live; put = λ w g. (h.0, a.put w g) }

-- what is found passes what all pass
pub found_all : {A : Type 0} (P : A → Type 0) (q : A → Bool) (xs : List A) (x : A) → AllByRecursion P xs → find q xs ≡ Some x → P x
found_all P q [] x h e = some_none x (sym e)
found_all P q (y ∷ ys) x h e = elim (cases_Bool (q y)) [
  | inl f ↦ subst P (ap (λ o. unwrap_or o y) (sym (ap (λ b. if b then Some y else find q ys) f) ∙ e)) h.0
  | inr f ↦ found_all P q ys x h.1 (sym (ap (λ b. if b then Some y else find q ys) f) ∙ e)
]

-- the first slot that passes, and the session that what is live there represents
module _ (n : Inside) (h : HoldsNode n) (which : Held → Bool) (test : Slot → Bool) (tests : AllByRecursion (Tests which test) n.sessions.slots) where
  pub none_here : first_index test n.sessions.slots ≡ None → (ps : List Program) (o : Option Session) → RepresentsIf ps (find which (held_in n.sessions.slots)) o → o ≡ None
  none_here e ps o f = go o (subst (λ x. RepresentsIf ps x o) (none_held which test n.sessions.slots tests e) f)
    where
      go : (o : Option Session) → RepresentsIf ps None o → o ≡ None
      go None s = refl
      go (Some x) s = absurd s

  module _ (i : ℕ) (l : Live) (e : first_index test n.sessions.slots ≡ Some i) (there : live_at n.sessions.slots i ≡ Some l) where
    found : First which test n.sessions.slots i
    found = held_first which test n.sessions.slots i tests e

    same : found.live ≡ l
    same = ap (λ o. unwrap_or o l) (sym found.there ∙ there)

    pub its_passes : which (state_in l).held ≡ true
    its_passes = ap (λ z. which (state_in z).held) (sym same) ∙ found.passes

    pub its_slot : AtIndex n.programs.now n.joins.pairs n.sessions.slots i l
    its_slot = at_index n.programs.now n.joins.pairs n.sessions.slots i l h.slots there

    pub replaced : (w : Option Live) (now : Held → List Held) → now (state_in l).held ≡ held_at w → held_in (set_value_at n.sessions.slots i w) ≡ replace_held which now (held_in n.sessions.slots)
    replaced w now e = found.replaced w now (ap (λ z. now (state_in z).held) same ∙ e)

    pub its_program : IsProgram real (state_in l).program
    its_program = found_all (IsProgram real) _ n.programs.now (state_in l).program h.programs its_slot.live.program

    pub session_here : (m : Node) → RepresentsNode (node_state n) m → (o : Option Session) → RepresentsIf m.programs (find which (held_in n.sessions.slots)) o → Its m.programs l o
    session_here m st o f = go o (subst (λ x. RepresentsIf m.programs x o) (found.found ∙ ap (λ z. Some (state_in z).held) same) f)
      where
        go : (o : Option Session) → RepresentsIf m.programs (Some (state_in l).held) o → Its m.programs l o
        go None s = absurd s
        go (Some x) s = its m.programs (its_slot.key).0 (its_slot.key).1 l (subst (λ ps. IsLiveAt ps (its_slot.key).0 (its_slot.key).1 l) st.programs its_slot.live) (Some x) x refl s

-- ---- writing in a slot

-- what stands in a slot, of the values alone
pub live_of : (ss : List Slot) (i : ℕ) (v : Option Live) → slice_get (map (λ (s : Slot). s.1) ss) i ≡ Some v → v ≡ live_at ss i
live_of [] i v e = absurd (cc)
live_of (s ∷ ss) zero v e = let same : s.1 ≡ v = cc in sym same
live_of (s ∷ ss) (suc i) v e = live_of ss i v e

pub set_twice : (ss : List Slot) (i : ℕ) (v w : Option Live) → set_value_at (set_value_at ss i v) i w ≡ set_value_at ss i w
set_twice [] i v w = refl
set_twice (s ∷ ss) zero v w = refl
set_twice (s ∷ ss) (suc i) v w = ap (λ l. s ∷ l) (set_twice ss i v w)

pub set_same : (ss : List Slot) (i : ℕ) (v : Option Live) → live_at ss i ≡ v → i < length ss → set_value_at ss i v ≡ ss
set_same [] i v e l = refl
set_same (s ∷ ss) zero v e l = ap (λ z. (s.0, z) ∷ ss) (sym e)
set_same (s ∷ ss) (suc i) v e l = ap (λ z. s ∷ z) (set_same ss i v e (omega (arith, l)))

pub at_set : (ss : List Slot) (i : ℕ) (v : Option Live) → i < length ss → live_at (set_value_at ss i v) i ≡ v
at_set [] i v l = absurd (omega (arith, l))
at_set (s ∷ ss) zero v l = refl
at_set (s ∷ ss) (suc i) v l = at_set ss i v (omega (arith, l))

pub length_set : (ss : List Slot) (i : ℕ) (v : Option Live) → length (set_value_at ss i v) ≡ length ss
length_set [] i v = refl
length_set (s ∷ ss) zero v = refl
length_set (s ∷ ss) (suc i) v = let e = length_set ss i v in omega (arith, e)

-- ---- what is left

pub left_turn : (a : Acceptance) (t : RoleState) → (goes_on a.program.graph (a.after.kept).place ≡ true) × (t ≡ state_after a) → Some (AtTurn t) ≡ left_after a
left_turn a t h = ap (λ z. Some (AtTurn z)) h.1 ∙ sym (ap (λ b. if b then Some (AtTurn (state_after a)) else None) h.0)
