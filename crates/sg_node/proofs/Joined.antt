-- A pair that joins: it was not there, and its session goes last.
use Rattle.std.specs.Prelude.{◌≡◌, ◌≢◌, ℕ, zero, suc, ◌<◌, ◌≤◌, ◌==◌, nat_le, Bool, true, false, if◌then◌else◌, List, [], ◌∷◌, ◌++◌, map, length, refl, Option, Some, None, option_map, get_or, Contains}
use Rattle.std.specs.List.{AllByRecursion}
use Rattle.std.proofs.Common.{sym, ◌∙◌, ap, subst, inl, inr, arith, append_assoc}
use Rattle.std.proofs.lemmas.Bool.{cases_Bool, eq-eqb, eqb-true}
use Rattle.std.proofs.lemmas.Bool.Decides.{nat_tests}
use Rattle.std.proofs.lemmas.List.Elements.{Contains-append_left, Contains-push}
use Rattle.sg_model.proofs.Small.{clash, all-append, all_weaker}
use Rattle.sg_model.specs.Lists.{first_some}
use Rattle.sg_model.specs.Shape.{Arrow, Walk, end_of, role_at, source}
use Rattle.sg_protocol.specs.Accepted.{Accepted}
use Rattle.sg_protocol.specs.Calls as Protocol
use Rattle.sg_protocol.specs.Graph.{Graph, Edge, shape}
use Rattle.sg_protocol.specs.Keyring.{Program}
use Rattle.sg_protocol.specs.Node.{has_joined}
use Rattle.sg_protocol.specs.NodeStates.{RepresentEach}
use Rattle.sg_protocol.specs.Session.{Session}
use Rattle.sg_protocol.specs.Representation.{Held}
use Rattle.sg_protocol.specs.Verdict.{row}
use Rattle.sg_cache.proofs.SameJoin.{any_of_parts}
use Rattle.sg_role.proofs.Edges.{goes_on_by}
use Rattle.sg_role.specs.Accepting.{goes_on}
use Rattle.sg_node.specs.declared.join.Obstacle.TheVariants as Why
use Rattle.sg_node.specs.declared.sessions.Live.{Live}
use Rattle.sg_receipt.specs.Refusals.{start_refusal}
use Rattle.sg_node.specs.Joining.{obstacle_to, start_refusal_for}
use Rattle.sg_node.specs.Slots.{Slot, held_at, held_in, slot_of}
use Rattle.sg_node.specs.Invariant.{IfLive, IsSlot}

-- as many as the sessions that they represent
pub as_many : (ps : List Program) (hs : List Held) (ss : List Session) → RepresentEach ps hs ss → length hs ≡ length ss
as_many ps [] [] e = refl
as_many ps [] (s ∷ ss) e = absurd e
as_many ps (h ∷ hs) [] e = absurd e
as_many ps (h ∷ hs) (s ∷ ss) e = ap suc (as_many ps hs ss e.1)

-- ---- a slot more

pub held_more : (ss : List Slot) (k : List ℕ × ℕ) (o : Option Live) → held_in (ss ++ slot_of k o) ≡ held_in ss ++ held_at o
held_more [] k None = refl
held_more [] k (Some l) = refl
held_more (s ∷ ss) k o = ap (λ z. held_at s.1 ++ z) (held_more ss k o) ∙ sym (append_assoc (held_at s.1) (held_in ss) (held_at o))

module _ (ps : List Program) (js : List (List ℕ × ℕ)) (k : List ℕ × ℕ) where
  last_slot : (o : Option Live) → IfLive ps k.0 k.1 o → AllByRecursion (IsSlot ps (js ++ k ∷ [])) (slot_of k o)
  last_slot None l = tt
  last_slot (Some x) l = ((Contains-push js k, l), tt)

  -- it stands there as the others do
  pub slots_more : (ss : List Slot) (o : Option Live) → AllByRecursion (IsSlot ps js) ss → IfLive ps k.0 k.1 o → AllByRecursion (IsSlot ps (js ++ k ∷ [])) (ss ++ slot_of k o)
  slots_more ss o h l = all-append (IsSlot ps (js ++ k ∷ [])) ss (slot_of k o)
      (all_weaker (IsSlot ps js) (IsSlot ps (js ++ k ∷ [])) (λ s g. (Contains-append_left js (k ∷ []) s.0 g.0, g.1)) ss h) (last_slot o l)

  -- a pair that was not joined has no slot
  in_joins : (ss : List Slot) → AllByRecursion (IsSlot ps js) ss → (j : List ℕ × ℕ) (i : ℕ) → i < length (map (λ (s : Slot). s.0) ss) → get_or (map (λ (s : Slot). s.0) ss) i j ≡ j → Contains js j
  in_joins [] h j i l e = absurd (omega (arith, l))
  in_joins (s ∷ ss) h j zero l e = subst (Contains js) e h.0.0
  in_joins (s ∷ ss) h j (suc i) l e = in_joins ss h.1 j i (omega (arith, l)) e

  pub no_slot : (ss : List Slot) → AllByRecursion (IsSlot ps js) ss → ¬ Contains js k → ¬ Contains (map (λ (s : Slot). s.0) ss) k
  no_slot ss h absent c = absent (in_joins ss h k c.0 c.1 c.2)

-- ---- whether a pair can be joined

pub not_joined : (js : List (List ℕ × ℕ)) (sid : List ℕ) (r : ℕ) → has_joined js sid r ≡ false → ¬ Contains js (sid, r)
not_joined js sid r e c = clash (has_joined js sid r) ((any_of_parts js sid r).1 c) e

pub nothing_else : (a b c : Bool) → (if a then Some Why.Joined else (if b then Some Why.Cache else (if c then Some Why.Sessions else None))) ≡ None → (a ≡ false) × (b ≡ false) × (c ≡ false)
nothing_else true b c e = absurd (cc)
nothing_else false true c e = absurd (cc)
nothing_else false false true e = absurd (cc)
nothing_else false false false e = (refl, refl, refl)

module _ (js : List (List ℕ × ℕ)) (live : ℕ) (sid : List ℕ) (r : ℕ) where
  pub is_joined : Contains js (sid, r) → obstacle_to js live sid r ≡ Some Why.Joined
  is_joined c = rw ((any_of_parts js sid r).1 c) refl

  module _ (absent : ¬ Contains js (sid, r)) where
    new : has_joined js sid r ≡ false
    new = elim (cases_Bool (has_joined js sid r)) [ inl e ↦ absurd (absent ((any_of_parts js sid r).0 e)) | inr e ↦ e ]

    pub is_full : 65536 ≤ length js → obstacle_to js live sid r ≡ Some Why.Cache
    is_full l = let e : nat_le 65536 (length js) ≡ true = grind (arith, nat_tests, l) in rw (new, e) refl

    pub is_crowded : length js < 65536 → 4096 ≤ live → obstacle_to js live sid r ≡ Some Why.Sessions
    is_crowded l k = let e : nat_le 65536 (length js) ≡ false = grind (arith, nat_tests, l) in let f : nat_le 4096 live ≡ true = grind (arith, nat_tests, k) in rw (new, e, f) refl

    pub is_free : length js < 65536 → live < 4096 → obstacle_to js live sid r ≡ None
    is_free l k = let e : nat_le 65536 (length js) ≡ false = grind (arith, nat_tests, l) in let f : nat_le 4096 live ≡ false = grind (arith, nat_tests, k) in rw (new, e, f) refl

-- what it says if there is none
pub free_by : (js : List (List ℕ × ℕ)) (live : ℕ) (sid : List ℕ) (r : ℕ) → obstacle_to js live sid r ≡ None → (¬ Contains js (sid, r)) × (length js < 65536)
free_by js live sid r e =
    let z = nothing_else (has_joined js sid r) (nat_le 65536 (length js)) (nat_le 4096 live) e in
    (not_joined js sid r z.0, let b = z.1 in grind (arith, nat_tests, b))

-- what stands in the way of a start, and of a frame that joins
pub rows_of_obstacles : (a b c : Bool) → first_some (row a Protocol.StartFault.Joined ∷ row b Protocol.StartFault.CacheFull ∷ row c Protocol.StartFault.SessionsFull ∷ []) ≡ option_map (λ o. start_refusal (start_refusal_for o)) (if a then Some Why.Joined else (if b then Some Why.Cache else (if c then Some Why.Sessions else None)))
rows_of_obstacles true b c = refl
rows_of_obstacles false true c = refl
rows_of_obstacles false false true = refl
rows_of_obstacles false false false = refl

-- if none of the first three holds
pub past_three : {A : Type 0} (x y z : Bool) (a b c : A) (rest : List (Option A)) → x ≡ false → y ≡ false → z ≡ false → first_some ((if x then Some a else None) ∷ (if y then Some b else None) ∷ (if z then Some c else None) ∷ rest) ≡ first_some rest
past_three x y z a b c rest e f g = rw (e, f, g) refl

-- ---- the first edge

abbrev arrow : Edge → Arrow
arrow e = record { source = e.source; target = e.target; writes = e.writes; reads = e.reads }

as_many_arrows : (es : List Edge) → length (map arrow es) ≡ length es
as_many_arrows [] = refl
as_many_arrows (e ∷ es) = ap suc (as_many_arrows es)

first_edge : (g : Graph) (n : ℕ) (walk : List ℕ) → Walk (shape g) 0 walk → end_of (shape g) 0 walk ≡ n → n ≢ 0 → goes_on g 0 ≡ true
first_edge g n [] w e d = absurd (d (sym e))
first_edge g n (x ∷ xs) w e d = goes_on_by g 0 x (subst (λ k. x < k) (as_many_arrows g.edges) w.0) (eq-eqb (source (shape g) x) 0 w.1)

other_role : (g : Graph) → Accepted g → (r : ℕ) × (r < length g.roles) × (role_at (shape g) 0 ≢ r)
other_role g a = elim (cases_Bool (role_at (shape g) 0 == 0)) [
  | inl e ↦ (1, (let t = a.two_roles in omega (arith, t)), λ q. let z = eqb-true (role_at (shape g) 0) 0 e in absurd (omega (arith, q, z)))
  | inr e ↦ (0, (let t = a.two_roles in omega (arith, t)), λ q. clash (role_at (shape g) 0 == 0) (eq-eqb (role_at (shape g) 0) 0 q) e)
]

-- an edge leaves the start of a graph that is accepted
pub start_goes_on : (g : Graph) → Accepted g → goes_on g 0 ≡ true
start_goes_on g a =
    let r = other_role g a in
    let n = a.each_role_has_node r.0 r.1 in
    let w = a.all_reached n.0 n.1 in
    first_edge g n.0 w.0 w.1 w.2 (λ e. r.2 (ap (λ k. role_at (shape g) k) (sym e) ∙ n.2))
