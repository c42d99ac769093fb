-- One path, from its parts.
use Rattle.std.proofs.Common.{◌≡◌, ℕ, Bool, true, false, ◌&&◌, ◌||◌, ◌⊎◌, List, refl, ap, sym, ◌∙◌, subst, inl, inr, ◌↔◌}
use Rattle.std.specs.Prelude.{Option, Some, None, IsTrue, IfSome, flat_map, []}
use Rattle.std.specs.Option.{option_map_or}
use Rattle.std.proofs.lemmas.Bool.{cases_Bool}
use Rattle.sg_model.specs.Last.{last}
use Rattle.sg_model.specs.Shape.{sender, receiver}
use Rattle.sg_protocol.specs.Calls.{Event}
use Rattle.sg_protocol.specs.Graph.{Graph, shape}
use Rattle.sg_protocol.specs.Walk.{StoredStep, IsStoredWalk, OnePath, acts_of_event, are_hidden, honest_acts}

-- the events are the honest part, and what is hidden is right
abbrev pub IsPart : Graph → (ℕ → Bool) → Bool → List Event → List StoredStep → Type 0
IsPart g honest taken events steps = (flat_map acts_of_event events ≡ honest_acts g honest taken [] steps) × IsTrue (are_hidden g honest taken steps)

-- whether the last step's sender is honest, and whether its receiver is
abbrev pub Ends : Graph → (ℕ → Bool) → List StoredStep → Bool → Bool → Type 0
Ends g honest steps sent received =
    (sent ≡ option_map_or (λ s. honest (sender (shape g) s.label)) (last steps) true) × (received ≡ option_map_or (λ s. honest (receiver (shape g) s.label)) (last steps) true)

either : (f h : StoredStep → Bool) (o : Option StoredStep) (a b : Bool) → a ≡ option_map_or f o true → b ≡ option_map_or h o true → IsTrue (a || b) ↔ IfSome o (λ s. IsTrue (f s || h s))
either f h None a b e d = (λ t. tt, λ t. rw e refl)
either f h (Some s) a b e d = (λ t. subst (λ c. IsTrue (c || h s)) e (subst (λ c. IsTrue (a || c)) d t), λ t. subst (λ c. IsTrue (c || b)) (sym e) (subst (λ c. IsTrue (f s || c)) (sym d) t))

each : (f h : StoredStep → Bool) (o : Option StoredStep) (a b : Bool) → a ≡ option_map_or f o true → b ≡ option_map_or h o true → IsTrue (a && b) ↔ IfSome o (λ s. IsTrue (f s && h s))
each f h None a b e d = (λ t. tt, λ t. rw (e, d) refl)
each f h (Some s) a b e d = (λ t. subst (λ c. IsTrue (c && h s)) e (subst (λ c. IsTrue (a && c)) d t), λ t. subst (λ c. IsTrue (c && b)) (sym e) (subst (λ c. IsTrue (f s && c)) (sym d) t))

-- a walk that doesn't, with two honest ends
pub path_last : (g : Graph) (honest : ℕ → Bool) (events : List Event) (steps : List StoredStep) (sent received b : Bool) → IsStoredWalk g steps → Ends g honest steps sent received → (IsPart g honest true events steps → ⊥)
    → sent ≡ true → received ≡ true → (IsTrue b ↔ IsPart g honest false events steps) → IsTrue b ↔ OnePath g honest events steps
path_last g honest events steps sent received b w ends n s r p =
    let held = either (λ s. honest (sender (shape g) s.label)) (λ s. honest (receiver (shape g) s.label)) (last steps) sent received ends.0 ends.1 in
    let both = each (λ s. honest (sender (shape g) s.label)) (λ s. honest (receiver (shape g) s.label)) (last steps) sent received ends.0 ends.1 in (
      λ t. record { taken = false; walk = w; ends_honest = held.0 (rw s refl); explained = (p.0 t).0; may_come = λ z. both.0 (rw (s, r) refl); hidden = (p.0 t).1 },
      λ o. p.1 (not_taken o (cases_Bool o.taken)),
    )
  where
    not_taken : (o : OnePath g honest events steps) → (o.taken ≡ true) ⊎ (o.taken ≡ false) → IsPart g honest false events steps
    not_taken o (inl t) = absurd (n (subst (λ t. flat_map acts_of_event events ≡ honest_acts g honest t [] steps) t o.explained, subst (λ t. IsTrue (are_hidden g honest t steps)) t o.hidden))
    not_taken o (inr f) = (subst (λ t. flat_map acts_of_event events ≡ honest_acts g honest t [] steps) f o.explained, subst (λ t. IsTrue (are_hidden g honest t steps)) f o.hidden)

-- a walk that doesn't, with an end that isn't honest
pub path_none : (g : Graph) (honest : ℕ → Bool) (events : List Event) (steps : List StoredStep) (sent received : Bool) → Ends g honest steps sent received → (IsPart g honest true events steps → ⊥)
    → (sent && received) ≡ false → OnePath g honest events steps → ⊥
path_none g honest events steps sent received ends n s o =
    let both = each (λ s. honest (sender (shape g) s.label)) (λ s. honest (receiver (shape g) s.label)) (last steps) sent received ends.0 ends.1 in
    case (cases_Bool o.taken) both
  where
    case : (o.taken ≡ true) ⊎ (o.taken ≡ false) → (IsTrue (sent && received) ↔ IfSome (last steps) (λ s. IsTrue (honest (sender (shape g) s.label) && honest (receiver (shape g) s.label)))) → ⊥
    case (inl t) both = n (subst (λ t. flat_map acts_of_event events ≡ honest_acts g honest t [] steps) t o.explained, subst (λ t. IsTrue (are_hidden g honest t steps)) t o.hidden)
    case (inr f) both = let z : true ≡ false = sym (both.1 (o.may_come f)) ∙ s in absurd (cc)

-- neither is both if one is missing
pub and_left : (a b : Bool) → a ≡ false → (a && b) ≡ false
and_left a b e = ap (λ c. c && b) e

pub and_right : (a b : Bool) → b ≡ false → (a && b) ≡ false
and_right true b e = e
and_right false b e = refl
