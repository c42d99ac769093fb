-- Steps of which nothing is known but their labels, filled in.
use Rattle.std.proofs.Common.{◌≡◌, ℕ, ◌<◌, Bool, true, false, ◌||◌, if◌then◌else◌, List, [], ◌∷◌, ◌++◌, map, reverse, drop, get_or, ◌+◌, ◌-◌, length, refl, ap, sym, ◌∙◌, subst, arith}
use Rattle.std.specs.Prelude.{Option, Some, None}
use Rattle.std.specs.List.{AllByRecursion}
use Rattle.std.specs.Option.{option_or}
use Rattle.std.proofs.lemmas.List.{reverse-append}
use Rattle.sg_base.specs.declared.value.Value.{Value as Held}
use Rattle.sg_model.specs.Last.{Map}
use Rattle.sg_model.specs.Lists.{is_in, value_at, keys_of}
use Rattle.sg_model.specs.Values.{Value}
use Rattle.sg_model.proofs.Small.{or_false}
use Rattle.sg_protocol.specs.Calls.{Event, Started, Sent, Received}
use Rattle.sg_protocol.specs.Graph.{Graph, IsGraph, writes}
use Rattle.sg_protocol.specs.Explaining.{hidden_steps, is_written}
use Rattle.sg_protocol.specs.Walk.{StoredStep, shown}
use Rattle.sg_protocol.proofs.Moves.{writes_below}
use Rattle.sg_walk.specs.Model.{event_of, values_of}
use Rattle.sg_certify.specs.Events.{pair_of}
use Rattle.sg_certify.specs.Filling.{filled_by, found_step, added, given, unless_written, added_by, given_by}
use Rattle.sg_certify.specs.declared.shown.ShownEvent.{ShownEvent}
use Rattle.sg_certify.proofs.Backwards.{one_back, push_back}
use Rattle.sg_certify.proofs.Filled.{fill_one}
use Rattle.sg_certify.proofs.Keeping.{with_found}

-- both say the same of each variable below 32
abbrev pub Agree : (ℕ → Option Value) → (ℕ → Option Value) → Type 0
Agree f k = (x : ℕ) → x < 32 → f x ≡ k x

-- what each edge writes is below 32
abbrev pub Small : List ℕ → Type 0
Small xs = AllByRecursion (λ x. x < 32) xs

pub small_writes : (g : Graph) → IsGraph g → (e : ℕ) → Small (writes g e)
small_writes g is e = wider (writes g e) (writes_below g is e)
  where
    wider : (xs : List ℕ) → AllByRecursion (λ x. x < length g.variables) xs → Small xs
    wider [] h = tt
    wider (x ∷ xs) h = (let most = is.sizes.1 in let here = h.0 in omega arith, wider xs h.1)

-- a variable whose value is hidden
abbrev hidden : ℕ → ℕ × Option Value
hidden x = (x, None)

-- a step along a label, with what is found
filled_step : (steps : List StoredStep) (f k : ℕ → Option Value) → Agree k (unless_written steps f) → (xs : List ℕ) → Small xs
    → map (with_found k) xs ≡ map (fill_one (λ x. is_written x steps) f) (map hidden xs)
filled_step steps f k h [] s = refl
filled_step steps f k h (x ∷ xs) s = λ i. (x, h x s.0 i) ∷ filled_step steps f k h xs s.1 i

-- one step more in front
pub hidden_prefix : (g : Graph) (f k : ℕ → Option Value) (e : ℕ) (es : List ℕ) → Small (writes g e) → Agree k (unless_written (hidden_steps g es) f)
    → found_step g k e ∷ filled_by f (hidden_steps g es) ≡ filled_by f (hidden_steps g (e ∷ es))
hidden_prefix g f k e es s h = λ i. record { label = e; writes = filled_step (hidden_steps g es) f k h (writes g e) s i } ∷ filled_by f (hidden_steps g es)

keys-hidden : (xs : List ℕ) → keys_of (map hidden xs) ≡ xs
keys-hidden [] = refl
keys-hidden (x ∷ xs) = ap (λ ys. x ∷ ys) (keys-hidden xs)

either_written : (a b : Bool) (n k f : Option Value) → n ≡ (if a then None else k) → k ≡ (if b then None else f) → n ≡ (if (a || b) then None else f)
either_written true b n k f e h = e
either_written false b n k f e h = e ∙ h

-- and what is kept then
pub kept_prefix : (g : Graph) (f k n : ℕ → Option Value) (e : ℕ) (es : List ℕ) → ((x : ℕ) → x < 32 → n x ≡ (if is_in x (writes g e) then None else k x)) → Agree k (unless_written (hidden_steps g es) f)
    → Agree n (unless_written (hidden_steps g (e ∷ es)) f)
kept_prefix g f k n e es h a x b =
    either_written (is_in x (writes g e)) (is_written x (hidden_steps g es)) (n x) (k x) (f x) (h x b) (a x b)
    ∙ ap (λ ks. if (is_in x ks || is_written x (hidden_steps g es)) then None else f x) (sym (keys-hidden (writes g e)))

-- ---- what agrees below 32 fills in the same

same_step : (steps : List StoredStep) (f k : ℕ → Option Value) → Agree f k → (xs : List ℕ) → Small xs
    → map (fill_one (λ x. is_written x steps) f) (map hidden xs) ≡ map (fill_one (λ x. is_written x steps) k) (map hidden xs)
same_step steps f k h [] s = refl
same_step steps f k h (x ∷ xs) s = λ i. (x, if is_written x steps then None else h x s.0 i) ∷ same_step steps f k h xs s.1 i

same_hidden : (g : Graph) → IsGraph g → (f k : ℕ → Option Value) → Agree f k → (es : List ℕ) → filled_by f (hidden_steps g es) ≡ filled_by k (hidden_steps g es)
same_hidden g is f k h [] = refl
same_hidden g is f k h (e ∷ es) = λ i. record { label = e; writes = same_step (hidden_steps g es) f k h (writes g e) (small_writes g is e) i } ∷ same_hidden g is f k h es i

-- what is shown stays
same_shown : (f k : ℕ → Option Value) (values : Map Value)
    → map (fill_one (λ x. false) f) (shown values) ≡ map (fill_one (λ x. false) k) (shown values)
same_shown f k [] = refl
same_shown f k (v ∷ vs) = ap (λ ws. (v.0, Some v.1) ∷ ws) (same_shown f k vs)

-- what is shown is not filled in
pub still_shown : (f : ℕ → Option Value) (label : ℕ) (values : Map Value) → filled_by f (record { label = label; writes = shown values } ∷ []) ≡ record { label = label; writes = shown values } ∷ []
still_shown f label values = λ i. record { label = label; writes = all values i } ∷ []
  where
    all : (vs : Map Value) → map (fill_one (λ x. false) f) (shown vs) ≡ shown vs
    all [] = refl
    all (v ∷ vs) = ap (λ ws. (v.0, Some v.1) ∷ ws) (all vs)

-- the steps of an event are filled in the same by what later events give, if that agrees below 32
pub same_added : (g : Graph) → IsGraph g → (honest : ℕ → Bool) (f k : ℕ → Option Value) → Agree f k → (e : Event) (walk : List ℕ)
    → filled_by (given e f) (added g honest e walk) ≡ filled_by (given e k) (added g honest e walk)
same_added g is honest f k h (Started sid r) walk = refl
same_added g is honest f k h (Sent sid r label time values) walk = λ i. record { label = label; writes = same_shown f k values i } ∷ []
same_added g is honest f k h (Received sid r label time values joins) walk = same_hidden g is _ _ (λ x b. ap (option_or (value_at values x)) (h x b)) _

-- and what is kept then agrees too
pub same_given : (g : Graph) (honest : ℕ → Bool) (f k : ℕ → Option Value) → Agree f k → (e : Event) (walk : List ℕ) → Agree (unless_written (added g honest e walk) (given e f)) (unless_written (added g honest e walk) (given e k))
same_given g honest f k h (Started sid r) walk x b = h x b
same_given g honest f k h (Sent sid r label time values) walk x b = ap (λ o. if is_written x (added g honest (Sent sid r label time values) walk) then None else o) (h x b)
same_given g honest f k h (Received sid r label time values joins) walk x b =
    ap (λ o. if is_written x (added g honest (Received sid r label time values joins) walk) then None else option_or (value_at values x) o) (h x b)

-- ---- the loops

-- one step more, from the end
pub step_back : (g : Graph) (f k n : ℕ → Option Value) (prefix old new : List StoredStep) (labels : List ℕ) (back e : ℕ) → IsGraph g → back < length labels → e ≡ get_or labels (length labels - 1 - back) e
    → old ≡ prefix ++ reverse (filled_by f (hidden_steps g (drop (length labels - back) labels))) → Agree k (unless_written (hidden_steps g (drop (length labels - back) labels)) f)
    → new ≡ old ++ found_step g k e ∷ [] → ((x : ℕ) → x < 32 → n x ≡ (if is_in x (writes g e) then None else k x))
    → (new ≡ prefix ++ reverse (filled_by f (hidden_steps g (drop (length labels - (back + 1)) labels)))) × Agree n (unless_written (hidden_steps g (drop (length labels - (back + 1)) labels)) f)
step_back g f k n prefix old new labels back e is l at before agree more kept =
    let rest : List ℕ = drop (length labels - back) labels in
    let cut : drop (length labels - (back + 1)) labels ≡ e ∷ rest = one_back labels back e l at in (
      push_back prefix (filled_by f (hidden_steps g rest)) old new (found_step g k e) before more
          ∙ ap (λ ss. prefix ++ reverse ss) (hidden_prefix g f k e rest (small_writes g is e) agree)
          ∙ ap (λ es. prefix ++ reverse (filled_by f (hidden_steps g es))) (sym cut),
      subst (λ es. Agree n (unless_written (hidden_steps g es) f)) (sym cut) (kept_prefix g f k n e rest kept agree),
    )

-- one event more, from the end
pub event_back : (g : Graph) (honest : ℕ → Bool) (k n : ℕ → Option Value) (old new : List StoredStep) (events : List ShownEvent) (back : ℕ) (s : ShownEvent) → IsGraph g → back < length events → s ≡ get_or events (length events - 1 - back) s
    → old ≡ reverse (added_by g honest (map pair_of (drop (length events - back) events))) → Agree k (given_by g honest (map pair_of (drop (length events - back) events)))
    → new ≡ old ++ reverse (filled_by (given (event_of s.event.now) k) (added g honest (event_of s.event.now) s.walk.now)) → Agree n (unless_written (added g honest (event_of s.event.now) s.walk.now) (given (event_of s.event.now) k))
    → (new ≡ reverse (added_by g honest (map pair_of (drop (length events - (back + 1)) events)))) × Agree n (given_by g honest (map pair_of (drop (length events - (back + 1)) events)))
event_back g honest k n old new events back s is l at before agree more kept =
    let rest : List ShownEvent = drop (length events - back) events in
    let later : ℕ → Option Value = given_by g honest (map pair_of rest) in
    let cut : drop (length events - (back + 1)) events ≡ s ∷ rest = one_back events back s l at in
    let same = same_added g is honest k later agree (event_of s.event.now) s.walk.now in (
      more
          ∙ (λ i. before i ++ reverse (same i))
          ∙ sym (reverse-append (filled_by (given (event_of s.event.now) later) (added g honest (event_of s.event.now) s.walk.now)) (added_by g honest (map pair_of rest)))
          ∙ ap (λ es. reverse (added_by g honest (map pair_of es))) (sym cut),
      subst (λ es. Agree n (given_by g honest (map pair_of es))) (sym cut) (λ x b. kept x b ∙ same_given g honest k later agree (event_of s.event.now) s.walk.now x b),
    )

-- ---- an event's own steps

keys-shown : (values : List (ℕ × Held)) → keys_of (shown (values_of values)) ≡ map (λ w. w.0) values
keys-shown [] = refl
keys-shown (v ∷ vs) = ap (λ ks. v.0 ∷ ks) (keys-shown vs)

-- what is kept behind a step that was sent
pub kept_sent : (g : Graph) (honest : ℕ → Bool) (f k : ℕ → Option Value) (sid : List ℕ) (r label time : ℕ) (values : List (ℕ × Held)) (walk : List ℕ) → ((x : ℕ) → x < 32 → k x ≡ (if is_in x (map (λ w. w.0) values) then None else f x))
    → Agree k (unless_written (added g honest (Sent sid r label time (values_of values)) walk) f)
kept_sent g honest f k sid r label time values walk h x b =
    h x b ∙ ap (λ ks. if is_in x ks then None else f x) (sym (keys-shown values)) ∙ ap (λ t. if t then None else f x) (sym (or_false (is_in x (keys_of (shown (values_of values))))))

-- the steps that were received, with what was kept after it was learnt
pub filled_received : (g : Graph) → IsGraph g → (f k : ℕ → Option Value) (values : Map Value) (es ls : List ℕ) → ((x : ℕ) → x < 32 → k x ≡ option_or (value_at values x) (f x)) → ls ≡ es
    → filled_by k (hidden_steps g ls) ≡ filled_by (λ x. option_or (value_at values x) (f x)) (hidden_steps g es)
filled_received g is f k values es ls h e = ap (λ l. filled_by k (hidden_steps g l)) e ∙ same_hidden g is k (λ x. option_or (value_at values x) (f x)) h es
