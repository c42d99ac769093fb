-- Steps that are filled in, given from their end.
use Rattle.std.proofs.Common.{◌≡◌, ℕ, Bool, true, false, ◌||◌, if◌then◌else◌, List, [], ◌∷◌, ◌++◌, map, refl, ap, sym, ◌∙◌, append-nil, append_assoc}
use Rattle.std.specs.Prelude.{Option, Some, None}
use Rattle.std.specs.Option.{option_or}
use Rattle.std.proofs.lemmas.List.Folds.{list_any-append}
use Rattle.sg_law.specs.Explaining.{after_honest}
use Rattle.sg_model.specs.Last.{Map, after_last}
use Rattle.sg_model.specs.Lists.{is_in, value_at, keys_of}
use Rattle.sg_model.specs.Shape.{sender}
use Rattle.sg_model.specs.Values.{Value}
use Rattle.sg_protocol.specs.Calls.{Event, Started, Sent, Received}
use Rattle.sg_protocol.specs.Graph.{Graph, shape}
use Rattle.sg_protocol.specs.Explaining.{hidden_steps, is_written, filled}
use Rattle.sg_protocol.specs.Walk.{StoredStep, shown}
use Rattle.sg_certify.specs.Events.{explaining_walk}
use Rattle.sg_certify.specs.Filling.{filled_by, unless_written, given_by, added_by}

-- a written value, filled in if it isn't written later
abbrev pub fill_one : (ℕ → Bool) → (ℕ → Option Value) → ℕ × Option Value → ℕ × Option Value
fill_one later f w = (w.0, if later w.0 then w.1 else option_or w.1 (f w.0))

-- functions that agree give the same list
map_same : {A B : Type 0} (f g : A → B) → ((a : A) → f a ≡ g a) → (xs : List A) → map f xs ≡ map g xs
map_same f g h xs = λ i. map (λ a. h a i) xs

-- ---- what is written

pub keys-map : {A B : Type 0} (f : ℕ × A → B) (ws : Map A) → keys_of (map (λ (w : ℕ × A). (w.0, f w)) ws) ≡ keys_of ws
keys-map f [] = refl
keys-map f (w ∷ ws) = ap (λ ks. w.0 ∷ ks) (keys-map f ws)

written-filled : (x : ℕ) (f : ℕ → Option Value) (ss : List StoredStep) → is_written x (filled_by f ss) ≡ is_written x ss
written-filled x f [] = refl
written-filled x f (s ∷ ss) =
    let here = keys-map (λ (w : ℕ × Option Value). if is_written w.0 ss then w.1 else option_or w.1 (f w.0)) s.writes in
    ap (λ ks. is_in x ks || is_written x (filled_by f ss)) here ∙ ap (λ b. is_in x (keys_of s.writes) || b) (written-filled x f ss)

-- ---- filling in

-- the core's filling in, by a list of values
pub filled-as : (values : Map Value) (ss : List StoredStep) → filled values ss ≡ filled_by (value_at values) ss
filled-as values [] = refl
filled-as values (s ∷ ss) =
    ap (λ ts. record { label = s.label; writes = map (λ (w : ℕ × Option Value). (w.0, if is_written w.0 ss then w.1 else option_or w.1 (value_at values w.0))) s.writes } ∷ ts) (filled-as values ss)

-- nothing found changes nothing
fill-none : (ss : List StoredStep) → filled_by (λ x. None) ss ≡ ss
fill-none [] = refl
fill-none (s ∷ ss) = λ i. record { label = s.label; writes = all s.writes i } ∷ fill-none ss i
  where
    one : (b : Bool) (o : Option Value) → (if b then o else option_or o None) ≡ o
    one true o = refl
    one false None = refl
    one false (Some v) = refl

    all : (ws : Map (Option Value)) → map (fill_one (λ x. is_written x ss) (λ x. None)) ws ≡ ws
    all [] = refl
    all (w ∷ ws) = λ i. (w.0, one (is_written w.0 ss) w.1 i) ∷ all ws i

-- what is filled in twice takes what is found first
fill-twice : (f k : ℕ → Option Value) (ss : List StoredStep) → filled_by k (filled_by f ss) ≡ filled_by (λ x. option_or (f x) (k x)) ss
fill-twice f k [] = refl
fill-twice f k (s ∷ ss) = λ i. record { label = s.label; writes = all s.writes i } ∷ fill-twice f k ss i
  where
    one : (b : Bool) (o a c : Option Value) → (if b then (if b then o else option_or o a) else option_or (if b then o else option_or o a) c) ≡ (if b then o else option_or o (option_or a c))
    one true o a c = refl
    one false None a c = refl
    one false (Some v) a c = refl

    all : (ws : Map (Option Value)) → map (fill_one (λ x. is_written x (filled_by f ss)) k) (map (fill_one (λ x. is_written x ss) f) ws) ≡ map (fill_one (λ x. is_written x ss) (λ x. option_or (f x) (k x))) ws
    all [] = refl
    all (w ∷ ws) =
        let o : Option Value = if is_written w.0 ss then w.1 else option_or w.1 (f w.0) in
        let here : (if is_written w.0 (filled_by f ss) then o else option_or o (k w.0)) ≡ (if is_written w.0 ss then w.1 else option_or w.1 (option_or (f w.0) (k w.0))) =
        ap (λ b. if b then o else option_or o (k w.0)) (written-filled w.0 f ss) ∙ one (is_written w.0 ss) w.1 (f w.0) (k w.0) in
        λ i. (w.0, here i) ∷ all ws i

-- of steps behind one another the earlier take what the later leave
pub fill-append : (f : ℕ → Option Value) (ss ts : List StoredStep) → filled_by f (ss ++ ts) ≡ filled_by (unless_written ts f) ss ++ filled_by f ts
fill-append f [] ts = refl
fill-append f (s ∷ ss) ts = λ i. record { label = s.label; writes = map_same (fill_one (λ x. is_written x (ss ++ ts)) f) (fill_one (λ x. is_written x ss) (unless_written ts f)) one s.writes i } ∷ fill-append f ss ts i
  where
    bits : (a b : Bool) (o c : Option Value) → (if (a || b) then o else option_or o c) ≡ (if a then o else option_or o (if b then None else c))
    bits true b o c = refl
    bits false true None c = refl
    bits false true (Some v) c = refl
    bits false false o c = refl

    one : (w : ℕ × Option Value) → fill_one (λ x. is_written x (ss ++ ts)) f w ≡ fill_one (λ x. is_written x ss) (unless_written ts f) w
    one w =
        let here : (if is_written w.0 (ss ++ ts) then w.1 else option_or w.1 (f w.0)) ≡ (if is_written w.0 ss then w.1 else option_or w.1 (unless_written ts f w.0)) =
        ap (λ b. if b then w.1 else option_or w.1 (f w.0)) (list_any-append (λ (s : StoredStep). is_in w.0 (keys_of s.writes)) ss ts) ∙ bits (is_written w.0 ss) (is_written w.0 ts) w.1 (f w.0) in
        λ i. (w.0, here i)

-- ---- the whole

-- the walk after these events: what was there, filled in by them, and what they add
along : (g : Graph) (honest : ℕ → Bool) (ps : List (Event × List ℕ)) (steps : List StoredStep) → explaining_walk g honest steps ps ≡ filled_by (given_by g honest ps) steps ++ added_by g honest ps
along g honest [] steps = sym (append-nil (filled_by (λ x. None) steps) ∙ fill-none steps)
along g honest ((Started sid r, walk) ∷ ps) steps = along g honest ps steps
along g honest ((Sent sid r label time values, walk) ∷ ps) steps =
    let s : List StoredStep = record { label = label; writes = shown values } ∷ [] in
    along g honest ps (steps ++ s) ∙ ap (λ ts. ts ++ added_by g honest ps) (fill-append (given_by g honest ps) steps s) ∙ append_assoc (filled_by (unless_written s (given_by g honest ps)) steps) (filled_by (given_by g honest ps) s) (added_by g honest ps)
along g honest ((Received sid r label time values joins, walk) ∷ ps) steps =
    let a : List StoredStep = hidden_steps g (after_honest (shape g) honest (after_last (sender (shape g)) r walk)) in
    let k : ℕ → Option Value = given_by g honest ps in
    let f : ℕ → Option Value = λ x. option_or (value_at values x) (k x) in
    along g honest ps (filled values (steps ++ a))
    ∙ ap (λ ts. filled_by k ts ++ added_by g honest ps) (filled-as values (steps ++ a))
    ∙ ap (λ ts. ts ++ added_by g honest ps) (fill-twice (value_at values) k (steps ++ a) ∙ fill-append f steps a)
    ∙ append_assoc (filled_by (unless_written a f) steps) (filled_by f a) (added_by g honest ps)

-- the walk that is made event by event is what the events add, given from the last one
pub from_end : (g : Graph) (honest : ℕ → Bool) (ps : List (Event × List ℕ)) → explaining_walk g honest [] ps ≡ added_by g honest ps
from_end g honest ps = along g honest ps []
