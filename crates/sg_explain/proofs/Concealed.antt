-- What is hidden, from the end of a walk on.
use Rattle.std.proofs.Common.{◌≡◌, ℕ, zero, suc, ◌+◌, ◌<◌, ◌≤◌, ◌==◌, nat_lt, Bool, true, false, not, ◌&&◌, ◌||◌, if◌then◌else◌, List, [], ◌∷◌, map, drop, length, get_or, refl, ap, sym, ◌∙◌, subst, arith}
use Rattle.std.specs.Prelude.{Option, is_none}
use Rattle.std.specs.List.{list_all}
use Rattle.std.specs.Bool.{beq}
use Rattle.std.proofs.lemmas.Bool.Decides.{nat_tests}
use Rattle.std.proofs.lemmas.Bool.{and_parts}
use Rattle.sg_model.specs.Last.{Map}
use Rattle.sg_model.specs.Lists.{is_in, keys_of}
use Rattle.sg_model.specs.Shape.{sender, receiver}
use Rattle.sg_model.specs.Values.{Value}
use Rattle.sg_model.proofs.Small.{drop_from, drop_end, and_true}
use Rattle.sg_protocol.specs.Graph.{Graph, shape, reads, writes}
use Rattle.sg_protocol.specs.Walk.{counts, is_carried, are_hidden}
use Rattle.sg_explain.specs.Matching.{IsNamed, is_still_carried}
use Rattle.sg_walk.specs.Model.{step_of, writes_of}
use Rattle.sg_walk.specs.declared.stored.StoredStep.{StoredStep as Step}
use Rattle.sg_explain.proofs.Explained.{counts_as}
use Rattle.sg_explain.proofs.Steps.{keys_writes}

-- what is hidden on the steps from an index on is right, and the variables that honest roles receive there are carried
pub record Hiding (g : Graph) (honest : ℕ → Bool) (taken : Bool) (steps : List Step) (left : ℕ) (carried : List Bool) : Type 0 where
  pub wide : length carried ≡ 32
  pub within : left ≤ length steps
  pub known : (x : ℕ) → x < 32 → get_or carried x false ≡ is_still_carried g honest taken x (map step_of (drop left steps))
  pub rest : are_hidden g honest taken (map step_of (drop left steps)) ≡ true

pub Hiding-init : (g : Graph) (honest : ℕ → Bool) (taken : Bool) (steps : List Step) (carried : List Bool) → length carried ≡ 32 → ((x : ℕ) → x < 32 → get_or carried x false ≡ false)
    → Hiding g honest taken steps (length steps) carried
Hiding-init g honest taken steps carried wide none =
    let end = drop_end steps (length steps) (omega arith) in
    record {
      wide = wide;
      within = omega arith;
      known = λ x b. none x b ∙ ap (λ l. is_still_carried g honest taken x (map step_of l)) (sym end);
      rest = ap (λ l. are_hidden g honest taken (map step_of l)) end;
    }

-- what is carried at a step, with its receipt
now_carried : (g : Graph) (honest : ℕ → Bool) (taken : Bool) (steps : List Step) (i : ℕ) (s : Step) (hears : Bool) (xs : List ℕ) (carried carried' : List Bool)
    → i < length steps → xs ≡ reads g s.label
    → hears ≡ (honest (receiver (shape g) s.label) && (taken || not (i + 1 == length steps)))
    → ((x : ℕ) → x < 32 → get_or carried' x false ≡ ((hears && is_in x xs) || get_or carried x false))
    → Hiding g honest taken steps (suc i) carried
    → (x : ℕ) → x < 32 → get_or carried' x false ≡ is_carried g honest taken x (step_of s ∷ map step_of (drop (suc i) steps))
now_carried g honest taken steps i s hears xs carried carried' l xe he new k x b =
    let hears' : hears ≡ (honest (receiver (shape g) s.label) && counts taken (map step_of (drop (suc i) steps))) = he ∙ ap (λ b. honest (receiver (shape g) s.label) && b) (sym (counts_as taken steps i l)) in
    let still = is_still_carried g honest taken x (map step_of (drop (suc i) steps)) in
    new x b ∙ ap (λ c. (hears && is_in x xs) || c) (k.known x b) ∙ ap (λ ys. (hears && is_in x ys) || still) xe
    ∙ ap (λ h. (h && is_in x (reads g s.label)) || still) hears'

-- the test of a step's writes by what is carried
hidden_same : (hs : Bool) (carried : List Bool) (f : ℕ → Bool) (ws : Map (Option Value)) → list_all (λ x. nat_lt x 32) (keys_of ws) ≡ true → ((x : ℕ) → x < 32 → get_or carried x false ≡ f x)
    → list_all (λ w. beq (is_none w.1) (not hs && not (get_or carried w.0 false))) ws ≡ list_all (λ w. beq (is_none w.1) (not hs && not (f w.0))) ws
hidden_same hs carried f [] s h = refl
hidden_same hs carried f (w ∷ ws) s h =
    let parts = and_parts (nat_lt w.0 32) (list_all (λ x. nat_lt x 32) (keys_of ws)) s in
    let less : w.0 < 32 = (let a = parts.0 in grind (arith, nat_tests, a)) in
    rw (h w.0 less) (ap (λ r. beq (is_none w.1) (not hs && not (f w.0)) && r) (hidden_same hs carried f ws parts.1 h))

-- if the rest is wrong the whole is
rest_wrong : (g : Graph) (honest : ℕ → Bool) (taken : Bool) (steps : List Step) (i : ℕ) → are_hidden g honest taken (map step_of (drop i steps)) ≡ false → are_hidden g honest taken (map step_of steps) ≡ false
rest_wrong g honest taken [] zero h = h
rest_wrong g honest taken [] (suc i) h = h
rest_wrong g honest taken (x ∷ xs) zero h = h
rest_wrong g honest taken (x ∷ xs) (suc i) h = false_behind (list_all _ (step_of x).writes) (are_hidden g honest taken (map step_of xs)) (rest_wrong g honest taken xs i h)
  where
    false_behind : (a b : Bool) → b ≡ false → (a && b) ≡ false
    false_behind true b e = e
    false_behind false b e = refl

-- the test of a step, with the whole of what is carried there
tested : (g : Graph) (honest : ℕ → Bool) (taken : Bool) (steps : List Step) (i : ℕ) (s : Step) (hears hs : Bool) (xs : List ℕ) (carried carried' : List Bool) (result : Bool)
    → i < length steps → xs ≡ reads g s.label
    → hears ≡ (honest (receiver (shape g) s.label) && (taken || not (i + 1 == length steps)))
    → hs ≡ honest (sender (shape g) s.label)
    → ((x : ℕ) → x < 32 → get_or carried' x false ≡ ((hears && is_in x xs) || get_or carried x false))
    → list_all (λ x. nat_lt x 32) (keys_of s.writes) ≡ true
    → result ≡ list_all (λ w. beq (is_none w.1) (not hs && not (get_or carried' w.0 false))) (writes_of s.writes)
    → Hiding g honest taken steps (suc i) carried
    → are_hidden g honest taken (step_of s ∷ map step_of (drop (suc i) steps)) ≡ result
tested g honest taken steps i s hears hs xs carried carried' result l xe he hse new small re k =
    let f : ℕ → Bool = λ x. is_carried g honest taken x (step_of s ∷ map step_of (drop (suc i) steps)) in
    let small' : list_all (λ x. nat_lt x 32) (keys_of (writes_of s.writes)) ≡ true = subst (λ ys. list_all (λ x. nat_lt x 32) ys ≡ true) (sym (keys_writes s.writes)) small in
    let same = hidden_same hs carried' f (writes_of s.writes) small' (now_carried g honest taken steps i s hears xs carried carried' l xe he new k) in
    let test : result ≡ list_all (λ w. beq (is_none w.1) (not (honest (sender (shape g) s.label)) && not (f w.0))) (writes_of s.writes) =
    re ∙ same ∙ ap (λ h. list_all (λ w. beq (is_none w.1) (not h && not (f w.0))) (writes_of s.writes)) hse in
    ap (λ r. list_all (λ w. beq (is_none w.1) (not (honest (sender (shape g) s.label)) && not (f w.0))) (writes_of s.writes) && r) k.rest ∙ and_true _ ∙ sym test

-- a step from the end on
module _ (g : Graph) (honest : ℕ → Bool) (taken : Bool) (steps : List Step) (left i : ℕ) (s : Step) (hears hs : Bool) (xs : List ℕ) (carried carried' : List Bool) (result : Bool)
    (le : left ≡ i + 1) (l : i < length steps) (is : s ≡ get_or steps i s) (xe : xs ≡ reads g s.label)
    (he : hears ≡ (honest (receiver (shape g) s.label) && (taken || not (left == length steps))))
    (hse : hs ≡ honest (sender (shape g) s.label))
    (new : (x : ℕ) → x < 32 → get_or carried' x false ≡ ((hears && is_in x xs) || get_or carried x false))
    (small : list_all (λ x. nat_lt x 32) (keys_of s.writes) ≡ true)
    (re : result ≡ list_all (λ w. beq (is_none w.1) (not hs && not (get_or carried' w.0 false))) (writes_of s.writes))
    (k : Hiding g honest taken steps left carried) where
  next : left ≡ suc i
  next = omega arith

  heard : hears ≡ (honest (receiver (shape g) s.label) && (taken || not (i + 1 == length steps)))
  heard = subst (λ n. hears ≡ (honest (receiver (shape g) s.label) && (taken || not (n == length steps)))) le he

  rest : Hiding g honest taken steps (suc i) carried
  rest = subst (λ n. Hiding g honest taken steps n carried) next k

  whole : are_hidden g honest taken (map step_of (drop i steps)) ≡ result
  whole = ap (λ ss. are_hidden g honest taken (map step_of ss)) (drop_from steps i s l is) ∙ tested g honest taken steps i s hears hs xs carried carried' result l xe heard hse new small re rest

  -- whose writes are not hidden as they should
  pub hide_wrong : result ≡ false → are_hidden g honest taken (map step_of steps) ≡ false
  hide_wrong wrong = rest_wrong g honest taken steps i (whole ∙ wrong)

  -- whose writes are hidden as they should
  pub hide_on : (carried'' : List Bool) → result ≡ true → IsNamed g (step_of s) → length carried'' ≡ 32
      → ((x : ℕ) → x < 32 → get_or carried'' x false ≡ (if is_in x (keys_of s.writes) then false else get_or carried' x false))
      → Hiding g honest taken steps i carried''
  hide_on carried'' right named wide new' =
      let now = now_carried g honest taken steps i s hears xs carried carried' l xe heard new rest in
      let keys : keys_of s.writes ≡ writes g s.label = sym (keys_writes s.writes) ∙ named.1 in
      record {
        wide = wide;
        within = omega arith;
        known = λ x b. new' x b ∙ ap (λ c. if is_in x (keys_of s.writes) then false else c) (now x b) ∙ ap (λ ys. if is_in x ys then false else is_carried g honest taken x (step_of s ∷ map step_of (drop (suc i) steps))) keys
            ∙ as_and (is_in x (writes g s.label)) _ ∙ ap (λ ss. is_still_carried g honest taken x (map step_of ss)) (sym (drop_from steps i s l is));
        rest = whole ∙ right;
      }
    where
      as_and : (a b : Bool) → (if a then false else b) ≡ (not a && b)
      as_and true b = refl
      as_and false b = refl
