-- The current commitments, overwritten.
use Rattle.std.proofs.Common.{◌≡◌, ℕ, zero, suc, ◌+◌, ◌-◌, ◌<◌, ◌≤◌, ◌==◌, Bool, true, false, List, [], ◌∷◌, ◌++◌, map, length, set, take, drop, get_or, replicate, subst, if◌then◌else◌, Option, Some, None, refl, sym, ap, ◌∙◌, arith, drop-cons}
use Rattle.std.specs.Option.{option_or}
use Rattle.std.proofs.lemmas.Bool.Decides.{nat_tests}
use Rattle.std.proofs.Math.Seq.{take-append_seam}
use Rattle.sg_model.specs.Last.{Map}
use Rattle.sg_model.specs.Values.{Opening}
use Rattle.sg_model.specs.Lists.{below, range_from, value_at}
use Rattle.sg_model.proofs.Small.{same_number}
use Rattle.sg_protocol.specs.Crafted.{committed_to, known_item}
use Rattle.sg_protocol.specs.Frame.{Item}
use Rattle.sg_protocol.specs.Graph.{Graph}
use Rattle.sg_protocol.specs.Session.{commitments, committed}
use Rattle.sg_protocol.proofs.Ends.{committed-append}
use Rattle.sg_protocol.specs.Texts.{real}
use Rattle.sg_protocol.proofs.KeptLaws.{not_equal}
use Rattle.sg_craft.specs.Making.{with_first_pairs}
use Rattle.sg_craft.specs.Means.{Means}

is_other : (a b : ℕ) → a < b → (a == b) ≡ false
is_other a b h = grind (arith, nat_tests)

map_above : {A : Type 0} (f h : ℕ → A) (k n : ℕ) → ((x : ℕ) → k ≤ x → f x ≡ h x) → map f (range_from k n) ≡ map h (range_from k n)
map_above f h k zero e = refl
map_above f h k (suc n) e = (let first : f k ≡ h k = e k (omega arith) in λ i. first i ∷ map_above f h (suc k) n (λ x l. e x (omega arith)) i)

module _ {A : Type 0} (f : ℕ → A) (v : A) where
  set_range : (k n i : ℕ) → set (map f (range_from k n)) i v ≡ map (λ y. if k + i == y then v else f y) (range_from k n)
  set_range k zero i = refl
  set_range k (suc n) zero =
      let here : (k + zero == k) ≡ true = same_number (k + zero) k (omega arith) in
      λ j. (sym (ap (λ b. if b then v else f k) here) j) ∷ map_above f (λ y. if k + zero == y then v else f y) (suc k) n (λ x l. sym (ap (λ b. if b then v else f x) (is_other (k + zero) x (omega arith)))) j
  set_range k (suc n) (suc i) =
      let here : (k + suc i == k) ≡ false = not_equal (k + suc i) k (omega arith) in
      let e : suc k + i ≡ k + suc i = omega arith in
      λ j. (sym (ap (λ b. if b then v else f k) here) j) ∷ (set_range (suc k) n i ∙ ap (λ m. map (λ y. if m == y then v else f y) (range_from (suc k) n)) e) j

or_by : {A : Type 0} (b : Bool) (v : A) (o p : Option A) → (if b then Some v else option_or o p) ≡ option_or (if b then Some v else o) p
or_by true v o p = refl
or_by false v o p = refl

-- the commitments over those of a range
over_range : (f : ℕ → Option (List ℕ)) (n : ℕ) (ds : Map (List ℕ)) → with_first_pairs (map f (below n)) ds ≡ map (λ x. option_or (value_at ds x) (f x)) (below n)
over_range f n [] = refl
over_range f n (d ∷ ds) =
    ap (λ l. set l d.0 (Some d.1)) (over_range f n ds)
    ∙ set_range (λ x. option_or (value_at ds x) (f x)) (Some d.1) 0 n d.0
    ∙ (λ i. map (λ y. (ap (λ m. if m == y then Some d.1 else option_or (value_at ds y) (f y)) (let e : 0 + d.0 ≡ d.0 = omega arith in e) ∙ or_by (d.0 == y) d.1 (value_at ds y) (f y)) i) (below n))

-- over those of items they are those of one item more
pub over_items : (g : Graph) (before : List Item) (i : Item) → with_first_pairs (commitments g before) i.delta ≡ commitments g (before ++ i ∷ [])
over_items g before i = over_range (λ x. committed x before) (length g.variables) i.delta ∙ (λ j. map (λ x. sym (committed-append x before (i ∷ [])) j) (below (length g.variables)))

none_from : (k n : ℕ) → replicate n None ≡ map (λ x. committed x []) (range_from k n)
none_from k zero = refl
none_from k (suc n) = ap (λ l. None ∷ l) (none_from (suc k) n)

-- before any item there are none
pub none_before : (g : Graph) → replicate (length g.variables) None ≡ commitments g []
none_before g = none_from 0 (length g.variables)

-- what was written over a whole list is all of it
pub whole_back : {A : Type 0} (n : ℕ) (xs ys : List A) → length xs ≡ n → take n (xs ++ ys) ≡ xs
whole_back n xs ys e = subst (λ m. take m (xs ++ ys) ≡ xs) e (take-append_seam xs ys)

-- the commitments of what is known
pub known_now : (m : Means) (know : List Opening) (n : ℕ) (old new : List (Option (List ℕ))) (delta : Map (List ℕ)) → n ≡ length m.graph.variables → old ≡ replicate n None → delta ≡ committed_to real m.sid know → new ≡ with_first_pairs old delta → new ≡ commitments m.graph (known_item real m.sid know ∷ [])
known_now m know n old new delta count o d e =
    e ∙ (λ i. with_first_pairs ((o ∙ ap (λ k. replicate k None) count ∙ none_before m.graph) i) (d i)) ∙ over_items m.graph [] (known_item real m.sid know)
