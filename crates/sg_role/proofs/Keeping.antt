-- What is kept, item by item and variable by variable.
use Rattle.std.proofs.Common.{◌≡◌, ℕ, ◌+◌, ◌<◌, ◌||◌, true, false, List, [], ◌∷◌, ◌++◌, filter_map, length, drop, get_or, append_assoc, refl, sym, ◌∙◌, ap, Some, None, option_map, append-nil}
use Rattle.std.proofs.lemmas.List.Elements.{filter_map-append}
use Rattle.sg_model.proofs.LastOf.{has-append}
use Rattle.sg_model.specs.Last.{Map, has, merge}
use Rattle.sg_model.specs.Lists.{below, in_order, value_at}
use Rattle.sg_model.proofs.Numbers.{below-suc}
use Rattle.sg_model.proofs.Small.{drop_at}
use Rattle.sg_protocol.specs.Frame.{Item}
use Rattle.sg_role.specs.Keeping.{kept_from}

-- ---- items

module _ (n : ℕ) (earlier : Map (List ℕ)) (x : Item) (rest later : List Item) where
  -- an item whose sender has a later one is not kept, and what it wrote goes along
  pub kept_again : (has (λ (i : Item). i.role) x.role rest || has (λ (i : Item). i.role) x.role later) ≡ true →
      kept_from n earlier (x ∷ rest ++ later) ≡ kept_from n (in_order n (merge earlier x.delta)) (rest ++ later)
  kept_again h = rw (has-append (λ (i : Item). i.role) x.role rest later ∙ h) refl

  -- an item whose sender has no later one is kept
  pub kept_once : (has (λ (i : Item). i.role) x.role rest || has (λ (i : Item). i.role) x.role later) ≡ false →
      kept_from n earlier (x ∷ rest ++ later) ≡ record x { delta = in_order n (merge earlier x.delta) } ∷ kept_from n [] (rest ++ later)
  kept_once h = rw (has-append (λ (i : Item). i.role) x.role rest later ∙ h) refl

-- ---- a list that is made of them: what is in it and what is still kept of the items from an index on is all that is kept

module _ (n : ℕ) (items later : List Item) (at : ℕ) (i : Item) (l : at < length items) (e : i ≡ get_or items at i) (list : List Item) (earlier : Map (List ℕ)) (all : List Item)
    (inv : list ++ kept_from n earlier (drop at items ++ later) ≡ all) where
  from_here : drop at items ++ later ≡ i ∷ drop (at + 1) items ++ later
  from_here = ap (λ is. is ++ later) (drop_at items at i l e)

  pub keeps_going : (has (λ (i : Item). i.role) i.role (drop (at + 1) items) || has (λ (i : Item). i.role) i.role later) ≡ true
      → (list' : List Item) (earlier' : Map (List ℕ)) → list' ≡ list → earlier' ≡ in_order n (merge earlier i.delta)
      → list' ++ kept_from n earlier' (drop (at + 1) items ++ later) ≡ all
  keeps_going h list' earlier' p q =
      ap (λ is. is ++ kept_from n earlier' (drop (at + 1) items ++ later)) p
      ∙ ap (λ (m : Map (List ℕ)). list ++ kept_from n m (drop (at + 1) items ++ later)) q
      ∙ ap (λ is. list ++ is) (sym (kept_again n earlier i (drop (at + 1) items) later h) ∙ ap (kept_from n earlier) (sym from_here)) ∙ inv

  pub keeps_putting : (has (λ (i : Item). i.role) i.role (drop (at + 1) items) || has (λ (i : Item). i.role) i.role later) ≡ false
      → (list' : List Item) (earlier' : Map (List ℕ)) → list' ≡ list ++ record i { delta = in_order n (merge earlier i.delta) } ∷ [] → earlier' ≡ []
      → list' ++ kept_from n earlier' (drop (at + 1) items ++ later) ≡ all
  keeps_putting h list' earlier' p q =
      ap (λ is. is ++ kept_from n earlier' (drop (at + 1) items ++ later)) p
      ∙ ap (λ (m : Map (List ℕ)). (list ++ record i { delta = in_order n (merge earlier i.delta) } ∷ []) ++ kept_from n m (drop (at + 1) items ++ later)) q
      ∙ append_assoc list (record i { delta = in_order n (merge earlier i.delta) } ∷ []) (kept_from n [] (drop (at + 1) items ++ later))
      ∙ ap (λ is. list ++ is) (sym (kept_once n earlier i (drop (at + 1) items) later h) ∙ ap (kept_from n earlier) (sym from_here)) ∙ inv

-- ---- variables

pub in_order_some : {A : Type 0} (i : ℕ) (m : Map A) (v : A) → value_at m i ≡ Some v → in_order (i + 1) m ≡ in_order i m ++ (i, v) ∷ []
in_order_some i m v e = ap (filter_map (λ x. option_map (λ v. (x, v)) (value_at m x))) (below-suc i) ∙ filter_map-append (λ x. option_map (λ v. (x, v)) (value_at m x)) (below i) (i ∷ []) ∙ rw e refl

pub in_order_none : {A : Type 0} (i : ℕ) (m : Map A) → value_at m i ≡ None → in_order (i + 1) m ≡ in_order i m
in_order_none i m e = ap (filter_map (λ x. option_map (λ v. (x, v)) (value_at m x))) (below-suc i) ∙ filter_map-append (λ x. option_map (λ v. (x, v)) (value_at m x)) (below i) (i ∷ []) ∙ rw e (append-nil (in_order i m))
