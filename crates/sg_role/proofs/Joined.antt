-- The evidence of kept items, made from the front.
use Rattle.std.proofs.Common.{◌≡◌, ℕ, List, [], ◌∷◌, map, length, refl, sym, ◌∙◌, ap, inl, inr}
use Rattle.std.specs.Option.{option_or}
use Rattle.std.proofs.lemmas.Bool.{cases_Bool}
use Rattle.sg_model.proofs.Evidence.{evidence-drop, evidence-keep, merge_assoc}
use Rattle.sg_model.specs.Last.{Map, Entry, has, merge, carry, evidence}
use Rattle.sg_model.specs.Lists.{in_order, value_at}
use Rattle.sg_law.proofs.Lists.{has-map}
use Rattle.sg_protocol.specs.Frame.{Item}
use Rattle.sg_protocol.specs.Graph.{Graph}
use Rattle.sg_protocol.specs.Kept.{kept_items}
use Rattle.sg_protocol.specs.Sending.{entry_of, item_of}
use Rattle.sg_protocol.proofs.KeptLaws.{value_at-in_order, in_order-same}
use Rattle.sg_law.proofs.Com.{value_at-merge}
use Rattle.sg_role.specs.Keeping.{kept_from}

pub value_merged : {A : Type 0} (a b : Map A) (x : ℕ) → value_at (merge a b) x ≡ option_or (value_at b x) (value_at a x)
value_merged a b x = value_at-merge a b x

abbrev E : Type 0
E = Entry Item (List ℕ)

module _ (g : Graph) where
  abbrev n : ℕ
  n = length g.variables

  ordered_merge : (a a' b : Map (List ℕ)) → in_order n a ≡ in_order n a' → in_order n (merge a b) ≡ in_order n (merge a' b)
  ordered_merge a a' b e = in_order-same n (merge a b) (merge a' b) (λ x h.
      value_at-merge a b x
      ∙ ap (option_or (value_at b x)) (sym (value_at-in_order n a x h) ∙ ap (λ m. value_at m x) e ∙ value_at-in_order n a' x h)
      ∙ sym (value_at-merge a' b x))

  ordered_twice : (m : Map (List ℕ)) → in_order n (in_order n m) ≡ in_order n m
  ordered_twice m = in_order-same n (in_order n m) m (λ x h. value_at-in_order n m x h)

  carried : (v w : Map (List ℕ)) (es : List E) → map (item_of g) (carry v (carry w es)) ≡ map (item_of g) (carry (merge v w) es)
  carried v w [] = refl
  carried v w (e ∷ es) = ap (λ m. item_of g (record { step = e.step; writes = m }) ∷ map (item_of g) es) (merge_assoc v w e.writes)

  none_carried : (es : List E) → carry [] es ≡ es
  none_carried [] = refl
  none_carried (e ∷ es) = refl

  kept_carry : (p q : Map (List ℕ)) → in_order n p ≡ in_order n q → (xs : List Item) → kept_from n p xs ≡ map (item_of g) (carry q (evidence (λ (i : Item). i.role) (map entry_of xs)))
  kept_carry p q e [] = refl
  kept_carry p q e (x ∷ xs) =
      let same : has (λ (y : E). y.step.role) x.role (map entry_of xs) ≡ has (λ (i : Item). i.role) x.role xs = has-map entry_of (λ (y : E). y.step.role) x.role xs in
      elim (cases_Bool (has (λ (i : Item). i.role) x.role xs)) [
        | inl h ↦ rw h (
            kept_carry (in_order n (merge p x.delta)) (merge q x.delta) (ordered_twice (merge p x.delta) ∙ ordered_merge p q x.delta e) xs
            ∙ sym (carried q x.delta (evidence (λ (i : Item). i.role) (map entry_of xs)))
            ∙ ap (λ es. map (item_of g) (carry q es)) (sym (evidence-drop (λ (i : Item). i.role) (entry_of x) (map entry_of xs) (same ∙ h))))
        | inr h ↦ rw h (
            ap (λ m. record x { delta = m } ∷ kept_from n [] xs) (ordered_merge p q x.delta e)
            ∙ ap (λ l. record x { delta = in_order n (merge q x.delta) } ∷ l) (kept_carry [] [] refl xs ∙ ap (map (item_of g)) (none_carried (evidence (λ (i : Item). i.role) (map entry_of xs))))
            ∙ ap (λ es. map (item_of g) (carry q es)) (sym (evidence-keep (λ (i : Item). i.role) (entry_of x) (map entry_of xs) (same ∙ h))))
      ]

  kept_all : (xs : List Item) → kept_from n [] xs ≡ kept_items g xs
  kept_all xs = kept_carry [] [] refl xs ∙ ap (map (item_of g)) (none_carried (evidence (λ (i : Item). i.role) (map entry_of xs)))

-- what is made from the front is what is kept
pub kept_made : (g : Graph) (count : ℕ) (xs : List Item) → length g.variables ≡ count → kept_from count [] xs ≡ kept_items g xs
kept_made g count xs e = ap (λ k. kept_from k [] xs) (sym e) ∙ kept_all g xs
