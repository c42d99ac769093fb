-- The last item of the frame that a step sends is the own item.
use Rattle.std.specs.Prelude.{◌≡◌, ◌≢◌, ℕ, ◌<◌, ◌==◌, ◌||◌, Bool, true, false, List, [], ◌∷◌, ◌++◌, map, filter, length, refl, Option, Some, None, option_map, IfSome}
use Rattle.std.specs.List.{AllByRecursion}
use Rattle.std.proofs.Common.{sym, ◌∙◌, ap, subst, inl, inr}
use Rattle.std.proofs.lemmas.Bool.{cases_Bool, ne_eqb, or_right}
use Rattle.sg_model.proofs.LastOf.{eqb_same}
use Rattle.sg_model.specs.Last.{Map, Entry, has, last, last_or, after_last, carry, evidence, evidence_for}
use Rattle.sg_model.specs.Lists.{rises_from, keys_of}
use Rattle.sg_model.specs.Shape.{receiver}
use Rattle.sg_model.specs.Values.{Opening}
use Rattle.sg_model.proofs.Evidence.{evidence-drop, evidence-keep, has-evidence}
use Rattle.sg_law.proofs.Cut.{last-option_map}
use Rattle.std.proofs.lemmas.List.{map-append}
use Rattle.sg_law.proofs.Upto.{after-more, last-after}
use Rattle.sg_protocol.specs.Graph.{Graph, shape}
use Rattle.sg_protocol.specs.Frame.{Item}
use Rattle.sg_protocol.specs.Texts.{Hash}
use Rattle.sg_protocol.specs.Keyring.{Keyring, Program}
use Rattle.sg_protocol.specs.Session.{Session, transcript}
use Rattle.sg_protocol.specs.Sending.{entry_of, item_of, tags_left, own_item}
use Rattle.sg_protocol.specs.Enough.{OwnItemIsLast}
use Rattle.sg_protocol.proofs.Gives.{in_order-all}
use Rattle.sg_protocol.proofs.Acts.{keys_of_commits}

-- ---- evidence that one more entry of another role ends

-- a list that ends with an element of one key, and has another key, has two elements
carry_last : {K A : Type 0} (role : K → ℕ) (k : ℕ) (v : Map A) (zs : List (Entry K A)) (e : Entry K A) → last zs ≡ Some e → has (λ (x : Entry K A). role x.step) k zs ≡ true → (role e.step == k) ≡ false → last (carry v zs) ≡ Some e
carry_last role k v [] e l h n = absurd (cc)
carry_last {K = K} {A = A} role k v (z ∷ []) e l h n = absurd (clash (role z.step == k) (ap (λ (y : Entry K A). role y.step == k) (same l) ∙ n) h)
  where
    same : {K A : Type 0} {z e : Entry K A} → last (z ∷ []) ≡ Some e → z ≡ e
    same l = cc

    clash : (b : Bool) → b ≡ false → (b || false) ≡ true → ⊥
    clash true f t = cc
    clash false f t = cc
carry_last role k v (z ∷ y ∷ zs) e l h n = l

module _ {K A : Type 0} (role : K → ℕ) (e : Entry K A) where
  abbrev by : Entry K A → ℕ
  by x = role x.step

  evidence_last : (xs : List (Entry K A)) → IfSome (last xs) (λ x. by x ≢ by e) → last (evidence role (xs ++ e ∷ [])) ≡ Some e
  evidence_last [] n = refl
  evidence_last (x ∷ []) n = rw (ne_eqb (by e) (by x) (λ q. n (sym q))) refl
  evidence_last (x ∷ y ∷ ys) n =
      elim (cases_Bool (has by (by x) (y ∷ ys ++ e ∷ []))) [
        | inl h ↦ ap last (evidence-drop role x (y ∷ ys ++ e ∷ []) h) ∙ (carry_last role (by (last_or y ys)) x.writes (evidence role (y ∷ ys ++ e ∷ [])) e (evidence_last (y ∷ ys) n) there (ne_eqb (by e) (by (last_or y ys)) (λ q. n (sym q))))
        | inr h ↦ ap last (evidence-keep role x (y ∷ ys ++ e ∷ []) h) ∙ (more (evidence role (y ∷ ys ++ e ∷ [])) (evidence_last (y ∷ ys) n))
      ]
    where
      more : (zs : List (Entry K A)) → last zs ≡ Some e → last (x ∷ zs) ≡ Some e
      more [] l = absurd (cc)
      more (z ∷ zs) l = l

      at_last : (y : Entry K A) (ys zs : List (Entry K A)) → has by (by (last_or y ys)) (y ∷ ys ++ zs) ≡ true
      at_last y [] zs = ap (λ b. b || has by (by y) zs) (eqb_same (by y))
      at_last y (w ∷ ws) zs = or_right (by y == by (last_or w ws)) (has by (by (last_or w ws)) (w ∷ ws ++ zs)) (at_last w ws zs)

      there : has by (by (last_or y ys)) (evidence role (y ∷ ys ++ e ∷ [])) ≡ true
      there = has-evidence role (by (last_or y ys)) (y ∷ ys ++ e ∷ []) ∙ at_last y ys (e ∷ [])

-- ---- the frame

all_left : {A : Type 0} (ts : List A) → filter (λ t. true) ts ≡ ts
all_left [] = refl
all_left (t ∷ ts) = ap (λ l. t ∷ l) (all_left ts)

last_tagged : (is : List Item) (i : Item) → last is ≡ Some i → last (tags_left is) ≡ Some i
last_tagged [] i l = absurd (cc)
last_tagged (x ∷ []) i l = ap (λ ts. Some (record x { tags = ts })) (all_left x.tags) ∙ l
last_tagged (x ∷ y ∷ ys) i l = last_tagged (y ∷ ys) i l

map_below : (n : ℕ) (os : List Opening) → AllByRecursion (λ (o : Opening). o.variable < n) os → AllByRecursion (λ x. x < n) (map (λ (o : Opening). o.variable) os)
map_below n [] a = tt
map_below n (o ∷ os) a = (a.0, map_below n os a.1)

module _ (sha : Hash) (keys : Keyring) (p : Program) (s : Session) (label : ℕ) (written : List Opening) (other : receiver (shape p.graph) label ≢ s.role) (before : IfSome (last (transcript s)) (λ (i : Item). i.role ≢ s.role)) where
  abbrev g : Graph
  g = p.graph

  abbrev oi : Item
  oi = own_item sha keys p s label written

  abbrev role : Entry Item (List ℕ) → ℕ
  role x = x.step.role

  abbrev since : List (Entry Item (List ℕ))
  since = after_last role (receiver (shape g) label) (map entry_of (transcript s))

  -- the transcript's last item is of another role, also since the receiver's last item
  before_since : IfSome (last since) (λ (x : Entry Item (List ℕ)). role x ≢ s.role)
  before_since = go since refl
    where
      one : (o : Option Item) → IfSome o (λ (i : Item). i.role ≢ s.role) → IfSome (option_map entry_of o) (λ (x : Entry Item (List ℕ)). role x ≢ s.role)
      one None h = tt
      one (Some i) h = h

      go : (xs : List (Entry Item (List ℕ))) → since ≡ xs → IfSome (last xs) (λ (x : Entry Item (List ℕ)). role x ≢ s.role)
      go [] e = tt
      go (y ∷ ys) e = subst (λ o. IfSome o (λ (x : Entry Item (List ℕ)). role x ≢ s.role)) (sym (last-option_map entry_of (transcript s)) ∙ last-after role (receiver (shape g) label) (map entry_of (transcript s)) y ys e) (one (last (transcript s)) before)

  shown_last : last (evidence_for (λ (i : Item). i.role) (receiver (shape g) label) (map entry_of (transcript s ++ oi ∷ []))) ≡ Some (entry_of oi)
  shown_last =
      ap (λ l. last (evidence (λ (i : Item). i.role) (after_last role (receiver (shape g) label) l))) (map-append entry_of (transcript s) (oi ∷ []))
      ∙ ap (λ l. last (evidence (λ (i : Item). i.role) l)) (after-more role (receiver (shape g) label) (map entry_of (transcript s)) (entry_of oi ∷ []) (rw (ne_eqb s.role (receiver (shape g) label) (λ q. other (sym q))) refl))
      ∙ evidence_last (λ (i : Item). i.role) (entry_of oi) since before_since

pub own_item_is_last : (sha : Hash) → OwnItemIsLast sha
own_item_is_last sha keys p s label written other before rise below =
    let same : keys_of (oi sha keys p s label written other before).delta ≡ map (λ (o : Opening). o.variable) written = keys_of_commits sha s.sid written in
    last_tagged _ _ (last-option_map (item_of p.graph) _ ∙ ap (option_map (item_of p.graph)) (shown_last sha keys p s label written other before)
    ∙ ap (λ d. Some (record (own_item sha keys p s label written) { delta = d }))
    (in_order-all (length p.graph.variables) (own_item sha keys p s label written).delta (ap (rises_from 0) same ∙ rise) (subst (AllByRecursion (λ x. x < length p.graph.variables)) (sym same) (map_below (length p.graph.variables) written below))))
