-- The form of a frame's items, item by item.
use Rattle.std.proofs.Common.{◌≡◌, ℕ, zero, suc, ◌+◌, ◌-◌, ◌<◌, ◌==◌, Bool, true, false, ◌&&◌, ◌||◌, not, nat_lt, bytes_eq, List, [], ◌∷◌, filter, take, drop, get_or, length, refl, sym, ap, ◌∙◌, arith}
use Rattle.std.specs.List.{list_all}
use Rattle.std.proofs.lemmas.Bool.{and_parts}
use Rattle.std.proofs.lemmas.Bool.Decides.{nat_tests}
use Rattle.sg_base.specs.Sets.{with_member}
use Rattle.sg_base.proofs.SetLaws.{is_in-with_member}
use Rattle.sg_model.specs.Last.{Map, has}
use Rattle.sg_model.specs.Lists.{is_in, keys_of, rises_from}
use Rattle.sg_model.proofs.Small.{drop_at, eqb-swap, and_false}
use Rattle.sg_protocol.specs.Frame.{Item}
use Rattle.sg_protocol.specs.Graph.{AreNumbers}
use Rattle.sg_protocol.specs.Keyring.{Program, targets_of}
use Rattle.sg_protocol.specs.Verdict.{has_right_tags}
use Rattle.sg_role.proofs.Rising.{filter_numbers}

-- ---- members

pub key_less : {A : Type 0} (n : ℕ) (m : Map A) (at : ℕ) (d : ℕ × A) → AreNumbers n (keys_of m) → at < length m → (get_or m at d).0 < n
key_less {A = A} n m at d a l = go m at (and_parts (rises_from 0 (keys_of m)) (list_all (λ k. nat_lt k n) (keys_of m)) a).1 l
  where
    go : (m : Map A) (at : ℕ) → list_all (λ k. nat_lt k n) (keys_of m) ≡ true → at < length m → (get_or m at d).0 < n
    go [] at h l = absurd (omega (arith, l))
    go (w ∷ ws) zero h l = let p = and_parts (nat_lt w.0 n) (list_all (λ k. nat_lt k n) (keys_of ws)) h in less w.0 p.0
      where
        less : (x : ℕ) → nat_lt x n ≡ true → x < n
        less x e = grind (arith, nat_tests)
    go (w ∷ ws) (suc at) h l = let p = and_parts (nat_lt w.0 n) (list_all (λ k. nat_lt k n) (keys_of ws)) h in go ws at p.1 (omega (arith, l))

-- the members of one key more
pub in_more : {A : Type 0} (m : Map A) (at x : ℕ) (w : ℕ × A) → at < length m → w ≡ get_or m at w → is_in x (keys_of (take (at + 1) m)) ≡ ((x == w.0) || is_in x (keys_of (take at m)))
in_more {A = A} m at x w l e = ap (λ k. is_in x (keys_of (take k m))) (later at) ∙ go m at l ∙ ap (λ z. (x == z) || is_in x (keys_of (take at m))) (ap (λ (v : ℕ × A). v.0) (sym e))
  where
    later : (k : ℕ) → k + 1 ≡ suc k
    later k = omega arith

    swap : (a b c : Bool) → (a || (b || c)) ≡ (b || (a || c))
    swap true true c = refl
    swap true false c = refl
    swap false b c = refl

    go : (m : Map A) (at : ℕ) → at < length m → is_in x (keys_of (take (suc at) m)) ≡ ((x == (get_or m at w).0) || is_in x (keys_of (take at m)))
    go [] at l = absurd (omega (arith, l))
    go (v ∷ vs) zero l = ap (λ b. b || false) (eqb-swap v.0 x)
    go (v ∷ vs) (suc at) l = ap (λ b. (v.0 == x) || b) (go vs at (omega (arith, l))) ∙ swap (v.0 == x) (x == (get_or vs at w).0) (is_in x (keys_of (take at vs)))

-- ---- tags, from the last item on

abbrev by_role : Item → ℕ
by_role i = i.role

suffix : (p : Program) (k : ℕ) (items : List Item) → has_right_tags p (drop k items) ≡ false → has_right_tags p items ≡ false
suffix p zero items h = h
suffix p (suc k) [] h = h
suffix p (suc k) (i ∷ is) h = rw (suffix p k is h) (and_false (bytes_eq (keys_of i.tags) (filter (λ t. not (has by_role t is)) (targets_of p i.label))))

module _ (p : Program) (items : List Item) (back : ℕ) (i : Item) (l : back < length items) (e : i ≡ get_or items (length items - 1 - back) i) where
  abbrev left : ℕ
  left = length items - 1 - back

  there : drop left items ≡ i ∷ drop (length items - back) items
  there = drop_at items left i (omega (arith, l)) e ∙ ap (λ n. i ∷ drop n items) (same (length items) back l)
    where
      same : (n b : ℕ) → b < n → (n - 1 - b) + 1 ≡ n - b
      same n b l = omega (arith, l)

  next : drop (length items - (back + 1)) items ≡ i ∷ drop (length items - back) items
  next = ap (λ n. drop n items) (same (length items) back) ∙ there
    where
      same : (n b : ℕ) → n - (b + 1) ≡ n - 1 - b
      same n b = omega arith

  -- the item's own test, with the roles of later items as a set
  abbrev tagged : List ℕ → Bool
  tagged later = bytes_eq (keys_of i.tags) (filter (λ t. not (is_in t later)) (targets_of p i.label))

  test : (later : List ℕ) → AreNumbers 16 (targets_of p i.label) → ((t : ℕ) → t < 16 → is_in t later ≡ has by_role t (drop (length items - back) items))
      → has_right_tags p (drop (length items - (back + 1)) items) ≡ (tagged later && has_right_tags p (drop (length items - back) items))
  test later a s = ap (has_right_tags p) next ∙ ap (λ ts. bytes_eq (keys_of i.tags) ts && has_right_tags p (drop (length items - back) items))
      (filter_numbers (λ t. not (has by_role t (drop (length items - back) items))) (λ t. not (is_in t later)) 16 (targets_of p i.label)
      (and_parts (rises_from 0 (targets_of p i.label)) (list_all (λ k. nat_lt k 16) (targets_of p i.label)) a).1 (λ t m. ap not (sym (s t m))))

  pub tags_wrong : (later : List ℕ) → AreNumbers 16 (targets_of p i.label) → ((t : ℕ) → t < 16 → is_in t later ≡ has by_role t (drop (length items - back) items)) → tagged later ≡ false → has_right_tags p items ≡ false
  tags_wrong later a s w = suffix p (length items - (back + 1)) items (test later a s ∙ rw w refl)

  pub tags_right : (later : List ℕ) → AreNumbers 16 (targets_of p i.label) → ((t : ℕ) → t < 16 → is_in t later ≡ has by_role t (drop (length items - back) items)) → tagged later ≡ true
      → has_right_tags p (drop (length items - back) items) ≡ true → has_right_tags p (drop (length items - (back + 1)) items) ≡ true
  tags_right later a s w h = test later a s ∙ rw w h

  pub later_more : (later more : List ℕ) → ((t : ℕ) → t < 16 → is_in t later ≡ has by_role t (drop (length items - back) items)) → more ≡ with_member 16 later i.role
      → (t : ℕ) → t < 16 → is_in t more ≡ has by_role t (drop (length items - (back + 1)) items)
  later_more later more s w t m = ap (is_in t) w ∙ is_in-with_member 16 t i.role later m ∙ ap (λ b. (t == i.role) || b) (s t m) ∙ ap (λ b. b || has by_role t (drop (length items - back) items)) (eqb-swap t i.role) ∙ sym (ap (has by_role t) next)
