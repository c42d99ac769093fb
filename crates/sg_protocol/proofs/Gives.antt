-- A step that a session gives is what the law lets its role send.
use Rattle.std.specs.Prelude.{filter_map, codes, ◌≡◌, ℕ, zero, suc, ◌+◌, ◌<◌, ◌≤◌, ◌==◌, nat_lt, nat_le, if◌then◌else◌, ◌||◌, ◌&&◌, Bool, true, false, not, List, [], ◌∷◌, ◌++◌, map, length, find, refl, Option, Some, None, option_map}
use Rattle.std.specs.List.{cons_option, list_all, list_any, AllByRecursion}
use Rattle.std.proofs.Common.{sym, ◌∙◌, ap, subst, inl, inr, arith}
use Rattle.std.proofs.lemmas.Bool.{eqb-true, eq-eqb, or_parts, cases_Bool, and_parts, not-false}
use Rattle.std.proofs.lemmas.Bool.Decides.{nat_tests}
use Rattle.sg_model.specs.Last.{Map}
use Rattle.sg_model.specs.Lists.{is_in, value_at, below, range_from}
use Rattle.sg_model.specs.Values.{Value, Opening}
use Rattle.sg_protocol.specs.Graph.{Graph, IsGraph, writes}
use Rattle.sg_protocol.specs.Spelling.{magic, join_code, body}
use Rattle.sg_protocol.specs.Frame.{Frame}
use Rattle.sg_protocol.specs.Texts.{item_text_of, frame_text_of}
use Rattle.sg_protocol.specs.Walk.{is_typed_or_hidden, shown}
use Rattle.sg_law.specs.Values as V
use Rattle.sg_protocol.proofs.Moves.{writes_below}
use Rattle.sg_model.specs.Lists.{rises_from, keys_of, in_order}
use Rattle.sg_model.proofs.Small.{clash, lt_of}
use Rattle.sg_model.proofs.Numbers.{low_none}
use Rattle.sg_protocol.specs.Acting.{is_bad, is_typed, is_out_of_order, openings_for}
use Rattle.sg_protocol.proofs.Paths.{writes_rise}
use Rattle.sg_protocol.proofs.TextLaws.{parts, magic_long, item_word, frame_word}

-- ---- maps in order

abbrev picks : {A : Type 0} → Map A → List ℕ → Map A
picks m xs = filter_map (λ x. option_map (λ v. (x, v)) (value_at m x)) xs

picks_nil : {A : Type 0} (xs : List ℕ) → picks {A = A} [] xs ≡ []
picks_nil [] = refl
picks_nil (x ∷ xs) = picks_nil xs

picks_rest : {A : Type 0} (w : ℕ × A) (ws : Map A) (k j : ℕ) → w.0 < k → picks (w ∷ ws) (range_from k j) ≡ picks ws (range_from k j)
picks_rest w ws k zero l = refl
picks_rest {A = A} w ws k (suc j) l =
    let ne : (w.0 == k) ≡ false = elim (cases_Bool (w.0 == k)) [ inl e ↦ (let s : w.0 ≡ k = eqb-true w.0 k e in absurd (omega arith)) | inr e ↦ e ] in
    rw ne (ap (cons_option (option_map (λ v. (k, v)) (value_at ws k))) (picks_rest w ws (suc k) j (omega arith)))

picks_all : {A : Type 0} (m : Map A) (k j : ℕ) → rises_from k (keys_of m) ≡ true → AllByRecursion (λ x. x < k + j) (keys_of m) → picks m (range_from k j) ≡ m
picks_all [] k j r b = picks_nil (range_from k j)
picks_all (w ∷ ws) k zero r b = absurd (let ps = and_parts (not (nat_lt w.0 k)) (rises_from (suc w.0) (keys_of ws)) r in let lt = b.0 in grind (arith, nat_tests, ps.0))
picks_all (w ∷ ws) k (suc j) r b =
    let ps = and_parts (not (nat_lt w.0 k)) (rises_from (suc w.0) (keys_of ws)) r in
    elim (cases_Bool (w.0 == k)) [
      | inl e ↦ (let s : w.0 ≡ k = eqb-true w.0 k e in rw e (subst (λ z. (z, w.1) ∷ picks (w ∷ ws) (range_from (suc k) j) ≡ w ∷ ws) s (ap (λ l. w ∷ l) (picks_rest w ws (suc k) j (omega arith) ∙ picks_all ws (suc k) j (subst (λ z. rises_from (suc z) (keys_of ws) ≡ true) s ps.1) (subst (λ z. AllByRecursion (λ x. x < z) (keys_of ws)) (omega arith) b.1)))))
      | inr e ↦ rw (e, low_none ws k (suc w.0) (low (w.0) k ps.0) ps.1) (picks_all (w ∷ ws) (suc k) j (up w.0 k ps.0 e ps.1) (subst (λ z. AllByRecursion (λ x. x < z) (keys_of (w ∷ ws))) (omega arith) b))
    ]
  where
    low : (a k : ℕ) → not (nat_lt a k) ≡ true → k < suc a
    low a k h = grind (arith, nat_tests)

    up : (a k : ℕ) → not (nat_lt a k) ≡ true → (a == k) ≡ false → rises_from (suc a) (keys_of ws) ≡ true → rises_from (suc k) (a ∷ keys_of ws) ≡ true
    up a k h e q = rw (no_less a k h e) q
      where
        no_less : (a k : ℕ) → not (nat_lt a k) ≡ true → (a == k) ≡ false → nat_lt a (suc k) ≡ false
        no_less a k h e = grind (arith, nat_tests)

pub in_order-all : {A : Type 0} (n : ℕ) (m : Map A) → rises_from 0 (keys_of m) ≡ true → AllByRecursion (λ x. x < n) (keys_of m) → in_order n m ≡ m
in_order-all n m r b = picks_all m 0 n r (subst (λ z. AllByRecursion (λ x. x < z) (keys_of m)) (omega arith) b)

-- ---- the sids of texts

word_item : (v w : ℕ) (a b : List ℕ) → (if v == 2 then codes "sg-item-2" else codes "sg-item-1") ++ a ≡ (if w == 2 then codes "sg-item-2" else codes "sg-item-1") ++ b → a ≡ b
word_item v w a b e = (parts (if v == 2 then codes "sg-item-2" else codes "sg-item-1") (if w == 2 then codes "sg-item-2" else codes "sg-item-1") a b (item_word v ∙ sym (item_word w)) e).1

pub item_sid : (v w : ℕ) (s t : List ℕ) (a b c d l m i j : ℕ) (h k : List (Option (List ℕ))) → length s ≡ 32 → length t ≡ 32 → item_text_of v s a c l i h ≡ item_text_of w t b d m j k → s ≡ t
item_sid v w s t a b c d l m i j h k x y e = (parts s t _ _ (x ∙ sym y) (word_item v w _ _ e)).0

word_frame : (v w : ℕ) (a b : List ℕ) → frame_text_of v a ≡ frame_text_of w b → a ≡ b
word_frame v w a b e = (parts (if v == 2 then codes "sg-frame-2" else codes "sg-frame-1") (if w == 2 then codes "sg-frame-2" else codes "sg-frame-1") a b (frame_word v ∙ sym (frame_word w)) e).1

pub frame_sid : (v w : ℕ) (f g : Frame) → length f.sid ≡ 32 → length g.sid ≡ 32 → frame_text_of v (body f) ≡ frame_text_of w (body g) → f.sid ≡ g.sid
frame_sid v w f g x y e = (parts f.sid g.sid _ _ (x ∙ sym y) (tl (join_code f.join) (join_code g.join) _ _ (parts (magic f.version) (magic g.version) _ _ (magic_long f.version ∙ sym (magic_long g.version)) (word_frame v w (body f) (body g) e)).1)).0
  where
    tl : (a b : ℕ) (as_ bs : List ℕ) → a ∷ as_ ≡ b ∷ bs → as_ ≡ bs
    tl a b as_ bs e = cc

-- ---- the values of a step

none_found : (p : ℕ → Bool) (k j : ℕ) → find p (range_from k j) ≡ None → (x : ℕ) → k ≤ x → x < k + j → p x ≡ false
none_found p k zero e x l u = absurd (omega arith)
none_found p k (suc j) e x l u = elim (cases_Bool (p k)) [
  | inl d ↦ (let f = rw d at e in absurd (cc))
  | inr d ↦ elim (cases_Bool (k == x)) [
    | inl q ↦ (let s : k ≡ x = eqb-true k x q in subst (λ z. p z ≡ false) s d)
    | inr q ↦ none_found p (suc k) j (rw d at e) x (grind (arith, nat_tests)) (omega arith)
  ]
]

same_bool : (a b : Bool) → not (a && b || not a && not b) ≡ false → a ≡ b
same_bool true true h = refl
same_bool true false h = absurd (cc)
same_bool false true h = absurd (cc)
same_bool false false h = refl

abbrev Small : List ℕ → Type 0
Small ks = AllByRecursion (λ k. k < 256) ks

above_all : (y : ℕ) (ys zs : List ℕ) → Small zs → ((x : ℕ) → x < 256 → is_in x zs ≡ true → (nat_le x y && is_in x ys) ≡ false) → ((x : ℕ) → is_in x zs ≡ true → is_in x ys ≡ true) → AllByRecursion (λ z. suc y ≤ z) zs
above_all y ys [] s f w = tt
above_all y ys (z ∷ zs) s f w =
    let here : is_in z (z ∷ zs) ≡ true = rw (eq-eqb z z refl) refl in
    (low (nat_le_false z (f z s.0 here) (w z here)), above_all y ys zs s.1 (λ x l i. f x l (later x i)) (λ x i. w x (later x i)))
  where
    later : (x : ℕ) → is_in x zs ≡ true → is_in x (z ∷ zs) ≡ true
    later x i = elim (cases_Bool (z == x)) [ inl e ↦ rw e refl | inr e ↦ rw e i ]

    nat_le_false : (z : ℕ) → (nat_le z y && is_in z ys) ≡ false → is_in z ys ≡ true → nat_le z y ≡ false
    nat_le_false z h i = elim (cases_Bool (nat_le z y)) [ inl e ↦ (let f = rw (e, i) at h in absurd (cc)) | inr e ↦ e ]

    low : nat_le z y ≡ false → suc y ≤ z
    low h = grind (arith, nat_tests)

rise_all : (ks : List ℕ) (n : ℕ) → Small ks → ((x : ℕ) → x < 256 → is_out_of_order x ks ≡ false) → AllByRecursion (λ k. n ≤ k) ks → rises_from n ks ≡ true
rise_all [] n s f l = refl
rise_all (y ∷ ys) n s f l =
    rw (no_less y n l.0) (rise_all ys (suc y) s.1 (λ x h. (or_parts (nat_le x y && is_in x ys) (is_out_of_order x ys) (f x h)).1) (above_all y ys ys s.1 (λ x h i. (or_parts (nat_le x y && is_in x ys) (is_out_of_order x ys) (f x h)).0) (λ x i. i)))
  where
    no_less : (a n : ℕ) → n ≤ a → nat_lt a n ≡ false
    no_less a n h = grind (arith, nat_tests)

low_in : (ys : List ℕ) (x n : ℕ) → x < n → rises_from n ys ≡ true → is_in x ys ≡ false
low_in [] x n l r = refl
low_in (y ∷ ys) x n l r =
    elim (cases_Bool (nat_lt y n)) [
      | inl e ↦ (let f = rw e at r in absurd (cc))
      | inr e ↦ elim (cases_Bool (y == x)) [
        | inl d ↦ absurd (let s : y ≡ x = eqb-true y x d in grind (arith, nat_tests))
        | inr d ↦ rw d (low_in ys x (suc y) (grind (arith, nat_tests)) (rw e at r))
      ]
    ]

same_rising : (xs ys : List ℕ) (n : ℕ) → rises_from n xs ≡ true → rises_from n ys ≡ true → Small xs → Small ys → ((x : ℕ) → x < 256 → is_in x xs ≡ is_in x ys) → xs ≡ ys
same_rising [] [] n r q s t f = refl
same_rising [] (y ∷ ys) n r q s t f = (let e : false ≡ is_in y (y ∷ ys) = f y t.0 in let g : false ≡ true = rw (eq-eqb y y refl) at e in absurd (cc))
same_rising (x ∷ xs) [] n r q s t f = (let e : is_in x (x ∷ xs) ≡ false = f x s.0 in let g : true ≡ false = rw (eq-eqb x x refl) at e in absurd (cc))
same_rising (x ∷ xs) (y ∷ ys) n r q s t f =
    let rx : rises_from (suc x) xs ≡ true = (and_parts (not (nat_lt x n)) (rises_from (suc x) xs) r).1 in
    let ry : rises_from (suc y) ys ≡ true = (and_parts (not (nat_lt y n)) (rises_from (suc y) ys) q).1 in
    let same : x ≡ y = heads rx ry in
    let rest : xs ≡ ys = same_rising xs ys (suc x) rx (subst (λ z. rises_from (suc z) ys ≡ true) (sym same) ry) s.1 t.1 (λ z l. tails same rx ry z l) in
    ap (λ z. z ∷ xs) same ∙ ap (λ l. y ∷ l) rest
  where
    less : (a b : ℕ) (as_ bs : List ℕ) → rises_from (suc b) bs ≡ true → a < b → is_in a (b ∷ bs) ≡ false
    less a b as_ bs r l = elim (cases_Bool (b == a)) [ inl e ↦ absurd (let s : b ≡ a = eqb-true b a e in omega arith) | inr e ↦ rw e (low_in bs a (suc b) (omega arith) r) ]

    heads : rises_from (suc x) xs ≡ true → rises_from (suc y) ys ≡ true → x ≡ y
    heads rx ry =
        let a : is_in x (x ∷ xs) ≡ true = rw (eq-eqb x x refl) refl in
        let b : is_in y (y ∷ ys) ≡ true = rw (eq-eqb y y refl) refl in
        elim (cases_Bool (nat_lt x y)) [
          | inl e ↦ (let c : is_in x (y ∷ ys) ≡ false = less x y xs ys ry (lt_of x y e) in let d = f x s.0 in absurd (clash _ (sym d ∙ a) c))
          | inr e ↦ elim (cases_Bool (nat_lt y x)) [
            | inl e' ↦ (let c : is_in y (x ∷ xs) ≡ false = less y x ys xs rx (lt_of y x e') in let d = f y t.0 in absurd (clash _ (d ∙ b) c))
            | inr e' ↦ eq_of x y e e'
          ]
        ]
      where
        eq_of : (a b : ℕ) → nat_lt a b ≡ false → nat_lt b a ≡ false → a ≡ b
        eq_of a b h k = grind (arith, nat_tests)

    tails : x ≡ y → rises_from (suc x) xs ≡ true → rises_from (suc y) ys ≡ true → (z : ℕ) → z < 256 → is_in z xs ≡ is_in z ys
    tails same rx ry z l =
        elim (cases_Bool (x == z)) [
          | inl e ↦ (let sz : x ≡ z = eqb-true x z e in low_in xs z (suc x) (omega arith) rx ∙ sym (low_in ys z (suc y) (omega arith) ry))
          | inr e ↦ (let e' : (y == z) ≡ false = subst (λ w. (w == z) ≡ false) same e in let h : is_in z (x ∷ xs) ≡ is_in z (y ∷ ys) = f z l in rw (e, e') at h)
        ]

-- what the rows of an act say of its values
module _ (g : Graph) (is : IsGraph g) (label : ℕ) (values : Map Value) (small : Small (keys_of values)) (good : find (is_bad g label values) (below 256) ≡ None) where
  not_bad : (x : ℕ) → x < 256 → is_bad g label values x ≡ false
  not_bad x l = none_found (is_bad g label values) 0 256 good x (omega arith) (omega arith)

  parts_at : (x : ℕ) → x < 256 → (is_in x (writes g label) ≡ is_in x (keys_of values)) × (is_out_of_order x (keys_of values) ≡ false) × (list_any (λ (w : ℕ × Value). (w.0 == x) && not (is_typed g w)) values ≡ false)
  parts_at x l =
      let a = or_parts (not (is_in x (writes g label) && is_in x (keys_of values) || not (is_in x (writes g label)) && not (is_in x (keys_of values))) || is_out_of_order x (keys_of values)) (list_any (λ (w : ℕ × Value). (w.0 == x) && not (is_typed g w)) values) (not_bad x l) in
      let b = or_parts (not (is_in x (writes g label) && is_in x (keys_of values) || not (is_in x (writes g label)) && not (is_in x (keys_of values)))) (is_out_of_order x (keys_of values)) a.0 in
      (same_bool (is_in x (writes g label)) (is_in x (keys_of values)) b.0, b.1, a.1)

  zero_low : (ks : List ℕ) → AllByRecursion (λ k. 0 ≤ k) ks
  zero_low [] = tt
  zero_low (k ∷ ks) = (omega arith, zero_low ks)

  writes_small : Small (writes g label)
  writes_small = go (writes g label) (writes_below g is label)
    where
      go : (xs : List ℕ) → AllByRecursion (λ x. x < length g.variables) xs → Small xs
      go [] h = tt
      go (x ∷ xs) h = ((let a = h.0 in let b = is.sizes.1 in omega arith), go xs h.1)

  pub keys_are : keys_of values ≡ writes g label
  keys_are = same_rising (keys_of values) (writes g label) 0 (rise_all (keys_of values) 0 small (λ x l. (parts_at x l).1) (zero_low (keys_of values))) (writes_rise g is label) small writes_small (λ x l. sym (parts_at x l).0)

  pub typed_values : list_all (is_typed_or_hidden g) (shown values) ≡ true
  typed_values = go values small (λ x l. (parts_at x l).2)
    where
      go : (ws : Map Value) → Small (keys_of ws) → ((x : ℕ) → x < 256 → list_any (λ (w : ℕ × Value). (w.0 == x) && not (is_typed g w)) ws ≡ false) → list_all (is_typed_or_hidden g) (shown ws) ≡ true
      go [] s f = refl
      go (w ∷ ws) s f =
          let here = (or_parts ((w.0 == w.0) && not (is_typed g w)) (list_any (λ (v : ℕ × Value). (v.0 == w.0) && not (is_typed g v)) ws) (f w.0 s.0)).0 in
          let t : is_typed g w ≡ true = not-false (is_typed g w) (rw (eq-eqb w.0 w.0 refl) at here) in
          rw t (go ws s.1 (λ x l. (or_parts ((w.0 == x) && not (is_typed g w)) (list_any (λ (v : ℕ × Value). (v.0 == x) && not (is_typed g v)) ws) (f x l)).1))

-- openings whose confounders are made of the values
pub opened_keys : (F : ℕ × Value → List ℕ) (values : Map Value) → map (λ (o : Opening). o.variable) (openings_for values (map F values)) ≡ keys_of values
opened_keys F [] = refl
opened_keys F (v ∷ vs) = ap (λ l. v.0 ∷ l) (opened_keys F vs)

pub opened_values : (F : ℕ × Value → List ℕ) (values : Map Value) → V.values_of (openings_for values (map F values)) ≡ shown values
opened_values F [] = refl
opened_values F (v ∷ vs) = ap (λ l. (v.0, Some v.1) ∷ l) (opened_values F vs)
