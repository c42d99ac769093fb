-- Steps of a search.
use Rattle.std.proofs.Common.{◌≡◌, ℕ, suc, ◌+◌, ◌<◌, ◌≤◌, Bool, true, false, ◌⊎◌, List, [], ◌∷◌, ◌++◌, length, get_or, set, replicate, refl, sym, ◌∙◌, ap, subst, inl, inr, arith}
use Rattle.std.specs.Prelude.{count_by, sum_by}
use Rattle.std.proofs.lemmas.List.Sums.{sum_by-set, sum_by-cons}
use Rattle.std.proofs.lemmas.List.{get_or-set_same, get_or-set_other, length-replicate, length-set, get_or_append_left, get_or_push}
use mathlib.Core.Bool.{cond}
use Rattle.sg_model.specs.Shape.{Shape, source, target}
use Rattle.sg_model.specs.Claims.{Claim, bit_after}
use Rattle.sg_model.proofs.Small.{clash, same_or_not, length-more, upto}
use Rattle.sg_claims.specs.Index.{index_of}
use Rattle.sg_claims.specs.Search.{Any, IsSound, entry_at, IsLed, IsEntered, IsSearch}
use Rattle.sg_claims.specs.declared.search.Entry.{Entry}
use Rattle.sg_claims.proofs.Labelled.{listed_none}

-- ---- how many are seen

abbrev one_if : Bool → ℕ
one_if b = cond b 1 0

count-set : (xs : List Bool) (i : ℕ) → i < length xs → get_or xs i false ≡ false → count_by (λ b. b) (set xs i true) ≡ count_by (λ b. b) xs + 1
count-set xs i l n =
    let e : sum_by one_if (set xs i true) + one_if (get_or xs i false) ≡ sum_by one_if xs + 1 = sum_by-set one_if xs i true false l in
    let e' : sum_by one_if (set xs i true) + 0 ≡ sum_by one_if xs + 1 = rw n at e in
    omega arith

count-false : (size : ℕ) → count_by (λ b. b) (replicate size false) ≡ 0
count-false size = of (replicate size false) (listed_none size)
  where
    of : (xs : List Bool) → ((i : ℕ) → get_or xs i false ≡ false) → count_by (λ b. b) xs ≡ 0
    of [] h = refl
    of (x ∷ xs) h =
        let first : x ≡ false = h 0 in
        let rest = of xs (λ i. h (suc i)) in
        sum_by-cons one_if x xs ∙ rw (first, rest) refl

-- ---- indices of nodes with bits

-- no two nodes with bits have one index
one_index : (m n : ℕ) (a b : Bool) → index_of m a ≡ index_of n b → (m ≡ n) × (a ≡ b)
one_index m n true true e = (omega arith, refl)
one_index m n false false e = (omega arith, refl)
one_index m n true false e = absurd (omega arith)
one_index m n false true e = absurd (omega arith)

pub index_within : (n : ℕ) (bit : Bool) → n < 256 → index_of n bit < 512
index_within n true l = omega arith
index_within n false l = omega arith

-- ---- entries with one more at the end

entry_still : (entries : List Entry) (x : Entry) (i : ℕ) → i < length entries → entry_at (entries ++ x ∷ []) i ≡ entry_at entries i
entry_still entries x i l = get_or_append_left entries (x ∷ []) (record { node = 0; bit = false; from = 0; last = 0 }) i l

entry_new : (entries : List Entry) (x : Entry) (i : ℕ) → i ≡ length entries → entry_at (entries ++ x ∷ []) i ≡ x
entry_new entries x i e = get_or_push entries x (record { node = 0; bit = false; from = 0; last = 0 }) i (sym e)

-- ---- steps

-- a search begins at the start, without the bit
pub search_begins : (g : Shape) (c : Claim) (first : Entry) → first.node ≡ 0 → first.bit ≡ false → IsSearch g c 0 Any (first ∷ []) (set (replicate 512 false) 0 true)
search_begins g c first node bit = record {
  found = record {
    size = length-set (replicate 512 false) 0 true ∙ length-replicate 512 false;
    counted = sym (count-set (replicate 512 false) 0 room (listed_none 512 0) ∙ ap (λ n. n + 1) (count-false 512));
    begun = omega arith;
    start = (node, bit);
    table = λ n b h. (let e = at_start n b h in (0, omega arith, node ∙ e.0, bit ∙ e.1));
    noted = λ i l. (let zero' : i ≡ 0 = omega arith in subst (λ j. get_or (set (replicate 512 false) 0 true) (index_of (entry_at (first ∷ []) j).node (entry_at (first ∷ []) j).bit) false ≡ true) (sym zero')
        (ap (λ n. get_or (set (replicate 512 false) 0 true) (index_of n first.bit) false) node ∙ ap (λ b. get_or (set (replicate 512 false) 0 true) (index_of 0 b) false) bit ∙ get_or-set_same (replicate 512 false) 0 true false room));
    led = λ i p l. absurd (omega arith);
    rises = λ i j p b l. absurd (omega arith);
  };
  behind = λ i p l. absurd (omega arith);
  closed = λ i e m l d s. inr (omega arith, tt);
  sound = λ i b l. absurd (omega arith);
}
  where
    room : 0 < length (replicate 512 false)
    room = omega (arith, length-replicate 512 false)

    at_start : (n : ℕ) (b : Bool) → get_or (set (replicate 512 false) 0 true) (index_of n b) false ≡ true → (0 ≡ n) × (false ≡ b)
    at_start n b h =
        elim (same_or_not (index_of n b) 0) [
          | inl same ↦ one_index 0 n false b (sym same)
          | inr other ↦ clash (get_or (set (replicate 512 false) 0 true) (index_of n b) false) h (get_or-set_other (replicate 512 false) 0 (index_of n b) true false other ∙ listed_none 512 (index_of n b))
        ]

-- what was left is done or still left
pub search_with : (g : Shape) (c : Claim) (at : ℕ) (left left' : ℕ → Type 0) (entries : List Entry) (seen : List Bool) → IsSearch g c at left entries seen
    → ((e : ℕ) → e < length g.edges → source g e ≡ (entry_at entries at).node → left e → IsEntered g c entries at e ⊎ left' e) → ((e : ℕ) → left' e → left e) → IsSearch g c at left' entries seen
search_with g c at left left' entries seen x h back = record {
  found = x.found;
  behind = λ i p l. elim (x.behind i p l) [ inl y ↦ inl y | inr q ↦ inr (q.0, λ e k. q.1 e (back e k)) ];
  closed = λ i e m l d s. elim (x.closed i e m l d s) [
    | inl t ↦ inl t
    | inr q ↦ elim (h e d (s ∙ ap (λ j. (entry_at entries j).node) q.0) q.1) [ inl t ↦ inl (subst (λ j. IsEntered g c entries j e) (sym q.0) t) | inr k ↦ inr (q.0, k) ]
  ];
  sound = x.sound;
}

-- once no label of the entry at `at` is left, the search goes on to the next one
pub goes_on : (g : Shape) (c : Claim) (at : ℕ) (entries : List Entry) (seen : List Bool) → IsSearch g c at (λ _. ⊥) entries seen → IsSound g c (entry_at entries at).node (entry_at entries at).bit → IsSearch g c (at + 1) Any entries seen
goes_on g c at entries seen x sound = record {
  found = x.found;
  behind = λ i p l. inl (elim (x.behind i p l) [ inl y ↦ omega arith | inr q ↦ (let e = q.0 in omega arith) ]);
  closed = λ i e m l d s. elim (same_or_not i (at + 1)) [
    | inl same ↦ inr (same, tt)
    | inr other ↦ elim (x.closed i e (omega arith) l d s) [ inl t ↦ inl t | inr q ↦ absurd q.1 ]
  ];
  sound = λ i b l. elim (upto i at b) [ inl y ↦ x.sound i y l | inr same ↦ subst (λ j. IsSound g c (entry_at entries j).node (entry_at entries j).bit) (sym same) sound ];
}

-- where a label that is left leads was found before
pub known : (g : Shape) (c : Claim) (at : ℕ) (left : ℕ → Type 0) (entries : List Entry) (seen : List Bool) (e : ℕ) → IsSearch g c at left entries seen → left e
    → get_or seen (index_of (target g e) (bit_after c (entry_at entries at).bit e)) false ≡ true → IsEntered g c entries at e
known g c at left entries seen e x l h =
    let t = x.found.table (target g e) (bit_after c (entry_at entries at).bit e) h in
    record {
      index = t.0;
      within = t.1;
      node = t.2;
      has_bit = t.3;
      in_time = elim (same_or_not t.0 0) [
        | inl first ↦ inl first
        | inr other ↦ inr (elim (x.behind t.0 (omega arith) t.1) [ inl y ↦ inl y | inr q ↦ inr (q.0, (let less = q.1 e l in omega arith)) ])
      ];
    }

-- where a label leads that is left was not found, and is entered
module _ (g : Shape) (c : Claim) (at : ℕ) (left left' : ℕ → Type 0) (entries : List Entry) (seen : List Bool) (new : Entry) (x : IsSearch g c at left entries seen) (there : at < length entries)
    (node : new.node ≡ target g new.last) (has_bit : new.bit ≡ bit_after c (entry_at entries at).bit new.last) (from : new.from ≡ at)
    (is_left : left new.last) (is_edge : new.last < length g.edges) (leaves : source g new.last ≡ (entry_at entries at).node) (small : new.node < 256)
    (unseen : get_or seen (index_of new.node new.bit) false ≡ false)
    (rest : (e : ℕ) → left e → (e ≡ new.last) ⊎ left' e) (back : (e : ℕ) → left' e → left e) (greater : (e : ℕ) → left' e → new.last < e) where
  abbrev more : List Entry
  more = entries ++ new ∷ []

  still : (i : ℕ) → i < length entries → entry_at more i ≡ entry_at entries i
  still i l = entry_still entries new i l

  newest : (i : ℕ) → i ≡ length entries → entry_at more i ≡ new
  newest i e = entry_new entries new i e

  size_more : length more ≡ length entries + 1
  size_more = length-more entries new

  -- an entry is an old one, or the new one
  old_or_new : (i : ℕ) → i < length more → (i < length entries) ⊎ (i ≡ length entries)
  old_or_new i l = upto i (length entries) (omega (arith, size_more))

  room : index_of new.node new.bit < length seen
  room = omega (arith, x.found.size, index_within new.node new.bit small)

  led_still : (i : ℕ) → 0 < i → i < length entries → IsLed g c more i
  led_still i p l =
      let d = x.found.led i p l in
      let f = d.earlier in
      let one = still i l in
      let two = still (entry_at entries i).from (omega arith) in
      let from' : (entry_at more i).from ≡ (entry_at entries i).from = ap (λ (y : Entry). y.from) one in
      let last' : (entry_at more i).last ≡ (entry_at entries i).last = ap (λ (y : Entry). y.last) one in
      let before : entry_at more (entry_at more i).from ≡ entry_at entries (entry_at entries i).from = ap (entry_at more) from' ∙ two in
      record {
        earlier = omega arith;
        is_edge = subst (λ k. k < length g.edges) (sym last') d.is_edge;
        leaves = ap (source g) last' ∙ d.leaves ∙ sym (ap (λ (y : Entry). y.node) before);
        leads = ap (target g) last' ∙ d.leads ∙ sym (ap (λ (y : Entry). y.node) one);
        has_bit = ap (λ (y : Entry). bit_after c y.bit (entry_at more i).last) before ∙ ap (bit_after c (entry_at entries (entry_at entries i).from).bit) last' ∙ d.has_bit ∙ sym (ap (λ (y : Entry). y.bit) one);
      }

  led_new : (i : ℕ) → i ≡ length entries → IsLed g c more i
  led_new i same =
      let one = newest i same in
      let from' : (entry_at more i).from ≡ at = ap (λ (y : Entry). y.from) one ∙ from in
      let last' : (entry_at more i).last ≡ new.last = ap (λ (y : Entry). y.last) one in
      let before : entry_at more (entry_at more i).from ≡ entry_at entries at = ap (entry_at more) from' ∙ still at there in
      record {
        earlier = omega arith;
        is_edge = subst (λ k. k < length g.edges) (sym last') is_edge;
        leaves = ap (source g) last' ∙ leaves ∙ sym (ap (λ (y : Entry). y.node) before);
        leads = ap (target g) last' ∙ sym node ∙ sym (ap (λ (y : Entry). y.node) one);
        has_bit = ap (λ (y : Entry). bit_after c y.bit (entry_at more i).last) before ∙ ap (bit_after c (entry_at entries at).bit) last' ∙ sym has_bit ∙ sym (ap (λ (y : Entry). y.bit) one);
      }

  entered_still : (i e : ℕ) → i < length entries → IsEntered g c entries i e → IsEntered g c more i e
  entered_still i e l t =
      let one = still t.index t.within in
      record {
        index = t.index;
        within = let w = t.within in omega (arith, size_more);
        node = ap (λ (y : Entry). y.node) one ∙ t.node;
        has_bit = ap (λ (y : Entry). y.bit) one ∙ t.has_bit ∙ sym (ap (λ (y : Entry). bit_after c y.bit e) (still i l));
        in_time = subst (λ (y : Entry). (t.index ≡ 0) ⊎ (y.from < i) ⊎ ((y.from ≡ i) × (y.last ≤ e))) (sym one) t.in_time;
      }

  -- and now the label leads to what was found
  entered_now : IsEntered g c more at new.last
  entered_now =
      let one = newest (length entries) refl in
      record {
        index = length entries;
        within = omega (arith, size_more);
        node = ap (λ (y : Entry). y.node) one ∙ node;
        has_bit = ap (λ (y : Entry). y.bit) one ∙ has_bit ∙ sym (ap (λ (y : Entry). bit_after c y.bit new.last) (still at there));
        in_time = subst (λ (y : Entry). (length entries ≡ 0) ⊎ (y.from < at) ⊎ ((y.from ≡ at) × (y.last ≤ new.last))) (sym one) (inr (inr (from, omega arith)));
      }

  pub entered : IsSearch g c at left' more (set seen (index_of new.node new.bit) true)
  entered = record {
    found = record {
      size = length-set seen (index_of new.node new.bit) true ∙ x.found.size;
      counted = size_more ∙ ap (λ n. n + 1) x.found.counted ∙ sym (count-set seen (index_of new.node new.bit) room unseen);
      begun = omega (arith, size_more);
      start = (ap (λ (y : Entry). y.node) (still 0 x.found.begun) ∙ x.found.start.0, ap (λ (y : Entry). y.bit) (still 0 x.found.begun) ∙ x.found.start.1);
      table = λ n bit h. elim (same_or_not (index_of n bit) (index_of new.node new.bit)) [
        | inl same ↦ (let e = one_index new.node n new.bit bit (sym same) in let one = newest (length entries) refl in
            (length entries, omega (arith, size_more), ap (λ (y : Entry). y.node) one ∙ e.0, ap (λ (y : Entry). y.bit) one ∙ e.1))
        | inr other ↦ (let t = x.found.table n bit (sym (get_or-set_other seen (index_of new.node new.bit) (index_of n bit) true false other) ∙ h) in let one = still t.0 t.1 in
            (t.0, (let w = t.1 in omega (arith, size_more)), ap (λ (y : Entry). y.node) one ∙ t.2, ap (λ (y : Entry). y.bit) one ∙ t.3))
      ];
      noted = λ i l. elim (old_or_new i l) [
        | inl y ↦ subst (λ (z : Entry). get_or (set seen (index_of new.node new.bit) true) (index_of z.node z.bit) false ≡ true) (sym (still i y)) (elim (same_or_not (index_of (entry_at entries i).node (entry_at entries i).bit) (index_of new.node new.bit)) [
          | inl same ↦ ap (λ k. get_or (set seen (index_of new.node new.bit) true) k false) same ∙ get_or-set_same seen (index_of new.node new.bit) true false room
          | inr other ↦ get_or-set_other seen (index_of new.node new.bit) (index_of (entry_at entries i).node (entry_at entries i).bit) true false other ∙ x.found.noted i y
        ])
        | inr same ↦ subst (λ (z : Entry). get_or (set seen (index_of new.node new.bit) true) (index_of z.node z.bit) false ≡ true) (sym (newest i same)) (get_or-set_same seen (index_of new.node new.bit) true false room)
      ];
      led = λ i p l. elim (old_or_new i l) [ inl y ↦ led_still i p y | inr same ↦ led_new i same ];
      rises = λ i j p b l. elim (old_or_new j l) [
        | inl y ↦ rises_old i j p b y
        | inr same ↦ rises_new i j p b same
      ];
    };
    behind = λ i p l. elim (old_or_new i l) [
      | inl y ↦ subst (λ (z : Entry). (z.from < at) ⊎ ((z.from ≡ at) × ((e : ℕ) → left' e → z.last < e))) (sym (still i y)) (elim (x.behind i p y) [ inl less ↦ inl less | inr q ↦ inr (q.0, λ e k. q.1 e (back e k)) ])
      | inr same ↦ subst (λ (z : Entry). (z.from < at) ⊎ ((z.from ≡ at) × ((e : ℕ) → left' e → z.last < e))) (sym (newest i same)) (inr (from, greater))
    ];
    closed = λ i e m l d s. (let y : i < length entries = omega arith in
        elim (x.closed i e m y d (s ∙ ap (λ (z : Entry). z.node) (still i y))) [
          | inl t ↦ inl (entered_still i e y t)
          | inr q ↦ elim (rest e q.1) [
            | inl same ↦ inl (subst (λ k. IsEntered g c more i k) (sym same) (subst (λ j. IsEntered g c more j new.last) (sym q.0) entered_now))
            | inr k ↦ inr (q.0, k)
          ]
        ]);
    sound = λ i b l. (let y : i < length entries = omega arith in subst (λ (z : Entry). IsSound g c z.node z.bit) (sym (still i y)) (x.sound i b y));
  }
    where
      rises_old : (i j : ℕ) → 0 < i → i < j → j < length entries → ((entry_at more i).from < (entry_at more j).from) ⊎ (((entry_at more i).from ≡ (entry_at more j).from) × ((entry_at more i).last < (entry_at more j).last))
      rises_old i j p b l =
          subst (λ (z : Entry). (z.from < (entry_at more j).from) ⊎ ((z.from ≡ (entry_at more j).from) × (z.last < (entry_at more j).last))) (sym (still i (omega arith)))
          (subst (λ (z : Entry). ((entry_at entries i).from < z.from) ⊎ (((entry_at entries i).from ≡ z.from) × ((entry_at entries i).last < z.last))) (sym (still j l)) (x.found.rises i j p b l))

      rises_new : (i j : ℕ) → 0 < i → i < j → j ≡ length entries → ((entry_at more i).from < (entry_at more j).from) ⊎ (((entry_at more i).from ≡ (entry_at more j).from) × ((entry_at more i).last < (entry_at more j).last))
      rises_new i j p b same =
          subst (λ (z : Entry). (z.from < (entry_at more j).from) ⊎ ((z.from ≡ (entry_at more j).from) × (z.last < (entry_at more j).last))) (sym (still i (omega arith)))
          (subst (λ (z : Entry). ((entry_at entries i).from < z.from) ⊎ (((entry_at entries i).from ≡ z.from) × ((entry_at entries i).last < z.last))) (sym (newest j same))
          (elim (x.behind i p (omega arith)) [ inl y ↦ inl (omega arith) | inr q ↦ inr (q.0 ∙ sym from, q.1 new.last is_left) ]))
