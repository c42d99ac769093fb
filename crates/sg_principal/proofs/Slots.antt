-- The slots of a ledger represent one list of joins, or one of them is the first that no ledger has.
use Rattle.std.proofs.Common.{◌≡◌, ◌⊎◌, inl, inr, ℕ, zero, suc, ◌<◌, ◌≤◌, List, [], ◌∷◌, length, get_or, refl, sym, ◌∙◌, ap, subst, arith, length-append}
use Rattle.std.proofs.Math.ListN.{get_or-append}
use Rattle.std.proofs.lemmas.Bool.{cases_eq, cases_lt}
use Rattle.std.proofs.lemmas.List.{get_or_push}
use Rattle.sg_compile.specs.Laws.{Surely}
use Rattle.sg_compile.proofs.Sure.{least, so, sure}
use Rattle.sg_ledger.specs.Format.{Join, slot_of, IsOpen, pair_of, pairs_of, IsLedger, SlotsRepresent, Represents, IsBadSlot, IsFirstBadSlot}

module _ (file : List ℕ) where
  length-pairs_of : (n : ℕ) → length (pairs_of file n) ≡ n
  length-pairs_of zero = refl
  length-pairs_of (suc n) =
      let before = length-pairs_of n in
      omega (arith, before, length-append (pairs_of file n) (pair_of (slot_of file n) ∷ []))

  -- each of the first pairs is that of its slot
  pair_at : (n k : ℕ) (d : Join) → k < n → get_or (pairs_of file n) k d ≡ pair_of (slot_of file k)
  pair_at zero k d lt = absurd (omega (arith, lt))
  pair_at (suc n) k d lt = elim (cases_eq k n) [
    | inl last ↦
        get_or_push (pairs_of file n) (pair_of (slot_of file n)) d k (length-pairs_of n ∙ sym last)
        ∙ ap (λ (m : ℕ). pair_of (slot_of file m)) (sym last)
    | inr other ↦
        let below : k < n = omega (arith, lt, other) in
        get_or-append (pairs_of file n) (pair_of (slot_of file n) ∷ []) d k (omega (arith, below, length-pairs_of n))
        ∙ pair_at n k d below
  ]

  -- ---- joins that are represented

  no_more : (a b : List Join) → SlotsRepresent file 65536 a → SlotsRepresent file 65536 b → length a ≤ length b
  no_more a b in_a in_b = elim (cases_lt (length b) (length a)) [
    | inl lt ↦ absurd (in_b.shut (length b) (omega arith) (omega (arith, lt, in_a.fits)) (in_a.gates (length b) lt))
    | inr le ↦ le
  ]

  pub one_list : (a b : List Join) → Represents file a → Represents file b → a ≡ b
  one_list a b in_a in_b =
      let same : length a ≡ length b = omega (arith, no_more a b in_a.slots in_b.slots, no_more b a in_b.slots in_a.slots) in
      (in_a.slots).pairs ∙ ap (pairs_of file) same ∙ sym (in_b.slots).pairs

  pub none_bad : (joins : List Join) (n : ℕ) → Represents file joins → IsFirstBadSlot file n → ⊥
  none_bad joins n represents bad = elim (cases_lt n (length joins)) [
    | inr behind ↦ slots.shut n behind bad.0 bad.1.0
    | inl among ↦ elim bad.1.1 [
      | inl role ↦
          let below : (pair_of (slot_of file n)).1 < 16 = subst (λ (j : Join). j.1 < 16) (join_at n among) (slots.roles n d among) in
          absurd (omega (arith, role, below))
      | inr (inl twice) ↦ slots.differ twice.0 n d twice.1 among (join_at twice.0 (omega (arith, twice.1, among)) ∙ twice.3 ∙ sym (join_at n among))
      | inr (inr behind) ↦ behind.2 (slots.gates behind.0 (omega (arith, behind.1, among)))
    ]
  ]
    where
      slots : SlotsRepresent file 65536 joins
      slots = represents.slots

      d : Join
      d = ([], 0)

      join_at : (k : ℕ) → k < length joins → get_or joins k d ≡ pair_of (slot_of file k)
      join_at k lt = ap (λ (js : List Join). get_or js k d) slots.pairs ∙ pair_at (length joins) k d lt

  -- ---- bad slots

  no_later : (m n : ℕ) → IsFirstBadSlot file m → IsFirstBadSlot file n → m ≤ n
  no_later m n at_m at_n = elim (cases_lt n m) [ inl lt ↦ absurd (at_m.2 n lt at_n.1) | inr le ↦ le ]

  pub one_bad : (m n : ℕ) → IsFirstBadSlot file m → IsFirstBadSlot file n → m ≡ n
  one_bad m n at_m at_n = omega (arith, no_later m n at_m at_n, no_later n m at_n at_m)

  -- ---- one or the other

  abbrev IsBad : ℕ → Type 0
  IsBad n = (n < 65536) × IsBadSlot file n

  -- no join stands in this slot: it is shut, or behind the last one
  abbrev HasNone : ℕ → Type 0
  HasNone n = (65536 ≤ n) ⊎ (¬ IsOpen (slot_of file n))

  -- if no slot is bad, the pairs before the first that has none are represented
  represented : IsLedger file → ((n : ℕ) → IsBad n → ⊥) → (k : ℕ) → HasNone k → ((n : ℕ) → n < k → HasNone n → ⊥) → Represents file (pairs_of file k)
  represented ledger none k here none_below = record {
    ledger = ledger;
    slots = record {
      fits = omega (arith, count, within);
      gates = λ n lt. gate n (among n lt);
      pairs = ap (pairs_of file) (sym count);
      shut = λ n le lt is_open. elim (cases_eq n k) [
        | inl same ↦ is_shut (omega (arith, same, lt)) (subst (λ (m : ℕ). IsOpen (slot_of file m)) same is_open)
        | inr other ↦
            let behind : k < n = omega (arith, count, le, other) in
            none n (lt, (is_open, inr (inr (k, behind, is_shut (omega (arith, behind, lt))))))
      ];
      roles = λ n d lt. elim (cases_lt (get_or (pairs_of file k) n d).1 16) [
        | inl role ↦ role
        | inr role ↦ absurd (none n (below n lt, (gate n (among n lt), inl (subst (λ (j : Join). 16 ≤ j.1) (pair_at k n d (among n lt)) role))))
      ];
      differ = λ m n d before lt same.
          let first : m < k = omega (arith, before, among n lt) in
          none n (below n lt, (gate n (among n lt), inr (inl (m, before, gate m first, sym (pair_at k m d first) ∙ same ∙ pair_at k n d (among n lt)))));
    };
  }
    where
      count : length (pairs_of file k) ≡ k
      count = length-pairs_of k

      within : k ≤ 65536
      within = elim (cases_lt 65536 k) [ inl lt ↦ absurd (none_below 65536 lt (inl (omega arith))) | inr le ↦ le ]

      is_shut : k < 65536 → ¬ IsOpen (slot_of file k)
      is_shut lt = elim here [ inl behind ↦ absurd (omega (arith, lt, behind)) | inr shut ↦ shut ]

      among : (n : ℕ) → n < length (pairs_of file k) → n < k
      among n lt = omega (arith, count, lt)

      below : (n : ℕ) → n < length (pairs_of file k) → n < 65536
      below n lt = omega (arith, among n lt, within)

      gate : (n : ℕ) → n < k → IsOpen (slot_of file n)
      gate n lt = elim (cases_eq (get_or (slot_of file n) 0 0) 1) [ inl is_open ↦ is_open | inr shut ↦ absurd (none_below n lt (inr shut)) ]

  pub joins_or_bad : IsLedger file → Surely (((joins : List Join) × Represents file joins) ⊎ ((n : ℕ) × IsFirstBadSlot file n))
  joins_or_bad ledger =
      so (least IsBad)
      (λ bad. elim bad [
        | inr n ↦ sure (inr (n.0, ((n.1).here.0, (n.1).here.1, λ m lt is_bad. (n.1).none_below m lt (omega (arith, lt, (n.1).here.0), is_bad))))
        | inl none ↦
            so (least HasNone)
            (λ end. elim end [
              | inl nowhere ↦ absurd (nowhere 65536 (inl (omega arith)))
              | inr k ↦ sure (inl (pairs_of file k.0, represented ledger none k.0 (k.1).here (k.1).none_below))
            ])
      ])
