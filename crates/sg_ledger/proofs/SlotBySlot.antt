-- What the first slots of a file represent, slot by slot.
use Rattle.std.proofs.Common.{◌≡◌, ◌≢◌, ◌⊎◌, inl, inr, ⊎_elim, ℕ, zero, suc, ◌+◌, ◌<◌, ◌≤◌, List, [], ◌∷◌, ◌++◌, length, get_or, Contains, refl, sym, ◌∙◌, ap, subst, arith, length-append}
use Rattle.std.specs.List.{All, AllPairs}
use Rattle.std.proofs.Math.ListN.{get_or-append}
use Rattle.std.proofs.lemmas.Bool.{cases_eq, cases_lt}
use Rattle.std.proofs.lemmas.List.{get_or_push}
use Rattle.std.proofs.lemmas.List.Elements.{All-push, Contains-get_or}
use Rattle.std.proofs.lemmas.List.Quantifiers.{all_pairs_push}
use Rattle.sg_ledger.specs.Format.{Join, slot_of, IsOpen, pair_of, pairs_of, IsLedger, SlotsRepresent, Represents, IsBadSlot, IsFirstBadSlot}

length-pairs_of : (file : List ℕ) (n : ℕ) → length (pairs_of file n) ≡ n
length-pairs_of file zero = refl
length-pairs_of file (suc n) =
    let so_far = length-pairs_of file n in
    omega (arith, so_far, length-append (pairs_of file n) (pair_of (slot_of file n) ∷ []))

-- the pairs of the first slots are the pairs of each
get_or-pairs_of : (file : List ℕ) (n k : ℕ) (d : Join) → k < n → get_or (pairs_of file n) k d ≡ pair_of (slot_of file k)
get_or-pairs_of file zero k d lt = absurd (omega (arith, lt))
get_or-pairs_of file (suc n) k d lt = elim (cases_eq k n) [
  | inl last ↦
      get_or_push (pairs_of file n) (pair_of (slot_of file n)) d k (length-pairs_of file n ∙ sym last)
      ∙ ap (λ (m : ℕ). pair_of (slot_of file m)) (sym last)
  | inr earlier ↦
      let below : k < n = omega (arith, lt, earlier) in
      get_or-append (pairs_of file n) (pair_of (slot_of file n) ∷ []) d k (omega (arith, below, length-pairs_of file n))
      ∙ get_or-pairs_of file n k d below
]

module _ (file : List ℕ) (n : ℕ) (joins : List Join) (so_far : SlotsRepresent file n joins) where
  -- each join is the pair of its slot
  pub join_at : (k : ℕ) (d : Join) → k < length joins → get_or joins k d ≡ pair_of (slot_of file k)
  join_at k d lt = ap (λ (js : List Join). get_or js k d) so_far.pairs ∙ get_or-pairs_of file (length joins) k d lt

  pub none_bad : (m : ℕ) → m < n → ¬ IsBadSlot file m
  none_bad m lt bad = elim (cases_lt m (length joins)) [
    | inr behind ↦ so_far.shut m behind lt bad.0
    | inl among ↦ ⊎_elim
        (λ role.
        let join : Join = pair_of (slot_of file m) in
        let below : (pair_of (slot_of file m)).1 < 16 = subst (λ (j : Join). j.1 < 16) (join_at m join among) (so_far.roles m join among) in
        absurd (omega (arith, role, below)))
        (λ rest. ⊎_elim
        (λ twice.
        let k = twice.0 in
        let join : Join = pair_of (slot_of file m) in
        let first : get_or joins k join ≡ pair_of (slot_of file k) = join_at k join (omega (arith, twice.1, among)) in
        let later : get_or joins m join ≡ pair_of (slot_of file m) = join_at m join among in
        so_far.differ k m join twice.1 among (first ∙ twice.3 ∙ sym later))
        (λ behind. behind.2 (so_far.gates behind.0 (omega (arith, behind.1, among))))
        rest)
        bad.1
  ]

  -- a shut slot adds nothing
  pub slot_shut : ¬ IsOpen (slot_of file n) → SlotsRepresent file (n + 1) joins
  slot_shut is_shut = record {
    fits = omega (arith, so_far.fits);
    gates = so_far.gates;
    pairs = so_far.pairs;
    shut = λ m behind lt. elim (cases_eq m n) [
      | inl last ↦ subst (λ (k : ℕ). ¬ IsOpen (slot_of file k)) (sym last) is_shut
      | inr earlier ↦ so_far.shut m behind (omega (arith, lt, earlier))
    ];
    roles = so_far.roles;
    differ = so_far.differ;
  }

  -- an open one behind none but open ones adds its pair
  pub slot_open : n ≡ length joins → IsOpen (slot_of file n) → (pair_of (slot_of file n)).1 < 16 → ¬ Contains joins (pair_of (slot_of file n))
      → SlotsRepresent file (n + 1) (joins ++ pair_of (slot_of file n) ∷ [])
  slot_open next is_open role absent =
      let join : Join = pair_of (slot_of file n) in
      let longer : length (joins ++ join ∷ []) ≡ length joins + 1 = length-append joins (join ∷ []) in
      let count : suc n ≡ length (joins ++ join ∷ []) = omega (arith, longer, next) in
      record {
        fits = omega (arith, longer, next);
        gates = λ m lt. elim (cases_eq m n) [
          | inl last ↦ subst (λ (k : ℕ). IsOpen (slot_of file k)) (sym last) is_open
          | inr earlier ↦ so_far.gates m (omega (arith, lt, earlier, longer, next))
        ];
        pairs =
            ap (λ (js : List Join). js ++ join ∷ []) (so_far.pairs ∙ ap (pairs_of file) (sym next))
            ∙ ap (pairs_of file) count;
        shut = λ m behind lt. absurd (omega (arith, behind, lt, longer, next));
        roles = All-push (λ (j : Join). j.1 < 16) joins join so_far.roles role;
        differ = all_pairs_push (λ (a b : Join). a ≢ b) joins join so_far.differ
            (λ k d lt same. absent (subst (Contains joins) same (Contains-get_or joins k d lt)));
      }

  -- one that no ledger has is the first such
  pub slot_bad : n < 65536 → IsOpen (slot_of file n)
      → ((16 ≤ (pair_of (slot_of file n)).1) ⊎ Contains joins (pair_of (slot_of file n)) ⊎ (n ≡ length joins → ⊥))
      → IsFirstBadSlot file n
  slot_bad lt is_open cause = (
    lt,
    (
      is_open,
      ⊎_elim
          (λ role. inl role)
          (λ rest. inr (⊎_elim
          (λ twice.
          let k = twice.0 in
          inl (k, omega (arith, twice.1, so_far.fits), so_far.gates k twice.1, sym (join_at k _ twice.1) ∙ twice.2))
          (λ behind. inr (length joins, omega (arith, behind, so_far.fits), so_far.shut (length joins) (omega arith) (omega (arith, behind, so_far.fits))))
          rest))
          cause,
    ),
    none_bad,
  )

  -- one that was read and is none of those
  pub slot_read : (slot : List ℕ) (after : List Join) → slot ≡ slot_of file n → (IsOpen slot → n ≡ length joins) → (IsOpen slot → (pair_of slot).1 < 16)
      → (IsOpen slot → ¬ Contains joins (pair_of slot)) → (IsOpen slot → after ≡ joins ++ pair_of slot ∷ []) → (¬ IsOpen slot → after ≡ joins)
      → SlotsRepresent file (n + 1) after
  slot_read slot after is next role absent added same = elim (cases_eq (get_or slot 0 0) 1) [
    | inl is_open ↦ subst (SlotsRepresent file (n + 1)) (sym (added is_open))
        (subst (λ (s : List ℕ). SlotsRepresent file (n + 1) (joins ++ pair_of s ∷ [])) (sym is)
        (slot_open (next is_open) (subst IsOpen is is_open) (subst (λ (s : List ℕ). (pair_of s).1 < 16) is (role is_open)) (subst (λ (s : List ℕ). ¬ Contains joins (pair_of s)) is (absent is_open))))
    | inr is_shut ↦ subst (SlotsRepresent file (n + 1)) (sym (same is_shut)) (slot_shut (subst (λ (s : List ℕ). ¬ IsOpen s) is is_shut))
  ]

  -- one that was read and is one of those
  pub slot_refused : (slot : List ℕ) → slot ≡ slot_of file n → n < 65536 → IsOpen slot
      → ((16 ≤ (pair_of slot).1) ⊎ Contains joins (pair_of slot) ⊎ (n ≡ length joins → ⊥)) → IsFirstBadSlot file n
  slot_refused slot is lt is_open cause =
      slot_bad lt (subst IsOpen is is_open)
      (subst (λ (s : List ℕ). (16 ≤ (pair_of s).1) ⊎ Contains joins (pair_of s) ⊎ (n ≡ length joins → ⊥)) is cause)

no_more : (file : List ℕ) (n : ℕ) (first second : List Join) → SlotsRepresent file n first → SlotsRepresent file n second → length first ≤ length second
no_more file n first second one two = elim (cases_lt (length second) (length first)) [
  | inl lt ↦ absurd (two.shut (length second) (omega arith) (omega (arith, lt, one.fits)) (one.gates (length second) lt))
  | inr le ↦ le
]

-- slots represent one list of joins
pub only_joins : (file : List ℕ) (n : ℕ) (first second : List Join) → SlotsRepresent file n first → SlotsRepresent file n second → first ≡ second
only_joins file n first second one two =
    let same : length first ≡ length second = omega (arith, no_more file n first second one two, no_more file n second first two one) in
    one.pairs ∙ ap (pairs_of file) same ∙ sym two.pairs

-- and then none of them is bad
pub represents_not_bad : (file : List ℕ) (joins : List Join) (n : ℕ) → Represents file joins → ¬ IsFirstBadSlot file n
represents_not_bad file joins n represents bad = none_bad file 65536 joins represents.slots n bad.0 bad.1
