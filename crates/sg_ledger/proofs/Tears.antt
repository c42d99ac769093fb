-- What a write that a crash cuts short leaves of the slots of a ledger.
use Rattle.std.proofs.Common.{◌≡◌, ◌⊎◌, inl, inr, ⊎_elim, ℕ, suc, ◌+◌, ◌-◌, ◌*◌, ◌<◌, ◌≤◌, max, List, [], ◌∷◌, ◌++◌, length, take, drop, get_or, Contains, refl, sym, ◌∙◌, ap, subst, arith, length-append, length-drop, length-take, length-take-le, take-append-drop, take-take, drop-drop, get_or-take, get_or-drop}
use Rattle.std.proofs.Math.ListN.{get_or-append}
use Rattle.std.proofs.lemmas.Bool.{cases_eq, cases_lt}
use Rattle.std.proofs.lemmas.List.{drop-take, take_at, drop_at, get_or_push}
use Rattle.sg_ledger.specs.Disk.{overlaid, Torn}
use Rattle.sg_ledger.specs.Format.{Join, magic, slot_of, IsOpen, pair_of, pairs_of, SlotsRepresent, Represents, RepresentsOneOf}
use Rattle.sg_ledger.proofs.SlotBySlot.{slot_shut, slot_open}

-- a write that changes nothing
pub torn_not : (at n : ℕ) (file : List ℕ) → Torn at n file file
torn_not at n file = record { before = refl; after = refl; no_shorter = omega arith; no_longer = omega arith }

-- how long a file is after a write
pub overlaid_long : (file : List ℕ) (at : ℕ) (bytes : List ℕ) → at ≤ length file
    → length (overlaid file at bytes) ≡ at + (length bytes + (length file - (at + length bytes)))
overlaid_long file at bytes within =
    let prefix : length (take at file) ≡ at = length-take-le at file within in
    omega (arith, length-append (take at file) (bytes ++ drop (at + length bytes) file), prefix, length-append bytes (drop (at + length bytes) file), length-drop (at + length bytes) file)

-- a write that is done
pub torn_whole : (file : List ℕ) (at : ℕ) (bytes : List ℕ) → at ≤ length file → Torn at (length bytes) file (overlaid file at bytes)
torn_whole file at bytes within =
    let prefix : length (take at file) ≡ at = length-take-le at file within in
    let long = overlaid_long file at bytes within in
    record {
      before = take_at (take at file) (bytes ++ drop (at + length bytes) file) at prefix;
      after =
          sym (drop-drop (length bytes) at (overlaid file at bytes))
          ∙ ap (drop (length bytes)) (drop_at (take at file) (bytes ++ drop (at + length bytes) file) at prefix)
          ∙ drop_at bytes (drop (at + length bytes) file) (length bytes) refl;
      no_shorter = omega (arith, long);
      no_longer = omega (arith, long, within);
    }

-- files of one length that agree on the head and on each slot but one
pub record AgreeBut (k : ℕ) (old new : List ℕ) : Type 0 where
  pub same_length : length new ≡ length old
  pub head : take 8 new ≡ take 8 old
  pub slots : (n : ℕ) → (n ≡ k → ⊥) → slot_of new n ≡ slot_of old n

-- a prefix of what agrees on a prefix agrees
prefixes : (m at : ℕ) (old new : List ℕ) → m ≤ at → take at new ≡ take at old → take m new ≡ take m old
prefixes m at old new le same = sym (take-take m at new le) ∙ ap (take m) same ∙ take-take m at old le

-- and so does what lies in it
within_prefix : (from n at : ℕ) (old new : List ℕ) → from + n ≤ at → take at new ≡ take at old → take n (drop from new) ≡ take n (drop from old)
within_prefix from n at old new le same =
    sym (drop-take from n new) ∙ ap (drop from) (prefixes (from + n) at old new le same) ∙ drop-take from n old

-- what lies behind a range
behind : (from at : ℕ) (old new : List ℕ) → at ≤ from → drop at new ≡ drop at old → drop from new ≡ drop from old
behind from at old new le same =
    let split : at + (from - at) ≡ from = omega (arith, le) in
    ap (λ (k : ℕ). drop k new) (sym split) ∙ sym (drop-drop (from - at) at new) ∙ ap (drop (from - at)) same ∙ drop-drop (from - at) at old ∙ ap (λ (k : ℕ). drop k old) split

-- a torn write within a slot leaves the other slots
pub torn_agrees : (k at n : ℕ) (old new : List ℕ) → Torn at n old new → 8 + 34 * k ≤ at → at + n ≤ 8 + 34 * (k + 1) → at + n ≤ length old → AgreeBut k old new
torn_agrees k at n old new torn low high within = record {
  same_length = omega (arith, torn.no_shorter, torn.no_longer, within);
  head = prefixes 8 at old new (omega (arith, low)) torn.before;
  slots = λ m other. elim (cases_lt m k) [
    | inl lt ↦ within_prefix (8 + 34 * m) 34 at old new (omega (arith, lt, low)) torn.before
    | inr ge ↦ ap (take 34) (behind (8 + 34 * m) (at + n) old new (omega (arith, ge, other, high)) torn.after)
  ];
}

-- the pairs of the first slots are those slots' alone
pairs_agree : (k n : ℕ) (old new : List ℕ) → AgreeBut k old new → n ≤ k → pairs_of new n ≡ pairs_of old n
pairs_agree k ℕ.zero old new agree le = refl
pairs_agree k (suc n) old new agree le =
    λ i. pairs_agree k n old new agree (omega (arith, le)) i ++ pair_of (agree.slots n (λ is. omega (arith, is, le)) i) ∷ []

module _ (old new : List ℕ) (joins : List Join) (represents : Represents old joins) (room : length joins < 65536) (agree : AgreeBut (length joins) old new) where
  -- the slots before the one behind the joins
  earlier : SlotsRepresent new (length joins) joins
  earlier = record {
    fits = omega arith;
    gates = λ n lt. subst IsOpen (sym (agree.slots n (λ is. omega (arith, is, lt)))) (represents.slots.gates n lt);
    pairs = represents.slots.pairs ∙ sym (pairs_agree (length joins) (length joins) old new agree (omega arith));
    shut = λ n le lt. absurd (omega (arith, le, lt));
    roles = represents.slots.roles;
    differ = represents.slots.differ;
  }

  -- with the slots after it, which are shut
  all_slots : (joined : List Join) → length joined ≤ length joins + 1 → SlotsRepresent new (length joins + 1) joined → SlotsRepresent new 65536 joined
  all_slots joined most so_far = record {
    fits = omega (arith, most, room);
    gates = so_far.gates;
    pairs = so_far.pairs;
    shut = λ n le lt. elim (cases_lt n (length joins + 1)) [
      | inl below ↦ so_far.shut n le below
      | inr above ↦ subst (λ (s : List ℕ). ¬ IsOpen s) (sym (agree.slots n (λ is. omega (arith, is, above)))) (represents.slots.shut n (omega (arith, above)) lt)
    ];
    roles = so_far.roles;
    differ = so_far.differ;
  }

  is_ledger : (length new ≡ 2228232) × (take 8 new ≡ magic)
  is_ledger = (agree.same_length ∙ represents.ledger.0, agree.head ∙ represents.ledger.1)

  -- with the gate shut the file represents the joins
  pub still_shut : ¬ IsOpen (slot_of new (length joins)) → Represents new joins
  still_shut is_shut = record {
    ledger = is_ledger;
    slots = all_slots joins (omega arith) (slot_shut new (length joins) joins earlier is_shut);
  }

  -- with the gate open before a pair, it represents the joins and the pair
  pub now_open : (join : Join) → pair_of (slot_of new (length joins)) ≡ join → join.1 < 16 → ¬ Contains joins join → IsOpen (slot_of new (length joins)) → Represents new (joins ++ join ∷ [])
  now_open join is role absent is_open =
      let longer = length-append joins (join ∷ []) in
      let added = slot_open new (length joins) joins earlier refl is_open (subst (λ (j : Join). j.1 < 16) (sym is) role) (subst (λ (j : Join). ¬ Contains joins j) (sym is) absent) in
      record {
        ledger = is_ledger;
        slots = all_slots (joins ++ join ∷ []) (omega (arith, longer)) (subst (λ (j : Join). SlotsRepresent new (length joins + 1) (joins ++ j ∷ [])) is added);
      }

  pub one_of : (join : Join) → pair_of (slot_of new (length joins)) ≡ join → join.1 < 16 → ¬ Contains joins join → RepresentsOneOf joins join new
  one_of join is role absent = elim (cases_eq (get_or (slot_of new (length joins)) 0 0) 1) [
    | inl is_open ↦ inr (now_open join is role absent is_open)
    | inr is_shut ↦ inl (still_shut is_shut)
  ]

-- a byte of a slot in a part of it
gate_in : (xs ys : List ℕ) → take 1 xs ≡ take 1 ys → get_or (take 34 xs) 0 0 ≡ get_or (take 34 ys) 0 0
gate_in xs ys same =
    get_or-take 34 xs 0 0 (omega arith) ∙ sym (get_or-take 1 xs 0 0 (omega arith)) ∙ ap (λ (s : List ℕ). get_or s 0 0) same
    ∙ get_or-take 1 ys 0 0 (omega arith) ∙ sym (get_or-take 34 ys 0 0 (omega arith))

-- what stands behind the gate of a slot
behind_gate : (file : List ℕ) (k : ℕ) → drop 1 (slot_of file k) ≡ take 33 (drop (8 + 34 * k + 1) file)
behind_gate file k = drop-take 1 33 (drop (8 + 34 * k) file) ∙ ap (take 33) (drop-drop 1 (8 + 34 * k) file)

pair_behind : (slot sid : List ℕ) (role : ℕ) → length sid ≡ 32 → drop 1 slot ≡ sid ++ role ∷ [] → pair_of slot ≡ (sid, role)
pair_behind slot sid role whole is =
    let left : take 32 (drop 1 slot) ≡ sid = ap (take 32) is ∙ take_at sid (role ∷ []) 32 whole in
    let right : get_or slot 33 0 ≡ role = sym (get_or-drop 1 slot 32 0) ∙ ap (λ (s : List ℕ). get_or s 32 0) is ∙ get_or_push sid role 0 32 whole in
    λ i. (left i, right i)

module _ (joins : List Join) (room : length joins < 65536) (sid : List ℕ) (role : ℕ) (whole : length sid ≡ 32) where
  abbrev pub pair : List ℕ
  pair = sid ++ role ∷ []

  abbrev pub gate_at : ℕ
  gate_at = 8 + 34 * length joins

  pair_long : length pair ≡ 33
  pair_long = omega (arith, length-append sid (role ∷ []), whole)

  -- the pair's write leaves the joins
  pub pair_torn : (old new : List ℕ) → Represents old joins → Torn (gate_at + 1) (length pair) old new → Represents new joins
  pair_torn old new represents torn =
      let long : length old ≡ 2228232 = represents.ledger.0 in
      let agree = torn_agrees (length joins) (gate_at + 1) (length pair) old new torn (omega arith) (omega (arith, pair_long)) (omega (arith, pair_long, long, room)) in
      let gate = gate_in (drop gate_at new) (drop gate_at old) (within_prefix gate_at 1 (gate_at + 1) old new (omega arith) torn.before) in
      still_shut old new joins represents room agree (λ is_open. represents.slots.shut (length joins) (omega arith) room (sym gate ∙ is_open))

  -- and once it is done the pair stands there
  pub pair_there : (old : List ℕ) → Represents old joins → pair_of (slot_of (overlaid old (gate_at + 1) pair) (length joins)) ≡ (sid, role)
  pair_there old represents =
      let long : length old ≡ 2228232 = represents.ledger.0 in
      let prefix : length (take (gate_at + 1) old) ≡ gate_at + 1 = length-take-le (gate_at + 1) old (omega (arith, long, room)) in
      pair_behind (slot_of (overlaid old (gate_at + 1) pair) (length joins)) sid role whole
      (behind_gate (overlaid old (gate_at + 1) pair) (length joins)
      ∙ ap (take 33) (drop_at (take (gate_at + 1) old) (pair ++ drop (gate_at + 1 + length pair) old) (gate_at + 1) prefix)
      ∙ take_at pair (drop (gate_at + 1 + length pair) old) 33 pair_long)

  module _ (role_fits : role < 16) (absent : ¬ Contains joins (sid, role)) (old : List ℕ) (represents : Represents old joins) where
    abbrev pub staged : List ℕ
    staged = overlaid old (gate_at + 1) pair

    pub staged_represents : Represents staged joins
    staged_represents = pair_torn old staged represents (torn_whole old (gate_at + 1) pair (omega (arith, represents.ledger.0, room)))

    gate_agrees : (new : List ℕ) → Torn gate_at 1 staged new → AgreeBut (length joins) staged new
    gate_agrees new torn = torn_agrees (length joins) gate_at 1 staged new torn (omega arith) (omega arith) (omega (arith, staged_represents.ledger.0, room))

    pair_stays : (new : List ℕ) → Torn gate_at 1 staged new → pair_of (slot_of new (length joins)) ≡ (sid, role)
    pair_stays new torn =
        let prefix : drop 1 (slot_of new (length joins)) ≡ drop 1 (slot_of staged (length joins)) =
        behind_gate new (length joins) ∙ ap (take 33) torn.after ∙ sym (behind_gate staged (length joins)) in
        let last : get_or (slot_of new (length joins)) 33 0 ≡ get_or (slot_of staged (length joins)) 33 0 =
        sym (get_or-drop 1 (slot_of new (length joins)) 32 0) ∙ ap (λ (s : List ℕ). get_or s 32 0) prefix ∙ get_or-drop 1 (slot_of staged (length joins)) 32 0 in
        (λ i. (take 32 (prefix i), last i)) ∙ pair_there old represents

    -- the gate's write leaves them, with the pair or without
    pub gate_torn : (new : List ℕ) → Torn gate_at 1 staged new → RepresentsOneOf joins (sid, role) new
    gate_torn new torn = one_of staged new joins staged_represents room (gate_agrees new torn) (sid, role) (pair_stays new torn) role_fits absent

    -- and once it is done it leaves them with the pair
    pub gate_open : Represents (overlaid staged gate_at (1 ∷ [])) (joins ++ (sid, role) ∷ [])
    gate_open =
        let new = overlaid staged gate_at (1 ∷ []) in
        let within : gate_at ≤ length staged = omega (arith, staged_represents.ledger.0, room) in
        let torn = torn_whole staged gate_at (1 ∷ []) within in
        let prefix : length (take gate_at staged) ≡ gate_at = length-take-le gate_at staged within in
        let slot : slot_of new (length joins) ≡ take 34 (1 ∷ drop (gate_at + 1) staged) =
        ap (take 34) (drop_at (take gate_at staged) (1 ∷ drop (gate_at + 1) staged) gate_at prefix) in
        now_open staged new joins staged_represents room (gate_agrees new torn) (sid, role) (pair_stays new torn) role_fits absent
        (ap (λ (s : List ℕ). get_or s 0 0) slot)
