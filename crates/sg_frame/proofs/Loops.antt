-- Readings one after the other, as a loop does them.
use Rattle.std.proofs.Common.{◌≡◌, ℕ, suc, ◌-◌, ◌+◌, ◌<◌, List, [], ◌∷◌, ◌++◌, Result, Ok, Err, refl, sym, ap, ◌∙◌, append_assoc, arith}
use Rattle.sg_base.specs.Reading.{Cursor}
use Rattle.sg_protocol.specs.Reading.{Read, Reader, give, on, times, rising_times}
use Rattle.sg_frame.specs.declared.fault.FrameStop.{FrameStop}
use Rattle.sg_frame.specs.declared.fault.FrameStop.TheVariants.{Malformed, OutOfMemory}
use Rattle.sg_frame.specs.Reads.{left, StopsWith}

-- what was read before, and what is still read
abbrev pub with_prefix : {A : Type 0} → List A → Result (Read (List A)) ℕ → Result (Read (List A)) ℕ
with_prefix prefix read = on read (λ xs. give (prefix ++ xs))

regroup : {A : Type 0} (prefix : List A) (x : A) (read : Result (Read (List A)) ℕ) → with_prefix prefix (on read (λ xs. give (x ∷ xs))) ≡ with_prefix (prefix ++ x ∷ []) read
regroup prefix x (Ok r) = ap (λ xs. Ok (record { value = xs; at = r.at; rest = r.rest })) (simp append_assoc)
regroup prefix x (Err at) = refl

-- the offset behind what was read
abbrev pub Gives : {A : Type 0} → Reader A → Cursor → A → Cursor → Type 0
Gives reader p x q = reader p.at (left p) ≡ Ok (record { value = x; at = q.at; rest = left q })

-- one more reading
pub times_more : {A : Type 0} (reader : Reader A) (prefix : List A) (count i : ℕ) (p q : Cursor) (x : A) (total : Result (Read (List A)) ℕ) → i < count → Gives reader p x q →
    with_prefix prefix (times (count - i) reader p.at (left p)) ≡ total → with_prefix (prefix ++ x ∷ []) (times (count - (i + 1)) reader q.at (left q)) ≡ total
times_more reader prefix count i p q x total lt h so_far =
    let k : count - i ≡ suc (count - (i + 1)) = omega arith in
    let one : with_prefix prefix (times (count - i) reader p.at (left p)) ≡ with_prefix (prefix ++ x ∷ []) (times (count - (i + 1)) reader q.at (left q)) =
    rw (k, h) (regroup prefix x (times (count - (i + 1)) reader q.at (left q))) in
    sym one ∙ so_far

-- a reading that stops
pub times_stop : {A : Type 0} (e : FrameStop) (reader : Reader A) (prefix : List A) (count i : ℕ) (p : Cursor) (total : Result (Read (List A)) ℕ) → i < count → StopsWith e (reader p.at (left p)) →
    with_prefix prefix (times (count - i) reader p.at (left p)) ≡ total → StopsWith e total
times_stop OutOfMemory reader prefix count i p total lt h so_far = tt
times_stop (Malformed at) reader prefix count i p total lt h so_far =
    let k : count - i ≡ suc (count - (i + 1)) = omega arith in
    let one : with_prefix prefix (times (count - i) reader p.at (left p)) ≡ Err at = rw (k, h) refl in
    sym so_far ∙ one

-- one more reading, of a greater key
pub rising_more : {A : Type 0} (key : A → ℕ) (reader : ℕ → Reader A) (prefix : List A) (count i least : ℕ) (p q : Cursor) (x : A) (total : Result (Read (List A)) ℕ) → i < count →
    Gives (reader least) p x q → with_prefix prefix (rising_times key (count - i) least reader p.at (left p)) ≡ total →
    with_prefix (prefix ++ x ∷ []) (rising_times key (count - (i + 1)) (key x + 1) reader q.at (left q)) ≡ total
rising_more key reader prefix count i least p q x total lt h so_far =
    let k : count - i ≡ suc (count - (i + 1)) = omega arith in
    let s : suc (key x) ≡ key x + 1 = omega arith in
    let one : with_prefix prefix (rising_times key (count - i) least reader p.at (left p)) ≡ with_prefix (prefix ++ x ∷ []) (rising_times key (count - (i + 1)) (key x + 1) reader q.at (left q)) =
    rw (k, h, s) (regroup prefix x (rising_times key (count - (i + 1)) (key x + 1) reader q.at (left q))) in
    sym one ∙ so_far

-- a reading that stops
pub rising_stop : {A : Type 0} (e : FrameStop) (key : A → ℕ) (reader : ℕ → Reader A) (prefix : List A) (count i least : ℕ) (p : Cursor) (total : Result (Read (List A)) ℕ) → i < count →
    StopsWith e (reader least p.at (left p)) → with_prefix prefix (rising_times key (count - i) least reader p.at (left p)) ≡ total → StopsWith e total
rising_stop OutOfMemory key reader prefix count i least p total lt h so_far = tt
rising_stop (Malformed at) key reader prefix count i least p total lt h so_far =
    let k : count - i ≡ suc (count - (i + 1)) = omega arith in
    let one : with_prefix prefix (rising_times key (count - i) least reader p.at (left p)) ≡ Err at = rw (k, h) refl in
    sym so_far ∙ one
