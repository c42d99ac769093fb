-- How the record of a disk in memory goes on.
use Rattle.std.proofs.Common.{◌≡◌, ◌⊎◌, inl, inr, ⊎_elim, ℕ, zero, suc, ◌+◌, ◌-◌, ◌<◌, ◌≤◌, List, [], ◌∷◌, ◌++◌, length, take, drop, refl, sym, ◌∙◌, ap, subst, arith, length-append, length-drop, length-take, replicate, Bool, true, false, nat_le, leb-true, if◌then◌else◌}
use Rattle.std.proofs.lemmas.List.{length-replicate}
use Rattle.std.proofs.lemmas.Bool.{cases_lt}
use Rattle.std.specs.List.{All}
use Rattle.std.proofs.lemmas.List.{take_all}
use Rattle.std.proofs.lemmas.List.Elements.{All-push}
use Rattle.sg_ledger.specs.Disk.{overlaid, Torn, Elapses}
use Rattle.sg_ledger.specs.Memory.{Platter, at_rest, taken, after_call, after_calls, Leaves, IsImage, Medium, platter_at, platter, LeftSince, with_call, padded, torn_by, picked}
use Rattle.sg_ledger.proofs.Tears.{torn_not, torn_whole}
use Rattle.sg_ledger.specs.Invariant.{all_taken, state_of, IsTied}
use Rattle.sg_ledger.specs.declared.medium.Medium.TheInside.{Inside}
use Rattle.sg_ledger.specs.declared.medium.DiskCall.{DiskCall}
use Rattle.sg_ledger.specs.declared.medium.DiskCall.TheVariants.{Kept, Wrote, Tore, Synced}

take_within : (n : ℕ) (xs ys : List ℕ) → n ≤ length xs → take n (xs ++ ys) ≡ take n xs
take_within zero xs ys le = refl
take_within (suc n) [] ys le = absurd (omega (arith, le))
take_within (suc n) (x ∷ xs) ys le = ap (λ (l : List ℕ). x ∷ l) (take_within n xs ys (omega (arith, le)))

drop_within : (n : ℕ) (xs ys : List ℕ) → n ≤ length xs → drop n (xs ++ ys) ≡ drop n xs ++ ys
drop_within zero xs ys le = refl
drop_within (suc n) [] ys le = absurd (omega (arith, le))
drop_within (suc n) (x ∷ xs) ys le = drop_within n xs ys (omega (arith, le))

-- a call reads its own bytes alone
one_same : (p : Platter) (call : DiskCall) (written more : List ℕ) → taken call ≤ length written → after_call p call (written ++ more) ≡ after_call p call written
one_same p Kept written more le = refl
one_same p (Wrote at count) written more le = λ i. record {
  seen = overlaid p.seen at (take_within count written more le i);
  synced = p.synced;
  tears = p.tears ++ (at, count) ∷ [];
}
one_same p (Tore at count) written more le = refl
one_same p Synced written more le = refl

-- and so do calls
pub all_same : (p : Platter) (calls : List DiskCall) (written more : List ℕ) → all_taken calls ≤ length written → after_calls p calls (written ++ more) ≡ after_calls p calls written
all_same p [] written more le = refl
all_same p (call ∷ calls) written more le =
    let first : taken call ≤ length written = omega (arith, le) in
    let rest : all_taken calls ≤ length (drop (taken call) written) = omega (arith, le, length-drop (taken call) written) in
    (λ i. after_calls (one_same p call written more first i) calls (drop_within (taken call) written more first i))
    ∙ all_same (after_call p call written) calls (drop (taken call) written) more rest

-- one call more
pub one_more_call : (p : Platter) (calls : List DiskCall) (call : DiskCall) (written bytes : List ℕ) → all_taken calls ≡ length written
    → after_calls p (calls ++ call ∷ []) (written ++ bytes) ≡ after_call (after_calls p calls written) call bytes
one_more_call p [] call [] bytes total = refl
one_more_call p [] call (b ∷ written) bytes total = absurd (omega (arith, total))
one_more_call p (first ∷ calls) call written bytes total =
    let le : taken first ≤ length written = omega (arith, total) in
    let rest : all_taken calls ≡ length (drop (taken first) written) = omega (arith, total, length-drop (taken first) written) in
    (λ i. after_calls (one_same p first written bytes le i) (calls ++ call ∷ []) (drop_within (taken first) written bytes le i))
    ∙ one_more_call (after_call p first written) calls call (drop (taken first) written) bytes rest

pub taken_more : (calls : List DiskCall) (call : DiskCall) → all_taken (calls ++ call ∷ []) ≡ all_taken calls + taken call
taken_more [] call = omega arith
taken_more (first ∷ calls) call = let rest = taken_more calls call in omega (arith, rest)

taken_prefix : (k : ℕ) (calls : List DiskCall) → all_taken (take k calls) ≤ all_taken calls
taken_prefix zero calls = omega arith
taken_prefix (suc k) [] = omega arith
taken_prefix (suc k) (call ∷ calls) = let rest = taken_prefix k calls in omega (arith, rest)

take_push : {A : Type 0} (k : ℕ) (xs : List A) (x : A) → k ≤ length xs → take k (xs ++ x ∷ []) ≡ take k xs
take_push zero xs x le = refl
take_push (suc k) [] x le = absurd (omega (arith, le))
take_push {A} (suc k) (y ∷ xs) x le = ap (λ (l : List A). y ∷ l) (take_push k xs x (omega (arith, le)))

module _ (m : Medium) (call : DiskCall) (bytes : List ℕ) (total : all_taken m.calls ≡ length m.written) where
  longer : length (with_call m call bytes).calls ≡ length m.calls + 1
  longer = length-append m.calls (call ∷ [])

  -- the earlier moments are as they were
  earlier : (k : ℕ) → k ≤ length m.calls → platter_at (with_call m call bytes) k ≡ platter_at m k
  earlier k le =
      let few : all_taken (take k m.calls) ≤ length m.written = omega (arith, total, taken_prefix k m.calls) in
      (λ i. after_calls (at_rest m.start) (take_push k m.calls call le i) (m.written ++ bytes))
      ∙ all_same (at_rest m.start) (take k m.calls) m.written bytes few

  -- and then there is the one after the call
  last : (k : ℕ) → length m.calls < k → platter_at (with_call m call bytes) k ≡ platter (with_call m call bytes)
  last k lt = λ i. after_calls (at_rest m.start) (take_all k (m.calls ++ call ∷ []) (omega (arith, lt, longer)) i) (m.written ++ bytes)

  pub time_goes_on : Elapses (length m.calls) (length (with_call m call bytes).calls) (LeftSince m) (LeftSince (with_call m call bytes)) (IsImage (platter (with_call m call bytes)))
  time_goes_on = record {
    later = omega (arith, longer);
    nothing_else = λ t image le since. elim (cases_lt (length m.calls) since.0) [
      | inl new ↦ inr (subst (λ (p : Platter). IsImage p image) (last since.0 new) since.3)
      | inr old ↦ inl (since.0, since.1, old, subst (λ (p : Platter). IsImage p image) (earlier since.0 old) since.3)
    ];
    keeps = λ t image le past. (past.0, past.1, omega (arith, past.2, longer), subst (λ (p : Platter). IsImage p image) (sym (earlier past.0 past.2)) past.3);
  }

-- the record of a medium
abbrev pub medium_of : Inside → Medium
medium_of m = record { start = m.start.items; calls = m.calls.items; written = m.written.items; room = m.room; most = m.most }

-- what stands beside the record after one call more
pub state_after : (old : Inside) (calls : List DiskCall) (written : List ℕ) (call : DiskCall) (bytes : List ℕ) → IsTied old
    → calls ≡ old.calls.items ++ call ∷ [] → written ≡ old.written.items ++ bytes
    → after_calls (at_rest old.start.items) calls written ≡ after_call (state_of old) call bytes
state_after old calls written call bytes tied are were =
    (λ i. after_calls (at_rest old.start.items) (are i) (were i)) ∙ one_more_call (at_rest old.start.items) old.calls.items call old.written.items bytes tied.total

pub total_after : (old : Inside) (calls : List DiskCall) (written : List ℕ) (call : DiskCall) (bytes : List ℕ) → IsTied old
    → calls ≡ old.calls.items ++ call ∷ [] → written ≡ old.written.items ++ bytes → taken call ≡ length bytes → all_taken calls ≡ length written
total_after old calls written call bytes tied are were took =
    let more : all_taken calls ≡ all_taken old.calls.items + taken call = ap all_taken are ∙ taken_more old.calls.items call in
    let longer : length written ≡ length old.written.items + length bytes = ap length were ∙ length-append old.written.items bytes in
    omega (arith, more, longer, took, tied.total)

pub time_after : (old : Inside) (calls : List DiskCall) (written : List ℕ) (call : DiskCall) (bytes : List ℕ) → IsTied old
    → calls ≡ old.calls.items ++ call ∷ [] → written ≡ old.written.items ++ bytes
    → Elapses (length old.calls.items) (length calls) (LeftSince (medium_of old)) (LeftSince (record (medium_of old) { calls = calls; written = written }))
    (IsImage (platter (record (medium_of old) { calls = calls; written = written })))
time_after old calls written call bytes tied are were =
    subst (λ (n : Medium). Elapses (length old.calls.items) (length n.calls) (LeftSince (medium_of old)) (LeftSince n) (IsImage (platter n)))
    (λ i. let m : Medium = medium_of old in record m { calls = sym are i; written = sym were i })
    (time_goes_on (medium_of old) call bytes tied.total)

pub one_longer : {A : Type 0} (xs ys : List A) (x : A) → ys ≡ xs ++ x ∷ [] → length ys ≡ length xs + 1
one_longer xs ys x is = ap length is ∙ length-append xs (x ∷ [])

-- there was room for the call
pub calls_fit : (old : Inside) {m : Medium} (calls : List DiskCall) (call : DiskCall) → medium_of old ≡ m → length m.calls < m.most → calls ≡ old.calls.items ++ call ∷ [] → length calls ≤ old.most
calls_fit old calls call seen room are =
    let longer = one_longer old.calls.items calls call are in
    let fewer : length old.calls.items < old.most = subst (λ (n : Medium). length n.calls < n.most) (sym seen) room in
    omega (arith, longer, fewer)

abbrev pub Ranges : ℕ → List (ℕ × ℕ) → Type 0
Ranges room tears = All (λ r. r.0 + r.1 ≤ room) tears

pub no_ranges : (room : ℕ) (tears : List (ℕ × ℕ)) → tears ≡ [] → Ranges room tears
no_ranges room tears is = subst (Ranges room) (sym is) (λ k d lt. absurd (omega (arith, lt)))

pub more_ranges : (room : ℕ) (tears more : List (ℕ × ℕ)) (at count : ℕ) → Ranges room tears → at + count ≤ room → more ≡ tears ++ (at, count) ∷ [] → Ranges room more
more_ranges room tears more at count all fits is =
    subst (Ranges room) (sym is) (All-push (λ (r : ℕ × ℕ). r.0 + r.1 ≤ room) tears (at, count) all fits)

-- the images that picks make are images
pub picked_leaves : (image : List ℕ) (tears : List (ℕ × ℕ)) (picks : List ℕ) → Leaves image tears (picked image tears picks)
picked_leaves image [] picks = refl
picked_leaves image (tear ∷ tears) picks = (torn_by image tear picks, torn_one image tear picks, picked_leaves (torn_by image tear picks) tears (drop tear.1 picks))
  where
    padded_long : (count : ℕ) (picks : List ℕ) → length (padded count picks) ≡ count
    padded_long count picks = omega (arith, length-append (take count picks) (replicate (count - length picks) 0), length-take count picks, length-replicate {A = ℕ} (count - length picks) 0)

    by : (image : List ℕ) (tear : ℕ × ℕ) (picks : List ℕ) (b : Bool) → nat_le tear.0 (length image) ≡ b
        → Torn tear.0 tear.1 image (if b then overlaid image tear.0 (padded tear.1 picks) else image)
    by image tear picks true is = subst (λ (n : ℕ). Torn tear.0 n image (overlaid image tear.0 (padded tear.1 picks))) (padded_long tear.1 picks)
        (torn_whole image tear.0 (padded tear.1 picks) (leb-true _ _ is))
    by image tear picks false is = torn_not tear.0 tear.1 image

    torn_one : (image : List ℕ) (tear : ℕ × ℕ) (picks : List ℕ) → Torn tear.0 tear.1 image (torn_by image tear picks)
    torn_one image tear picks = by image tear picks (nat_le tear.0 (length image)) refl
