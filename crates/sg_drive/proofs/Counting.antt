-- The counts of what is reported, one step more.
use Rattle.std.proofs.Common.{◌≡◌, ℕ, zero, suc, ◌+◌, ◌<◌, ◌≤◌, Bool, true, false, cond, ◌||◌, if◌then◌else◌, List, [], ◌∷◌, ◌++◌, length, take, filter, filter_map, slice_get, Option, Some, None, refl, sym, ap, ◌∙◌, subst, inl, inr, arith, append-nil, length-append}
use Rattle.std.specs.List.{cons_option, list_any}
use Rattle.std.specs.Option.{option_map_or}
use Rattle.std.proofs.lemmas.Bool.{cases_Bool}
use Rattle.std.proofs.lemmas.List.Elements.{filter-append, filter_map-append}
use Rattle.indexmap.specs.IndexSet.{insert_key}
use Rattle.sg_text.proofs.Firsts.{firsts-again, firsts-new, has_text-firsts}
use Rattle.sg_text.proofs.SameSid.{same, same-bytes_eq}
use Rattle.sg_text.specs.Sessions.{firsts}
use Rattle.sg_model.proofs.Small.{length_filter}
use Rattle.sg_model.specs.Lists.{has_text}
use Rattle.sg_model.specs.Limits.{most_steps}
use Rattle.sg_protocol.specs.Graph.{Graph}
use Rattle.sg_report.specs.Reported.{Reported}
use Rattle.sg_drive.specs.Counted.{CanRise, with_session, with_reported}
use Rattle.sg_drive.specs.Summary.{Counts, completed, count, counts, is_abandoned, is_received, is_refused, is_sent}

-- ---- one count

count_more : (which : Reported → Bool) (ts : List Reported) (t : Reported) → count which (ts ++ t ∷ []) ≡ (if which t then count which ts + 1 else count which ts)
count_more which ts t =
    let both = length-append (filter which ts) (filter which (t ∷ [])) in
    ap (λ (z : List Reported). length z) (filter-append which ts (t ∷ [])) ∙ both ∙ by (which t)
  where
    by : (b : Bool) → length (filter which ts) + length (cond b (t ∷ []) []) ≡ (if b then count which ts + 1 else count which ts)
    by true = refl
    by false = omega arith

-- ---- sessions

firsts_more : (xs : List (List ℕ)) (o : Option (List ℕ)) → firsts (xs ++ cons_option o []) ≡ option_map_or (λ sid. with_session sid (firsts xs)) o (firsts xs)
firsts_more xs None = ap firsts (append-nil xs)
firsts_more xs (Some sid) = elim (cases_Bool (has_text sid xs)) [
  | inl e ↦ firsts-again sid xs e ∙ sym (ap (λ b. if b then firsts xs else firsts xs ++ sid ∷ []) (has_text-firsts sid xs ∙ e))
  | inr e ↦ firsts-new sid xs e ∙ sym (ap (λ b. if b then firsts xs else firsts xs ++ sid ∷ []) (has_text-firsts sid xs ∙ e))
]

complete_more : (g : Graph) (ts : List Reported) (t : Reported) → firsts (filter_map (completed g) (ts ++ t ∷ [])) ≡ option_map_or (λ sid. with_session sid (firsts (filter_map (completed g) ts))) (completed g t) (firsts (filter_map (completed g) ts))
complete_more g ts t = ap firsts (filter_map-append (completed g) ts (t ∷ [])) ∙ firsts_more (filter_map (completed g) ts) (completed g t)

-- ---- all counts

-- with the outcome of one step more
pub counts_more : (g : Graph) (ts : List Reported) (t : Reported) → counts g (ts ++ t ∷ []) ≡ with_reported g t (counts g ts)
counts_more g ts t = λ i. record {
  sent = count_more is_sent ts t i;
  received = count_more is_received ts t i;
  refused = count_more is_refused ts t i;
  abandoned = count_more is_abandoned ts t i;
  complete = complete_more g ts t i;
}

-- if few are reported, each count can rise
pub can_rise : (g : Graph) (ts : List Reported) (c : Counts) → c ≡ counts g ts → length ts < most_steps → CanRise c
can_rise g ts c e l = subst CanRise (sym e) (record {
  sent = (let f = length_filter is_sent ts in omega (arith, f, l));
  received = (let f = length_filter is_received ts in omega (arith, f, l));
  refused = (let f = length_filter is_refused ts in omega (arith, f, l));
  abandoned = (let f = length_filter is_abandoned ts in omega (arith, f, l));
})

-- ---- lists

got : {A : Type 0} (xs : List A) (i : ℕ) → i < length xs → (x : A) × (slice_get xs i ≡ Some x) × (take (suc i) xs ≡ take i xs ++ x ∷ [])
got [] i l = absurd (omega (arith, l))
got (x ∷ xs) zero l = (x, refl, refl)
got (x ∷ xs) (suc i) l = let r = got xs i (omega (arith, l)) in (r.0, r.1, ap (λ z. x ∷ z) r.2)

pub length_taken : {A : Type 0} (n : ℕ) (xs : List A) → n ≤ length xs → length (take n xs) ≡ n
length_taken zero xs l = refl
length_taken (suc n) [] l = absurd (omega (arith, l))
length_taken (suc n) (x ∷ xs) l = ap suc (length_taken n xs (omega (arith, l)))

whole : {A : Type 0} (xs : List A) → take (length xs) xs ≡ xs
whole [] = refl
whole (x ∷ xs) = ap (λ z. x ∷ z) (whole xs)

pub all_taken : {A : Type 0} (n : ℕ) (xs : List A) → n ≡ length xs → take n xs ≡ xs
all_taken n xs e = ap (λ k. take k xs) e ∙ whole xs

-- ---- the loop

-- one step more was counted
pub counted_more : (g : Graph) (log : List Reported) (i : ℕ) (before after : Counts) (t : Reported) → i < length log → before ≡ counts g (take i log) → Some t ≡ slice_get log i → after ≡ with_reported g t before → after ≡ counts g (take (i + 1) log)
counted_more g log i before after t l e at more =
    let r = got log i l in
    let one : i + 1 ≡ suc i = omega arith in
    let both : Some t ≡ Some r.0 = at ∙ r.1 in
    let same : t ≡ r.0 = cc in
    more ∙ (λ j. with_reported g (same j) (e j)) ∙ sym (counts_more g (take i log) r.0) ∙ ap (counts g) (sym r.2) ∙ ap (λ k. counts g (take k log)) (sym one)

-- ---- a set of sessions

-- the set's insertion is that of a session
pub inserted : (sid : List ℕ) (sids : List (List ℕ)) → insert_key same sids sid ≡ with_session sid sids
inserted sid sids = ap (λ b. if b then sids else sids ++ sid ∷ []) (any sids)
  where
    any : (ks : List (List ℕ)) → list_any (same sid) ks ≡ has_text sid ks
    any [] = refl
    any (k ∷ ks) = (λ i. same-bytes_eq sid k i || any ks i)
