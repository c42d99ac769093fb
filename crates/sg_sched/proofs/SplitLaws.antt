-- Where a word is split at its first mark.
use Rattle.std.proofs.Common.{◌≡◌, ℕ, zero, suc, ◌+◌, ◌-◌, ◌<◌, ◌≤◌, ◌==◌, Bool, true, false, nat_lt, [], ◌∷◌, length, take, drop, Option, Some, None, option_map, refl, sym, ap, ◌∙◌, arith, if◌then◌else◌}
use Rattle.std.proofs.lemmas.Grind.{common_steps}
use Rattle.std.proofs.lemmas.List.{take_all}
use Rattle.sg_sched.specs.Format.LineContents.{Word}
use Rattle.sg_sched.specs.Format.Reading.{split_at}
use Rattle.sg_sched.proofs.TextLaws.{index, index_yes, index_no}

-- what stands before offset n and behind it, if there is such an offset
abbrev pub split_there : ℕ → Word → Option (Word × Word)
split_there n w = if nat_lt n (length w) then Some (take n w, drop (n + 1) w) else None

there_yes : (c : ℕ) (cs : Word) (m : ℕ) → m ≡ 0 → Some ([], cs) ≡ split_there m (c ∷ cs)
there_yes c cs m e = let some : nat_lt 0 (length (c ∷ cs)) ≡ true = grind (arith, common_steps) in rw (e, some) refl

there_no : (c : ℕ) (cs : Word) (n m : ℕ) → m ≡ suc n → option_map (λ (p : Word × Word). (c ∷ p.0, p.1)) (split_there n cs) ≡ split_there m (c ∷ cs)
there_no c cs n m e = by (nat_lt n (length cs)) refl
  where
    by : (b : Bool) → nat_lt n (length cs) ≡ b → option_map (λ (p : Word × Word). (c ∷ p.0, p.1)) (split_there n cs) ≡ split_there m (c ∷ cs)
    by true h = let there : nat_lt (suc n) (length (c ∷ cs)) ≡ true = grind (arith, common_steps) in let next : suc n + 1 ≡ suc (n + 1) = omega arith in rw (h, e, there, next) refl
    by false h = let there : nat_lt (suc n) (length (c ∷ cs)) ≡ false = grind (arith, common_steps) in rw (h, e, there) refl

pub splits : (mark : ℕ) (w : Word) → split_at mark w ≡ split_there (index mark w) w
splits mark [] = refl
splits mark (c ∷ cs) = by (c == mark) refl (splits mark cs)
  where
    at_mark : (b : Bool) → (c == mark) ≡ b → b ≡ true → split_at mark (c ∷ cs) ≡ Some ([], cs)
    at_mark b e t = rw (e, t) refl

    before : (b : Bool) → (c == mark) ≡ b → b ≡ false → split_at mark (c ∷ cs) ≡ option_map (λ (p : Word × Word). (c ∷ p.0, p.1)) (split_at mark cs)
    before b e t = rw (e, t) refl

    by : (b : Bool) → (c == mark) ≡ b → split_at mark cs ≡ split_there (index mark cs) cs → split_at mark (c ∷ cs) ≡ split_there (index mark (c ∷ cs)) (c ∷ cs)
    by true e ih = at_mark true e refl ∙ there_yes c cs _ (index_yes mark c cs e)
    by false e ih = before false e refl ∙ ap (option_map (λ (p : Word × Word). (c ∷ p.0, p.1))) ih ∙ there_no c cs _ _ (index_no mark c cs e)

drop_twice : (n : ℕ) (w : Word) → drop 1 (drop n w) ≡ drop (n + 1) w
drop_twice zero w = refl
drop_twice (suc n) [] = let next : suc n + 1 ≡ suc (n + 1) = omega arith in rw next refl
drop_twice (suc n) (c ∷ cs) = let next : suc n + 1 ≡ suc (n + 1) = omega arith in rw next (drop_twice n cs)

-- if there is no mark
pub split_none : (mark n : ℕ) (w : Word) → n ≡ index mark w → length (drop n w) < 1 → split_at mark w ≡ None
split_none mark n w e h =
    let there : nat_lt n (length w) ≡ false = grind (arith, common_steps) in
    splits mark w ∙ ap (λ m. split_there m w) (sym e) ∙ ap (λ b. if b then Some (take n w, drop (n + 1) w) else None) there

-- if there is one
pub split_some : (mark n : ℕ) (w : Word) → n ≡ index mark w → 1 ≤ length (drop n w) → split_at mark w ≡ Some (take n w, take (length (drop n w) - 1) (drop 1 (drop n w)))
split_some mark n w e h =
    let there : nat_lt n (length w) ≡ true = grind (arith, common_steps) in
    let behind : drop 1 (drop n w) ≡ drop (n + 1) w = drop_twice n w in
    let short : length (drop 1 (drop n w)) ≤ length (drop n w) - 1 = grind (arith, common_steps) in
    let rest : drop (n + 1) w ≡ take (length (drop n w) - 1) (drop 1 (drop n w)) = sym behind ∙ sym (take_all (length (drop n w) - 1) (drop 1 (drop n w)) short) in
    splits mark w ∙ ap (λ m. split_there m w) (sym e) ∙ ap (λ b. if b then Some (take n w, drop (n + 1) w) else None) there ∙ ap (λ r. Some (take n w, r)) rest
