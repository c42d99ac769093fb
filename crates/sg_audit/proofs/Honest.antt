-- The set of the roles that have a log.
use Rattle.std.proofs.Common.{◌≡◌, ℕ, zero, suc, ◌+◌, ◌<◌, ◌==◌, nat_lt, true, false, inl, inr, List, [], ◌∷◌, drop, map, length, get_or, refl, sym, ap, ◌∙◌, subst, arith}
use Rattle.std.specs.List.{AllByRecursion}
use Rattle.std.proofs.lemmas.Bool.Decides.{nat_tests}
use Rattle.std.proofs.lemmas.Bool.{cases_Bool}
use Rattle.sg_model.specs.Lists.{is_in}
use Rattle.sg_model.proofs.Small.{same_or_not, drop_from, and_false}
use Rattle.sg_base.specs.Sets.{with_member}
use Rattle.sg_base.proofs.SetLaws.{is_in-with_role}
use Rattle.sg_walk.specs.declared.event.Event.{Event as CodeEvent}
use Rattle.sg_audit.specs.Merged.{Log, roles_of}
use Rattle.sg_audit.specs.Model.{log_of}

small_in : (logs : List Log) → AllByRecursion (λ (l : Log). l.0 < 16) logs → (r : ℕ) → is_in r (roles_of logs) ≡ true → r < 16
small_in [] h r i = absurd (cc)
small_in (l ∷ ls) h r i = elim (cases_Bool (l.0 == r)) [
  | inl e ↦ (let s : l.0 ≡ r = grind (arith, nat_tests, e) in let b = h.0 in omega (arith, s, b))
  | inr e ↦ small_in ls h.1 r (rw e at i)
]

small_drop : (n : ℕ) (logs : List (ℕ × List CodeEvent)) → AllByRecursion (λ (l : Log). l.0 < 16) (map log_of logs) → AllByRecursion (λ (l : Log). l.0 < 16) (map log_of (drop n logs))
small_drop zero logs h = h
small_drop (suc n) [] h = tt
small_drop (suc n) (l ∷ ls) h = small_drop n ls h.1

pub with_role : (x : ℕ) (set rs : List ℕ) → x < 16 → ((r : ℕ) → is_in r rs ≡ true → r < 16) → ((r : ℕ) → is_in r set ≡ is_in r rs) → (r : ℕ) → is_in r (with_member 16 set x) ≡ is_in r (x ∷ rs)
with_role x set rs l small same r = is_in-with_role x r set ∙ elim (same_or_not r x) [
  | inl e ↦ (let a : nat_lt r 16 ≡ true = grind (arith, nat_tests, e, l) in let b : (r == x) ≡ true = grind (arith, nat_tests, e) in let d : (x == r) ≡ true = grind (arith, nat_tests, e) in rw (a, b, d) refl)
  | inr e ↦ (let b : (r == x) ≡ false = grind (arith, nat_tests, e) in let d : (x == r) ≡ false = grind (arith, nat_tests, e) in rw (b, d, same r) (elim (cases_Bool (is_in r rs)) [
    | inl y ↦ (let s = small r y in let a : nat_lt r 16 ≡ true = grind (arith, nat_tests, s) in rw (a, y) refl)
    | inr z ↦ rw z (and_false (nat_lt r 16))
  ]))
]

-- one more log, from behind
pub one_more : (logs : List (ℕ × List CodeEvent)) (left : ℕ) (set : List ℕ) (log : ℕ × List CodeEvent) → AllByRecursion (λ (l : Log). l.0 < 16) (map log_of logs) → left < length logs → log ≡ get_or logs left log
    → ((r : ℕ) → is_in r set ≡ is_in r (roles_of (map log_of (drop (left + 1) logs)))) → (r : ℕ) → is_in r (with_member 16 set log.0) ≡ is_in r (roles_of (map log_of (drop left logs)))
one_more logs left set log small l e same r =
    let cut = drop_from logs left log l e in
    let up : left + 1 ≡ suc left = omega arith in
    let here : AllByRecursion (λ (l : Log). l.0 < 16) (map log_of (log ∷ drop (suc left) logs)) = subst (λ ls. AllByRecursion (λ (l : Log). l.0 < 16) (map log_of ls)) cut (small_drop left logs small) in
    with_role log.0 set (roles_of (map log_of (drop (suc left) logs))) here.0 (small_in (map log_of (drop (suc left) logs)) here.1) (subst (λ n. (r : ℕ) → is_in r set ≡ is_in r (roles_of (map log_of (drop n logs)))) up same) r
    ∙ ap (λ ls. is_in r (roles_of (map log_of ls))) (sym cut)

pub small_at : (logs : List (ℕ × List CodeEvent)) (left : ℕ) (log : ℕ × List CodeEvent) → AllByRecursion (λ (l : Log). l.0 < 16) (map log_of logs) → left < length logs → log ≡ get_or logs left log → log.0 < 16
small_at logs left log small l e =
    (subst (λ ls. AllByRecursion (λ (l : Log). l.0 < 16) (map log_of ls)) (drop_from logs left log l e) (small_drop left logs small)).0
