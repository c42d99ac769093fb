-- What single words of a request are: sessions and versions.
use Rattle.std.specs.Prelude.{◌≡◌, ℕ, ◌==◌, nat_lt, nat_le, Bool, true, false, ◌||◌, if◌then◌else◌, codes, bytes_eq, refl, Some, None}
use Rattle.std.specs.Fmt.{decimal}
use Rattle.std.proofs.Common.{sym, ◌∙◌, ap, subst, arith}
use Rattle.std.proofs.lemmas.Bool.{leb-true, le-leb, ltb-true, lt-ltb, eqb-true}
use Rattle.std.proofs.lemmas.Slice.Eq.{bytes_eq-Decides}
use Rattle.sg_model.proofs.Small.{and_left, and_right, some_same}
use Rattle.sg_base.specs.Words.{number}
use Rattle.sg_sched.specs.Format.LineContents.{Word}
use Rattle.sg_sched.specs.Format.Forms.{is_short}
use Rattle.sg_sched.proofs.FormatWords.{both}
use Rattle.sg_sched.proofs.FormLaws.{none_some}
use Rattle.sg_sched.proofs.NumberLaws.{number_is, numbered_is, numbered_ok, short_is, is_short_of}
use Rattle.sg_request.specs.Request.{session, version, session_word, is_session}

-- ---- sessions

pub session_is : (w : Word) (n : ℕ) → session w ≡ Some n → (w ≡ session_word n) × (is_session n ≡ true)
unfolding session
session_is w n h =
    let k = numbered_is 115 w n h in
    let some = ltb-true 0 n (and_left (nat_lt 0 n) (is_short n) k.1) in
    (k.0, both (le-leb 1 n (omega arith)) (is_short_of n (and_right (nat_lt 0 n) (is_short n) k.1)))

pub session_ok : (n : ℕ) → is_session n ≡ true → session (session_word n) ≡ Some n
unfolding session
session_ok n h =
    let some = leb-true 1 n (and_left (nat_le 1 n) (nat_le n 4294967295) h) in
    numbered_ok 115 n (both (lt-ltb 0 n (omega arith)) (short_is n (and_right (nat_le 1 n) (nat_le n 4294967295) h)))

-- ---- versions

one : codes "1" ≡ decimal 1
unfolding number
one = (number_is 9 (codes "1") 1 (omega arith) refl).same

two : codes "2" ≡ decimal 2
unfolding number
two = (number_is 9 (codes "2") 2 (omega arith) refl).same

-- a version that is known
abbrev pub is_version : ℕ → Bool
is_version v = v == 1 || v == 2

pub version_is : (w : Word) (v : ℕ) → version w ≡ Some v → (w ≡ decimal v) × (is_version v ≡ true)
unfolding version
version_is w v h = by (bytes_eq w (codes "1")) (bytes_eq w (codes "2")) refl refl h
  where
    by : (a b : Bool) → bytes_eq w (codes "1") ≡ a → bytes_eq w (codes "2") ≡ b → (if a then Some 1 else if b then Some 2 else None) ≡ Some v → (w ≡ decimal v) × (is_version v ≡ true)
    by true b e f h = subst (λ m. (w ≡ decimal m) × (is_version m ≡ true)) (some_same h) ((bytes_eq-Decides w (codes "1")).0 e ∙ one, refl)
    by false true e f h = subst (λ m. (w ≡ decimal m) × (is_version m ≡ true)) (some_same h) ((bytes_eq-Decides w (codes "2")).0 f ∙ two, refl)
    by false false e f h = none_some h

pub version_ok : (v : ℕ) → is_version v ≡ true → version (decimal v) ≡ Some v
unfolding version
version_ok v h = by (v == 1) refl (v == 2) refl h
  where
    at_one : version (codes "1") ≡ Some 1
    at_one = refl

    at_two : version (codes "2") ≡ Some 2
    at_two = refl

    by : (a : Bool) → (v == 1) ≡ a → (b : Bool) → (v == 2) ≡ b → (a || b) ≡ true → version (decimal v) ≡ Some v
    by true e b f h = subst (λ m. version (decimal m) ≡ Some m) (sym (eqb-true v 1 e)) (ap version (sym one) ∙ at_one)
    by false e true f h = subst (λ m. version (decimal m) ≡ Some m) (sym (eqb-true v 2 f)) (ap version (sym two) ∙ at_two)
    by false e false f h = absurd (cc)
