-- A line of a form is read: edges, keys, sessions and acts.
use Rattle.std.specs.Prelude.{◌≡◌, ℕ, ◌%◌, ◌==◌, nat_le, Bool, true, false, not, ◌&&◌, ◌||◌, if◌then◌else◌, List, [], ◌∷◌, map, length, codes, bytes_eq, refl, Some, None}
use Rattle.std.specs.List.{list_all}
use Rattle.std.specs.Fmt.{decimal}
use Rattle.std.proofs.Common.{sym, ◌∙◌, ap, arith}
use Rattle.std.proofs.lemmas.Bool.{eqb-true, not-true}
use Rattle.sg_model.specs.Names.{Name, is_name, reserved}
use Rattle.sg_model.specs.Lists.{has_text, all_differ}
use Rattle.sg_model.proofs.Small.{and_left, and_right}
use Rattle.sg_sched.specs.Words.{names}
use Rattle.sg_sched.specs.Format.LineContents.{Word, Assignment, EdgeLine, KeyLine, SessionLine, ActLine, joined_names, assignment_word, version_words}
use Rattle.sg_sched.specs.Format.Forms.{is_form, is_assignment, is_wide, are_names}
use Rattle.sg_sched.specs.Format.Values.{is_hex_of}
use Rattle.sg_sched.specs.Format.Reading.{word, edge_form, key_form, session_form, version, act_form}
use Rattle.sg_sched.proofs.FormatWords.{name_list-joined}
use Rattle.sg_sched.proofs.FormLaws.{name_ok, hex_ok}
use Rattle.sg_sched.proofs.NumberLaws.{number_ok, is_wide_of}
use Rattle.sg_sched.proofs.PartLaws.{assignments_ok}

pub edge_complete : (label : Name) (from to : ℕ) → is_form (EdgeLine label from to) ≡ true → edge_form (label ∷ decimal from ∷ decimal to ∷ []) ≡ Some (EdgeLine label from to)
unfolding edge_form word
edge_complete label from to h =
    let a1 = is_name label && not (has_text label reserved) in
    let a2 = a1 && nat_le from 255 in
    let a3 = a2 && nat_le to 255 in
    let h3 : a3 ≡ true = and_left a3 (not (from % 2 == to % 2)) h in
    let h2 : a2 ≡ true = and_left a2 (nat_le to 255) h3 in
    let h1 : a1 ≡ true = and_left a1 (nat_le from 255) h2 in
    rw (
      name_ok label (and_left (is_name label) (not (has_text label reserved)) h1),
      number_ok 255 from (omega arith) (and_right a1 (nat_le from 255) h2),
      number_ok 255 to (omega arith) (and_right a2 (nat_le to 255) h3),
      not-true (has_text label reserved) (and_right (is_name label) (not (has_text label reserved)) h1),
      not-true (from % 2 == to % 2) (and_right a3 (not (from % 2 == to % 2)) h),
    ) refl

pub key_complete : (one two : Name) (ds : Word) → is_form (KeyLine one two ds) ≡ true → key_form (one ∷ two ∷ ds ∷ []) ≡ Some (KeyLine one two ds)
unfolding key_form word
key_complete one two ds h =
    let a1 = is_name one && is_name two in
    let a2 = a1 && not (bytes_eq one two) in
    let h2 : a2 ≡ true = and_left a2 (is_hex_of 32 ds) h in
    let h1 : a1 ≡ true = and_left a1 (not (bytes_eq one two)) h2 in
    rw (
      name_ok one (and_left (is_name one) (is_name two) h1),
      name_ok two (and_right (is_name one) (is_name two) h1),
      hex_ok 32 ds (and_right a2 (is_hex_of 32 ds) h),
      not-true (bytes_eq one two) (and_right a1 (not (bytes_eq one two)) h2),
    ) refl

names_ok : (n : Name) (ns : List Name) → list_all is_name (n ∷ ns) ≡ true → all_differ (n ∷ ns) ≡ true → names (joined_names (n ∷ ns)) ≡ Some (n ∷ ns)
unfolding names
names_ok n ns h d = ap (λ (ps : List Name). if list_all is_name ps && all_differ ps then Some ps else None) (name_list-joined n ns h) ∙ ap (λ b. if b && all_differ (n ∷ ns) then Some (n ∷ ns) else None) h ∙ ap (λ b. if b then Some (n ∷ ns) else None) d

version_ok : (v : ℕ) → (v == 1 || v == 2) ≡ true → version (version_words v) ≡ Some (v, [])
unfolding version
version_ok v h = by (v == 2) refl
  where
    one : (a b : Bool) → (a || b) ≡ true → b ≡ false → a ≡ true
    one true b p q = refl
    one false b p q = sym q ∙ p

    by : (b : Bool) → (v == 2) ≡ b → version (if b then codes "v2" ∷ [] else []) ≡ Some (v, [])
    by true e = ap (λ (n : ℕ). Some (n, [])) (sym (eqb-true v 2 e))
    by false e = ap (λ (n : ℕ). Some (n, [])) (sym (eqb-true v 1 (one (v == 1) (v == 2) h e)))

session_with : (name graph : Name) (nonce : ℕ) (ns : List Name) (v : ℕ) → is_name name ≡ true → is_name graph ≡ true → is_wide nonce ≡ true → nat_le 1 (length ns) ≡ true → are_names ns ≡ true → all_differ ns ≡ true → (v == 1 || v == 2) ≡ true
    → session_form (name ∷ graph ∷ decimal nonce ∷ joined_names ns ∷ version_words v) ≡ Some (SessionLine name graph nonce ns v)
unfolding session_form word
session_with name graph nonce [] v a b c some d e f = absurd (cc)
session_with name graph nonce (n ∷ ns) v a b c some d e f =
    rw (name_ok name a, name_ok graph b, number_ok 18446744073709551615 nonce (omega arith) (is_wide_of nonce c), names_ok n ns d e, version_ok v f) refl

pub session_complete : (name graph : Name) (nonce : ℕ) (ns : List Name) (v : ℕ) → is_form (SessionLine name graph nonce ns v) ≡ true
    → session_form (name ∷ graph ∷ decimal nonce ∷ joined_names ns ∷ version_words v) ≡ Some (SessionLine name graph nonce ns v)
session_complete name graph nonce ns v h =
    let a1 = is_name name && is_name graph in
    let a2 = a1 && is_wide nonce in
    let a3 = a2 && nat_le 1 (length ns) in
    let a4 = a3 && are_names ns in
    let a5 = a4 && all_differ ns in
    let h5 : a5 ≡ true = and_left a5 (v == 1 || v == 2) h in
    let h4 : a4 ≡ true = and_left a4 (all_differ ns) h5 in
    let h3 : a3 ≡ true = and_left a3 (are_names ns) h4 in
    let h2 : a2 ≡ true = and_left a2 (nat_le 1 (length ns)) h3 in
    let h1 : a1 ≡ true = and_left a1 (is_wide nonce) h2 in
    session_with name graph nonce ns v (and_left (is_name name) (is_name graph) h1) (and_right (is_name name) (is_name graph) h1) (and_right a1 (is_wide nonce) h2) (and_right a2 (nat_le 1 (length ns)) h3)
    (and_right a3 (are_names ns) h4) (and_right a4 (all_differ ns) h5) (and_right a5 (v == 1 || v == 2) h)

pub act_complete : (who session label : Name) (vs : List Assignment) → is_form (ActLine who session label vs) ≡ true → act_form (who ∷ session ∷ label ∷ map assignment_word vs) ≡ Some (ActLine who session label vs)
unfolding act_form word
act_complete who session label vs h =
    let n = and_left (are_names (who ∷ session ∷ label ∷ [])) (list_all is_assignment vs) h in
    let m = and_right (is_name who) (is_name session && (is_name label && true)) n in
    let l = and_right (is_name session) (is_name label && true) m in
    rw (
      name_ok who (and_left (is_name who) (is_name session && (is_name label && true)) n),
      name_ok session (and_left (is_name session) (is_name label && true) m),
      name_ok label (and_left (is_name label) true l),
      assignments_ok vs (and_right (are_names (who ∷ session ∷ label ∷ [])) (list_all is_assignment vs) h),
    ) refl
