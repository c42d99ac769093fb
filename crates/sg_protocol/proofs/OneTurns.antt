-- The turn of a session with a sid is that of the one live session with it.
use Rattle.std.specs.Prelude.{◌≡◌, ℕ, ◌≤◌, true, List, [], ◌∷◌, map, filter, find, length, bytes_eq, refl, Option, Some, None, option_and_then}
use Rattle.std.proofs.Common.{sym, ◌∙◌, ap, subst, inl, inr, arith}
use Rattle.std.proofs.lemmas.Bool.{cases_Bool}
use Rattle.sg_model.specs.Lists.{first_some}
use Rattle.sg_model.specs.Names.{Name}
use Rattle.sg_protocol.specs.Texts.{Hash, IsHash}
use Rattle.sg_protocol.specs.Session.{Session}
use Rattle.sg_protocol.specs.Node.{Node, session_with}
use Rattle.sg_protocol.specs.Past.{Past, node_of}
use Rattle.sg_protocol.specs.Schedule.{Schedule}
use Rattle.sg_protocol.specs.World.{past_of}
use Rattle.sg_protocol.specs.Premises.{CollisionFree, hashed}
use Rattle.sg_protocol.specs.Turn.{turn_in, turn_of}
use Rattle.sg_protocol.proofs.Happenings.{Happening, IsCourse, run_of}
use Rattle.sg_protocol.proofs.KnownLogs.{logs_known}
use Rattle.sg_protocol.proofs.OfSid.{of_sid}
use Rattle.sg_model.proofs.Finding.{find-filter}

-- of one live session the turn is that of the first
module _ (n : Node) (sid : List ℕ) where
  first_one : (o : Option ℕ) → first_some (o ∷ []) ≡ o
  first_one None = refl
  first_one (Some k) = refl

  found : (xs : List Session) → filter (of_sid sid) n.live ≡ xs → session_with n.live sid ≡ find (of_sid sid) xs
  found xs e = sym (find-filter (λ (z : Session). bytes_eq z.sid sid) (of_sid sid) (λ z h. h) n.live) ∙ ap (find (of_sid sid)) e

  passes : (xs : List Session) (x : Session) (rest : List Session) → filter (of_sid sid) xs ≡ x ∷ rest → of_sid sid x ≡ true
  passes [] x rest e = absurd (cc)
  passes (y ∷ xs) x rest e = elim (cases_Bool (of_sid sid y)) [
    | inl h ↦ (let q : y ∷ filter (of_sid sid) xs ≡ x ∷ rest = rw h at e in let same : y ≡ x = cc in subst (λ (z : Session). of_sid sid z ≡ true) same h)
    | inr h ↦ passes xs x rest (rw h at e)
  ]

  one_turn : (xs : List Session) → filter (of_sid sid) n.live ≡ xs → length xs ≤ 1 → turn_of n sid ≡ option_and_then (turn_in n.programs) (session_with n.live sid)
  one_turn [] e few = ap (λ l. first_some (map (turn_in n.programs) l)) e ∙ sym (ap (option_and_then (turn_in n.programs)) (found [] e))
  one_turn (x ∷ []) e few =
      let is : session_with n.live sid ≡ Some x = found (x ∷ []) e ∙ rw (passes n.live x [] e) refl in
      ap (λ l. first_some (map (turn_in n.programs) l)) e ∙ first_one (turn_in n.programs x) ∙ sym (ap (option_and_then (turn_in n.programs)) is)
  one_turn (x ∷ y ∷ rest) e few = absurd (omega (arith, few))

pub turn_is : (sha : Hash) (hash : IsHash sha) (s : Schedule) (ps : List Past) (course : List Happening) (is_course : IsCourse sha s ps course) → CollisionFree sha (hashed s (run_of sha ps course)) → (who : Name) (past : Past) (sid : List ℕ) → past_of (run_of sha ps course) who ≡ Some past → turn_of (node_of past) sid ≡ option_and_then (turn_in (node_of past).programs) (session_with (node_of past).live sid)
turn_is sha hash s ps course is_course free who past sid its =
    let k = ((logs_known sha hash s ps course is_course).nodes who past its).known in
    one_turn (node_of past) sid (filter (of_sid sid) (node_of past).live) refl (k.once free sid)
