-- The words of a request are read.
use Rattle.std.specs.Prelude.{◌≡◌, ℕ, nat_le, true, ◌&&◌, List, [], ◌∷◌, map, refl, Some, None}
use Rattle.std.specs.List.{list_all}
use Rattle.std.specs.Fmt.{decimal}
use Rattle.std.proofs.Common.{arith}
use Rattle.sg_model.specs.Names.{Name, is_name}
use Rattle.sg_model.proofs.Small.{and_left, and_right}
use Rattle.sg_sched.specs.Format.LineContents.{Assignment, assignment_word, joined_names}
use Rattle.sg_sched.specs.Format.Forms.{is_assignment}
use Rattle.sg_sched.specs.Format.Reading.{word}
use Rattle.sg_sched.proofs.FormLaws.{name_ok}
use Rattle.sg_sched.proofs.NumberLaws.{number_ok}
use Rattle.sg_sched.proofs.PartLaws.{assignments_ok}
use Rattle.sg_sched.proofs.WholeCraft.{cast_ok}
use Rattle.sg_request.specs.declared.request.Request.{Request}
use Rattle.sg_request.specs.declared.request.Request.TheVariants.{Start, Act, Abandon, Receive, Again, Turn, Id, Quit}
use Rattle.sg_request.specs.Request.{start_form, act_form, receive_form, session_form, quit_form, short_form, form, request_words, session_word, is_request, is_session, is_cast}
use Rattle.sg_request.proofs.WordLaws.{is_version, session_ok, version_ok}

start_complete : (graph : Name) (v : ℕ) (names : List Name) → is_request (Start graph v names) ≡ true → start_form (graph ∷ decimal v ∷ joined_names names ∷ []) ≡ Some (Start graph v names)
unfolding start_form word
start_complete graph v names h =
    let prefix = and_left (is_name graph && is_version v) (is_cast names) h in
    rw (name_ok graph (and_left (is_name graph) (is_version v) prefix), version_ok v (and_right (is_name graph) (is_version v) prefix), cast_ok names (and_right (is_name graph && is_version v) (is_cast names) h)) refl

act_complete : (n : ℕ) (label : Name) (vs : List Assignment) → is_request (Act n label vs) ≡ true → act_form (session_word n ∷ label ∷ map assignment_word vs) ≡ Some (Act n label vs)
unfolding act_form word
act_complete n label vs h =
    let prefix = and_left (is_session n && is_name label) (list_all is_assignment vs) h in
    rw (session_ok n (and_left (is_session n) (is_name label) prefix), name_ok label (and_right (is_session n) (is_name label) prefix), assignments_ok vs (and_right (is_session n && is_name label) (list_all is_assignment vs) h)) refl

receive_complete : (ms : ℕ) → nat_le ms 86400000 ≡ true → receive_form (decimal ms ∷ []) ≡ Some (Receive (Some ms))
unfolding receive_form word
receive_complete ms h = rw (number_ok 86400000 ms (omega arith) h) refl

session_complete : (n : ℕ) → is_session n ≡ true → session_form (session_word n ∷ []) ≡ Some n
unfolding session_form word
session_complete n h = rw (session_ok n h) refl

pub form_complete : (r : Request) → is_request r ≡ true → form (request_words r) ≡ Some r
unfolding form short_form receive_form quit_form
form_complete (Start graph v names) h = start_complete graph v names h
form_complete (Act n label values) h = act_complete n label values h
form_complete (Abandon n) h = rw (session_complete n h) refl
form_complete (Receive None) h = refl
form_complete (Receive (Some ms)) h = receive_complete ms h
form_complete (Again n) h = rw (session_complete n h) refl
form_complete (Turn n) h = rw (session_complete n h) refl
form_complete (Id n) h = rw (session_complete n h) refl
form_complete Quit h = refl
