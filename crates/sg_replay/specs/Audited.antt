-- The answers of audits, as text.
use Rattle.std.specs.Prelude.{◌≡◌, ℕ, Bool, List, [], ◌∷◌, ◌++◌, codes}
use Rattle.std.specs.Fmt.{decimal}
use Rattle.sg_model.specs.Lists.{is_in}
use Rattle.sg_model.specs.Names.{Name}
use Rattle.sg_protocol.specs.Graph.{Graph}
use Rattle.sg_protocol.specs.Walk.{StoredStep}
use Rattle.sg_walk.specs.Model.{steps_of}
use Rattle.sg_audit.specs.Merged.{roles_of}
use Rattle.sg_audit.specs.Sessions.{Session}
use Rattle.sg_audit.specs.Answers.{IsAnswer}
use Rattle.sg_audit.specs.declared.answer.Audit.{Audit}
use Rattle.sg_audit.specs.declared.answer.Audit.TheVariants.{Yes, Clash, No}
use Rattle.sg_text.specs.Walks.{walk_line}

-- the role has a log in the session, and so counts as honest
abbrev pub has_log : Session → ℕ → Bool
has_log s r = is_in r (roles_of s.logs)

-- what is said of a session
abbrev pub reply_text : Name → List ℕ → List ℕ
reply_text name reply = codes "audit " ++ name ++ reply

-- two logs claim this time
abbrev pub clash_text : Name → ℕ → List ℕ
clash_text name time = reply_text name (codes " clash at time ") ++ decimal time ++ 10 ∷ []

-- the logs agree with this walk, which is written as in a report, with * before the steps of roles that have no log
abbrev pub yes_text : Graph → Session → List StoredStep → List ℕ
yes_text g s steps = reply_text s.name (codes " yes\n") ++ walk_line s.name g (has_log s) steps

-- the lines of an answer
abbrev pub answer_text : Graph → Session → Audit → List ℕ
answer_text g s (Yes walk) = yes_text g s (steps_of walk)
answer_text g s (Clash time) = clash_text s.name time
answer_text g s No = reply_text s.name (codes " no\n")

-- the text is the lines of the answer for the session
pub record Answered (g : Graph) (s : Session) (text : List ℕ) : Type 0 where
  pub answer : Audit
  pub right : IsAnswer g s.logs s.walk answer
  pub says : text ≡ answer_text g s answer

-- the text is the lines of the answer for each of the sessions, in their order
pub data AllAnswered (g : Graph) : List Session → List ℕ → Type 0 where
  Done : AllAnswered g [] []
  Then : {s : Session} {ss : List Session} {text more : List ℕ} → Answered g s text → AllAnswered g ss more → AllAnswered g (s ∷ ss) (text ++ more)
