-- Answers for sessions, one after another, and the walks in them.
use Rattle.std.proofs.Common.{◌≡◌, ℕ, ◌+◌, ◌<◌, List, [], ◌∷◌, ◌++◌, map, take, length, get_or, sym, ap, ◌∙◌, subst, append_assoc, append-nil}
use Rattle.std.proofs.lemmas.List.{take_more, map-append}
use Rattle.std.specs.Prelude.{Option, Result, Ok, Err, OnOk}
use Rattle.sg_protocol.specs.Graph.{Graph}
use Rattle.sg_protocol.specs.Walk.{StoredStep, IsStoredWalk}
use Rattle.sg_walk.specs.Model.{steps_of}
use Rattle.sg_walk.specs.declared.stored.StoredWalk.{StoredWalk}
use Rattle.sg_audit.specs.Answers.{IsAnswer}
use Rattle.sg_audit.specs.Merged.{Log}
use Rattle.sg_audit.specs.declared.answer.Audit.{Audit}
use Rattle.sg_audit.specs.declared.answer.Audit.TheVariants.{Yes, Clash, No}
use Rattle.sg_audit.specs.Sessions.{Session}
use Rattle.sg_audit.specs.TakingLines.{session_of}
use Rattle.sg_audit.specs.declared.session.SessionLog.{SessionLog}
use Rattle.sg_replay.specs.Audited.{Answered, AllAnswered, Done, Then}

-- the lines for one session more
all_more : (g : Graph) {ss : List Session} {old : List ℕ} (s : Session) (text : List ℕ) → AllAnswered g ss old → Answered g s text → AllAnswered g (ss ++ s ∷ []) (old ++ text)
all_more g s text Done one = subst (AllAnswered g (s ∷ [])) (append-nil text) (Then one Done)
all_more g s text (Then {ss = ss} {text = first} {more = more} here rest) one =
    subst (AllAnswered g _) (sym (append_assoc first more text)) (Then here (all_more g s text rest one))

-- one more of the sessions
pub one_more : (g : Graph) (xs : List SessionLog) (i : ℕ) (x : SessionLog) (old new : List ℕ) → i < length xs → x ≡ get_or xs i x → AllAnswered g (map session_of (take i xs)) old
    → ((text : List ℕ) × Answered g (session_of x) text × (new ≡ old ++ text)) → AllAnswered g (map session_of (take (i + 1) xs)) new
one_more g xs i x old new l at all t =
    let more : take (i + 1) xs ≡ take i xs ++ x ∷ [] = take_more xs i x l ∙ ap (λ y. take i xs ++ y ∷ []) (sym at) in
    let mapped : map session_of (take (i + 1) xs) ≡ map session_of (take i xs) ++ session_of x ∷ [] = ap (map session_of) more ∙ map-append session_of (take i xs) (x ∷ []) in
    subst (λ ss. AllAnswered g ss new) (sym mapped) (subst (AllAnswered g (map session_of (take i xs) ++ session_of x ∷ [])) (sym t.2) (all_more g (session_of x) t.0 all t.1))

-- ---- walks

-- the walk of a right answer is one of the graph
pub walk_of_yes : (g : Graph) (logs : List Log) (known : Option (List StoredStep)) (a : Audit) (walk : StoredWalk) → IsAnswer g logs known a → a ≡ Yes walk → IsStoredWalk g (steps_of walk)
walk_of_yes g logs known (Yes w) walk h e = let same : w ≡ walk = cc in subst (λ (v : StoredWalk). IsStoredWalk g (steps_of v)) same h.0.path.walk
walk_of_yes g logs known (Clash time) walk h e = let no : ⊥ = cc in absurd no
walk_of_yes g logs known No walk h e = let no : ⊥ = cc in absurd no

-- what is said, and then the walk
pub reply_and_walk : {A E : Type 0} (r : Result A E) (old one new reply line other : List ℕ) → one ≡ old ++ reply → line ≡ other → OnOk r (new ≡ one ++ line) → OnOk r (new ≡ old ++ (reply ++ other))
reply_and_walk (Ok x) old one new reply line other e f h = h ∙ ap (λ l. l ++ line) e ∙ append_assoc old reply line ∙ ap (λ l. old ++ (reply ++ l)) f
reply_and_walk (Err x) old one new reply line other e f h = tt
