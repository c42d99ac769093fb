-- Runs over one ledger are lives of one principal.
use Rattle.std.specs.Prelude.{◌≡◌, ℕ, zero, suc, ◌≤◌, List, [], ◌∷◌, ◌++◌, map, flat_map, take, length, refl, false, All, IsTrue}
use Rattle.std.proofs.lemmas.Bool.{cases_lt}
use Rattle.std.proofs.Common.{inl, inr, ap, sym, ◌∙◌, subst, arith}
use Rattle.sg_joins.specs.Joins.{joins_made}
use Rattle.sg_keep.specs.KeptRuns.{RepresentsFirst}
use Rattle.sg_ledger.specs.Format.{Join, Represents, SlotsRepresent, pairs_of}
use Rattle.sg_protocol.specs.Calls.{Event, events_of_answer}
use Rattle.sg_protocol.specs.Node.{Node, has_joined}
use Rattle.sg_protocol.specs.Past.{Past, AnsweredCall, AreAnswers, new_node, node_of, pairs_differ}
use Rattle.sg_protocol.specs.NodeAfter.{node_after}
use Rattle.sg_protocol.specs.Restarts.{AreLives, joined_by, reported_in_lives}
use Rattle.sg_protocol.specs.Texts.{Hash, real}
use Rattle.sg_protocol.proofs.ReportedLives.{reported_join_once}
use Rattle.sg_lives.specs.LedgerRuns.{reported_in_runs, RunsAreLives, RunsReportJoinsOnce}
use Rattle.sg_lives.proofs.NodeJoins.{joins_after_all}

take_within : {A : Type 0} (n : ℕ) (xs ys : List A) → n ≤ length xs → take n (xs ++ ys) ≡ take n xs
take_within zero xs ys h = refl
take_within (suc n) [] ys h = absurd (omega (arith, h))
take_within (suc n) (x ∷ xs) ys h = ap (λ l. x ∷ l) (take_within n xs ys (omega (arith, h)))

-- a file represents one list of joins
no_more : (file : List ℕ) (n : ℕ) (first second : List Join) → SlotsRepresent file n first → SlotsRepresent file n second → length first ≤ length second
no_more file n first second one two = elim (cases_lt (length second) (length first)) [
  | inl lt ↦ absurd (two.shut (length second) (omega arith) (omega (arith, lt, one.fits)) (one.gates (length second) lt))
  | inr le ↦ le
]

only_joins : (file : List ℕ) (first second : List Join) → Represents file first → Represents file second → first ≡ second
only_joins file first second one two =
    let a = no_more file 65536 first second one.slots two.slots in
    let b = no_more file 65536 second first two.slots one.slots in
    one.slots.pairs ∙ ap (pairs_of file) (let e : length first ≡ length second = omega (arith, a, b) in e) ∙ sym two.slots.pairs

-- the first answers are answers
first_answers : (sha : Hash) (n : Node) (cs ds : List AnsweredCall) → AreAnswers sha n (cs ++ ds) → AreAnswers sha n cs
first_answers sha n [] ds a = tt
first_answers sha n (c ∷ cs) ds a = (a.0, first_answers sha (node_after n c.call c.answer) cs ds a.1)

pub runs_are_lives : RunsAreLives
runs_are_lives opened [] h = ([], tt, refl)
runs_are_lives opened (r ∷ rs) h =
    let past : Past = r.past in
    let f : RepresentsFirst r.image opened past.calls r.reported r.sent = h.0.left in
    let life : Past = record { keys = past.keys; programs = past.programs; first = opened; calls = f.prefix } in
    let own : AreAnswers real (new_node past.keys past.programs opened) past.calls = subst (λ js. AreAnswers real (new_node past.keys past.programs js) past.calls) h.0.over.0 h.0.over.1 in
    let answered : AreAnswers real (new_node past.keys past.programs opened) f.prefix = first_answers real (new_node past.keys past.programs opened) f.prefix f.rest (subst (AreAnswers real (new_node past.keys past.programs opened)) f.is own) in
    let joins : (node_of life).joins ≡ opened ++ joins_made f.prefix = joins_after_all real (new_node past.keys past.programs opened) f.prefix answered in
    let next : (h.1).0 ≡ opened ++ joins_made f.prefix = only_joins r.image (h.1).0 (opened ++ joins_made f.prefix) (h.1).1 f.represents in
    let rest : (lives : List (ℕ × Past)) × AreLives real (h.1).0 (map (λ (l : ℕ × Past). l.1) lives) × (reported_in_lives lives ≡ reported_in_runs rs) = runs_are_lives (h.1).0 rs (h.1).2 in
    let reported : take r.reported f.prefix ≡ take r.reported past.calls = sym (ap (take r.reported) f.is ∙ take_within r.reported f.prefix f.rest f.enough) in (
      (r.reported, life) ∷ rest.0,
      (refl, answered, subst (λ js. AreLives real js (map (λ (l : ℕ × Past). l.1) rest.0)) (next ∙ sym joins) rest.1),
      ap (λ cs. flat_map (λ (c : AnsweredCall). events_of_answer c.answer) cs ++ reported_in_lives rest.0) reported
          ∙ ap (λ es. flat_map (λ (c : AnsweredCall). events_of_answer c.answer) (take r.reported past.calls) ++ es) rest.2,
    )

pub runs_report_joins_once : RunsReportJoinsOnce
runs_report_joins_once opened runs h =
    let l = runs_are_lives opened runs h in
    subst (λ (es : List Event). IsTrue (pairs_differ (joined_by es)) × All (λ (j : Join). has_joined opened j.0 j.1 ≡ false) (joined_by es)) l.2 (reported_join_once real opened l.0 l.1)
