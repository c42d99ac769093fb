-- Runs over one ledger, one after another, and cut off at any moment, are lives of one principal.
use Rattle.std.specs.Prelude.{◌≡◌, ℕ, List, [], ◌∷◌, ◌++◌, Option, map, flat_map, take, false, All, IsTrue, ⊤}
use Rattle.sg_base.specs.declared.address.Addr.{Addr}
use Rattle.sg_base.specs.Outside.{Appends}
use Rattle.sg_keep.specs.KeptRuns.{RepresentsFirst}
use Rattle.sg_ledger.specs.Format.{Join, Represents}
use Rattle.sg_play.specs.Steps.{Step, lines_of}
use Rattle.sg_protocol.specs.Calls.{Event, events_of_answer}
use Rattle.sg_protocol.specs.Node.{has_joined}
use Rattle.sg_protocol.specs.Past.{Past, AreAnswers, new_node, pairs_differ}
use Rattle.sg_protocol.specs.Restarts.{AreLives, joined_by, reported_in_lives}
use Rattle.sg_protocol.specs.Texts.{real}

-- a run over a ledger: what its node was asked; of how many of the first calls the lines were begun, and the frames that the link took; and what was left of the disk, when the run ended or a crash cut it off
pub record LedgerRun : Type 0 where
  pub past : Past
  pub reported : ℕ
  pub sent : List (Addr × List ℕ)
  pub image : List ℕ

-- the node had joined these pairs before, and the answers are its own
abbrev pub IsOver : List Join → Past → Type 0
IsOver opened past = (past.first ≡ opened) × AreAnswers real (new_node past.keys past.programs past.first) past.calls

-- A run opened the ledger with these joins. What it leaves represents these and then those of its first calls: of all that it reported, and with those of each frame that it sent
pub record IsRun (opened : List Join) (r : LedgerRun) : Type 0 where
  pub over : IsOver opened r.past
  pub left : RepresentsFirst r.image opened r.past.calls r.reported r.sent

-- Runs over one ledger, one after another, of which the first opens it with these joins, and each next one what was left
abbrev pub AreRuns : List Join → List LedgerRun → Type 0
AreRuns opened [] = ⊤
AreRuns opened (r ∷ rs) = IsRun opened r × ((next : List Join) × Represents r.image next × AreRuns next rs)

-- what the runs reported
abbrev pub reported_in_runs : List LedgerRun → List Event
reported_in_runs rs = flat_map (λ r. flat_map (λ c. events_of_answer c.answer) (take r.reported r.past.calls)) rs

-- Runs over one ledger are lives of one principal, each of the first calls of its run: of all that the run reported, and maybe of more
abbrev pub RunsAreLives : Type 0
RunsAreLives = (opened : List Join) (runs : List LedgerRun) → AreRuns opened runs → (lives : List (ℕ × Past)) × AreLives real opened (map (λ (l : ℕ × Past). l.1) lives) × (reported_in_lives lives ≡ reported_in_runs runs)

-- So what runs over one ledger reported has no two joins of one pair, and none of a pair that the ledger was first opened with
abbrev pub RunsReportJoinsOnce : Type 0
RunsReportJoinsOnce = (opened : List Join) (runs : List LedgerRun) → AreRuns opened runs →
    IsTrue (pairs_differ (joined_by (reported_in_runs runs))) × All (λ (j : Join). has_joined opened j.0 j.1 ≡ false) (joined_by (reported_in_runs runs))

-- what was written since is a prefix of the lines of these steps
pub record HasWritten (old new : Option (List ℕ)) (steps : List Step) : Type 0 where
  pub written : List ℕ
  pub rest : List ℕ
  pub is : lines_of steps ≡ written ++ rest
  pub lines : Appends old new written
