-- What the parts of a summary's writing come to.
use Rattle.std.specs.Prelude.{◌≡◌, ℕ, true, if◌then◌else◌, List, [], ◌++◌, codes, length}
use Rattle.sg_protocol.specs.Walk.{StoredStep}
use Rattle.sg_report.specs.Report.{premise_lines, premises_hold}
use Rattle.sg_world.specs.Account.{account}
use Rattle.sg_setting.specs.Replay.{Replay}
use Rattle.sg_world.specs.Walked.{WalksAreMade}
use Rattle.sg_drive.specs.Summary.{number_line}

-- the line of the walks is written, and these were made
pub record HasWalks (r : Replay) (old new : List ℕ) : Type 0 where
  pub walks : List (List ℕ × List StoredStep)
  pub made : WalksAreMade r walks
  pub text : new ≡ old ++ number_line (codes "walks") (length walks)

-- the lines of the assumptions are written, and that of the walks if both hold
pub record IsRest (r : Replay) (old new : List ℕ) : Type 0 where
  pub walks : List (List ℕ × List StoredStep)
  pub made : premises_hold (account r) ≡ true → WalksAreMade r walks
  pub text : new ≡ old ++ premise_lines (account r).forged (account r).collision_free ++ (if premises_hold (account r) then number_line (codes "walks") (length walks) else [])
