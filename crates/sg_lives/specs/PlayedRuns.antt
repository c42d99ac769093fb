-- A run of `keep` is a run over the ledger.
use Rattle.std.specs.Prelude.{◌≡◌, ℕ, List, [], take, Result}
use Rattle.sg_base.specs.Outside.{Appends}
use Rattle.sg_keep.specs.KeptRuns.{HasKept, RepresentsAtMost}
use Rattle.sg_keep.specs.declared.fault.KeepFault.{KeepFault}
use Rattle.sg_ledger.specs.Format.{Join}
use Rattle.sg_play.specs.Ends.{Outside}
use Rattle.sg_play.specs.Played.{Play, played}
use Rattle.sg_protocol.specs.Keyring.{Keyring, Program}
use Rattle.sg_script.specs.Script.{Script}
use Rattle.sg_lives.specs.LedgerRuns.{HasWritten, IsRun, LedgerRun}

-- a run is that of `keep` which plays this: its calls are the play's; of those that it reported the lines were written, maybe the last one in part, and nothing else; and its frames were taken
pub record IsPlayedRun (old new : Outside) (p : Play) (r : LedgerRun) : Type 0 where
  pub past : r.past ≡ p.past
  pub written : HasWritten old.written new.written (take r.reported p.steps)
  pub sent : Appends old.sent new.sent r.sent

-- However a run of `keep` ended, an image that a crash may then leave of the disk is left by such a run
abbrev pub KeptIsRun : Type 0
KeptIsRun = (old new : Outside) (image : List ℕ) (keys : Keyring) (programs : List Program) (opened : List Join) (script : Script) (deliveries random : List (List ℕ)) (result : Result (Unit {0}) KeepFault) →
    let p = played keys programs opened script deliveries random in
    HasKept old new (λ i. i ≡ image) p result → (r : LedgerRun) × (r.image ≡ image) × IsRun opened r × IsPlayedRun old new p r

-- So is an image that a crash leaves at any moment of a run of `keep`, of which nothing is then said to be reported
abbrev pub CutOffIsRun : Type 0
CutOffIsRun = (image : List ℕ) (keys : Keyring) (programs : List Program) (opened : List Join) (script : Script) (deliveries random : List (List ℕ)) (count : ℕ) →
    let p = played keys programs opened script deliveries random in
    RepresentsAtMost p.past.first p.past.calls count image → IsRun opened (record { past = p.past; reported = 0; sent = []; image = image })
