-- A run of `serve` is a run over the ledger.
use Rattle.std.specs.Prelude.{◌≡◌, ◌≤◌, ℕ, Bool, List, ◌++◌, map, length, Option, Result}
use Rattle.sg_input.specs.Lines.{Line}
use Rattle.sg_ledger.specs.Format.{Join}
use Rattle.sg_protocol.specs.Keyring.{Keyring, Program}
use Rattle.sg_protocol.specs.Past.{Past}
use Rattle.sg_serve.specs.declared.fault.ServeFault.{ServeFault}
use Rattle.sg_serve.specs.Lines.{Run, until_quit, with_lines}
use Rattle.sg_serve.specs.Served.{Outside, Served, opening}
use Rattle.sg_wait.specs.declared.coming.Coming.{Coming}
use Rattle.sg_lives.specs.LedgerRuns.{HasWritten, IsRun, LedgerRun}

-- the past of a run's node
abbrev pub past_of : Run → Past
past_of r = r.serving.play.past

-- a run is that of `serve` over these lines of input: its calls are those of the first lines, and maybe of the next one; it reported those of the first lines, whose answers were written, maybe the last one in part, and nothing else
pub record IsServedRun (old new : Outside) (start : Run) (input : List Line) (r : LedgerRun) : Type 0 where
  pub begun : List (Line × Bool)
  pub next : List (Line × Bool)
  pub rest : List Line
  pub lines : until_quit input ≡ map (λ x. x.0) (begun ++ next) ++ rest
  pub at_most : length next ≤ 1
  pub written : HasWritten old.written new.written (with_lines start begun).answers
  pub reported : r.reported ≡ length (past_of (with_lines start begun)).calls
  pub past : r.past ≡ past_of (with_lines start (begun ++ next))

-- However a run of `serve` over a ledger ended, an image that a crash may then leave of the disk is left by such a run
abbrev pub ServedIsRun : Type 0
ServedIsRun = (old new : Outside) (left : Option (List (List ℕ))) (image : List ℕ) (keys : Keyring) (programs : List Program) (opened : List Join) (coming : List Coming) (random : List (List ℕ)) (input : List Line) (result : Result (Unit {0}) ServeFault) →
    let start = opening keys programs opened coming random in
    Served old new left (λ i. i ≡ image) start input result → (r : LedgerRun) × (r.image ≡ image) × IsRun opened r × IsServedRun old new start input r
