-- How the run of one principal ends, and what it leaves.
use Rattle.std.specs.Prelude.{◌≡◌, ℕ, ◌≤◌, ◌⊎◌, List, [], take, drop, Option, Some, Result, Ok, Err, OnOk, ⊤}
use Rattle.sg_base.specs.Outside.{HasRisen}
use Rattle.sg_play.specs.Ends.{Ended}
use Rattle.sg_play.specs.Faults.{Counts, CountsFaults}
use Rattle.sg_play.specs.Played.{played}
use Rattle.sg_play.specs.Steps.{Step}
use Rattle.sg_play.specs.declared.fault.PlayFault.{PlayFault}
use Rattle.sg_play.specs.declared.fault.PlayFault.TheVariants as Play
use Rattle.sg_protocol.specs.Keyring.{Keyring}
use Rattle.sg_ending.specs.Ending.{Ending, Written, LinkFailed, WriteFailed, NoMemory}
use Rattle.sg_setup.specs.Setup.{RunFiles, Setup, HasSetup, LacksSetup, waits_at}
use Rattle.sg_principal.specs.Outside.{Filed, Stage}

-- the steps of the play of a setup over the first deliveries, at most `most`, and with these random bytes
abbrev pub steps_played : Setup → (most : ℕ) → (deliveries random : List (List ℕ)) → List Step
steps_played s most deliveries random = (played s.keys s.programs [] s.script (take most deliveries) random).steps

-- if the deliveries and the random bytes are known: what was written and sent is what these steps write and send, up to where the play ended
abbrev pub Plays : Setup → (most : ℕ) → (old new : Stage) → Result (Unit {0}) PlayFault → Type 0
Plays s most old new result = (deliveries random : List (List ℕ)) → (old.link).deliveries ≡ Some deliveries → old.random ≡ Some random
    → Ended (record { written = (old.out).bytes; sent = (old.link).sent }) (record { written = (new.out).bytes; sent = (new.link).sent }) (steps_played s most deliveries random) result

-- n deliveries were taken, or all if there were fewer, if they are known
abbrev pub Takes : ℕ → (old new : Option (List (List ℕ))) → Type 0
Takes n old new = (deliveries : List (List ℕ)) → old ≡ Some deliveries → new ≡ Some (drop n deliveries)

-- no more deliveries were taken than this, if they are known
abbrev pub TakesAtMost : ℕ → (old new : Option (List (List ℕ))) → Type 0
TakesAtMost most old new = (deliveries : List (List ℕ)) → old ≡ Some deliveries → (n : ℕ) × (n ≤ most) × (new ≡ Some (drop n deliveries))

-- how often the link and standard output failed
abbrev pub counts : Stage → Counts
counts o = record { link = (o.link).faults; out = (o.out).faults }

-- the play of a setup ended so, of which a fault is reported only if its count rose
pub record EndsPlaying (s : Setup) (most : ℕ) (old new : Stage) (result : Result (Unit {0}) PlayFault) : Type 0 where
  pub plays : Plays s most old new result
  pub left : OnOk result (Takes most (old.link).deliveries (new.link).deliveries)
  pub at_most : TakesAtMost most (old.link).deliveries (new.link).deliveries
  pub faults : CountsFaults (counts old) (counts new) result

-- how the program ends after it
abbrev pub ending_of_play : Result (Unit {0}) PlayFault → Ending
ending_of_play (Ok u) = Written
ending_of_play (Err Play.LinkFailed) = LinkFailed
ending_of_play (Err Play.WriteFailed) = WriteFailed
ending_of_play (Err Play.OutOfMemory) = NoMemory

-- the link isn't opened, which its count of faults shows, and nothing but this count is other than before
pub record LacksLink (old new : Stage) : Type 0 where
  pub risen : HasRisen (old.link).faults (new.link).faults
  pub untouched : new ≡ record old { link = record (old.link) { faults = (new.link).faults } }

-- the link waits at the address of the keys; or it can't be opened there, and nothing is played
abbrev pub WaitsAt : Keyring → (old new : Stage) → Ending → Type 0
WaitsAt keys old new ending = ((new.link).bound ≡ Some (waits_at keys)) ⊎ ((ending ≡ LinkFailed) × LacksLink old new)

-- a run ends so: the files hold a setup, which is played over the link at the address of its keys; or they hold none, and nothing is touched
abbrev pub Runs : RunFiles → (most : ℕ) → (files files' : Filed) → (old new : Stage) → Ending → Type 0
Runs named most files files' old new ending =
    ((s : Setup) × (result : Result (Unit {0}) PlayFault) × HasSetup files.held named s × WaitsAt s.keys old new ending × EndsPlaying s most old new result × (ending ≡ ending_of_play result) × (files'.faults ≡ files.faults))
    ⊎ ((new ≡ old) × LacksSetup files.held files.faults files'.faults named ending)

-- with these endings a run may have played
abbrev pub CanHavePlayed : Ending → Type 0
CanHavePlayed Written = ⊤
CanHavePlayed LinkFailed = ⊤
CanHavePlayed WriteFailed = ⊤
CanHavePlayed NoMemory = ⊤
CanHavePlayed ending = ⊥
