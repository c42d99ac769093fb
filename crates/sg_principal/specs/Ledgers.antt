-- How the making of a ledger ends, and a run over one, and what they leave of the disk.
use Rattle.std.specs.Prelude.{◌≡◌, ◌≢◌, ℕ, ◌≤◌, ◌⊎◌, Bool, true, false, List, [], take, codes, Some, Result, Ok, Err, OnOk, ⊤}
use Rattle.sg_base.specs.Outside.{HasRisen}
use Rattle.sg_keep.specs.Faults.{Counts, CountsFaults}
use Rattle.sg_joins.specs.Images.{AllRepresent}
use Rattle.sg_keep.specs.KeptRuns.{HasKept, KeptThroughout, RepresentsMore}
use Rattle.sg_keep.specs.declared.fault.KeepFault.{KeepFault}
use Rattle.sg_keep.specs.declared.fault.KeepFault.TheVariants as KeepFaults
use Rattle.sg_ledger.specs.Disk.{Keeps, IfSeen, LeavesOnly}
use Rattle.sg_ledger.specs.Format.{Join, IsLedger, IsFirstBadSlot, Represents}
use Rattle.sg_ledger.specs.declared.ledger.OpenFault.{OpenFault}
use Rattle.sg_ledger.specs.declared.ledger.OpenFault.TheVariants as OpenFaults
use Rattle.sg_play.specs.Played.{Play, played}
use Rattle.sg_play.specs.declared.fault.PlayFault.TheVariants as PlayFaults
use Rattle.sg_ending.specs.Ending.{Ending, Written, NoLedger, BadSlot, LedgerNotEmpty, WriteFailed, LinkFailed, DiskFailed, NoMemory}
use Rattle.sg_ending.specs.Output.{Output, Writes}
use Rattle.sg_setup.specs.Setup.{RunFiles, Setup, HasSetup, LacksSetup}
use Rattle.sg_principal.specs.Outside.{Disked, Filed, Stage}
use Rattle.sg_principal.specs.Runs.{Takes, TakesAtMost, WaitsAt, CanHavePlayed}

-- the file is as it was, and a crash leaves nothing other than before
abbrev pub IsLeft : (disk disk' : Disked) → Type 0
IsLeft disk disk' = (disk'.seen ≡ disk.seen) × Keeps disk.may_leave disk'.may_leave

-- what a disk tells as a call begins, and as it has ended
abbrev pub moment_in : (disk disk' : Disked) → (ended : Bool) → ℕ
moment_in disk disk' false = disk.moment
moment_in disk disk' true = disk'.moment

abbrev pub left_in : (disk disk' : Disked) → (ended : Bool) → (moment : ℕ) → List ℕ → Type 0
left_in disk disk' false = disk.left_since
left_in disk disk' true = disk'.left_since

-- at each moment of the call a crash leaves an image that has P
abbrev pub LeavesMeanwhile : (disk disk' : Disked) → (P : List ℕ → Type 0) → Type 0
LeavesMeanwhile disk disk' P = LeavesOnly (moment_in disk disk') (left_in disk disk') false true P

-- the disk at a later moment, until which its file was left alone: a crash up to then left only what it might have left before
abbrev pub alone_until : (moment : ℕ) → Disked → Disked
alone_until moment disk = record disk { moment = moment; left_since = λ t image. t ≤ disk.moment → disk.left_since t image }

-- nothing was asked of the disk: it is bound to the file of before, a crash leaves all that it left before too, and nothing else at any moment, and the count is the same
abbrev pub IsNotAsked : (disk disk' : Disked) → Type 0
IsNotAsked disk disk' = IsLeft disk disk' × Keeps disk'.may_leave disk.may_leave × LeavesMeanwhile disk disk' disk.may_leave × (disk'.bound ≡ disk.bound) × (disk'.faults ≡ disk.faults)

-- the disk is bound to the file of this name; or it can't be, which its count of faults shows, and it is bound and left as before
abbrev pub IsBound : (file : List ℕ) → (disk disk' : Disked) → Ending → Type 0
IsBound file disk disk' ending = (disk'.bound ≡ Some file) ⊎ ((ending ≡ DiskFailed) × HasRisen disk.faults disk'.faults × (disk'.bound ≡ disk.bound) × IsLeft disk disk')

-- ---- a ledger is made

-- the file had no bytes, each image represents no joins, and the count is the same
abbrev pub IsMade : (disk disk' : Disked) → Type 0
IsMade disk disk' = IfSeen disk.seen (λ file. file ≡ []) × AllRepresent disk'.may_leave [] × (disk'.faults ≡ disk.faults)

-- none is made: the file has bytes already, or the disk failed, which its count alone shows, or memory ran out; a file that has bytes is left
abbrev pub LacksRoom : (disk disk' : Disked) → Ending → Type 0
LacksRoom disk disk' LedgerNotEmpty = IfSeen disk.seen (λ file. file ≢ []) × IsLeft disk disk' × (disk'.faults ≡ disk.faults)
LacksRoom disk disk' DiskFailed = HasRisen disk.faults disk'.faults × IfSeen disk.seen (λ file. file ≢ [] → IsLeft disk disk')
LacksRoom disk disk' NoMemory = IsLeft disk disk' × (disk'.faults ≡ disk.faults)
LacksRoom disk disk' ending = ⊥

-- the making of a ledger of a file ends so: it is made, and then this is written; or it isn't, and nothing is written
abbrev pub Makes : (file : List ℕ) → (old new : Output) → (disk disk' : Disked) → Ending → Type 0
Makes file old new disk disk' ending = IsBound file disk disk' ending ×
    ((IsMade disk disk' × Writes old new (codes "ledger made\n") ending)
    ⊎ ((new ≡ old) × LacksRoom disk disk' ending))

-- ---- a ledger is opened

-- no ledger is opened: the file is none, or this is its first bad slot, or the disk failed, which its count alone shows, or memory ran out
abbrev pub LacksLedger : (disk disk' : Disked) → Ending → Type 0
LacksLedger disk disk' NoLedger = IfSeen disk.seen (λ file. ¬ IsLedger file) × (disk'.faults ≡ disk.faults)
LacksLedger disk disk' (BadSlot slot) = IfSeen disk.seen (λ file. IsLedger file × IsFirstBadSlot file slot) × (disk'.faults ≡ disk.faults)
LacksLedger disk disk' DiskFailed = HasRisen disk.faults disk'.faults
LacksLedger disk disk' NoMemory = disk'.faults ≡ disk.faults
LacksLedger disk disk' ending = ⊥

-- how the program ends if none is opened
abbrev pub ending_of_open : OpenFault → Ending
ending_of_open OpenFaults.NotALedger = NoLedger
ending_of_open (OpenFaults.BadSlot slot) = BadSlot slot
ending_of_open OpenFaults.Failed = DiskFailed
ending_of_open OpenFaults.OutOfMemory = NoMemory

-- ---- a run over a ledger

-- the play of a setup over these joins, over the first deliveries, at most `most`, and with these random bytes
abbrev pub play_over : (opened : List Join) → Setup → (most : ℕ) → (deliveries random : List (List ℕ)) → Play
play_over opened s most deliveries random = played s.keys s.programs opened s.script (take most deliveries) random

-- if the deliveries and the random bytes are known: what was written and sent is what this play writes and sends, up to where it ended, and what a crash leaves of the disk is the ledger with the joins of the play up to there, among them the session and the sender of each frame that was sent
abbrev pub PlaysOver : (opened : List Join) → Setup → (most : ℕ) → (old new : Stage) → (disk' : Disked) → Result (Unit {0}) KeepFault → Type 0
PlaysOver opened s most old new disk' result = (deliveries random : List (List ℕ)) → (old.link).deliveries ≡ Some deliveries → old.random ≡ Some random
    → HasKept (record { written = (old.out).bytes; sent = (old.link).sent }) (record { written = (new.out).bytes; sent = (new.link).sent }) disk'.may_leave (play_over opened s most deliveries random) result

-- if the deliveries and the random bytes are known: at each moment of this play a crash leaves at most one join more than the lines report that were written
abbrev pub KeepsThroughout : (opened : List Join) → Setup → (most : ℕ) → (old new : Stage) → (disk disk' : Disked) → Type 0
KeepsThroughout opened s most old new disk disk' = (deliveries random : List (List ℕ)) → (old.link).deliveries ≡ Some deliveries → old.random ≡ Some random
    → KeptThroughout (moment_in disk disk') (left_in disk disk') false true (old.out).bytes (new.out).bytes (play_over opened s most deliveries random)

-- how the program ends after a play over a ledger
abbrev pub ending_of_keep : Result (Unit {0}) KeepFault → Ending
ending_of_keep (Ok u) = Written
ending_of_keep (Err (KeepFaults.Played PlayFaults.LinkFailed)) = LinkFailed
ending_of_keep (Err (KeepFaults.Played PlayFaults.WriteFailed)) = WriteFailed
ending_of_keep (Err (KeepFaults.Played PlayFaults.OutOfMemory)) = NoMemory
ending_of_keep (Err KeepFaults.DiskFailed) = DiskFailed

-- how often the link, standard output and the disk failed
abbrev pub counts : Stage → Disked → Counts
counts o disk = record { link = (o.link).faults; out = (o.out).faults; disk = disk.faults }

-- the play of a setup over the joins of a ledger that was opened from this disk ended so, of which a fault is reported only if its count rose
pub record EndsOver (opened : List Join) (s : Setup) (most : ℕ) (old new : Stage) (disk disk' : Disked) (result : Result (Unit {0}) KeepFault) : Type 0 where
  pub plays : PlaysOver opened s most old new disk' result
  -- whatever link and random bytes tell, at each moment a crash leaves the joins of the ledger, and then others
  pub any_moment : LeavesMeanwhile disk disk' (RepresentsMore opened)
  pub throughout : KeepsThroughout opened s most old new disk disk'
  pub faults : CountsFaults (counts old disk) (counts new disk') result
  pub left : OnOk result (Takes most (old.link).deliveries (new.link).deliveries)
  pub at_most : TakesAtMost most (old.link).deliveries (new.link).deliveries

-- a setup is played over the ledger that the file of this name is, from the moment on at which it was opened, and over the link at the address of its keys; or the file is none, and nothing is touched
abbrev pub KeepsSetup : (file : List ℕ) → Setup → (most : ℕ) → (old new : Stage) → (disk disk' : Disked) → Ending → Type 0
KeepsSetup file s most old new disk disk' ending =
    ((opened : List Join) × (moment : ℕ) × (result : Result (Unit {0}) KeepFault) × (disk'.bound ≡ Some file) × IfSeen disk.seen (λ bytes. Represents bytes opened) × (disk.moment ≤ moment)
    × WaitsAt s.keys old new ending × EndsOver opened s most old new (alone_until moment disk) disk' result × (ending ≡ ending_of_keep result))
    ⊎ ((new ≡ old) × IsLeft disk disk' × LeavesMeanwhile disk disk' disk.may_leave × IsBound file disk disk' ending × LacksLedger disk disk' ending)

-- a run over the ledger of a file ends so: the files hold a setup, which is played over the ledger, if there is one; or they hold none, and nothing is touched, nor the disk asked
abbrev pub KeepsRun : (file : List ℕ) → RunFiles → (most : ℕ) → (files files' : Filed) → (old new : Stage) → (disk disk' : Disked) → Ending → Type 0
KeepsRun file named most files files' old new disk disk' ending =
    ((s : Setup) × HasSetup files.held named s × KeepsSetup file s most old new disk disk' ending × (files'.faults ≡ files.faults))
    ⊎ ((new ≡ old) × IsNotAsked disk disk' × LacksSetup files.held files.faults files'.faults named ending)

-- with these endings a run over a ledger may have played
abbrev pub CanHaveKept : Ending → Type 0
CanHaveKept DiskFailed = ⊤
CanHaveKept ending = CanHavePlayed ending
