-- How a run for an application ends, and what it leaves.
use Rattle.std.specs.Prelude.{◌≡◌, ℕ, ◌≤◌, ◌⊎◌, true, false, Bool, List, [], Option, Some, None, Result, Ok, Err, ⊤}
use Rattle.sg_base.specs.Outside.{HasRisen}
use Rattle.sg_base.specs.declared.address.Addr.{Addr}
use Rattle.sg_input.specs.Lines.{lines_of}
use Rattle.sg_ledger.specs.Disk.{IfSeen}
use Rattle.sg_ledger.specs.Format.{Join, Represents}
use Rattle.sg_serve.specs.Faults.{Counts, CountsFaults}
use Rattle.sg_serve.specs.Served.{Outside as KnownOutside, Served, images_if, opening}
use Rattle.sg_serve.specs.declared.fault.ServeFault.{ServeFault}
use Rattle.sg_serve.specs.declared.fault.ServeFault.TheVariants as ServeFaults
use Rattle.sg_wait.specs.declared.coming.Coming.{Coming}
use Rattle.sg_ending.specs.Ending.{Ending, Written, InputFailed, WriteFailed, LinkFailed, DiskFailed, NoMemory}
use Rattle.sg_setup.specs.Setup.{HasPrincipal, LacksPrincipal, Principal, waits_at}
use Rattle.sg_principal.specs.Ledgers.{IsBound, IsLeft, IsNotAsked, LacksLedger}
use Rattle.sg_principal.specs.Outside.{Application, Disked, Filed, Waited}

-- the files that a run for an application names
pub record NamedFiles : Type 0 where
  pub keys : List ℕ
  pub programs : List (List ℕ)
  pub ledger : Option (List ℕ)

-- the link isn't opened, which its count of faults shows, and nothing but this count is other than before
pub record LacksLink (old new : Application) : Type 0 where
  pub risen : HasRisen (old.link).faults (new.link).faults
  pub untouched : new ≡ record old { link = record (old.link) { faults = (new.link).faults } }

-- the link was opened at this address: nothing but this and its count of faults is other than before
pub record IsOpened (at : Addr) (old new : Waited) : Type 0 where
  pub untouched : new ≡ record old { bound = Some at; faults = new.faults }
  pub falls : old.faults ≤ new.faults

-- what is known of the sink and the link
abbrev pub given : Application → KnownOutside
given o = record { written = (o.out).bytes; sent = (o.link).sent; coming = (o.link).coming; failed = (o.link).faults }

-- if it is known what is to come of the input, the link and the source: what was written and sent is what the lines of the input come to for a principal that joined these pairs before, up to where the run ended, and what a crash leaves of its ledger, if it has one, is the ledger with the joins up to there
abbrev pub Answers : (kept : Bool) → (opened : List Join) → Principal → (old new : Application) → (disk' : Disked) → Result (Unit {0}) ServeFault → Type 0
Answers kept opened p old new disk' result = (bytes : List ℕ) (coming : List Coming) (random : List (List ℕ)) → (old.input).bytes ≡ Some bytes → (old.link).coming ≡ Some coming → old.random ≡ Some random
    → Served (given old) (given new) new.random (images_if kept disk'.may_leave) (opening p.keys p.programs opened coming random) (lines_of bytes) result

-- how often the link, standard output and the disk failed
abbrev pub counts : Application → Disked → Counts
counts o disk = record { link = (o.link).faults; out = (o.out).faults; disk = disk.faults }

-- so the run ended, of which a fault is reported only if its count rose
pub record EndsServing (kept : Bool) (opened : List Join) (p : Principal) (old new : Application) (disk disk' : Disked) (result : Result (Unit {0}) ServeFault) : Type 0 where
  pub bound : (new.link).bound ≡ (old.link).bound
  pub answers : Answers kept opened p old new disk' result
  pub faults : CountsFaults (counts old disk) (counts new disk') result
  pub input_falls : (old.input).faults ≤ (new.input).faults
  pub input_failed : result ≡ Err ServeFaults.InputFailed → HasRisen (old.input).faults (new.input).faults

-- how the program ends after it
abbrev pub ending_of_serve : Result (Unit {0}) ServeFault → Ending
ending_of_serve (Ok u) = Written
ending_of_serve (Err ServeFaults.InputFailed) = InputFailed
ending_of_serve (Err ServeFaults.WriteFailed) = WriteFailed
ending_of_serve (Err ServeFaults.DiskFailed) = DiskFailed
ending_of_serve (Err ServeFaults.OutOfMemory) = NoMemory

-- a principal that joined these pairs before serves: its link isn't opened; or it is, at the address of its keys, and the lines are answered
abbrev pub ServesOver : (kept : Bool) → (opened : List Join) → Principal → (old new : Application) → (disk disk' : Disked) → Ending → Type 0
ServesOver kept opened p old new disk disk' ending =
    (LacksLink old new × IsLeft disk disk' × (disk'.faults ≡ disk.faults) × (ending ≡ LinkFailed))
    ⊎ ((link : Waited) × (result : Result (Unit {0}) ServeFault) × IsOpened (waits_at p.keys) old.link link × EndsServing kept opened p (record old { link = link }) new disk disk' result × (ending ≡ ending_of_serve result))

-- it serves over the ledger that the file of this name is; or the file is none, and nothing is touched. Without a ledger nothing is asked of the disk
abbrev pub ServesPrincipal : (ledger : Option (List ℕ)) → Principal → (old new : Application) → (disk disk' : Disked) → Ending → Type 0
ServesPrincipal None p old new disk disk' ending = ServesOver false [] p old new disk disk' ending × IsNotAsked disk disk'
ServesPrincipal (Some file) p old new disk disk' ending =
    ((opened : List Join) × (disk'.bound ≡ Some file) × IfSeen disk.seen (λ bytes. Represents bytes opened) × ServesOver true opened p old new disk disk' ending)
    ⊎ ((new ≡ old) × IsLeft disk disk' × IsBound file disk disk' ending × LacksLedger disk disk' ending)

-- a run for an application ends so: the files hold a principal, which serves; or they hold none, and nothing is touched, nor the disk asked
abbrev pub ServesRun : NamedFiles → (files files' : Filed) → (old new : Application) → (disk disk' : Disked) → Ending → Type 0
ServesRun named files files' old new disk disk' ending =
    ((p : Principal) × HasPrincipal files.held named.keys named.programs p × ServesPrincipal named.ledger p old new disk disk' ending × (files'.faults ≡ files.faults))
    ⊎ ((new ≡ old) × IsNotAsked disk disk' × LacksPrincipal files.held files.faults files'.faults named.keys named.programs ending)

-- with these endings a run for an application may have begun
abbrev pub CanHaveServed : Ending → Type 0
CanHaveServed Written = ⊤
CanHaveServed InputFailed = ⊤
CanHaveServed WriteFailed = ⊤
CanHaveServed LinkFailed = ⊤
CanHaveServed DiskFailed = ⊤
CanHaveServed NoMemory = ⊤
CanHaveServed ending = ⊥
