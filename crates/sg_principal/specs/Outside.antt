-- What a principal acts on, and what each of these objects reports.
use Rattle.std.specs.Prelude.{◌≡◌, ℕ, List, Option}
use Rattle.std.specs.Borrow.{MutBor}
use Rattle.sg_base.specs.Outside.{FileFaults}
use Rattle.sg_base.specs.declared.address.Addr.{Addr}
use Rattle.sg_base.specs.declared.outside.Files as Files
use Rattle.sg_base.specs.declared.outside.Fresh as Fresh
use Rattle.sg_base.specs.declared.outside.Link as Link
use Rattle.sg_base.specs.declared.outside.Sink as Sink
use Rattle.sg_input.specs.declared.input.Input as Input
use Rattle.sg_ledger.specs.declared.disk.Disk as Disk
use Rattle.sg_wait.specs.declared.coming.Coming.{Coming}
use Rattle.sg_ending.specs.Files.{KnownFiles}
use Rattle.sg_ending.specs.Output.{Output}
use Rattle.sg_principal.specs.declared.stage.Stage as Held

-- ---- what each object reports

-- files: what they hold, if it is known, and their faults
pub record Filed : Type 0 where
  pub held : KnownFiles
  pub faults : FileFaults

-- a link: the address at which it waits, if it is open, the deliveries to come and the frames sent, if they are known, and its count of faults
pub record Linked : Type 0 where
  pub bound : Option Addr
  pub deliveries : Option (List (List ℕ))
  pub sent : Option (List (Addr × List ℕ))
  pub faults : ℕ

-- a link that can wait: the address at which it waits, if it is open, what is to come and the frames sent, if they are known, and its count of faults
pub record Waited : Type 0 where
  pub bound : Option Addr
  pub coming : Option (List Coming)
  pub sent : Option (List (Addr × List ℕ))
  pub faults : ℕ

-- an input: the bytes to come, if they are known, and its count of faults
pub record Entered : Type 0 where
  pub bytes : Option (List ℕ)
  pub faults : ℕ

-- a disk: the name of the file that it is bound to, if it is bound to one, the bytes of this file, if they are known, the images, which are what a crash may leave of it, the moment, what a crash since an earlier moment might have left, and its count of faults
pub record Disked : Type 1 where
  pub bound : Option (List ℕ)
  pub seen : Option (List ℕ)
  pub may_leave : List ℕ → Type 0
  pub moment : ℕ
  pub left_since : (moment : ℕ) → List ℕ → Type 0
  pub faults : ℕ

abbrev pub files_of : {F : Type 0} → Files.Ghosts F → F → Filed
files_of g f = record { held = g.held f; faults = g.faults f }

abbrev pub output_of : {O : Type 0} → Sink.Ghosts O → O → Output
output_of g o = record { bytes = g.written o; faults = g.faults o }

abbrev pub link_of : {L : Type 0} → Link.Ghosts L → L → Linked
link_of g l = record { bound = g.bound l; deliveries = g.deliveries l; sent = g.sent l; faults = g.faults l }

abbrev pub port_of : {P : Type 0} → Link.Ghosts P → (coming : P → Option (List Coming)) → P → Waited
port_of g coming p = record { bound = g.bound p; coming = coming p; sent = g.sent p; faults = g.faults p }

abbrev pub input_of : {I : Type 0} → Input.Ghosts I → I → Entered
input_of g i = record { bytes = g.coming i; faults = g.faults i }

abbrev pub disk_of : {D : Type 0} → Disk.Ghosts D → D → Disked
disk_of g d = record { bound = g.bound d; seen = g.seen d; may_leave = g.may_leave d; moment = g.moment d; left_since = g.left_since d; faults = g.faults d }

-- ---- what a player acts on

-- standard output, its link, and the random bytes to come, if they are known
pub record Stage : Type 0 where
  pub out : Output
  pub link : Linked
  pub random : Option (List (List ℕ))

-- what a run for an application acts on: the same, over a link that can wait, and standard input
pub record Application : Type 0 where
  pub out : Output
  pub link : Waited
  pub random : Option (List (List ℕ))
  pub input : Entered

-- the objects of a player
pub record StageObjects (O L R : Type 0) : Type 0 where
  pub out : O
  pub link : L
  pub fresh : R

abbrev pub stage_of : {O L R : Type 0} → Sink.Ghosts O → Link.Ghosts L → Fresh.Ghosts R → StageObjects O L R → Stage
stage_of o l r s = record { out = output_of o s.out; link = link_of l s.link; random = r.random s.fresh }

abbrev pub application_of : {O L R I : Type 0} → Sink.Ghosts O → Link.Ghosts L → (coming : L → Option (List Coming)) → Fresh.Ghosts R → Input.Ghosts I → StageObjects O L R → I → Application
application_of o l coming r i s entered = record { out = output_of o s.out; link = port_of l coming s.link; random = r.random s.fresh; input = input_of i entered }

-- the objects behind the references that a function is given, as it is called and as it returns
abbrev pub stage_at_call : {O L R : Type 0} → Held.Stage O L R → StageObjects O L R
stage_at_call s = record { out = (s.out).now; link = (s.link).now; fresh = (s.fresh).now }

abbrev pub stage_at_return : {O L R Rest : Type 0} → MutBor O × (MutBor L × (MutBor R × Rest)) → StageObjects O L R
stage_at_return s = record { out = (s.0).now; link = (s.1.0).now; fresh = (s.1.1.0).now }

-- ---- what is left as it was

-- no call changes what files hold: they are as before but for their faults
abbrev pub IsKept : (files files' : Filed) → Type 0
IsKept files files' = files' ≡ record files { faults = files'.faults }
