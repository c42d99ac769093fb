-- How the program takes a line, as the definitions add it.
use Rattle.std.specs.Prelude.{◌≡◌, ◌≢◌, ℕ, List, Result, Ok, Err, OnOk, IfErr, MatchResult, ⊤}
use Rattle.sg_parse.specs.Reading.{read}
use Rattle.sg_sched.specs.Format.Items.{SoFar}
use Rattle.sg_sched.specs.Format.Kinds as Format
use Rattle.sg_sched.specs.declared.fault.Kind.{Kind}
use Rattle.sg_sched.specs.declared.fault.Kind.TheVariants.{Form, Unknown, Twice, NotHonest, Graph, TooManySteps, TooManySessions}
use Rattle.sg_sched.specs.declared.fault.LineFault.{LineFault}
use Rattle.sg_sched.specs.declared.fault.LineFault.TheVariants.{Line as AtLine, OutOfMemory as NoMemory}
use Rattle.sg_sched_text.specs.declared.stop.Stop.{Stop}
use Rattle.sg_sched_text.specs.declared.stop.Stop.TheVariants.{Wrong, OutOfMemory}
use Rattle.sg_sched_text.specs.Adding.{Added}

-- a kind that is reported
abbrev pub kind_of : Kind → Format.Kind
kind_of Form = Format.Form
kind_of Unknown = Format.Unknown
kind_of Twice = Format.Twice
kind_of NotHonest = Format.NotHonest
kind_of (Graph fault) = Format.Graph fault
kind_of TooManySteps = Format.TooManySteps
kind_of TooManySessions = Format.TooManySessions

-- the line is wrong as the definition says, or there is no memory
abbrev pub IsStop : Added → Stop → Type 0
IsStop added (Wrong kind) = added ≡ Err (kind_of kind)
IsStop added OutOfMemory = ⊤

-- the line is taken as the definition says, or it is not
pub record Takes {A : Type 0} (added : Added) (new : SoFar) (result : Result A Stop) : Type 0 where
  pub taken : OnOk result (added ≡ Ok new)
  pub stopped : IfErr result (IsStop added)

-- the text is refused with this fault, or there is no memory
abbrev pub IsRefused : List ℕ → Stop → Type 0
IsRefused text (Wrong (Graph fault)) = read text ≡ Err fault
IsRefused text (Wrong other) = ⊥
IsRefused text OutOfMemory = ⊤

-- the fault of the line of a number
abbrev pub fault_at : ℕ → Stop → LineFault
fault_at line (Wrong kind) = AtLine line kind
fault_at line OutOfMemory = NoMemory

-- the line is wrong, and memory doesn't run out
abbrev pub IsRefusedEarly : {A : Type 0} → Result A Stop → Type 0
IsRefusedEarly result = MatchResult result (λ _. ⊥) (λ e. e ≢ OutOfMemory)

-- so it is reported
abbrev pub IsFoundEarly : {A : Type 0} → Result A LineFault → Type 0
IsFoundEarly result = MatchResult result (λ _. ⊥) (λ e. e ≢ NoMemory)
