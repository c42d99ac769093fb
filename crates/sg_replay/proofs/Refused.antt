-- How a replay ends whose bytes are no schedule.
use Rattle.std.proofs.Common.{◌≡◌, List, ℕ, inl, refl, sym, subst}
use Rattle.sg_sched_text.specs.ReadSoFar.{IsFault as IsFirst}
use Rattle.sg_sched.specs.Format.Kinds as Format
use Rattle.sg_sched.specs.declared.fault.Kind.TheVariants as kind
use Rattle.sg_sched.specs.declared.fault.LineFault.{LineFault}
use Rattle.sg_sched.specs.declared.fault.LineFault.TheVariants as line
use Rattle.sg_ending.specs.Ending.{Ending}
use Rattle.sg_ending.specs.Output.{Output}
use Rattle.sg_replay.specs.Ends.{Replays}
use Rattle.sg_replay.specs.Faults.{ending_of_fault}

schedule_ends : (bytes : List ℕ) (out : Output) (e : LineFault) → IsFirst bytes e → Replays bytes out out (ending_of_fault e)
schedule_ends bytes out (line.Line n kind.Form) h = (refl, (n, Format.Form, h, refl))
schedule_ends bytes out (line.Line n kind.Unknown) h = (refl, (n, Format.Unknown, h, refl))
schedule_ends bytes out (line.Line n kind.Twice) h = (refl, (n, Format.Twice, h, refl))
schedule_ends bytes out (line.Line n kind.NotHonest) h = (refl, (n, Format.NotHonest, h, refl))
schedule_ends bytes out (line.Line n (kind.Graph fault)) h = (refl, (n, Format.Graph fault, h, refl))
schedule_ends bytes out (line.Line n kind.TooManySteps) h = (refl, inl (n, Format.TooManySteps, h, refl))
schedule_ends bytes out (line.Line n kind.TooManySessions) h = (refl, inl (n, Format.TooManySessions, h, refl))
schedule_ends bytes out line.OutOfMemory h = refl

-- a replay whose bytes are refused with a fault ends as the fault asks
pub no_schedule : (bytes : List ℕ) (out : Output) (e : LineFault) (ending : Ending) → ending ≡ ending_of_fault e → IsFirst bytes e → Replays bytes out out ending
no_schedule bytes out e ending same h = subst (Replays bytes out out) (sym same) (schedule_ends bytes out e h)
