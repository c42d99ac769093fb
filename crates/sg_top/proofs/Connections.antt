-- A run over connections that ends with 7 has a call that failed.
use Rattle.std.proofs.Common.{◌≡◌, ℕ, inl, inr, List, Option, Some, refl, subst, arith}
use Rattle.sg_base.specs.Outside.{HasRisen}
use Rattle.sg_args.specs.Command.{Command, Stream, command_of}
use Rattle.sg_ending.specs.Ending.{Ending, LinkFailed, status_of}
use Rattle.sg_ending.specs.Output.{Output}
use Rattle.sg_ending.specs.Says.{Says}
use Rattle.sg_principal.proofs.FailedLinks.{link_rose}
use Rattle.sg_stream.specs.Counts.{RisesAreOfOneCall}
use Rattle.sg_stream.specs.Link.{StreamHeld}
use Rattle.sg_stream.specs.declared.conns.Conns as Conns
use Rattle.sg_top.specs.Laws.{IsOverStream, StreamFailsByACall}
use Rattle.sg_top.specs.Outside.{Objects, Reported, Reports, over_stream, reported, stream_of}
use Rattle.sg_top.specs.Top.{Does, Works}
use Rattle.sg_top.proofs.Statuses.{of_says}

-- 7 is the status of a failed link alone
of_seven : (e : Ending) → status_of e ≡ 7 → e ≡ LinkFailed
of_seven LinkFailed h = refl
of_seven _ h = absurd (omega arith)

said_seven : (work : Ending) (old new : Output) → Says work old new 7 → work ≡ LinkFailed
said_seven work old new says = of_says (λ (n : ℕ). n ≡ 7 → work ≡ LinkFailed) (λ h. absurd (omega arith)) (λ h. absurd (omega arith)) work old new 7 (of_seven work) says refl

-- the link's count rose
risen : (c : Option Command) (old new : Reported) → IsOverStream c → Works c old new LinkFailed → HasRisen (old.stream).faults (new.stream).faults
risen (Some (Stream keys script most programs)) old new h runs =
    link_rose (record { keys = keys; programs = programs; script = script }) most old.files new.files (over_stream old) (over_stream new) runs
risen _ old new h runs = absurd h

did : {F O L R D S P I : Type 0} (reports : Reports F O L R D S P I) (args : List (List ℕ)) (old new : Objects F O L R D S P I) (work : Ending) → IsOverStream (command_of args)
    → Does reports args old new work → work ≡ LinkFailed → HasRisen (reports.stream old.stream).faults (reports.stream new.stream).faults
did reports args old new work h (inl works) failed =
    risen (command_of args) (reported reports old) (reported reports new) h (subst (λ (e : Ending). Works (command_of args) (reported reports old) (reported reports new) e) failed works)
did reports args old new work h (inr (same, none)) failed = absurd (cc)

-- so one of the counts did
module _ {F O E L R D C P I : Type 0} (g : Conns.Ghosts C) (reports : Reports F O L R D (StreamHeld C) P I) (err : E → Output) where
  pub stream_fails : RisesAreOfOneCall → StreamFailsByACall g reports err
  stream_fails rises args old new h ends = rises _ _ _ _
      (did (record reports { stream = stream_of g }) args old.objects new.objects ends.work h ends.does (said_seven ends.work (err old.err) (err new.err) ends.says))
