-- With which statuses the program ends after a play.
use Rattle.std.proofs.Common.{◌≡◌, ℕ, ◌⊎◌, inl, inr, List, Option, Some, refl, sym, subst}
use Rattle.sg_ending.specs.Ending.{Ending, Written, WriteFailed, LinkFailed, InputFailed, DiskFailed, NoMemory, status_of, line_of}
use Rattle.sg_ending.specs.Output.{Output}
use Rattle.sg_principal.specs.Ledgers.{CanHaveKept}
use Rattle.sg_principal.specs.Runs.{CanHavePlayed}
use Rattle.sg_principal.specs.Serves.{CanHaveServed}
use Rattle.sg_args.specs.Command.{Command, Run, Keep, Stream, Serve, command_of}
use Rattle.sg_ending.specs.Says.{Puts, Says}
use Rattle.sg_top.specs.Top.{HasPlayed, IsOfKeep, IsOfPlay, IsOfServe, MayPlay, PlaysWith}

-- the statuses of endings after a play
of_play : (e : Ending) → CanHavePlayed e → IsOfPlay (status_of e)
of_play Written h = inl refl
of_play WriteFailed h = inr (inl refl)
of_play LinkFailed h = inr (inr (inl refl))
of_play NoMemory h = inr (inr (inr refl))
of_play _ h = absurd h

-- and after one over a ledger
of_keep : (e : Ending) → CanHaveKept e → IsOfKeep (status_of e)
of_keep DiskFailed h = inr refl
of_keep e h = inl (of_play e h)

-- and after one for an application
of_serve : (e : Ending) → CanHaveServed e → IsOfServe (status_of e)
of_serve InputFailed h = inr refl
of_serve e h = inl (of_keep e h)

-- a status that is said is that of the ending, or that of a failed write, or that of 'out of memory'
module _ (P : ℕ → Type 0) (six : P 6) (eight : P 8) where
  of_puts : (old new : Output) (line : List ℕ) (wanted status : ℕ) → P wanted → Puts old new line wanted status → P status
  of_puts old new line wanted status h (inl p) = subst P (sym p.0) h
  of_puts old new line wanted status h (inr p) = subst P (sym p.0) six

  pub of_says : (work : Ending) (old new : Output) (status : ℕ) → P (status_of work) → Says work old new status → P status
  of_says work old new status h (inl p) = of_puts old new (line_of work) (status_of work) status h p
  of_says work old new status h (inr p) = of_puts old new (line_of NoMemory) 8 status eight p.1

-- a failed write, and 'out of memory', may come after a play
six_of_play : IsOfPlay 6
six_of_play = inr (inl refl)

eight_of_play : IsOfPlay 8
eight_of_play = inr (inr (inr refl))

-- the status of a command that may have played
status_reported : (c : Option Command) (work : Ending) (old new : Output) (status : ℕ) → HasPlayed c work → Says work old new status → PlaysWith c status
status_reported (Some (Run keys script most programs)) work old new status h says = of_says IsOfPlay six_of_play eight_of_play work old new status (of_play work h) says
status_reported (Some (Keep file keys script most programs)) work old new status h says = of_says IsOfKeep (inl six_of_play) (inl eight_of_play) work old new status (of_keep work h) says
status_reported (Some (Stream keys script most programs)) work old new status h says = of_says IsOfPlay six_of_play eight_of_play work old new status (of_play work h) says
status_reported (Some (Serve over_tcp ledger keys programs)) work old new status h says = of_says IsOfServe (inl (inl six_of_play)) (inl (inl eight_of_play)) work old new status (of_serve work h) says
status_reported _ work old new status h says = absurd h

-- a command that may have played ends with one of its statuses; or the rest holds
pub may_play : {Rest : Type 0} (args : List (List ℕ)) (c : Option Command) (work : Ending) (old new : Output) (status : ℕ) → c ≡ command_of args → HasPlayed c work ⊎ Rest
    → Says work old new status → MayPlay args status ⊎ Rest
may_play args c work old new status same (inl h) says = inl (subst (λ (x : Option Command). PlaysWith x status) same (status_reported c work old new status h says))
may_play args c work old new status same (inr rest) says = inr rest
