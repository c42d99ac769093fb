-- A run ends with a failed link only if the link's count of faults rose.
use Rattle.std.proofs.Common.{◌≡◌, ℕ, inl, inr, List, Result, Err, refl}
use Rattle.sg_base.specs.Outside.{FileFaults, HasRisen}
use Rattle.sg_play.specs.declared.fault.PlayFault.{PlayFault}
use Rattle.sg_play.specs.declared.fault.PlayFault.TheVariants as Play
use Rattle.sg_ending.specs.Ending.{Ending, LinkFailed}
use Rattle.sg_ending.specs.Files.{KnownFiles, EndsAt}
use Rattle.sg_setup.specs.Setup.{RunFiles, LacksPrincipal, AtKeys, AtProgram, LacksSetup, AtPrincipal, AtScript, RefusesKeys, RefusesProgram, RefusesScript}
use Rattle.sg_principal.specs.Outside.{Filed, Stage}
use Rattle.sg_principal.specs.Runs.{Runs, ending_of_play}

-- the play did so
of_play : (r : Result (Unit {0}) PlayFault) → LinkFailed ≡ ending_of_play r → r ≡ Err Play.LinkFailed
of_play (Err Play.LinkFailed) h = refl
of_play _ h = absurd (cc)

-- no file ends a run so
module _ (known : KnownFiles) (faults faults' : FileFaults) where
  at_file : (most : ℕ) (file : List ℕ) (Refuses : List ℕ → Ending → Type 0) → ((bytes : List ℕ) → Refuses bytes LinkFailed → ⊥) → EndsAt known faults faults' most file Refuses LinkFailed → ⊥
  at_file most file Refuses none (inl unread) = unread
  at_file most file Refuses none (inr (bytes, at, few, refused)) = none bytes refused.0

  no_principal : (keys : List ℕ) (programs : List (List ℕ)) → LacksPrincipal known faults faults' keys programs LinkFailed → ⊥
  no_principal keys programs (AtKeys ends) = at_file _ keys RefusesKeys (λ bytes h. h) ends
  no_principal keys programs (AtProgram found stops) = at_file _ stops.file (RefusesProgram stops.programs) (λ bytes h. h) stops.ends

  no_setup : (named : RunFiles) → LacksSetup known faults faults' named LinkFailed → ⊥
  no_setup named (AtPrincipal lacks) = no_principal named.keys named.programs lacks
  no_setup named (AtScript {p = p} has ends) = at_file _ named.script (RefusesScript p.programs) (λ bytes h. h) ends

-- its count rose
pub link_rose : (named : RunFiles) (most : ℕ) (files files' : Filed) (old new : Stage) → Runs named most files files' old new LinkFailed → HasRisen (old.link).faults (new.link).faults
link_rose named most files files' old new (inl (s, result, has, waits, ends, same, none)) = ((ends.faults).link).rises (of_play result same)
link_rose named most files files' old new (inr (same, lacks)) = absurd (no_setup files.held files.faults files'.faults named lacks)
