use Rattle.std.proofs.Common.{inl, inr, refl, ap, ◌∙◌}
use Rattle.sg_ending.specs.Model.{ending_held}
use Rattle.sg_principal.specs.Model.{setup_held}
use Rattle.sg_principal.specs.Runs.{ending_of_play}
use Rattle.sg_principal.proofs.Playing.{waits}
use Rattle.sg_principal.proofs.run.run.Goals as goal

pub returns-in-Ok-clause-runs : goal.returns-in-Ok-clause-runs
returns-in-Ok-clause-runs g c =
    inl (
      setup_held c.in-Ok.setup,
      c.play_setup.result,
      c.in-Ok.ensures.has,
      waits (c.in-Ok.setup).keys _ _ (ending_held c.ended.result) (λ e. c.ended.ensures.ending ∙ ap ending_of_play e) c.play_setup.ensures.waits,
      c.play_setup.ensures.ends,
      c.ended.ensures.ending,
      c.in-Ok.ensures.no_fault,
    )

pub returns-in-Ok-clause-as_before : goal.returns-in-Ok-clause-as_before
returns-in-Ok-clause-as_before g c = inl c.ended.ensures.played

pub returns-in-Err-clause-runs : goal.returns-in-Err-clause-runs
returns-in-Err-clause-runs g c = inr (refl, c.in-Err.ensures.lacks)

pub returns-in-Err-clause-as_before : goal.returns-in-Err-clause-as_before
returns-in-Err-clause-as_before g c = inr refl
