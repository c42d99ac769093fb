-- Which steps can be taken.
use Rattle.std.proofs.Common.{◌≡◌, ℕ, ◌<◌, true, List, length, sym, ap, ◌∙◌, subst}
use Rattle.sg_model.specs.Lists.{has_text}
use Rattle.sg_protocol.specs.Schedule.{Schedule}
use Rattle.sg_setting.specs.Replay.{without_steps}
use Rattle.sg_drive.specs.GeneratorModel.{HoldsMachine, machine_of}
use Rattle.sg_drive.specs.Machine.{Machine}
use Rattle.sg_sessions.specs.Setup.{players, setup}
use Rattle.sg_drive.specs.declared.generator.Generator.TheInside.{Inside}
use Rattle.sg_sessions.proofs.Setups.{session_there}

module _ (m : Machine) (i : Inside) (view : machine_of i ≡ m) (h : HoldsMachine i) where
  -- what is declared is the setup
  pub is_declared : without_steps m.going.replay.schedule ≡ setup m.sessions m.graph
  is_declared = subst (λ (z : Machine). without_steps z.going.replay.schedule ≡ setup z.sessions z.graph) view (ap without_steps h.taken)

  -- the session of an index is there
  pub is_there : (n : ℕ) → n < m.sessions → n < length m.going.replay.schedule.sessions
  is_there n l = session_there m.going.replay.schedule m.sessions n m.graph is_declared l

  -- one of the principals is honest
  pub is_honest_player : (who : List ℕ) → has_text who (players (length i.graph.now.roles)) ≡ true → has_text who m.going.replay.schedule.honest ≡ true
  is_honest_player who there = ap (λ (z : Schedule). has_text who z.honest) is_declared ∙ ap (λ (z : Machine). has_text who (players (length z.graph.roles))) (sym view) ∙ there
