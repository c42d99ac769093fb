-- How a generated run is summed up, and how a drive ends without a summary.
use Rattle.std.proofs.Common.{◌≡◌, ℕ, ◌*◌, ◌≤◌, List, [], ◌∷◌, All, codes, length, refl, ap, ◌∙◌, subst, arith}
use Rattle.std.proofs.lemmas.List.{length-map}
use Rattle.sg_model.specs.Limits.{most_driven, most_steps}
use Rattle.sg_model.specs.Lists.{range_from}
use Rattle.sg_model.proofs.Numbers.{length-range_from}
use Rattle.sg_parse.specs.Grammar.{SpellsGraph}
use Rattle.sg_compile.specs.Compiled.{IsWhole}
use Rattle.sg_protocol.specs.Graph.{Graph}
use Rattle.sg_protocol.specs.IsSchedule.{AreCompiled}
use Rattle.sg_protocol.specs.Keyring.{Program}
use Rattle.sg_protocol.specs.Schedule.{Schedule}
use Rattle.sg_protocol.specs.Texts.{real}
use Rattle.sg_protocol.proofs.Joins.{none_joins_twice}
use Rattle.sg_world.specs.Laws.{RunLaws}
use Rattle.sg_setting.specs.Replay.{Replay, without_steps}
use Rattle.sg_drive.specs.Faults.{IsGenerateFault}
use Rattle.sg_drive.specs.GeneratorModel.{Drive, IsDrive}
use Rattle.sg_sessions.specs.Setup.{numbered_session, setup}
use Rattle.sg_drive.specs.Summary.{IsSummary}
use Rattle.sg_drive.specs.declared.fault.GenerateFault.{GenerateFault}
use Rattle.sg_drive.specs.declared.fault.GenerateFault.TheVariants.{RecordFull}
use Rattle.sg_ending.specs.Ending.{Ending, NoMemory, TooLarge}
use Rattle.sg_ending.specs.Output.{Output}
use Rattle.sg_replay.specs.Driven.{StopsDrive, Sums}
use Rattle.sg_replay.specs.Ends.{Drives, IsDriving}

module _ (seed sessions : ℕ) (g : Graph) (programs : List Program) where
  -- as many sessions are declared as were asked for
  all_declared : (s : Schedule) → without_steps s ≡ setup sessions g → length s.sessions ≡ sessions
  all_declared s declared =
      ap (λ (t : Schedule). length t.sessions) declared
      ∙ length-map (range_from 1 sessions) (numbered_session g)
      ∙ length-range_from 1 sessions

  module _ (d : Drive) (is : IsDrive seed sessions g programs d) where
    -- there are fewer steps than a replay may have
    pub few_steps : sessions ≤ most_driven → length d.replay.schedule.steps ≤ most_steps
    few_steps few =
        let replay : length d.replay.schedule.steps ≡ length is.going.replay.schedule.steps = ap (λ (r : Replay). length r.schedule.steps) is.replay in
        let schedule : length d.schedule.steps ≡ length is.going.replay.schedule.steps = ap (λ (s : Schedule). length s.steps) is.schedule in
        let short : length d.schedule.steps ≤ 82 * sessions = is.short in
        omega (arith, few, replay, schedule, short)

    -- the summary is that of the generated run
    pub sums : (text : List ℕ) → IsSummary (length d.schedule.sessions) d.lost g d.replay text → RunLaws d.replay → Sums seed sessions g programs text
    sums text summary laws = record {
      going = is.going;
      generated = is.generated;
      room = is.room;
      summary =
          subst (λ (r : Replay). IsSummary sessions is.going.lost g r text) is.replay
          (subst (λ n. IsSummary sessions n g d.replay text) is.lost
          (subst (λ n. IsSummary n d.lost g d.replay text) (all_declared d.schedule is.declared) summary));
      once = none_joins_twice real is.going.replay.programs is.going.replay.schedule;
      laws = subst RunLaws is.replay laws;
    }

  -- a run whose record is full stops the drive
  pub full_record : (fault : GenerateFault) (bytes : ℕ) → fault ≡ RecordFull bytes → IsGenerateFault seed sessions g programs fault → StopsDrive seed sessions g programs (TooLarge (codes "record"))
  full_record fault bytes is h = (refl, (bytes, subst (IsGenerateFault seed sessions g programs) is h))

  module _ (bytes : List ℕ) (spelled : SpellsGraph bytes g) (compiled : AreCompiled real (g ∷ []) programs) (few : All IsWhole programs) where
    -- the summary is one of the bytes
    pub is_driving : (text : List ℕ) → Sums seed sessions g programs text → IsDriving seed sessions bytes text
    is_driving text s = record { graph = g; programs = programs; spelled = spelled; compiled = compiled; few = few; sums = s }

    -- the program ends without a summary
    pub stopped : (out : Output) (ending : Ending) → StopsDrive seed sessions g programs ending → Drives seed sessions bytes out out ending
    stopped out NoMemory h = refl
    stopped out (TooLarge what) h = (refl, h.0, record { graph = g; programs = programs; spelled = spelled; compiled = compiled; few = few; overfull = h.1 })
    stopped out _ h = absurd h
