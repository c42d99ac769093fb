-- How a replay goes on, and how it ends.
use Rattle.std.proofs.Common.{◌≡◌, ℕ, ◌+◌, ◌<◌, ◌≤◌, List, All, length, inl, inr, refl, sym, subst, arith}
use Rattle.std.specs.Prelude.{nat_lt}
use Rattle.std.proofs.lemmas.Bool.{cases_Bool, ltb-true, ltb-false}
use Rattle.sg_protocol.specs.IsSchedule.{AreCompiled}
use Rattle.sg_protocol.specs.Keyring.{Program}
use Rattle.sg_protocol.specs.Schedule.{Schedule}
use Rattle.sg_protocol.specs.Texts.{real}
use Rattle.sg_protocol.proofs.Joins.{none_joins_twice}
use Rattle.sg_compile.specs.Compiled.{IsWhole}
use Rattle.sg_report.specs.Report.{IsReport}
use Rattle.sg_sched.specs.Format.Spells.{SpellsSchedule}
use Rattle.sg_world.specs.Account.{account}
use Rattle.sg_world.specs.Faults.{IsFull}
use Rattle.sg_world.specs.Laws.{HasPrograms, LawsHold}
use Rattle.sg_setting.specs.Replay.{Replay, up_to}
use Rattle.sg_ending.specs.Ending.{Ending, NoMemory, TooLarge}
use Rattle.sg_ending.specs.Output.{Output}
use Rattle.sg_replay.specs.Ends.{IsReplay, Replays}
use Rattle.sg_replay.specs.Replayed.{CanBeReplayed, HasNoRoom, Reports, Stops, replay_of}

module _ (programs : List Program) (s : Schedule) where
  -- the record was full as none of the first n steps began
  abbrev pub NoneFull : ℕ → Type 0
  NoneFull n = (k : ℕ) → k < n → IsFull (up_to k (replay_of programs s)) → ⊥

  -- nor as the next one began
  pub none_more : (n : ℕ) (w : Replay) → w ≡ up_to n (replay_of programs s) → NoneFull n → (IsFull w → ⊥) → NoneFull (n + 1)
  none_more n w e before next k l full = elim (cases_Bool (nat_lt k n)) [
    | inl y ↦ before k (ltb-true k n y) full
    | inr z ↦ (let least = ltb-false k n z in
        let same : k ≡ n = omega (arith, l, least) in
        next (subst IsFull (sym e) (subst (λ j. IsFull (up_to j (replay_of programs s))) same full)))
  ]

  -- a step that finds no room stops the replay
  pub stops : (n : ℕ) (w : Replay) (ending : Ending) → w ≡ up_to n (replay_of programs s) → n < length s.steps → HasNoRoom w ending → Stops programs s ending
  stops n w NoMemory e l h = tt
  stops n w (TooLarge what) e l h = (h.0, record { before = n; begins = l; full = subst IsFull e h.1 })
  stops n w _ e l h = absurd h

  -- all steps were taken, and this is the report
  pub reports : (n : ℕ) (w : Replay) (text : List ℕ) → w ≡ replay_of programs s → length s.steps ≤ n → NoneFull n → IsReport (account w) text → LawsHold → HasPrograms (replay_of programs s) → Reports programs s text
  reports n w text e all none report laws has = record {
    room = λ k l. none k (omega (arith, l, all));
    report = subst (λ (r : Replay). IsReport (account r) text) e report;
    once = none_joins_twice real programs s;
    laws = laws (replay_of programs s) has;
  }

  module _ (bytes : List ℕ) (spelled : SpellsSchedule real bytes s) (can : CanBeReplayed s) (compiled : AreCompiled real s.graphs programs) (few : All IsWhole programs) where
    -- the report is one of the bytes
    pub is_replay : (text : List ℕ) → Reports programs s text → IsReplay bytes text
    is_replay text r = record { schedule = s; programs = programs; spelled = spelled; can = can; compiled = compiled; few = few; reports = r }

    -- the program ends without a report
    pub stopped : (out : Output) (ending : Ending) → Stops programs s ending → Replays bytes out out ending
    stopped out NoMemory h = refl
    stopped out (TooLarge what) h = (refl, inr (h.0, record { schedule = s; programs = programs; spelled = spelled; compiled = compiled; few = few; overfull = h.1 }))
    stopped out _ h = absurd h
