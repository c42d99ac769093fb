-- A command on one file of runs always has an ending.
use Rattle.std.proofs.Common.{◌≡◌, ◌≢◌, ℕ, zero, suc, ◌+◌, ◌<◌, ◌≤◌, ◌⊎◌, inl, inr, List, [], ◌∷◌, ◌++◌, length, get_or, codes, Some, All, slice_get, refl, sym, ap, ◌∙◌, subst, arith}
use Rattle.sg_compile.specs.All.{IsAllFault}
use Rattle.sg_compile.specs.Compiled.{IsWhole}
use Rattle.sg_compile.specs.Laws.{Surely}
use Rattle.sg_compile.specs.declared.all.AllFault.TheVariants.{Refused}
use Rattle.sg_compile.specs.declared.check.CompileFault.{CompileFault}
use Rattle.sg_compile.proofs.Sure.{least, so, sure}
use Rattle.sg_compile.proofs.Whole.{all_or_one_refused}
use Rattle.sg_model.specs.Limits.{most_schedule_file}
use Rattle.sg_protocol.specs.IsSchedule.{AreCompiled}
use Rattle.sg_protocol.specs.Keyring.{Program}
use Rattle.sg_protocol.specs.Schedule.{Schedule}
use Rattle.sg_protocol.specs.Texts.{real}
use Rattle.sg_protocol.proofs.Joins.{none_joins_twice}
use Rattle.sg_sched.specs.Format.Kinds.{Form, Graph as GraphKind, Kind, NotHonest, TooManySessions, TooManySteps, Twice, Unknown}
use Rattle.sg_sched.specs.Format.Spells.{IsFirstFault, SpellsSchedule}
use Rattle.sg_sched_text.specs.Meant.{IsMeant}
use Rattle.sg_sched_text.proofs.Meant.{spelled_is_meant}
use Rattle.sg_world.specs.Faults.{IsFull, NeverFull}
use Rattle.sg_world.specs.Laws.{LawsHold, RunLaws}
use Rattle.sg_setting.specs.Replay.{Replay, up_to}
use Rattle.sg_ending.specs.Ending.{Written, GraphRefused, TooLarge}
use Rattle.sg_ending.specs.Laws.{EndsAlways, SomeEnding}
use Rattle.sg_ending.specs.Output.{Output}
use Rattle.sg_ending.proofs.SomeEnding.{always, text_written, with_text}
use Rattle.sg_replay.specs.Ends.{Replays}
use Rattle.sg_replay.specs.Faults.{ending_of_line}
use Rattle.sg_replay.specs.Replayed.{CanBeReplayed, replay_of}
use Rattle.sg_replay.proofs.SomeSchedule.{schedule_or_wrong}
use Rattle.sg_replay.proofs.Spelled.{spelled_taken}
use Rattle.sg_replay.proofs.Walked.{reported}

-- ---- a record that is full

-- no step of a replay begins with a full record, or this is the first that does
pub room_or_full : (r : Replay) → Surely (NeverFull r ⊎ ((n : ℕ) × (n < length r.schedule.steps) × IsFull (up_to n r) × ((k : ℕ) → k < n → IsFull (up_to k r) → ⊥)))
room_or_full r =
    so (least (λ n. (n < length r.schedule.steps) × IsFull (up_to n r)))
    (λ a. elim a [
      | inl none ↦ sure (inl (λ n l full. none n (l, full)))
      | inr m ↦ (let here = (m.1).here in sure (inr (m.0, here.0, here.1, λ k l full. (m.1).none_below k l ((let w = here.0 in omega (arith, l, w)), full))))
    ])

-- ---- replay

module _ (laws_hold : LawsHold) (bytes : List ℕ) (old : Output) where
  -- a first wrong line ends it
  refused : (n : ℕ) (kind : Kind) → IsFirstFault bytes n kind → SomeEnding (λ new e. Replays bytes old new e)
  refused n Form h = sure (old, ending_of_line n Form, (refl, λ e. cc), (refl, (n, Form, h, refl)))
  refused n Unknown h = sure (old, ending_of_line n Unknown, (refl, λ e. cc), (refl, (n, Unknown, h, refl)))
  refused n Twice h = sure (old, ending_of_line n Twice, (refl, λ e. cc), (refl, (n, Twice, h, refl)))
  refused n NotHonest h = sure (old, ending_of_line n NotHonest, (refl, λ e. cc), (refl, (n, NotHonest, h, refl)))
  refused n (GraphKind fault) h = sure (old, ending_of_line n (GraphKind fault), (refl, λ e. cc), (refl, (n, GraphKind fault, h, refl)))
  refused n TooManySteps h = sure (old, ending_of_line n TooManySteps, (refl, λ e. cc), (refl, inl (n, TooManySteps, h, refl)))
  refused n TooManySessions h = sure (old, ending_of_line n TooManySessions, (refl, λ e. cc), (refl, inl (n, TooManySessions, h, refl)))

  module _ (s : Schedule) (spelled : SpellsSchedule real bytes s) where
    meant : IsMeant s
    meant = spelled_is_meant bytes s spelled

    can : CanBeReplayed s
    can = record { meant = meant; honest = spelled_taken real bytes s spelled }

    -- its graphs are compiled, and the record has room or not
    compiled : (ps : List Program) → AreCompiled real s.graphs ps → All IsWhole ps → SomeEnding (λ new e. Replays bytes old new e)
    compiled ps are whole =
        let r : Replay = replay_of ps s in
        let laws : RunLaws r = laws_hold r (record { compiled = are; schedule = meant.schedule }) in
        so (room_or_full r)
        (λ a. elim a [
          | inl room ↦
              (let text = reported r laws in
              sure (
                with_text old text.0,
                Written,
                (refl, λ e. cc),
                (text.0, record { schedule = s; programs = ps; spelled = spelled; can = can; compiled = are; few = whole; reports = record { room = room; report = text.1; once = none_joins_twice real ps s; laws = laws } }, text_written old text.0),
              ))
          | inr full ↦
              sure (
                old,
                TooLarge (codes "record"),
                (refl, λ e. cc),
                (refl, inr (refl, record { schedule = s; programs = ps; spelled = spelled; compiled = are; few = whole; overfull = record { before = full.0; begins = full.1; full = full.2 } })),
              )
        ])

    -- a graph at its index is refused
    of_graph : (index : ℕ) (f : CompileFault) → IsAllFault s.graphs (Refused index f) → SomeEnding (λ new e. Replays bytes old new e)
    of_graph index f h = sure (old, GraphRefused h.0 f, (refl, λ e. cc), (refl, (s, spelled, (index, h.1, h))))

    spelled_some : SomeEnding (λ new e. Replays bytes old new e)
    spelled_some =
        so (all_or_one_refused s.graphs (λ k d l. ((meant.schedule).are_graphs k d l, meant.roles k d l)))
        (λ a. elim a [
          | inl w ↦ compiled w.0 w.1 w.2
          | inr f ↦ of_graph f.0 f.1 f.2
        ])

  replay_some : SomeEnding (λ new e. Replays bytes old new e)
  replay_some =
      so (schedule_or_wrong bytes)
      (λ a. elim a [
        | inl s ↦ spelled_some s.0 s.1
        | inr f ↦ refused f.0 f.1 f.2
      ])

-- since the laws of runs hold
pub replay_always : LawsHold → EndsAlways Replays most_schedule_file
replay_always laws_hold = always Replays most_schedule_file (replay_some laws_hold)
