-- A drive of a file always has an ending.
use Rattle.std.proofs.Common.{◌≡◌, ℕ, zero, suc, ◌+◌, ◌-◌, ◌*◌, ◌%◌, ◌<◌, ◌≤◌, inl, inr, nat_lt, List, [], ◌∷◌, ◌++◌, length, codes, Option, Some, None, slice_get, All, refl, sym, ap, ◌∙◌, subst, arith}
use Rattle.std.specs.Prelude.{min}
use Rattle.std.proofs.lemmas.Bool.{cases_Bool}
use Rattle.std.proofs.lemmas.List.Elements.{All-nil, All-push}
use Rattle.sg_compile.specs.Compiled.{IsWhole}
use Rattle.sg_compile.proofs.Sure.{so, sure}
use Rattle.sg_model.specs.Limits.{most_driven, most_graph_file}
use Rattle.sg_parse.specs.Grammar.{SpellsGraph}
use Rattle.sg_protocol.specs.Graph.{Graph, IsGraph, shape, writes}
use Rattle.sg_protocol.specs.IsSchedule.{AreCompiled, IsSchedule, IsStep}
use Rattle.sg_protocol.specs.Keyring.{Program}
use Rattle.sg_protocol.specs.Schedule.{AbandonStep, ActStep, DeliverStep, Schedule, StartStep, Step, Whole}
use Rattle.sg_protocol.specs.Texts.{real}
use Rattle.sg_protocol.proofs.Joins.{none_joins_twice}
use Rattle.sg_drive.specs.Generated.{AreGroups, Delayed, Delivered, Fate, Generated, Lost, Repeated, accepted_time, begin_all, chosen, deliver, fate_of, goes_on, goes_on_by, meet, number_sent, play, play_along, play_by, player_at, put_back, take_out, turns, values_drawn, with_frame}
use Rattle.sg_sessions.specs.Draws.{draw}
use Rattle.sg_drive.specs.Going.{Going, Pending, beginning, drawing, reported_last, taking, without}
use Rattle.sg_drive.specs.Laws.{GeneratorEnds}
use Rattle.sg_sessions.specs.Setup.{player, setup}
use Rattle.sg_graph.specs.Edges.{leaving_from}
use Rattle.sg_model.specs.Shape.{receiver, target}
use Rattle.sg_drive.proofs.DrawnValues.{drawn_are_values, written_small}
use Rattle.sg_sessions.proofs.Setups.{setup_is_schedule}
use Rattle.sg_world.specs.Laws.{LawsHold, RunLaws}
use Rattle.sg_setting.specs.Replay.{size_of, up_to, without_steps}
use Rattle.sg_ending.specs.Ending.{Written, GraphRefused, NoGraph, TooLarge}
use Rattle.sg_ending.specs.Laws.{EndsAlways, SomeEnding}
use Rattle.sg_ending.specs.Output.{Output}
use Rattle.sg_ending.proofs.SomeEnding.{always, compiled_or_refused, graph_or_none, text_written, with_text}
use Rattle.sg_replay.specs.Ends.{Drives}
use Rattle.sg_replay.proofs.SomeRuns.{room_or_full}
use Rattle.sg_replay.proofs.Walked.{summed}

-- ---- a generated run is one of a schedule

module _ (seed sessions : ℕ) (g : Graph) (is : IsGraph g) (programs : List Program) where
  -- whatever the schedule is, the step is one of its own
  abbrev CanStand : Step → Type 0
  CanStand x = (s : Schedule) → IsStep real s x

  -- the run is over the programs, of the setup, and each of its steps can stand in a schedule
  record IsPlain (x : Going) : Type 0 where
    over : (x.replay).programs ≡ programs
    declared : without_steps (x.replay).schedule ≡ setup sessions g
    steps : All CanStand ((x.replay).schedule).steps

  plain_step : (step : Step) (x : Going) → CanStand step → IsPlain x → IsPlain (taking step x)
  plain_step step x can h = record { over = h.over; declared = h.declared; steps = All-push CanStand ((x.replay).schedule).steps step h.steps can }

  plain_frame : (session label : ℕ) (frame : Option ℕ) (x : Going) → IsPlain x → IsPlain (with_frame session label frame x)
  plain_frame session label None x h = h
  plain_frame session label (Some n) x h = record { over = h.over; declared = h.declared; steps = h.steps }

  plain_along : (session node label : ℕ) (x : Going) → IsPlain x → IsPlain (play_along seed g session node label x)
  plain_along session node label x h =
      let vs = values_drawn seed x.draws g (writes g label) in
      let y = taking (ActStep (player_at g node) session label vs) (drawing (length (writes g label)) x) in
      plain_frame session label (number_sent (reported_last y)) y
      (plain_step (ActStep (player_at g node) session label vs) (drawing (length (writes g label)) x) (λ s. drawn_are_values seed x.draws g (writes g label) (written_small g is label))
      (record { over = h.over; declared = h.declared; steps = h.steps }))

  plain_by : (session node : ℕ) (labels : List ℕ) (x : Going) → IsPlain x → IsPlain (play_by seed g session node labels x)
  plain_by session node [] x h = h
  plain_by session node (e ∷ es) x h = plain_along session node (chosen (e ∷ es) (draw seed x.draws)) (drawing 1 x) (record { over = h.over; declared = h.declared; steps = h.steps })

  plain_play : (session node : ℕ) (x : Going) → IsPlain x → IsPlain (play seed g session node x)
  plain_play session node x h = plain_by session node (leaving_from g node) x h

  plain_on_by : (session node time : ℕ) (labels : List ℕ) (x : Going) → IsPlain x → IsPlain (goes_on_by seed g session node time labels x)
  plain_on_by session node time [] x h = h
  plain_on_by session node time (e ∷ es) x h =
      elim (cases_Bool (nat_lt time 16)) [
        | inl y ↦ rw y (plain_play session node x h)
        | inr n ↦ rw n (plain_step (AbandonStep (player_at g node) session) x (λ s. tt) h)
      ]

  plain_on : (p : Pending) (time : Option ℕ) (x : Going) → IsPlain x → IsPlain (goes_on seed g p time x)
  plain_on p None x h = h
  plain_on p (Some time) x h = plain_on_by p.session (target (shape g) p.label) time (leaving_from g (target (shape g) p.label)) x h

  plain_delivered : (p : Pending) (x : Going) → IsPlain x → IsPlain (deliver seed g p x)
  plain_delivered p x h =
      let step : Step = DeliverStep (player (receiver (shape g) p.label)) (Whole p.frame) in
      plain_on p (accepted_time (reported_last (taking step x))) (taking step x) (plain_step step x (λ s. tt) h)

  plain_back : (p : Pending) (x : Going) → IsPlain x → IsPlain (put_back p x)
  plain_back p x h = record { over = h.over; declared = h.declared; steps = h.steps }

  plain_met : (p : Pending) (fate : Fate) (x : Going) → IsPlain x → IsPlain (meet seed g p fate x)
  plain_met p Delivered x h = plain_delivered p x h
  plain_met p Delayed x h = plain_back p x h
  plain_met p Repeated x h = plain_delivered p (put_back p x) (plain_back p x h)
  plain_met p Lost x h = record { over = h.over; declared = h.declared; steps = h.steps }

  plain_out : (index : ℕ) (o : Option Pending) (x : Going) → IsPlain x → IsPlain (take_out seed g index o x)
  plain_out index None x h = h
  plain_out index (Some p) x h = plain_met p (fate_of p.count (draw seed (x.draws + 1) % 16)) (without index (drawing 2 x)) (record { over = h.over; declared = h.declared; steps = h.steps })

  plain_turns : (n : ℕ) (x : Going) → IsPlain x → IsPlain (turns n seed g x)
  plain_turns zero x h = h
  plain_turns (suc n) x h =
      let y = turns n seed g x in
      let index = draw seed y.draws % length y.pending in
      plain_out index (slice_get y.pending index) y (plain_turns n x h)

  plain_begun : (first n : ℕ) (x : Going) → IsPlain x → IsPlain (begin_all seed g first n x)
  plain_begun first zero x h = h
  plain_begun first (suc n) x h =
      plain_play (first + n) 0 (taking (StartStep (player_at g 0) (first + n)) (begin_all seed g first n x)) (plain_step (StartStep (player_at g 0) (first + n)) (begin_all seed g first n x) (λ s. tt) (plain_begun first n x h))

  plain_groups : (n : ℕ) (y : Going) → AreGroups n seed sessions g (beginning sessions g programs) y → IsPlain y
  plain_groups zero y h = subst IsPlain (sym h) (record { over = refl; declared = refl; steps = All-nil CanStand })
  plain_groups (suc n) y h =
      let group = h.2 in
      subst IsPlain (sym group.is)
      (plain_turns group.count_of_turns (begin_all seed g (16 * n) (min 16 (sessions - 16 * n)) h.0) (plain_begun (16 * n) (min 16 (sessions - 16 * n)) h.0 (plain_groups n h.0 h.1)))

  -- so the laws of runs hold of it
  plain_laws : LawsHold → AreCompiled real (g ∷ []) programs → (x : Going) → IsPlain x → RunLaws x.replay
  plain_laws laws_hold compiled x h =
      let s : Schedule = (x.replay).schedule in
      let t : IsSchedule real (setup sessions g) = setup_is_schedule g is sessions in
      let u : IsSchedule real (without_steps s) = subst (λ (z : Schedule). IsSchedule real z) (sym h.declared) t in
      let graphs : s.graphs ≡ g ∷ [] = ap (λ (z : Schedule). z.graphs) h.declared in
      laws_hold x.replay (record {
        compiled = subst (λ gs. AreCompiled real gs (x.replay).programs) (sym graphs) (subst (AreCompiled real (g ∷ [])) (sym h.over) compiled);
        schedule = record {
          are_graphs = u.are_graphs;
          graph_names = u.graph_names;
          honest_names = u.honest_names;
          keys = u.keys;
          pairs = u.pairs;
          sessions = u.sessions;
          steps = λ k d l. h.steps k d l s;
        };
      })

-- ---- drive

module _ (laws_hold : LawsHold) (generator_ends : GeneratorEnds) (seed sessions : ℕ) (few : sessions ≤ most_driven) (bytes : List ℕ) (old : Output) where
  driven : (g : Graph) → SpellsGraph bytes g → (ps : List Program) → AreCompiled real (g ∷ []) ps → All IsWhole ps → SomeEnding (λ new e. Drives seed sessions bytes old new e)
  driven g spelled ps compiled whole =
      let made = generator_ends seed sessions g ps compiled spelled.two_roles few in
      let x : Going = made.0 in
      let generated : Generated seed sessions g ps x = made.1 in
      let laws : RunLaws x.replay = plain_laws seed sessions g spelled.is_graph ps laws_hold compiled x (plain_groups seed sessions g spelled.is_graph ps generated.groups x generated.are) in
      so (room_or_full x.replay)
      (λ a. elim a [
        | inl room ↦
            (let text = summed x.replay laws sessions x.lost g in
            sure (
              with_text old text.0,
              Written,
              (refl, λ e. cc),
              (
                text.0,
                record {
                  graph = g;
                  programs = ps;
                  spelled = spelled;
                  compiled = compiled;
                  few = whole;
                  sums = record { going = x; generated = generated; room = room; summary = text.1; once = none_joins_twice real (x.replay).programs (x.replay).schedule; laws = laws };
                },
                text_written old text.0,
              ),
            ))
        | inr full ↦
            sure (
              old,
              TooLarge (codes "record"),
              (refl, λ e. cc),
              (
                refl,
                refl,
                record {
                  graph = g;
                  programs = ps;
                  spelled = spelled;
                  compiled = compiled;
                  few = whole;
                  overfull = (size_of (up_to full.0 x.replay), record { going = x; generated = generated; full = record { before = full.0; begins = full.1; full = full.2; first = full.3; size = refl } });
                },
              ),
            )
      ])

  drive_some : SomeEnding (λ new e. Drives seed sessions bytes old new e)
  drive_some =
      elim (graph_or_none bytes) [
        | inr f ↦ sure (old, NoGraph f.0, (refl, λ e. cc), (refl, f.1))
        | inl g ↦
            so (compiled_or_refused g.0 (g.1).is_graph (g.1).two_roles)
            (λ a. elim a [
              | inl w ↦ driven g.0 g.1 w.0 w.1 w.2
              | inr f ↦ sure (old, GraphRefused g.0 f.0, (refl, λ e. cc), (refl, g.1, f.1))
            ])
      ]

-- since the laws of runs hold, and the generator ends
pub drive_always : LawsHold → GeneratorEnds → (seed sessions : ℕ) → sessions ≤ most_driven → EndsAlways (Drives seed sessions) most_graph_file
drive_always laws_hold generator_ends seed sessions few = always (Drives seed sessions) most_graph_file (drive_some laws_hold generator_ends seed sessions few)
