-- An audit of a file always has an ending.
use Rattle.std.proofs.Common.{◌≡◌, ℕ, ◌<◌, ◌⊎◌, inl, inr, Bool, true, false, List, [], ◌∷◌, ◌++◌, map, Option, Some, None, refl, sym, ap, subst, arith}
use Rattle.std.specs.Option.{option_map}
use Rattle.std.specs.Prelude.{IsTrue}
use Rattle.std.proofs.lemmas.Bool.{cases_Bool}
use Rattle.sg_audit.specs.Agree.{Agree, NoneClashes}
use Rattle.sg_audit.specs.Answers.{IsAnswer, IsAsked}
use Rattle.sg_audit.specs.Merged.{clashes, events_of}
use Rattle.sg_audit.specs.Read.{read}
use Rattle.sg_audit.specs.Sessions.{Logs, Session}
use Rattle.sg_audit.specs.Spells.{Fault, IsFault, SpellsLogs, reported_as}
use Rattle.sg_audit.specs.declared.answer.Audit.{Audit}
use Rattle.sg_audit.specs.declared.answer.Audit.TheVariants.{Clash, No, Yes}
use Rattle.sg_audit.specs.declared.fault.LogFault.{LogFault}
use Rattle.sg_audit.specs.declared.fault.LogFault.TheVariants.{Form, Graph as InGraph, OutOfMemory, TooManyEvents, Twice, Unknown}
use Rattle.sg_audit.proofs.Spelled.{fault_first, read_spelled}
use Rattle.sg_base.specs.Model.{value_of}
use Rattle.sg_base.specs.declared.value.Value.{Value as Held}
use Rattle.sg_base.specs.declared.value.Value.TheVariants.{Int, Text}
use Rattle.sg_compile.specs.Laws.{Surely}
use Rattle.sg_compile.proofs.Sure.{least, or_not, so, sure}
use Rattle.sg_model.specs.Last.{Map}
use Rattle.sg_model.specs.Limits.{most_logs_file}
use Rattle.sg_model.specs.Values.{IntValue, TextValue, Value}
use Rattle.sg_protocol.specs.Graph.{Graph}
use Rattle.sg_protocol.specs.Walk.{StoredStep}
use Rattle.sg_walk.specs.Model.{steps_of, writes_of}
use Rattle.sg_walk.specs.declared.stored.StoredStep.{StoredStep as Step}
use Rattle.sg_walk.specs.declared.stored.StoredWalk.{StoredWalk}
use Rattle.sg_ending.specs.Ending.{Written, GraphRefused}
use Rattle.sg_ending.specs.Laws.{EndsAlways, SomeEnding}
use Rattle.sg_ending.specs.Output.{Output}
use Rattle.sg_ending.proofs.SomeEnding.{always, compiled_or_refused, ok_or_not, text_written, with_text}
use Rattle.sg_replay.specs.Audited.{AllAnswered, Answered, Done, Then, answer_text}
use Rattle.sg_replay.specs.Ends.{Audits}
use Rattle.sg_replay.specs.Faults.{ending_of_logs}

-- ---- a walk can be held

abbrev held : Value → Held
held (IntValue z) = Int z
held (TextValue t) = Text t

held_is : (v : Value) → value_of (held v) ≡ v
held_is (IntValue z) = refl
held_is (TextValue t) = refl

option_is : (o : Option Value) → option_map value_of (option_map held o) ≡ o
option_is None = refl
option_is (Some v) = ap (λ (x : Value). Some x) (held_is v)

abbrev held_writes : Map (Option Value) → Map (Option Held)
held_writes ws = map (λ (w : ℕ × Option Value). (w.0, option_map held w.1)) ws

writes_are : (ws : Map (Option Value)) → writes_of (held_writes ws) ≡ ws
writes_are [] = refl
writes_are ((x, o) ∷ ws) = λ i. (x, option_is o i) ∷ writes_are ws i

abbrev held_step : StoredStep → Step
held_step s = record { label = s.label; writes = held_writes s.writes }

abbrev held_walk : List StoredStep → StoredWalk
held_walk steps = record { steps = map held_step steps }

steps_are : (steps : List StoredStep) → steps_of (held_walk steps) ≡ steps
steps_are [] = refl
steps_are (s ∷ ss) = λ i. record { label = s.label; writes = writes_are s.writes i } ∷ steps_are ss i

-- ---- answers

is_false : (b : Bool) → (b ≡ true → ⊥) → b ≡ false
is_false b other = elim (cases_Bool b) [ inl y ↦ absurd (other y) | inr n ↦ n ]

module _ (g : Graph) where
  answered : (s : Session) (answer : Audit) → IsAnswer g s.logs s.walk answer → (text : List ℕ) × Answered g s text
  answered s answer right = (answer_text g s answer, record { answer = answer; right = right; says = refl })

  -- the logs clash at a least time, or agree with a walk that is asked for, or with none
  session_answered : (s : Session) → Surely ((text : List ℕ) × Answered g s text)
  session_answered s =
      so (least (λ time. IsTrue (clashes (events_of s.logs) time)))
      (λ a. elim a [
        | inr m ↦
            sure (answered s (Clash m.0) ((m.1).here, λ sooner l. is_false (clashes (events_of s.logs) sooner) ((m.1).none_below sooner l)))
        | inl none ↦
            (let apart : NoneClashes s.logs = λ time. is_false (clashes (events_of s.logs) time) (none time) in
            so (or_not ((steps : List StoredStep) × Agree g s.logs steps × IsAsked s.walk steps))
            (λ b. elim b [
              | inl w ↦ sure (answered s (Yes (held_walk w.0)) (subst (λ steps. Agree g s.logs steps × IsAsked s.walk steps) (sym (steps_are w.0)) (w.1, w.2)))
              | inr other ↦ sure (answered s No (apart, λ steps asked agree. other (steps, agree, asked)))
            ]))
      ])

  all_answered : (ss : List Session) → Surely ((text : List ℕ) × AllAnswered g ss text)
  all_answered [] = sure ([], Done)
  all_answered (s ∷ ss) = so (session_answered s) (λ a. so (all_answered ss) (λ b. sure (a.0 ++ b.0, Then a.1 b.1)))

-- ---- audit

-- no fault of bytes is want of memory
never_memory : (f : Fault) → reported_as f ≡ OutOfMemory → ⊥
never_memory f h = grind arith

module _ (bytes : List ℕ) (old : Output) where
  -- a first fault ends it
  refused : (e : LogFault) → IsFault bytes e → SomeEnding (λ new e. Audits bytes old new e)
  refused (Form n) h = sure (old, ending_of_logs (Form n), (refl, λ e. cc), (refl, (Form n, h, refl)))
  refused (Unknown n) h = sure (old, ending_of_logs (Unknown n), (refl, λ e. cc), (refl, (Unknown n, h, refl)))
  refused (Twice n) h = sure (old, ending_of_logs (Twice n), (refl, λ e. cc), (refl, (Twice n, h, refl)))
  refused (InGraph fault) h = sure (old, ending_of_logs (InGraph fault), (refl, λ e. cc), (refl, (InGraph fault, h, refl)))
  refused TooManyEvents h = sure (old, ending_of_logs TooManyEvents, (refl, λ e. cc), (refl, (TooManyEvents, h, refl)))
  refused OutOfMemory h = absurd (never_memory h.fault (sym h.reported))

  -- its graph is compiled, and its sessions are answered; or the graph is refused
  spelled_some : (l : Logs) → SpellsLogs bytes l → SomeEnding (λ new e. Audits bytes old new e)
  spelled_some l s =
      so (compiled_or_refused l.graph ((s.logs).spelled).is_graph ((s.logs).spelled).two_roles)
      (λ a. elim a [
        | inl w ↦
            so (all_answered l.graph l.sessions)
            (λ t. sure (
              with_text old t.0,
              Written,
              (refl, λ e. cc),
              (t.0, record { logs = l; programs = w.0; spelled = s; compiled = w.1; few = w.2; answers = t.1 }, text_written old t.0),
            ))
        | inr f ↦ sure (old, GraphRefused l.graph f.0, (refl, λ e. cc), (refl, (l, s, refl, f.1)))
      ])

  audit_some : SomeEnding (λ new e. Audits bytes old new e)
  audit_some =
      elim (ok_or_not (read bytes)) [
        | inl l ↦ spelled_some l.0 (read_spelled bytes l.0 l.1)
        | inr f ↦ refused (reported_as f.0) (record { fault = f.0; first = fault_first bytes f.0 f.1; reported = refl })
      ]

pub audit_always : EndsAlways Audits most_logs_file
audit_always = always Audits most_logs_file audit_some
