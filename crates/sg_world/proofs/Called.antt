-- What a node answers to a call, as the outcome of the step.
use Rattle.std.proofs.Common.{◌≡◌, ℕ, ◌+◌, ◌<◌, List, [], ◌∷◌, map, length, Option, Some, None, option_map, slice_get, Result, Ok, Err, OnOk, ◌++◌, get_or, take, refl, sym, ◌∙◌, ap, subst}
use Rattle.std.specs.List.{AllByRecursion}
use Rattle.std.specs.Option.{option_map_or}
use Rattle.std.proofs.lemmas.List.{map-append, map_more}
use Rattle.sg_base.specs.declared.value.Value.{Value as Held}
use Rattle.sg_base.specs.Model.{value_of}
use Rattle.sg_model.specs.Bytes.{AreBytes}
use Rattle.sg_model.specs.Last.{Map}
use Rattle.sg_model.specs.Names.{Name}
use Rattle.sg_model.specs.Values.{Value}
use Rattle.sg_protocol.proofs.Progressing.{confounder_length}
use Rattle.sg_protocol.proofs.Spelled.{bytes-append, to_bytes, u64_bytes}
use Rattle.sg_protocol.specs.Acting.{answer}
use Rattle.sg_protocol.specs.Calls as Protocol
use Rattle.sg_protocol.specs.Calls.{Call, Start, Act, Deliver}
use Rattle.sg_protocol.specs.Frame.{Cast, Frame}
use Rattle.sg_protocol.specs.NodeStates.{NodeState}
use Rattle.sg_protocol.specs.Notes.{Notes, no_notes, notes as noted_of}
use Rattle.sg_protocol.specs.Past.{Past, node_of}
use Rattle.sg_protocol.specs.Ranges.{IsCallInRange, AreValues}
use Rattle.sg_protocol.specs.Reading.{read}
use Rattle.sg_protocol.specs.Run.{frame_in}
use Rattle.sg_protocol.specs.Schedule.{NamedSession, Schedule, StartStep, ActStep, sid_at, confounder}
use Rattle.sg_protocol.specs.Spelling.{spelling, u64}
use Rattle.sg_protocol.specs.Texts.{real, session_id}
use Rattle.sg_protocol.specs.Named.{graph_of_call}
use Rattle.sg_protocol.specs.World.{World, call_of}
use Rattle.sg_sched.specs.Format.StepsHeld.{step_of}
use Rattle.sg_sched.specs.declared.step.Step.{Step}
use Rattle.sg_sched.specs.declared.step.Step.TheVariants as OfSchedule
use Rattle.sg_walk.specs.Model.{event_of, values_of}
use Rattle.sg_role.specs.Sending.{with_notes}
use Rattle.sg_node.specs.Answers.{GoesOn, graph_named}
use Rattle.sg_node.specs.Receipts.{IsReceiptAt}
use Rattle.sg_receipt.specs.declared.answer.Happened.{Happened as Begun}
use Rattle.sg_report.specs.Outcome.{graph_in, outcome_of}
use Rattle.sg_report.specs.Reported.{reported_answer}
use Rattle.sg_report.specs.declared.outcome.Outcome.{Outcome}
use Rattle.sg_report.specs.declared.outcome.Outcome.TheVariants as OfStep
use Rattle.sg_world.specs.StepResults.{IsResult, IsResultOfCall}
use Rattle.sg_world.specs.RecordModel.{IfReceived, StepResult, cast_begun, no_frame}

-- the notes of a call that begins with none
noted_first : (blank : StepResult) (notes more : Notes) → blank ≡ no_frame → notes ≡ with_notes blank.notes more → notes ≡ with_notes no_notes more
noted_first blank notes more none h = h ∙ ap (λ (z : StepResult). with_notes z.notes more) none

-- the outcome of a call that sends nothing
pub results_quiet : (number : ℕ) (old new : NodeState) (past : Past) (call : Call) (o : Outcome) (joined : Option Cast) (notes : Notes) (blank c : StepResult) → blank ≡ no_frame → c ≡ record blank { outcome = o; cast = joined; notes = notes } → IsCallInRange call
    → outcome_of o ≡ reported_answer number (answer real (node_of past) call) → None ≡ frame_in (answer real (node_of past) call) → graph_in o ≡ graph_named (answer real (node_of past) call) (graph_of_call real (node_of past) call)
    → ((bs : List ℕ) (f : Frame) → call ≡ Deliver bs → read bs ≡ Ok f → IfReceived o (λ r. IsReceiptAt (node_of past) f r × (joined ≡ f.join)))
    → notes ≡ with_notes blank.notes (noted_of real (node_of past) call) → GoesOn old new call past → IsResultOfCall number old new past call c
results_quiet number old new past call o joined notes blank c none e range told sends graphed shown noted goes =
    subst (IsResultOfCall number old new past call) (sym e) (record {
      range = range;
      reported = told;
      graph = graphed;
      shown = shown;
      frame = ap (λ (z : StepResult). z.frame) none ∙ sends;
      notes = noted_first blank notes (noted_of real (node_of past) call) none noted;
      goes_on = goes;
    })

-- what holds if there is an answer
pub if_is_ok : {A E : Type 0} (Q : Type 0) (r : Result A E) → ((x : A) → r ≡ Ok x → Q) → OnOk r Q
if_is_ok Q (Ok x) f = f x refl
if_is_ok Q (Err e) f = tt

-- ---- the call of a step

pub results_start : (s : Schedule) (w : World) (k number : ℕ) (who : Name) (n : ℕ) (ds : List NamedSession) (cast : Cast) (old new : NodeState) (past : Past) (c : StepResult)
    → ds ≡ s.sessions → option_map (λ (d : NamedSession). d.cast) (slice_get ds n) ≡ Some cast → IsResultOfCall number old new past (Start cast) c → IsResult number old new past (call_of real s w k (StartStep who n)) c
results_start s w k number who n ds cast old new past c same at h =
    subst (λ (o : Option Call). IsResult number old new past o c) (sym (ap (option_map Start) (ap (λ (ds : List NamedSession). option_map (λ (d : NamedSession). d.cast) (slice_get ds n)) (sym same) ∙ at))) h

-- the identifier at an index
sid_is : (s : Schedule) (n : ℕ) (ds : List NamedSession) (sid : List ℕ) → ds ≡ s.sessions → option_map (λ (d : NamedSession). session_id real d.cast) (slice_get ds n) ≡ Some sid → sid ≡ sid_at real s n
sid_is s n ds sid same at = by (slice_get ds n) at ∙ ap (λ (ds : List NamedSession). option_map_or (session_id real) (option_map (λ (d : NamedSession). d.cast) (slice_get ds n)) []) same
  where
    by : (o : Option NamedSession) → option_map (λ (d : NamedSession). session_id real d.cast) o ≡ Some sid → sid ≡ option_map_or (session_id real) (option_map (λ (d : NamedSession). d.cast) o) []
    by None e = absurd (cc)
    by (Some d) e = sym (cc)

pub results_act : (s : Schedule) (w : World) (k number : ℕ) (who : Name) (n label : ℕ) (values : Map Value) (ds : List NamedSession) (sid : List ℕ) (confounders : List (List ℕ)) (old new : NodeState) (past : Past) (c : StepResult)
    → ds ≡ s.sessions → option_map (λ (d : NamedSession). session_id real d.cast) (slice_get ds n) ≡ Some sid → confounders ≡ map (λ (v : ℕ × Value). confounder k v.0) values
    → IsResultOfCall number old new past (Act sid label values confounders) c → IsResult number old new past (call_of real s w k (ActStep who n label values)) c
results_act s w k number who n label values ds sid confounders old new past c same at are h =
    subst (λ (z : List ℕ). IsResultOfCall number old new past (Act z label values (map (λ (v : ℕ × Value). confounder k v.0) values)) c) (sid_is s n ds sid same at)
    (subst (λ (z : List (List ℕ)). IsResultOfCall number old new past (Act sid label values z) c) are h)

-- a step that starts no session begins the one that its frame joined, if it did
pub begun_other : (sessions : List NamedSession) (x : Step) (joined : Option Cast) → ((who : Name) (n : ℕ) → x ≡ OfSchedule.Start who n → ⊥) → cast_begun sessions (step_of x) joined ≡ joined
begun_other sessions (OfSchedule.Start who n) joined never = absurd (never who n refl)
begun_other sessions other joined never = refl

-- ---- answers

-- the outcome of a step that was sent
pub results_sent : (number : ℕ) (old new : NodeState) (past : Past) (sid : List ℕ) (label : ℕ) (values : Map Value) (confounders : List (List ℕ)) (h : Begun) (to bytes : List ℕ) (joined : Option Cast) (notes : Notes) (blank c : StepResult)
    → blank ≡ no_frame → c ≡ record { outcome = OfStep.Sent h to number; cast = joined; frame = Some bytes; notes = notes } → (f : Frame) → answer real (node_of past) (Act sid label values confounders) ≡ Protocol.Sends (event_of h.event) to f → bytes ≡ spelling f
    → AreValues values confounders → Some h.graph.now ≡ graph_named (answer real (node_of past) (Act sid label values confounders)) (graph_of_call real (node_of past) (Act sid label values confounders))
    → notes ≡ with_notes blank.notes (noted_of real (node_of past) (Act sid label values confounders)) → GoesOn old new (Act sid label values confounders) past
    → IsResultOfCall number old new past (Act sid label values confounders) c
results_sent number old new past sid label values confounders h to bytes joined notes blank c none is f given spelled range graphed noted goes =
    subst (IsResultOfCall number old new past (Act sid label values confounders)) (sym is) (record {
      range = range;
      reported = ap (reported_answer number) (sym given);
      graph = graphed;
      shown = λ bs g call reads. absurd (cc);
      frame = ap (λ (z : List ℕ). Some z) spelled ∙ ap frame_in (sym given);
      notes = noted_first blank notes (noted_of real (node_of past) (Act sid label values confounders)) none noted;
      goes_on = goes;
    })

-- a confounder is sixteen bytes
confounder_bytes : (k x : ℕ) → AreBytes 16 (confounder k x)
confounder_bytes k x = (confounder_length k x, to_bytes (confounder k x) (bytes-append (u64 k) (u64 x) (u64_bytes k) (u64_bytes x)))

confounders_bytes : (k : ℕ) (values : Map Value) → AllByRecursion (AreBytes 16) (map (λ (v : ℕ × Value). confounder k v.0) values)
confounders_bytes k [] = tt
confounders_bytes k (v ∷ vs) = (confounder_bytes k v.0, confounders_bytes k vs)

pub are_sixteen : (k : ℕ) (values : Map Value) (cs : List (List ℕ)) → cs ≡ map (λ (v : ℕ × Value). confounder k v.0) values → AllByRecursion (AreBytes 16) cs
are_sixteen k values cs e = subst (AllByRecursion (AreBytes 16)) (sym e) (confounders_bytes k values)

-- one confounder more
pub confounders_more : (k : ℕ) (vs : Map Held) (i : ℕ) (v : ℕ × Held) (old now : List (List ℕ)) (c : List ℕ) → old ≡ map (λ (w : ℕ × Value). confounder k w.0) (values_of (take i vs)) → i < length vs → v ≡ get_or vs i v → c ≡ confounder k v.0 → now ≡ old ++ c ∷ []
    → now ≡ map (λ (w : ℕ × Value). confounder k w.0) (values_of (take (i + 1) vs))
confounders_more k vs i v old now c is within at e more =
    more ∙ (λ j. is j ++ e j ∷ [])
    ∙ ap (λ (w : ℕ × Held). map (λ (w : ℕ × Value). confounder k w.0) (values_of (take i vs)) ++ confounder k w.0 ∷ []) at
    ∙ sym (map-append (λ (w : ℕ × Value). confounder k w.0) (values_of (take i vs)) (values_of (get_or vs i v ∷ [])))
    ∙ ap (map (λ (w : ℕ × Value). confounder k w.0)) (sym (map_more (λ (w : ℕ × Held). (w.0, value_of w.1)) vs i v within))
