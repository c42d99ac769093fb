-- One more step of a run, in the nodes and the record.
use Rattle.std.proofs.Common.{◌≡◌, ◌≢◌, ℕ, zero, suc, ◌+◌, true, List, [], ◌∷◌, ◌++◌, map, length, sum_by, Option, Some, None, option_map, option_and_then, slice_get, filter_map, Result, Ok, Err, refl, sym, ◌∙◌, ap, subst, arith, append_assoc, append-nil}
use Rattle.std.specs.Prelude.{IfSome}
use Rattle.std.specs.List.{AllZip}
use Rattle.std.specs.Option.{option_map_or, option_to_list}
use Rattle.std.specs.Result.{result_ok}
use Rattle.indexmap.specs.IndexMap.{set_value_at}
use Rattle.std.proofs.lemmas.List.{map-append}
use Rattle.std.proofs.lemmas.List.Elements.{filter_map-append}
use Rattle.std.proofs.lemmas.List.Sums.{sum_by-append}
use Rattle.sg_model.specs.Lists.{all_differ}
use Rattle.sg_model.specs.Names.{Name}
use Rattle.sg_model.specs.Values.{Value}
use Rattle.sg_protocol.specs.Acting.{answer}
use Rattle.sg_protocol.specs.Calls.{Abandon, Act, Answer, Call, Deliver, Happened, Sends, Start, events_of_answer}
use Rattle.sg_protocol.specs.Crafted.{crafted}
use Rattle.sg_protocol.specs.Frame.{Cast, Frame}
use Rattle.sg_protocol.specs.Keyring.{Program}
use Rattle.sg_protocol.specs.NodeStates.{NodeState, RepresentsPast}
use Rattle.sg_protocol.specs.Notes.{Notes, no_notes, notes as noted_of}
use Rattle.sg_protocol.specs.Past.{Past, node_of, past_after}
use Rattle.sg_protocol.specs.Reading.{read}
use Rattle.sg_protocol.specs.Run.{called_if, cast_in, frame_in, world_after}
use Rattle.sg_protocol.specs.Schedule.{Schedule, Step, Craft, who_of, cast_of, sid_at, confounder, StartStep, ActStep, AbandonStep, DeliverStep, CraftStep}
use Rattle.sg_protocol.specs.Spelling.{spelling}
use Rattle.sg_protocol.specs.Steps.{with_step, record_size, logged_size, frame_number}
use Rattle.sg_protocol.specs.Texts.{real}
use Rattle.sg_protocol.specs.Verdict.{verdict_on}
use Rattle.sg_protocol.specs.World as Core
use Rattle.sg_protocol.specs.World.{World, Logged, Answered, bytes_of, past_of, call_of}
use Rattle.sg_certify.specs.Adding.{AreHonestIn}
use Rattle.sg_node.proofs.Life.{pasts_go_on}
use Rattle.sg_node.specs.Answers.{IsAnsweredPast, graph_named}
use Rattle.sg_node.specs.Receipts.{Receipt, IsReceiptAt}
use Rattle.sg_world.specs.StepResults.{IsResult, IsResultOfCall}
use Rattle.sg_world.specs.Entries.{answer_in}
use Rattle.sg_world.specs.RecordModel.{StepResult, TakenStep, Recorded, HoldsRun, IfReceived, IsHonestIn, IsLearnt, cast_begun, with_result}
use Rattle.sg_world.specs.Representation.{RepresentsAs, RepresentPasts}
use Rattle.sg_report.specs.Outcome.{graph_in, outcome_of}
use Rattle.sg_report.specs.Reported.{event_reported, reported_after, reported_answer, reported_log, reported_outcome}
use Rattle.sg_report.specs.declared.outcome.Outcome.{Outcome}
use Rattle.sg_report.specs.declared.outcome.Outcome.TheVariants as OfStep
use Rattle.sg_world.proofs.EntryGraphs.{IsBefore, graph_of_called, learnt_same}
use Rattle.sg_world.proofs.Pasts.{Named, names, Found, found, after}
use Rattle.sg_world.proofs.Zipped.{zip_more}

-- what is reported of a longer log
reported_more : (before xs : List Logged) (l : Logged) → reported_after before (xs ++ l ∷ []) ≡ reported_after before xs ++ reported_outcome (frame_number (before ++ xs)) l.outcome ∷ []
reported_more before [] l = ap (λ (z : List Logged). reported_outcome (frame_number z) l.outcome ∷ []) (sym (append-nil before))
reported_more before (x ∷ xs) l =
    ap (λ z. reported_outcome (frame_number before) x.outcome ∷ z) (reported_more (before ++ x ∷ []) xs l
    ∙ ap (λ (z : List Logged). reported_after (before ++ x ∷ []) xs ++ reported_outcome (frame_number z) l.outcome ∷ []) (append_assoc before (x ∷ []) xs))

-- the record of a run with one more entry
record Entered (programs : List Program) (s : Schedule) (ps : List Past) (w : World) (l : Logged) (r : Recorded) (x : Step) (honest : List ℕ) (c : StepResult) : Type 0 where
  reported : map (λ (e : TakenStep). outcome_of e.outcome) (with_result r x honest c).entries ≡ reported_log (w.log ++ l ∷ [])
  learnt : AllZip (IsLearnt programs (with_step s x)) (with_result r x honest c).entries (w.log ++ l ∷ [])
  notes : (with_result r x honest c).notes ≡ map (λ (l : Logged). l.notes) (w.log ++ l ∷ [])
  frames : (with_result r x honest c).frames ≡ Core.frames (record { pasts = ps; log = w.log ++ l ∷ [] })
  size : (with_result r x honest c).size ≡ record_size s (record { pasts = ps; log = w.log ++ l ∷ [] })

entered : (programs : List Program) (s : Schedule) (ps : List Past) (w : World) (nodes : List Named) (l : Logged) (r : Recorded) (k : ℕ) (x : Step) (honest : List ℕ) (c : StepResult) → IsBefore programs s w k x → HoldsRun programs s w nodes r
    → outcome_of c.outcome ≡ reported_outcome (length r.frames + 1) l.outcome → IsLearnt programs (with_step s x) (record { step = x; outcome = c.outcome; honest = honest }) l → c.frame ≡ l.frame → c.notes ≡ l.notes → Entered programs s ps w l r x honest c
entered programs s ps w nodes l r k x honest c b h reported learnt frame notes = record {
  reported =
      map-append (λ (e : TakenStep). outcome_of e.outcome) r.entries (record { step = x; outcome = c.outcome; honest = honest } ∷ [])
      ∙ (λ i. h.reported i ++ reported i ∷ [])
      ∙ ap (λ n. reported_log w.log ++ reported_outcome n l.outcome ∷ []) number
      ∙ sym (reported_more [] w.log l);
  learnt = zip_more (IsLearnt programs (with_step s x)) r.entries w.log (record { step = x; outcome = c.outcome; honest = honest }) l (learnt_same programs s x r.entries w.log b.pasts h.learnt) learnt;
  notes =
      (λ i. h.notes i ++ notes i ∷ [])
      ∙ sym (map-append (λ (l : Logged). l.notes) w.log (l ∷ []));
  frames =
      (λ i. h.frames i ++ option_to_list (frame i))
      ∙ ap (λ z. Core.frames w ++ z) (one l.frame)
      ∙ sym (filter_map-append (λ (l : Logged). l.frame) w.log (l ∷ []));
  size =
      (λ i. h.size i + both (frame i) (notes i))
      ∙ (let i = sum_by-append logged_size w.log (l ∷ []) in omega (arith, i));
}
  where
    number : length r.frames + 1 ≡ frame_number w.log
    number = (let e = ap (λ (z : List (List ℕ)). length z) h.frames in omega (arith, e))

    one : (o : Option (List ℕ)) → option_to_list o ≡ filter_map (λ (l : Logged). l.frame) (record l { frame = o } ∷ [])
    one None = refl
    one (Some bs) = refl

    both : Option (List ℕ) → Notes → ℕ
    both o n = option_map_or (λ (bs : List ℕ). length bs) o 0 + sum_by (λ n. length n.text) n.made + sum_by (λ n. length n.text) n.found + sum_by (λ t. length t) n.hashed

held : (programs : List Program) (s : Schedule) (ps : List Past) (w : World) (nodes : List Named) (l : Logged) (r : Recorded) (x : Step) (honest : List ℕ) (c : StepResult) → RepresentPasts nodes ps → Entered programs s ps w l r x honest c
    → HoldsRun programs (with_step s x) (record { pasts = ps; log = w.log ++ l ∷ [] }) nodes (with_result r x honest c)
held programs s ps w nodes l r x honest c represent e = record { represent = represent; reported = e.reported; learnt = e.learnt; notes = e.notes; frames = e.frames; size = e.size }

-- ---- what an entry has learnt

-- a receipt is of the frame whose call it answers
received_weaker : (P Q : Receipt → Type 0) (o : Outcome) → ((x : Receipt) → P x → Q x) → IfReceived o P → IfReceived o Q
received_weaker P Q (OfStep.Received x) f h = f x h
received_weaker P Q (OfStep.Started d) f h = h
received_weaker P Q (OfStep.Sent d to frame) f h = h
received_weaker P Q other f h = tt

-- an answer with an event is reported with one
has_event : (n : ℕ) (a : Answer) → events_of_answer a ≢ [] → event_reported (reported_answer n a) ≢ None
has_event n (Happened e) some none = (let q : Some e ≡ None = none in absurd (cc))
has_event n (Sends e to f) some none = (let q : Some e ≡ None = none in absurd (cc))
has_event n other some none = some refl

-- the cast of a frame that joined is that of the receipt
cast_received : (P : Receipt → Type 0) (o : Outcome) (cast join : Option Cast) → event_reported (outcome_of o) ≢ None → IfReceived o (λ x. P x × (cast ≡ join)) → cast ≡ join
cast_received P (OfStep.Received x) cast join some h = h.1
cast_received P (OfStep.Started d) cast join some h = absurd h
cast_received P (OfStep.Sent d to frame) cast join some h = absurd h
cast_received P other cast join some h = absurd (some refl)

-- the cast that the call starts or joins is that of the step
module _ (s : Schedule) (w : World) (k number : ℕ) (old new : NodeState) (past : Past) (c : StepResult) where
  of_delivery : (bs : List ℕ) → IsResultOfCall number old new past (Deliver bs) c → events_of_answer (answer real (node_of past) (Deliver bs)) ≢ [] → cast_in (Deliver bs) ≡ c.cast
  of_delivery bs performed some = go (read bs) refl
    where
      go : (z : Result Frame ℕ) → read bs ≡ z → option_and_then (λ (f : Frame). f.join) (result_ok (read bs)) ≡ c.cast
      go (Err at) e = absurd (some (ap (λ z. events_of_answer (verdict_on real (node_of past) z)) e))
      go (Ok f) e =
          ap (λ z. option_and_then (λ (f : Frame). f.join) (result_ok z)) e
          ∙ sym (cast_received (IsReceiptAt (node_of past) f) c.outcome c.cast f.join (λ q. has_event number (answer real (node_of past) (Deliver bs)) some (ap event_reported (sym performed.reported) ∙ q)) (performed.shown bs f refl e))

  its_cast : (x : Step) (call : Call) → call_of real s w k x ≡ Some call → IsResultOfCall number old new past call c → events_of_answer (answer real (node_of past) call) ≢ [] → IfSome (cast_in call) (λ d. cast_begun s.sessions x c.cast ≡ Some d)
  its_cast (StartStep me n) call e performed some = start (cast_of s n) refl e
    where
      start : (o : Option Cast) → cast_of s n ≡ o → option_map Start o ≡ Some call → IfSome (cast_in call) (λ d. cast_of s n ≡ Some d)
      start None q e = absurd (cc)
      start (Some d) q e = (let is : Start d ≡ call = cc in subst (λ (z : Call). IfSome (cast_in z) (λ d. cast_of s n ≡ Some d)) is q)
  its_cast (ActStep me n label values) call e performed some = (let is : Act (sid_at real s n) label values (map (λ (v : ℕ × Value). confounder k v.0) values) ≡ call = cc in subst (λ (z : Call). IfSome (cast_in z) (λ d. cast_begun s.sessions (ActStep me n label values) c.cast ≡ Some d)) is tt)
  its_cast (AbandonStep me n) call e performed some = (let is : Abandon (sid_at real s n) ≡ call = cc in subst (λ (z : Call). IfSome (cast_in z) (λ d. cast_begun s.sessions (AbandonStep me n) c.cast ≡ Some d)) is tt)
  its_cast (DeliverStep me what) call e performed some = deliver (bytes_of w what) refl e
    where
      by : (j : Option Cast) → j ≡ c.cast → IfSome j (λ d. c.cast ≡ Some d)
      by None q = tt
      by (Some d) q = sym q

      deliver : (o : Option (List ℕ)) → bytes_of w what ≡ o → option_map Deliver o ≡ Some call → IfSome (cast_in call) (λ d. c.cast ≡ Some d)
      deliver None q e = absurd (cc)
      deliver (Some bs) q e =
          let is : Deliver bs ≡ call = cc in
          by (cast_in call) (ap cast_in (sym is) ∙ of_delivery bs (subst (λ (z : Call). IsResultOfCall number old new past z c) (sym is) performed) (subst (λ (z : Call). events_of_answer (answer real (node_of past) z) ≢ []) (sym is) some))
  its_cast (CraftStep d) call e performed some = absurd (cc)

-- the honest roles that are kept are those of a cast that is known so
honest_known : (names : List Name) (honest : List ℕ) (one two : Option Cast) → IfSome one (λ d. two ≡ Some d) → IfSome two (λ d. AreHonestIn names d honest) → IfSome one (λ d. AreHonestIn names d honest)
honest_known names honest None two is known = tt
honest_known names honest (Some d) two is known = subst (λ (z : Option Cast). IfSome z (λ d. AreHonestIn names d honest)) is known

-- what the entry of a call has learnt
learnt_called : (programs : List Program) (s : Schedule) (w : World) (k : ℕ) (x : Step) (honest : List ℕ) (c : StepResult) (who : Name) (number : ℕ) (old new : NodeState) (call : Call) (past : Past) → IsBefore programs s w k x → past_of w who ≡ Some past
    → call_of real s w k x ≡ Some call → IsHonestIn s.sessions s.honest x c.cast honest → IsResultOfCall number old new past call c
    → IsLearnt programs (with_step s x) (record { step = x; outcome = c.outcome; honest = honest })
    (record { number = k; who = Some who; call = Some call; outcome = Answered (answer real (node_of past) call); frame = frame_in (answer real (node_of past) call); notes = noted_of real (node_of past) call })
learnt_called programs s w k x honest c who number old new call past b is_past is_call known performed = record {
  graph = performed.graph ∙ ap (graph_named (answer real (node_of past) call)) (sym (graph_of_called programs s w k x who call past b is_past));
  shown = λ its bs f before is_deliver reads.
      let two : Some past ≡ Some its = sym is_past ∙ ap (λ (z : World). past_of z who) (sym b.run_is) ∙ before in
      let same : past ≡ its = cc in
      let one : Some call ≡ Some (Deliver bs) = is_deliver in
      let delivered : call ≡ Deliver bs = cc in
      received_weaker (λ z. IsReceiptAt (node_of past) f z × (c.cast ≡ f.join)) (IsReceiptAt (node_of its) f) c.outcome (λ z h. subst (λ (y : Past). IsReceiptAt (node_of y) f z) same h.0) (performed.shown bs f delivered reads);
  honest = λ some. honest_known s.honest honest (cast_in call) (cast_begun s.sessions x c.cast) (its_cast s w k number old new past c x call is_call performed some) known;
}

-- an entry without a call has learnt nothing
learnt_none : (programs : List Program) (s : Schedule) (x : Step) (honest : List ℕ) (o : Outcome) (k : ℕ) (who : Option Name) (out : Core.Outcome) (frame : Option (List ℕ)) → graph_in o ≡ None → answer_in out ≡ None
    → IsLearnt programs (with_step s x) (record { step = x; outcome = o; honest = honest }) (record { number = k; who = who; call = None; outcome = out; frame = frame; notes = no_notes })
learnt_none programs s x honest o k who out frame none no_answer = record {
  graph = none ∙ ap (λ a. option_and_then (λ a. graph_named a None) a) (sym no_answer);
  shown = λ its bs f before is_deliver reads. (let q : None ≡ Some (Deliver bs) = is_deliver in absurd (cc));
  honest = λ some. tt;
}

-- the value at an index put there again
pub same_value : (ns : List Named) (i : ℕ) (who : Name) (old : NodeState) → slice_get ns i ≡ Some (who, old) → set_value_at ns i old ≡ ns
same_value [] i who old e = refl
same_value (n ∷ ns) zero who old e = let q : n ≡ (who, old) = cc in ap (λ (z : Named). (n.0, z.1) ∷ ns) (sym q)
same_value (n ∷ ns) (suc i) who old e = ap (λ (z : List Named). n ∷ z) (same_value ns i who old e)

-- the node represents its past with the call
represents_after : (number : ℕ) (who : Name) (old new : NodeState) (call : Call) (c : StepResult) → ((past : Past) → RepresentsPast old past → IsResultOfCall number old new past call c)
    → (past : Past) → past.keys.me ≡ who → RepresentsPast old past → IsAnsweredPast past → RepresentsAs (who, new) (past_after real past call)
represents_after number who old new call c come past me represents reported =
    let performed = come past represents in
    record { me = me; represents = performed.goes_on.represents; answered = pasts_go_on past call reported performed.range }

-- a principal's step, with the call that it makes
call_held : (programs : List Program) (s : Schedule) (w : World) (nodes : List Named) (r : Recorded) (k : ℕ) (x : Step) (honest : List ℕ) (c : StepResult) (who : Name) (i : ℕ) (old new : NodeState) (o : Option Call) (f : Found old who w.pasts)
    → IsBefore programs s w k x → HoldsRun programs s w nodes r → all_differ (names nodes) ≡ true → slice_get nodes i ≡ Some (who, old) → call_of real s w k x ≡ o → IsHonestIn s.sessions s.honest x c.cast honest
    → ((past : Past) → RepresentsPast old past → IsResult (length r.frames + 1) old new past o c)
    → HoldsRun programs (with_step s x) (called_if real w k who o f.past) (set_value_at nodes i new) (with_result r x honest c)
call_held programs s w nodes r k x honest c who i old new None f b h d at is_call known come =
    let performed = come f.past f.represents in
    held programs s w.pasts w (set_value_at nodes i new) _ r x honest c
    (subst (λ (z : List Named). RepresentPasts z w.pasts) (sym (ap (λ z. set_value_at nodes i z) performed.1 ∙ same_value nodes i who old at)) h.represent)
    (entered programs s w.pasts w nodes _ r k x honest c b h (ap (λ (z : StepResult). outcome_of z.outcome) performed.0) (learnt_none programs s x honest c.outcome k (Some who) Core.NoFrame None (ap (λ (z : StepResult). graph_in z.outcome) performed.0) refl) (ap (λ (z : StepResult). z.frame) performed.0) (ap (λ (z : StepResult). z.notes) performed.0))
call_held programs s w nodes r k x honest c who i old new (Some call) f b h d at is_call known come =
    let performed = come f.past f.represents in
    held programs s _ w (set_value_at nodes i new) _ r x honest c
    (after nodes w.pasts i who old new call h.represent d at (represents_after (length r.frames + 1) who old new call c come))
    (entered programs s _ w nodes _ r k x honest c b h performed.reported (learnt_called programs s w k x honest c who (length r.frames + 1) old new call f.past b f.is_past is_call known performed) performed.frame performed.notes)

who_held : (programs : List Program) (s : Schedule) (w : World) (nodes : List Named) (r : Recorded) (k : ℕ) (x : Step) (honest : List ℕ) (c : StepResult) (who me : Name) (i : ℕ) (old new : NodeState) → me ≡ who
    → IsBefore programs s w k x → HoldsRun programs s w nodes r → all_differ (names nodes) ≡ true → slice_get nodes i ≡ Some (who, old) → IsHonestIn s.sessions s.honest x c.cast honest
    → ((past : Past) → RepresentsPast old past → IsResult (length r.frames + 1) old new past (call_of real s w k x) c)
    → HoldsRun programs (with_step s x) (option_map_or (called_if real w k me (call_of real s w k x)) (past_of w me) w) (set_value_at nodes i new) (with_result r x honest c)
who_held programs s w nodes r k x honest c who me i old new e b h d at known come =
    let f = found nodes w.pasts i who old h.represent d at in
    subst (λ (z : Name). HoldsRun programs (with_step s x) (option_map_or (called_if real w k z (call_of real s w k x)) (past_of w z) w) (set_value_at nodes i new) (with_result r x honest c)) (sym e)
    (subst (λ (z : Option Past). HoldsRun programs (with_step s x) (option_map_or (called_if real w k who (call_of real s w k x)) z w) (set_value_at nodes i new) (with_result r x honest c)) (sym f.is_past)
    (call_held programs s w nodes r k x honest c who i old new (call_of real s w k x) f b h d at refl known come))

-- a principal's step at its node
pub step_held : (programs : List Program) (s : Schedule) (w : World) (nodes : List Named) (r : Recorded) (k : ℕ) (x : Step) (honest : List ℕ) (c : StepResult) (who : Name) (i : ℕ) (old new : NodeState) → who_of x ≡ Some who
    → IsBefore programs s w k x → HoldsRun programs s w nodes r → all_differ (names nodes) ≡ true → slice_get nodes i ≡ Some (who, old) → IsHonestIn s.sessions s.honest x c.cast honest
    → ((past : Past) → RepresentsPast old past → IsResult (length r.frames + 1) old new past (call_of real s w k x) c)
    → HoldsRun programs (with_step s x) (world_after real s w k x) (set_value_at nodes i new) (with_result r x honest c)
step_held programs s w nodes r k (CraftStep cr) honest c who i old new e b h d at known come = absurd (cc)
step_held programs s w nodes r k (StartStep me n) honest c who i old new e b h d at known come = who_held programs s w nodes r k (StartStep me n) honest c who me i old new (cc) b h d at known come
step_held programs s w nodes r k (ActStep me n label values) honest c who i old new e b h d at known come = who_held programs s w nodes r k (ActStep me n label values) honest c who me i old new (cc) b h d at known come
step_held programs s w nodes r k (AbandonStep me n) honest c who i old new e b h d at known come = who_held programs s w nodes r k (AbandonStep me n) honest c who me i old new (cc) b h d at known come
step_held programs s w nodes r k (DeliverStep me what) honest c who i old new e b h d at known come = who_held programs s w nodes r k (DeliverStep me what) honest c who me i old new (cc) b h d at known come

-- a craft
pub craft_held : (programs : List Program) (s : Schedule) (w : World) (nodes : List Named) (r : Recorded) (k : ℕ) (x : Craft) (honest : List ℕ) (c : StepResult) → IsBefore programs s w k (CraftStep x) → HoldsRun programs s w nodes r
    → c.outcome ≡ OfStep.Crafted (length r.frames + 1) → c.frame ≡ option_map spelling (crafted real s w x) → c.notes ≡ no_notes
    → HoldsRun programs (with_step s (CraftStep x)) (world_after real s w k (CraftStep x)) nodes (with_result r (CraftStep x) honest c)
craft_held programs s w nodes r k x honest c b h outcome frame notes =
    held programs s w.pasts w nodes _ r (CraftStep x) honest c h.represent
    (entered programs s w.pasts w nodes _ r k (CraftStep x) honest c b h (ap outcome_of outcome) (learnt_none programs s (CraftStep x) honest c.outcome k None Core.Crafted (option_map spelling (crafted real s w x)) (ap graph_in outcome) refl) frame notes)
