-- A run of `keep` is a run over a ledger.
use Rattle.std.specs.Prelude.{◌≡◌, ℕ, ◌+◌, List, [], ◌∷◌, ◌++◌, length, take, drop, find, refl, Option, Some, None, Result, Ok, Err}
use Rattle.std.specs.Option.{option_map_or}
use Rattle.std.proofs.Common.{ap, sym, ◌∙◌, subst, arith, append-nil, append_assoc}
use Rattle.std.proofs.Math.Seq.{take-append_seam}
use Rattle.std.proofs.lemmas.List.{length-append, take-append-drop}
use Rattle.std.proofs.lemmas.List.Concat.{flat_map-append}
use Rattle.sg_base.specs.declared.address.Addr.{Addr}
use Rattle.sg_base.specs.Outside.{Appends}
use Rattle.sg_joins.specs.Joins.{joins_made}
use Rattle.sg_keep.specs.KeptRuns.{HasKept, KeptPrefix, RepresentsFirst}
use Rattle.sg_keep.specs.declared.fault.KeepFault.{KeepFault}
use Rattle.sg_keep.specs.declared.fault.KeepFault.TheVariants.{Played, DiskFailed}
use Rattle.sg_keep.proofs.Owning.{none_sent}
use Rattle.sg_keep.proofs.Going.{by_deliveries, by_starts, in_step_on}
use Rattle.sg_ledger.specs.Format.{Join}
use Rattle.sg_model.specs.Names.{Name}
use Rattle.sg_play.specs.Choosing.{is_ready}
use Rattle.sg_play.specs.Ends.{Outside}
use Rattle.sg_play.specs.Played.{Play, answer_in, called, chosen, act_by, or_abandons, acts, plays, plays_on, sid_answered, with_turn, without, cast_of_start, next_random, starts, all_starts, all_deliveries, beginning, played}
use Rattle.sg_play.specs.Steps.{Step, frames_of, lines_of}
use Rattle.sg_play.specs.declared.fault.PlayFault.TheVariants.{LinkFailed, WriteFailed, OutOfMemory}
use Rattle.sg_protocol.specs.Acting.{answer}
use Rattle.sg_protocol.specs.Calls.{Call, Answer, Start, Abandon, Deliver, Sends}
use Rattle.sg_protocol.specs.Keyring.{Keyring, Program}
use Rattle.sg_protocol.specs.Node.{Node}
use Rattle.sg_protocol.specs.NodeAfter.{node_after}
use Rattle.sg_protocol.specs.Past.{Past, AnsweredCall, AreAnswers, new_node, node_of, node_after_all, past_after}
use Rattle.sg_protocol.specs.Session.{Session}
use Rattle.sg_protocol.specs.Texts.{Hash, real}
use Rattle.sg_protocol.specs.Named.{live_with}
use Rattle.sg_protocol.specs.Turn.{turn_of}
use Rattle.sg_script.specs.Script.{Start as ScriptStart, Choice, Script}
use Rattle.sg_lives.specs.LedgerRuns.{HasWritten, IsOver, IsRun, LedgerRun}
use Rattle.sg_lives.specs.PlayedRuns.{CutOffIsRun, IsPlayedRun, KeptIsRun}

-- one answer more
answers_more : (sha : Hash) (n : Node) (cs : List AnsweredCall) (c : Call) → AreAnswers sha n cs → AreAnswers sha n (cs ++ record { call = c; answer = answer sha (node_after_all n cs) c } ∷ [])
answers_more sha n [] c a = (refl, tt)
answers_more sha n (d ∷ cs) c a = (a.0, answers_more sha (node_after n d.call d.answer) cs c a.1)

module _ (opened : List Join) where
  past_over : (past : Past) (c : Call) → IsOver opened past → IsOver opened (past_after real past c)
  past_over past c h = (h.0, answers_more real (new_node past.keys past.programs past.first) past.calls c h.1)

  left_over : (sid : List ℕ) (p : Play) (a : Answer) → IsOver opened p.past → IsOver opened (or_abandons sid p a).past
  left_over sid p (Sends e to f) h = h
  left_over sid p other h = past_over p.past (Abandon sid) h

  acts_over : (sid : List ℕ) (graph : Name) (node : ℕ) (c : Choice) (p : Play) → IsOver opened p.past → IsOver opened (acts sid graph node c p).past
  acts_over sid graph node c p h = left_over sid (called (chosen graph node c p) (act_by sid c p.random)) (answer_in p (act_by sid c p.random)) (past_over p.past (act_by sid c p.random) h)

  plays_over : (sid : List ℕ) (graph : Name) (node : ℕ) (p : Play) → IsOver opened p.past → IsOver opened (plays sid graph node p).past
  plays_over sid graph node p h = go (find (is_ready graph node) p.choices)
    where
      go : (o : Option Choice) → IsOver opened (option_map_or (λ c. acts sid graph node c p) o (called p (Abandon sid))).past
      go None = past_over p.past (Abandon sid) h
      go (Some c) = acts_over sid graph node c p h

  turn_over : (sid : List ℕ) (p : Play) → IsOver opened p.past → IsOver opened (plays_on sid p).past
  turn_over sid p h = go (turn_of (node_of p.past) sid)
    where
      at : (node : ℕ) (o : Option (Program × Session)) → IsOver opened (option_map_or (λ (x : Program × Session). plays sid x.0.graph.name node p) o (called p (Abandon sid))).past
      at node None = past_over p.past (Abandon sid) h
      at node (Some x) = plays_over sid x.0.graph.name node p h

      go : (o : Option ℕ) → IsOver opened (option_map_or (λ node. option_map_or (λ (x : Program × Session). plays sid x.0.graph.name node p) (live_with (node_of p.past) sid) (called p (Abandon sid))) o p).past
      go None = h
      go (Some node) = at node (live_with (node_of p.past) sid)

  call_over : (p : Play) (c : Call) → IsOver opened p.past → IsOver opened (with_turn p c).past
  call_over p c h = go (sid_answered (answer_in p c))
    where
      go : (o : Option (List ℕ)) → IsOver opened (option_map_or (λ sid. plays_on sid (called p c)) o (called p c)).past
      go None = past_over p.past c h
      go (Some sid) = turn_over sid (called p c) (past_over p.past c h)

  starts_over : (ss : List ScriptStart) (p : Play) → IsOver opened p.past → IsOver opened (all_starts p ss).past
  starts_over [] p h = h
  starts_over (s ∷ ss) p h = starts_over ss (starts p s) (call_over (without 1 p) (Start (cast_of_start p.past.programs s (next_random p.random))) h)

  deliveries_over : (ds : List (List ℕ)) (p : Play) → IsOver opened p.past → IsOver opened (all_deliveries p ds).past
  deliveries_over [] p h = h
  deliveries_over (d ∷ ds) p h = deliveries_over ds (with_turn p (Deliver d)) (call_over p (Deliver d) h)

  played_over : (keys : Keyring) (programs : List Program) (script : Script) (deliveries random : List (List ℕ)) → IsOver opened (played keys programs opened script deliveries random).past
  played_over keys programs script deliveries random = deliveries_over deliveries (all_starts (beginning keys programs opened script.choices random) script.starts) (starts_over script.starts (beginning keys programs opened script.choices random) (refl, tt))

-- ---- what was written

-- the lines of these steps
of_whole : (old new : Option (List ℕ)) (steps : List Step) → Appends old new (lines_of steps) → HasWritten old new steps
of_whole old new steps h = record { written = lines_of steps; rest = []; is = sym (append-nil (lines_of steps)); lines = h }

-- and those of one more in part
of_begun : (old new : Option (List ℕ)) (prefix : List Step) (step : Step) (bytes : ℕ) → Appends old new (lines_of prefix ++ take bytes step.line) → HasWritten old new (prefix ++ step ∷ [])
of_begun old new prefix step bytes h =
    let some = take bytes step.line in
    let others = drop bytes step.line in
    record {
      written = lines_of prefix ++ some;
      rest = others;
      is = flat_map-append (λ (s : Step). s.line) prefix (step ∷ []) ∙ ap (λ (l : List ℕ). lines_of prefix ++ l) (append-nil step.line ∙ sym (take-append-drop bytes step.line)) ∙ sym (append_assoc (lines_of prefix) some others);
      lines = h;
    }

-- ---- what was left

module _ (old new : Outside) (opened : List Join) (p : Play) (over : IsOver opened p.past) (in_step : length p.steps ≡ length p.past.calls) (image : List ℕ) where
  abbrev IsLeft : Type 0
  IsLeft = (r : LedgerRun) × (r.image ≡ image) × IsRun opened r × IsPlayedRun old new p r

  -- with these first steps, whose lines were begun
  left_with : (steps rest : List Step) → p.steps ≡ steps ++ rest → RepresentsFirst image p.past.first p.past.calls (length steps) (frames_of steps) → HasWritten old.written new.written steps → Appends old.sent new.sent (frames_of steps) → IsLeft
  left_with steps rest is left written sent = (
    record { past = p.past; reported = length steps; sent = frames_of steps; image = image },
    refl,
    record { over = over; left = subst (λ (js : List Join). RepresentsFirst image js p.past.calls (length steps) (frames_of steps)) over.0 left },
    record { past = refl; written = subst (HasWritten old.written new.written) (sym (ap (take (length steps)) is ∙ take-append_seam steps rest)) written; sent = sent },
  )

  module _ (may_leave : List ℕ → Type 0) (may : may_leave image) where
    of_prefix : KeptPrefix old new may_leave p → IsLeft
    of_prefix h = left_with h.given.prefix h.given.rest h.given.is (h.kept image may) (of_whole old.written new.written h.given.prefix h.given.whole.lines) h.given.whole.frames

    left_by : (result : Result (Unit {0}) KeepFault) → HasKept old new may_leave p result → IsLeft
    left_by (Ok u) h =
        left_with p.steps [] (sym (append-nil p.steps)) (record { prefix = p.past.calls; rest = []; is = sym (append-nil p.past.calls); enough = omega (arith, in_step); sent = h.2; represents = h.1 image may })
        (of_whole old.written new.written p.steps h.0.lines) h.0.frames
    left_by (Err (Played LinkFailed)) h = of_prefix h
    left_by (Err (Played WriteFailed)) h =
        let steps = h.given.prefix ++ h.given.step ∷ [] in
        let count : length steps ≡ length h.given.prefix + 1 = length-append h.given.prefix (h.given.step ∷ []) in
        let frames : frames_of steps ≡ frames_of h.given.prefix ++ h.given.step.frames = flat_map-append (λ (s : Step). s.frames) h.given.prefix (h.given.step ∷ []) ∙ ap (λ (fs : List (Addr × List ℕ)). frames_of h.given.prefix ++ fs) (append-nil h.given.step.frames) in
        left_with steps h.given.rest (h.given.is ∙ sym (append_assoc h.given.prefix (h.given.step ∷ []) h.given.rest))
        (subst (λ (n : ℕ). RepresentsFirst image p.past.first p.past.calls n (frames_of steps)) (sym count) (subst (RepresentsFirst image p.past.first p.past.calls (length h.given.prefix + 1)) (sym frames) (h.kept image may)))
        (of_begun old.written new.written h.given.prefix h.given.step h.given.bytes h.given.lines) (subst (Appends old.sent new.sent) (sym frames) h.given.frames)
    left_by (Err (Played OutOfMemory)) h = of_prefix h
    left_by (Err DiskFailed) h = of_prefix h

-- as many steps as calls
played_in_step : (keys : Keyring) (programs : List Program) (opened : List Join) (script : Script) (deliveries random : List (List ℕ)) →
    let p = played keys programs opened script deliveries random in length p.steps ≡ length p.past.calls
played_in_step keys programs opened script deliveries random =
    let begun : Play = beginning keys programs opened script.choices random in
    let started : Play = all_starts begun script.starts in
    in_step_on started (all_deliveries started deliveries) (by_deliveries started deliveries) (in_step_on begun started (by_starts begun script.starts) refl)

pub kept_is_run : KeptIsRun
kept_is_run old new image keys programs opened script deliveries random result h =
    left_by old new opened (played keys programs opened script deliveries random) (played_over opened keys programs script deliveries random) (played_in_step keys programs opened script deliveries random) image (λ i. i ≡ image) refl result h

pub cut_off_is_run : CutOffIsRun
cut_off_is_run image keys programs opened script deliveries random count h =
    let p : Play = played keys programs opened script deliveries random in
    let over : IsOver opened p.past = played_over opened keys programs script deliveries random in
    let left : RepresentsFirst image p.past.first p.past.calls 0 [] = record { prefix = h.prefix; rest = h.rest; is = h.is; enough = omega arith; sent = none_sent (joins_made h.prefix); represents = h.represents } in
    record { over = over; left = subst (λ (js : List Join). RepresentsFirst image js p.past.calls 0 []) over.0 left }
