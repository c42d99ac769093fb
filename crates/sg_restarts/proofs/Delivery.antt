-- Deliveries over restarts.
use Rattle.std.specs.Prelude.{◌≡◌, ℕ, ◌+◌, ◌<◌, List, [], ◌∷◌, ◌++◌, length, refl, Some, option_map}
use Rattle.std.specs.Option.{option_map_or}
use Rattle.std.proofs.Common.{sym, ◌∙◌, ap, subst, inl, inr}
use Rattle.sg_model.specs.Last.{last}
use Rattle.sg_model.specs.Limits.{most_joins, most_live}
use Rattle.sg_model.specs.Names.{Name}
use Rattle.sg_law.proofs.Lists.{last-append}
use Rattle.sg_protocol.specs.Texts.{Hash, IsHash}
use Rattle.sg_protocol.specs.Calls.{Deliver}
use Rattle.sg_protocol.specs.Node.{Node, stranger}
use Rattle.sg_protocol.specs.Acting.{answer}
use Rattle.sg_protocol.specs.Past.{Past, node_of}
use Rattle.sg_protocol.specs.Schedule.{Schedule, Step, Whole, DeliverStep}
use Rattle.sg_protocol.specs.World.{Logged, World, Answered, frame_at, past_of, new_world}
use Rattle.sg_protocol.specs.Run.{called_if, world_after, run}
use Rattle.sg_protocol.specs.Completeness.{IsAwaited}
use Rattle.sg_protocol.specs.Restarts.{StepOrRestart, Stepped, Restarted, live_of, world_restarted, world_over_restarts, run_with_restarts, dropped, without_restarts}
use Rattle.sg_protocol.proofs.Awaited.{delivery_is_complete}
use Rattle.sg_protocol.proofs.Moved.{frame_same_at}
use Rattle.sg_protocol.proofs.OverRestarts.{cast_same, premises_same}
use Rattle.sg_protocol.proofs.Restarts.{Same, same_frames, plain, same_runs, is_plain}
use Rattle.sg_restarts.specs.OverRestarts.{DeliveryIsCompleteOverRestarts}
use Rattle.sg_restarts.proofs.Logs.{delivery_back, sent_there, past_there}
use Rattle.sg_restarts.proofs.Drops.{abandoned_or_dropped}

-- what a delivery comes to
pub outcome_of : (sha : Hash) (s : Schedule) (w : World) (k number : ℕ) (who : Name) (past : Past) (bs : List ℕ) → past_of w who ≡ Some past → frame_at w number ≡ Some bs →
    option_map (λ (l : Logged). l.outcome) (last (world_after sha s w k (DeliverStep who (Whole number))).log) ≡ Some (Answered (answer sha (node_of past) (Deliver bs)))
outcome_of sha s w k number who past bs its_past is =
    ap (λ (z : World). option_map (λ (l : Logged). l.outcome) (last z.log)) (
    ap (λ o. option_map_or (called_if sha w k who (option_map Deliver (frame_at w number))) o w) its_past
    ∙ ap (λ o. called_if sha w k who (option_map Deliver o) past) is)
    ∙ ap (option_map (λ (l : Logged). l.outcome)) (last-append w.log _ [])

-- a step more
abbrev number_after : (sha : Hash) (s : Schedule) → World → ℕ → List StepOrRestart → ℕ
number_after sha s w k [] = k
number_after sha s w k (Stepped x ∷ xs) = number_after sha s (world_after sha s w k x) (k + 1) xs
number_after sha s w k (Restarted who ∷ xs) = number_after sha s (world_restarted w who) (k + length (live_of w who)) xs

one_more : (sha : Hash) (s : Schedule) (xs : List StepOrRestart) (x : Step) (w : World) (k : ℕ) → world_over_restarts sha s w k (xs ++ Stepped x ∷ []) ≡ world_after sha s (world_over_restarts sha s w k xs) (number_after sha s w k xs) x
one_more sha s [] x w k = refl
one_more sha s (Stepped y ∷ xs) x w k = one_more sha s xs x (world_after sha s w k y) (k + 1)
one_more sha s (Restarted who ∷ xs) x w k = one_more sha s xs x (world_restarted w who) (k + length (live_of w who))

pub delivery_is_complete_over_restarts : (sha : Hash) → IsHash sha → DeliveryIsCompleteOverRestarts sha
delivery_is_complete_over_restarts sha hash programs s xs compiled sched good premises number who past f its_past aw kept =
    let w : World = run_with_restarts sha programs s xs in
    let its : List Step = (without_restarts sha programs s xs).steps in
    let t : Schedule = plain sha hash programs s compiled sched xs good in
    let w' : World = run sha programs t in
    let same : Same w w' = same_runs sha hash programs s compiled sched xs good in
    let there : (q : Past) × (past_of w' who ≡ Some q) × (past.keys ≡ q.keys) × (node_of past ≡ node_of q) = past_there w.pasts w'.pasts same.nodes who past its_past in
    let recorded : frame_at w' number ≡ Some aw.bytes = sym (frame_same_at sha s (dropped sha s (new_world programs s) 1 xs) its w w' (same_frames w w' same) number) ∙ aw.recorded in
    let awaited : IsAwaited sha t w' number who there.0 f = record {
      bytes = aw.bytes;
      recorded = recorded;
      sent = sent_there w w' same aw.bytes who f aw.sent;
      cast = aw.cast;
      is_cast = sym (cast_same w w' same f.sid) ∙ aw.is_cast;
      all_honest = aw.all_honest;
      covered = ap (λ k. stranger k aw.cast) (sym there.2) ∙ aw.covered;
      not_taken = λ e h. aw.not_taken e (delivery_back w w' same who aw.bytes e h);
      not_left = λ h. elim (abandoned_or_dropped sha hash programs s xs compiled sched good who f.sid h) [ inl l ↦ aw.not_left l | inr d ↦ kept d ];
      room = λ j. subst (λ (n : Node). (length n.joins < most_joins) × (length n.live < most_live)) there.3 (aw.room j);
    } in
    ap (λ (z : World). option_map (λ (l : Logged). l.outcome) (last z.log)) (one_more sha s xs (DeliverStep who (Whole number)) (new_world programs s) 1)
    ∙ outcome_of sha s w (number_after sha s (new_world programs s) 1 xs) number who past aw.bytes its_past aw.recorded
    ∙ ap (λ n. Some (Answered (answer sha n (Deliver aw.bytes)))) there.3
    ∙ sym (outcome_of sha t w' (length t.steps + 1) number who there.0 aw.bytes there.1 recorded)
    ∙ delivery_is_complete sha hash programs t compiled (is_plain sha hash programs s compiled sched xs good) (premises_same w w' same sha s (dropped sha s (new_world programs s) 1 xs) its premises) number who there.0 f there.1 awaited
