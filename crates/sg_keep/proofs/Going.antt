-- A play goes on: it adds steps and as many calls. A turn joins nothing, and sends only frames of joined sessions.
use Rattle.std.proofs.Common.{◌≡◌, ℕ, List, [], ◌∷◌, ◌++◌, length, Option, None, refl, sym, ap, ◌∙◌, subst, append_assoc, arith}
use Rattle.std.specs.Option.{option_map_or}
use Rattle.std.proofs.lemmas.List.{append-nil, length-append}
use Rattle.std.proofs.lemmas.List.Concat.{flat_map-append}
use Rattle.sg_ledger.specs.Format.{Join}
use Rattle.sg_model.specs.Names.{Name}
use Rattle.sg_protocol.specs.Calls.{Call, Answer, Start, Abandon, Deliver}
use Rattle.sg_protocol.specs.Past.{AnsweredCall, node_of}
use Rattle.sg_protocol.specs.Texts.{real}
use Rattle.sg_script.specs.Script.{Start as ScriptStart, Choice}
use Rattle.sg_play.specs.Played.{Play, abandons, act_by, all_deliveries, all_starts, answer_in, called, cast_of_start, chosen, sid_answered, starts, step_in, with_turn, without, next_random}
use Rattle.sg_play.specs.Steps.{Step}
use Rattle.sg_play.proofs.Extends.{deliveries_both, over_deliveries, over_given, over_starts, starts_both}
use Rattle.sg_play.proofs.Looping.{taken_part, whole_part}
use Rattle.sg_joins.specs.Joins.{join_in, joins_made}
use Rattle.sg_joins.proofs.NewJoins.{turns_join_none}
use Rattle.sg_keep.proofs.Owning.{OwnsAll, owns_on}
use Rattle.std.specs.Prelude.{take, ◌≤◌}

-- the second has further steps, and as many further calls
pub record Goes (p q : Play) : Type 0 where
  pub steps : List Step
  pub calls : List AnsweredCall
  pub is_steps : q.steps ≡ p.steps ++ steps
  pub is_calls : q.past.calls ≡ p.past.calls ++ calls
  pub as_many : length steps ≡ length calls
  pub first : q.past.first ≡ p.past.first

-- and these calls join nothing, and send only frames of joined sessions
abbrev pub Quiet : Play → Play → Type 0
Quiet p q = (g : Goes p q) × (joins_made g.calls ≡ []) × (OwnsAll p → OwnsAll q)

pub nothing : (p : Play) → Goes p p
nothing p = record { steps = []; calls = []; is_steps = sym (append-nil p.steps); is_calls = sym (append-nil p.past.calls); as_many = refl; first = refl }

pub joined : (p q r : Play) → Goes p q → Goes q r → Goes p r
joined p q r f g = record {
  steps = f.steps ++ g.steps;
  calls = f.calls ++ g.calls;
  is_steps = g.is_steps ∙ ap (λ l. l ++ g.steps) f.is_steps ∙ append_assoc p.steps f.steps g.steps;
  is_calls = g.is_calls ∙ ap (λ l. l ++ g.calls) f.is_calls ∙ append_assoc p.past.calls f.calls g.calls;
  as_many = let a = length-append f.steps g.steps in let b = length-append f.calls g.calls in let c = f.as_many in let d = g.as_many in omega (arith, a, b, c, d);
  first = g.first ∙ f.first;
}

pub by_call : (p : Play) (c : Call) → Goes p (called p c)
by_call p c = record { steps = step_in p c ∷ []; calls = record { call = c; answer = answer_in p c } ∷ []; is_steps = refl; is_calls = refl; as_many = refl; first = refl }

-- ---- a turn

quiet_nothing : (p : Play) → Quiet p p
unfolding nothing
quiet_nothing p = (nothing p, refl, λ h. h)

quiet_both : (a b : List AnsweredCall) → joins_made a ≡ [] → joins_made b ≡ [] → joins_made (a ++ b) ≡ []
quiet_both a b e f = flat_map-append (λ (c : AnsweredCall). option_map_or (λ (j : Join). j ∷ []) (join_in c.answer) []) a b ∙ (λ i. e i ++ f i)

quiet_joined : (p q r : Play) → Quiet p q → Quiet q r → Quiet p r
unfolding joined
quiet_joined p q r f g = (joined p q r f.0 g.0, quiet_both f.0.calls g.0.calls f.1 g.1, λ h. g.2 (f.2 h))

-- an answer that joins nothing
joins_none : (c : Call) (a : Answer) → join_in a ≡ None → joins_made (record { call = c; answer = a } ∷ []) ≡ []
joins_none c a e = ap (λ (o : Option Join). option_map_or (λ j. j ∷ []) o [] ++ []) e

quiet_leaving : (p : Play) (sid : List ℕ) → Quiet p (abandons sid p)
unfolding by_call
quiet_leaving p sid = (by_call p (Abandon sid), joins_none (Abandon sid) (answer_in p (Abandon sid)) (turns_join_none real (node_of p.past) (Abandon sid) tt), λ h. owns_on p (Abandon sid) h tt)

quiet_act : (sid : List ℕ) (graph : Name) (node : ℕ) (c : Choice) (p : Play) → Quiet p (called (chosen graph node c p) (act_by sid c p.random))
quiet_act sid graph node c p =
    let call = act_by sid c p.random in
    let q = called (chosen graph node c p) call in
    let goes : Goes p q = record { steps = step_in (chosen graph node c p) call ∷ []; calls = record { call = call; answer = answer_in p call } ∷ []; is_steps = refl; is_calls = refl; as_many = refl; first = refl } in
    let owns : OwnsAll p → OwnsAll q = λ h. owns_on (chosen graph node c p) call (record { live = h.live; sent = h.sent }) tt in
    (goes, joins_none call (answer_in p call) (turns_join_none real (node_of p.past) call tt), owns)

pub after_call : (p : Play) (c : Call) → Quiet (called p c) (with_turn p c)
after_call p c = over_given Quiet quiet_nothing quiet_joined (λ sid q. quiet_leaving q sid) quiet_act (called p c) (sid_answered (answer_in p c))

-- ---- a play

pub with_call : (p : Play) (c : Call) → Goes p (with_turn p c)
with_call p c = joined p (called p c) (with_turn p c) (by_call p c) (after_call p c).0

-- sixteen random bytes less
pub by_start : (p : Play) (s : ScriptStart) → Goes p (starts p s)
by_start p s = let g = with_call (without 1 p) (Start (cast_of_start p.past.programs s (next_random p.random))) in
    record { steps = g.steps; calls = g.calls; is_steps = g.is_steps; is_calls = g.is_calls; as_many = g.as_many; first = g.first }

pub by_starts : (p : Play) (ss : List ScriptStart) → Goes p (all_starts p ss)
by_starts p ss = over_starts Goes nothing joined by_start p ss

pub by_deliveries : (p : Play) (ds : List (List ℕ)) → Goes p (all_deliveries p ds)
by_deliveries p ds = over_deliveries Goes nothing joined (λ q d. with_call q (Deliver d)) p ds

-- the first of starts or deliveries before all
pub starts_on : (p : Play) (k : ℕ) (ss : List ScriptStart) → Goes (all_starts p (take k ss)) (all_starts p ss)
starts_on p k ss =
    let r = whole_part k ss in
    subst (Goes (all_starts p (take k ss))) (sym (ap (all_starts p) r.1 ∙ starts_both p (take k ss) r.0)) (by_starts (all_starts p (take k ss)) r.0)

pub deliveries_on : (p : Play) (k m : ℕ) (ds : List (List ℕ)) → k ≤ m → Goes (all_deliveries p (take k ds)) (all_deliveries p (take m ds))
deliveries_on p k m ds l =
    let r = taken_part k m ds l in
    subst (Goes (all_deliveries p (take k ds))) (sym (ap (all_deliveries p) r.1 ∙ deliveries_both p (take k ds) r.0)) (by_deliveries (all_deliveries p (take k ds)) r.0)

-- ---- what goes on with it

pub in_step_on : (p q : Play) → Goes p q → length p.steps ≡ length p.past.calls → length q.steps ≡ length q.past.calls
in_step_on p q g e =
    let a = ap (λ (l : List Step). length l) g.is_steps ∙ length-append p.steps g.steps in
    let b = ap (λ (l : List AnsweredCall). length l) g.is_calls ∙ length-append p.past.calls g.calls in
    let c = g.as_many in
    omega (arith, a, b, c, e)

-- the joins that are made stay the same
pub quiet_joins : (p q : Play) → Quiet p q → q.past.first ++ joins_made q.past.calls ≡ p.past.first ++ joins_made p.past.calls
quiet_joins p q h =
    (λ i. h.0.first i ++ joins_made (h.0.is_calls i))
    ∙ ap (λ (l : List Join). p.past.first ++ l) (flat_map-append (λ (c : AnsweredCall). option_map_or (λ (j : Join). j ∷ []) (join_in c.answer) []) p.past.calls h.0.calls ∙ ap (λ (l : List Join). joins_made p.past.calls ++ l) h.1 ∙ append-nil (joins_made p.past.calls))
