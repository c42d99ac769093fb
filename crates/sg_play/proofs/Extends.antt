-- A play only adds steps.
use Rattle.std.proofs.Common.{◌≡◌, ℕ, List, [], ◌∷◌, ◌++◌, find, Option, Some, None, refl, sym, ap, ◌∙◌, append_assoc}
use Rattle.std.specs.Option.{option_map_or}
use Rattle.std.proofs.lemmas.List.{append-nil}
use Rattle.sg_model.specs.Names.{Name}
use Rattle.sg_protocol.specs.Calls.{Call, Answer, Start, Abandon, Deliver, Sends}
use Rattle.sg_protocol.specs.Keyring.{Program}
use Rattle.sg_protocol.specs.Past.{node_of}
use Rattle.sg_protocol.specs.Session.{Session}
use Rattle.sg_protocol.specs.Named.{live_with}
use Rattle.sg_protocol.specs.Turn.{turn_of}
use Rattle.sg_script.specs.Script.{Start as ScriptStart, Choice}
use Rattle.sg_play.specs.Choosing.{is_ready}
use Rattle.sg_play.specs.Played.{Play, abandons, act_by, acts, all_deliveries, all_starts, answer_in, called, cast_of_start, chosen, or_abandons, plays, plays_on, sid_answered, starts, step_in, with_turn, without, next_random}
use Rattle.sg_play.specs.Steps.{Step}

-- the second has further steps
abbrev pub Extends : Play → Play → Type 0
Extends p q = (rest : List Step) × (q.steps ≡ p.steps ++ rest)

pub nothing : (p : Play) → Extends p p
nothing p = ([], sym (append-nil p.steps))

pub joined : (p q r : Play) → Extends p q → Extends q r → Extends p r
joined p q r f g = (f.0 ++ g.0, g.1 ∙ ap (λ l. l ++ g.0) f.1 ∙ append_assoc p.steps f.0 g.0)

pub by_call : (p : Play) (c : Call) → Extends p (called p c)
by_call p c = (step_in p c ∷ [], refl)

-- ---- a relation of plays that goes from one to the next

module _ (R : Play → Play → Type 0) (none : (p : Play) → R p p) (both : (p q r : Play) → R p q → R q r → R p r) where
  -- over a turn, if it holds over each call of a turn
  module _ (leaving : (sid : List ℕ) (p : Play) → R p (abandons sid p)) (acting : (sid : List ℕ) (graph : Name) (node : ℕ) (c : Choice) (p : Play) → R p (called (chosen graph node c p) (act_by sid c p.random))) where
    over_leaving : (sid : List ℕ) (p : Play) (a : Answer) → R p (or_abandons sid p a)
    over_leaving sid p (Sends e to f) = none p
    over_leaving sid p other = leaving sid p

    over_act : (sid : List ℕ) (graph : Name) (node : ℕ) (c : Choice) (p : Play) → R p (acts sid graph node c p)
    over_act sid graph node c p =
        let q = called (chosen graph node c p) (act_by sid c p.random) in
        both p q (acts sid graph node c p) (acting sid graph node c p) (over_leaving sid q (answer_in p (act_by sid c p.random)))

    over_plays : (sid : List ℕ) (graph : Name) (node : ℕ) (p : Play) → R p (plays sid graph node p)
    over_plays sid graph node p = by (find (is_ready graph node) p.choices)
      where
        by : (o : Option Choice) → R p (option_map_or (λ c. acts sid graph node c p) o (abandons sid p))
        by None = leaving sid p
        by (Some c) = over_act sid graph node c p

    over_session : (sid : List ℕ) (node : ℕ) (p : Play) (o : Option (Program × Session)) → R p (option_map_or (λ (x : Program × Session). plays sid x.0.graph.name node p) o (abandons sid p))
    over_session sid node p None = leaving sid p
    over_session sid node p (Some x) = over_plays sid x.0.graph.name node p

    pub over_turn : (sid : List ℕ) (p : Play) → R p (plays_on sid p)
    over_turn sid p = by (turn_of (node_of p.past) sid)
      where
        by : (o : Option ℕ) → R p (option_map_or (λ node. option_map_or (λ (x : Program × Session). plays sid x.0.graph.name node p) (live_with (node_of p.past) sid) (abandons sid p)) o p)
        by None = none p
        by (Some node) = over_session sid node p (live_with (node_of p.past) sid)

    -- the turn that a call gives
    pub over_given : (p : Play) (o : Option (List ℕ)) → R p (option_map_or (λ sid. plays_on sid p) o p)
    over_given p None = none p
    over_given p (Some sid) = over_turn sid p

  pub over_starts : ((p : Play) (s : ScriptStart) → R p (starts p s)) → (p : Play) (ss : List ScriptStart) → R p (all_starts p ss)
  over_starts one p [] = none p
  over_starts one p (s ∷ ss) = both p (starts p s) (all_starts (starts p s) ss) (one p s) (over_starts one (starts p s) ss)

  pub over_deliveries : ((p : Play) (d : List ℕ) → R p (with_turn p (Deliver d))) → (p : Play) (ds : List (List ℕ)) → R p (all_deliveries p ds)
  over_deliveries one p [] = none p
  over_deliveries one p (d ∷ ds) = both p (with_turn p (Deliver d)) (all_deliveries (with_turn p (Deliver d)) ds) (one p d) (over_deliveries one (with_turn p (Deliver d)) ds)

-- ---- each only adds steps

by_act : (sid : List ℕ) (graph : Name) (node : ℕ) (c : Choice) (p : Play) → Extends p (called (chosen graph node c p) (act_by sid c p.random))
by_act sid graph node c p = (step_in (chosen graph node c p) (act_by sid c p.random) ∷ [], refl)

pub after_call : (p : Play) (c : Call) → Extends (called p c) (with_turn p c)
after_call p c = over_given Extends nothing joined (λ sid q. by_call q (Abandon sid)) by_act (called p c) (sid_answered (answer_in p c))

pub with_call : (p : Play) (c : Call) → Extends p (with_turn p c)
with_call p c = joined p (called p c) (with_turn p c) (by_call p c) (after_call p c)

pub by_start : (p : Play) (s : ScriptStart) → Extends p (starts p s)
by_start p s = with_call (without 1 p) (Start (cast_of_start p.past.programs s (next_random p.random)))

pub by_starts : (p : Play) (ss : List ScriptStart) → Extends p (all_starts p ss)
by_starts p ss = over_starts Extends nothing joined by_start p ss

pub by_deliveries : (p : Play) (ds : List (List ℕ)) → Extends p (all_deliveries p ds)
by_deliveries p ds = over_deliveries Extends nothing joined (λ q d. with_call q (Deliver d)) p ds

-- ---- lists one after another

pub starts_both : (p : Play) (ss ts : List ScriptStart) → all_starts p (ss ++ ts) ≡ all_starts (all_starts p ss) ts
starts_both p [] ts = refl
starts_both p (s ∷ ss) ts = starts_both (starts p s) ss ts

pub deliveries_both : (p : Play) (ds es : List (List ℕ)) → all_deliveries p (ds ++ es) ≡ all_deliveries (all_deliveries p ds) es
deliveries_both p [] es = refl
deliveries_both p (d ∷ ds) es = deliveries_both (with_turn p (Deliver d)) ds es
