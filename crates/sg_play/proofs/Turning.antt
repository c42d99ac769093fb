-- A turn is its act, and the leaving if no frame was sent.
use Rattle.std.proofs.Common.{◌≡◌, ℕ, Bool, true, false, List, find, if◌then◌else◌, Option, Some, None, option_map, refl, sym, ap, ◌∙◌}
use Rattle.std.specs.Option.{option_map_or}
use Rattle.std.proofs.lemmas.Option.{same_Some}
use Rattle.sg_model.specs.Names.{Name}
use Rattle.sg_protocol.specs.Calls.{Abandon, Answer, Sends}
use Rattle.sg_protocol.specs.Graph.{Graph}
use Rattle.sg_protocol.specs.Keyring.{Program}
use Rattle.sg_protocol.specs.Past.{node_of}
use Rattle.sg_protocol.specs.Session.{Session}
use Rattle.sg_protocol.specs.Named.{live_with}
use Rattle.sg_protocol.specs.Turn.{turn_of}
use Rattle.sg_script.specs.Script.{Choice}
use Rattle.sg_play.specs.Choosing.{is_ready}
use Rattle.sg_play.specs.Played.{Play, abandons, act_by, acts, answer_in, called, chosen, or_abandons, plays, plays_on}
use Rattle.sg_play.specs.Turns.{acted, acted_by, acted_in, is_sent, or_leaves}
use Rattle.sg_play.proofs.Extends.{Extends, by_call, nothing}

by_answer : (sid : List ℕ) (q : Play) (a : Answer) → or_abandons sid q a ≡ or_leaves sid (q, is_sent a)
by_answer sid q (Sends e to f) = refl
by_answer sid q other = refl

by_choices : (sid : List ℕ) (graph : Name) (node : ℕ) (p : Play) → plays sid graph node p ≡ or_leaves sid (acted_in sid graph node p)
by_choices sid graph node p = by (find (is_ready graph node) p.choices)
  where
    by : (o : Option Choice) → option_map_or (λ c. acts sid graph node c p) o (abandons sid p) ≡ or_leaves sid (option_map_or (acted_by sid graph node p) o (p, false))
    by None = refl
    by (Some c) = by_answer sid (called (chosen graph node c p) (act_by sid c p.random)) (answer_in p (act_by sid c p.random))

by_graph : (sid : List ℕ) (node : ℕ) (p : Play) (o : Option (Program × Session)) →
    option_map_or (λ (x : Program × Session). plays sid x.0.graph.name node p) o (abandons sid p) ≡ or_leaves sid (option_map_or (λ (x : Program × Session). acted_in sid x.0.graph.name node p) o (p, false))
by_graph sid node p None = refl
by_graph sid node p (Some x) = by_choices sid x.0.graph.name node p

-- at a turn
pub turn_is : (sid : List ℕ) (node : ℕ) (p : Play) → turn_of (node_of p.past) sid ≡ Some node → plays_on sid p ≡ or_leaves sid (acted sid node p)
turn_is sid node p e =
    ap (λ (o : Option ℕ). option_map_or (λ node. option_map_or (λ (x : Program × Session). plays sid x.0.graph.name node p) (live_with (node_of p.past) sid) (abandons sid p)) o p) e
    ∙ by_graph sid node p (live_with (node_of p.past) sid)

-- at none
pub no_turn : (sid : List ℕ) (p : Play) → turn_of (node_of p.past) sid ≡ None → plays_on sid p ≡ p
no_turn sid p e = ap (λ (o : Option ℕ). option_map_or (λ node. option_map_or (λ (x : Program × Session). plays sid x.0.graph.name node p) (live_with (node_of p.past) sid) (abandons sid p)) o p) e

-- after the act
pub stays : (sid : List ℕ) (x : Play × Bool) → x.1 ≡ true → or_leaves sid x ≡ x.0
stays sid x e = ap (λ (b : Bool). if b then x.0 else abandons sid x.0) e

pub leaves : (sid : List ℕ) (x : Play × Bool) → x.1 ≡ false → or_leaves sid x ≡ abandons sid x.0
leaves sid x e = ap (λ (b : Bool). if b then x.0 else abandons sid x.0) e

-- ---- the act

module _ (sid : List ℕ) (node : ℕ) (p : Play) where
  -- by the graph that the session has
  pub acted_with : (g : Graph) → Some g ≡ option_map (λ (x : Program × Session). x.0.graph) (live_with (node_of p.past) sid) → acted sid node p ≡ acted_in sid g.name node p
  acted_with g e = by (live_with (node_of p.past) sid) e
    where
      by : (o : Option (Program × Session)) → Some g ≡ option_map (λ (x : Program × Session). x.0.graph) o → option_map_or (λ (x : Program × Session). acted_in sid x.0.graph.name node p) o (p, false) ≡ acted_in sid g.name node p
      by None e = absurd (cc)
      by (Some x) e = ap (λ (h : Graph). acted_in sid h.name node p) (sym (same_Some g x.0.graph e))

  -- and without one
  pub acted_without : None ≡ option_map (λ (x : Program × Session). x.0.graph) (live_with (node_of p.past) sid) → acted sid node p ≡ (p, false)
  acted_without e = by (live_with (node_of p.past) sid) e
    where
      by : (o : Option (Program × Session)) → None ≡ option_map (λ (x : Program × Session). x.0.graph) o → option_map_or (λ (x : Program × Session). acted_in sid x.0.graph.name node p) o (p, false) ≡ (p, false)
      by None e = refl
      by (Some x) e = absurd (cc)

  -- by a choice
  pub acted_first : (graph : Name) (c : Choice) → find (is_ready graph node) p.choices ≡ Some c → acted_in sid graph node p ≡ acted_by sid graph node p c
  acted_first graph c e = ap (λ (o : Option Choice). option_map_or (acted_by sid graph node p) o (p, false)) e

  pub acted_none : (graph : Name) → find (is_ready graph node) p.choices ≡ None → acted_in sid graph node p ≡ (p, false)
  acted_none graph e = ap (λ (o : Option Choice). option_map_or (acted_by sid graph node p) o (p, false)) e

-- ---- only adding steps

pub leaving_adds : (sid : List ℕ) (x : Play × Bool) → Extends x.0 (or_leaves sid x)
leaving_adds sid x = by x.1
  where
    by : (b : Bool) → Extends x.0 (if b then x.0 else abandons sid x.0)
    by true = nothing x.0
    by false = by_call x.0 (Abandon sid)
