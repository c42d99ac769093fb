-- A turn that is played in two halves: the act, and the leaving.
use Rattle.std.specs.Prelude.{ℕ, Bool, true, false, if◌then◌else◌, List, find}
use Rattle.std.specs.Option.{option_map_or}
use Rattle.sg_model.specs.Names.{Name}
use Rattle.sg_protocol.specs.Calls.{Answer, Sends}
use Rattle.sg_protocol.specs.Keyring.{Program}
use Rattle.sg_protocol.specs.Past.{node_of}
use Rattle.sg_protocol.specs.Session.{Session}
use Rattle.sg_protocol.specs.Named.{live_with}
use Rattle.sg_script.specs.Script.{Choice}
use Rattle.sg_play.specs.Choosing.{is_ready}
use Rattle.sg_play.specs.Played.{Play, abandons, answer_in, called, act_by, chosen}

-- the answer sends a frame
abbrev pub is_sent : Answer → Bool
is_sent (Sends e to f) = true
is_sent other = false

-- the play after the act by a choice, and whether a frame was sent
abbrev pub acted_by : (sid : List ℕ) → (graph : Name) → (node : ℕ) → Play → Choice → Play × Bool
acted_by sid graph node p c = (called (chosen graph node c p) (act_by sid c p.random), is_sent (answer_in p (act_by sid c p.random)))

-- the play after the act by the first choice that can be taken, if there is one, and whether a frame was sent
abbrev pub acted_in : (sid : List ℕ) → (graph : Name) → (node : ℕ) → Play → Play × Bool
acted_in sid graph node p = option_map_or (acted_by sid graph node p) (find (is_ready graph node) p.choices) (p, false)

-- so by the graph that the session has
abbrev pub acted : (sid : List ℕ) → (node : ℕ) → Play → Play × Bool
acted sid node p = option_map_or (λ (x : Program × Session). acted_in sid x.0.graph.name node p) (live_with (node_of p.past) sid) (p, false)

-- if no frame was sent the session is abandoned
abbrev pub or_leaves : (sid : List ℕ) → Play × Bool → Play
or_leaves sid x = if x.1 then x.0 else abandons sid x.0
