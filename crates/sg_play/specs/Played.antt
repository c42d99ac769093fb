-- What one principal does that plays a script over a link.
use Rattle.std.specs.Prelude.{ℕ, suc, zero, List, [], ◌∷◌, ◌++◌, drop, length, replicate, find, slice_index_or, Option, Some, None}
use Rattle.std.specs.Option.{option_map_or}
use Rattle.sg_model.specs.Names.{Name}
use Rattle.sg_protocol.specs.Acting.{answer}
use Rattle.sg_protocol.specs.Calls.{sid_of, Call, Answer, Start, Act, Abandon, Deliver, Happened, Sends}
use Rattle.sg_protocol.specs.Frame.{Cast}
use Rattle.sg_protocol.specs.Keyring.{Keyring, Program}
use Rattle.sg_protocol.specs.Past.{Past, node_of, past_after}
use Rattle.sg_protocol.specs.Session.{Session}
use Rattle.sg_protocol.specs.Texts.{real}
use Rattle.sg_protocol.specs.Named.{live_with}
use Rattle.sg_protocol.specs.Turn.{turn_of}
use Rattle.sg_program.specs.Together.{is_named}
use Rattle.sg_script.specs.Script.{Start as ScriptStart, Choice, Script}
use Rattle.sg_play.specs.Choosing.{is_ready, used}
use Rattle.sg_play.specs.Steps.{Step, frames_of, frames_in, line_of}

-- how far a play has come: the node's past, the choices with the uses that are left, the random bytes that are not used yet, and the steps that were taken
pub record Play : Type 0 where
  pub past : Past
  pub choices : List Choice
  pub random : List (List ℕ)
  pub steps : List Step

-- ---- a call

-- what the node answers to a call
abbrev pub answer_in : Play → Call → Answer
answer_in p c = answer real (node_of p.past) c

-- the step that a call makes
abbrev pub step_in : Play → Call → Step
step_in p c = record {
  line = line_of p.past (length (frames_of p.steps)) c;
  frames = frames_in p.past.keys (answer_in p c);
}

-- a call is made
abbrev pub called : Play → Call → Play
called p c = record p { past = past_after real p.past c; steps = p.steps ++ step_in p c ∷ [] }

-- ---- nonces and confounders

-- the next sixteen random bytes, or zeros if there are none
abbrev pub next_random : List (List ℕ) → List ℕ
next_random random = slice_index_or random 0 (replicate 16 0)

-- the next n times sixteen random bytes
abbrev pub next_confounders : ℕ → List (List ℕ) → List (List ℕ)
next_confounders zero random = []
next_confounders (suc n) random = next_random random ∷ next_confounders n (drop 1 random)

-- a play without these random bytes
abbrev pub without : ℕ → Play → Play
without n p = record p { random = drop n p.random }

-- ---- a turn

-- the session is abandoned
abbrev pub abandons : (sid : List ℕ) → Play → Play
abandons sid p = called p (Abandon sid)

-- if the act was refused the session is abandoned
abbrev pub or_abandons : (sid : List ℕ) → Play → Answer → Play
or_abandons sid p (Sends e to f) = p
or_abandons sid p other = abandons sid p

-- the act by a choice, with a confounder to hide each value
abbrev pub act_by : (sid : List ℕ) → Choice → List (List ℕ) → Call
act_by sid c random = Act sid c.label c.values (next_confounders (length c.values) random)

-- the play as it asks for the act by a choice: the act takes the confounders, and one use off the choice, whether it is refused or not
abbrev pub chosen : (graph : Name) → (node : ℕ) → Choice → Play → Play
chosen graph node c p = record p { choices = used graph node p.choices; random = drop (length c.values) p.random }

-- the session acts by a choice
abbrev pub acts : (sid : List ℕ) → (graph : Name) → (node : ℕ) → Choice → Play → Play
acts sid graph node c p = or_abandons sid (called (chosen graph node c p) (act_by sid c p.random)) (answer_in p (act_by sid c p.random))

-- a turn is played at a node of a graph: by the first choice for it that has uses left. If there is none, the session is abandoned
abbrev pub plays : (sid : List ℕ) → (graph : Name) → (node : ℕ) → Play → Play
plays sid graph node p = option_map_or (λ c. acts sid graph node c p) (find (is_ready graph node) p.choices) (abandons sid p)

-- the turn of a session is played, if it is at its turn, by the graph that it has
abbrev pub plays_on : (sid : List ℕ) → Play → Play
plays_on sid p = option_map_or (λ node. option_map_or (λ (x : Program × Session). plays sid x.0.graph.name node p) (live_with (node_of p.past) sid) (abandons sid p)) (turn_of (node_of p.past) sid) p

-- the session in which something happened by an answer
abbrev pub sid_answered : Answer → Option (List ℕ)
sid_answered (Happened e) = Some (sid_of e)
sid_answered (Sends e to f) = Some (sid_of e)
sid_answered other = None

-- a call is made, and the turn that it gives is played
abbrev pub with_turn : Play → Call → Play
with_turn p c = option_map_or (λ sid. plays_on sid (called p c)) (sid_answered (answer_in p c)) (called p c)

-- ---- a play

-- the cast of a start: of the first program of its graph's name, with this nonce
abbrev pub cast_of_start : List Program → ScriptStart → (nonce : List ℕ) → Cast
cast_of_start programs s nonce = record { version = s.version; graph = option_map_or (λ p. p.digest) (find (is_named s.graph) programs) []; nonce = nonce; names = s.cast }

-- a start, with the next sixteen random bytes as its nonce
abbrev pub starts : Play → ScriptStart → Play
starts p s = with_turn (without 1 p) (Start (cast_of_start p.past.programs s (next_random p.random)))

-- all starts, in order
abbrev pub all_starts : Play → List ScriptStart → Play
all_starts p [] = p
all_starts p (s ∷ ss) = all_starts (starts p s) ss

-- deliveries, in order
abbrev pub all_deliveries : Play → List (List ℕ) → Play
all_deliveries p [] = p
all_deliveries p (d ∷ ds) = all_deliveries (with_turn p (Deliver d)) ds

-- a node with these keys and programs, which joined these pairs before, and a script
abbrev pub beginning : Keyring → List Program → (first : List (List ℕ × ℕ)) → List Choice → (random : List (List ℕ)) → Play
beginning keys programs first choices random = record {
  past = record { keys = keys; programs = programs; first = first; calls = [] };
  choices = choices;
  random = random;
  steps = [];
}

-- the play of a script: its starts, then these deliveries, with these random bytes
abbrev pub played : Keyring → List Program → (first : List (List ℕ × ℕ)) → Script → (deliveries random : List (List ℕ)) → Play
played keys programs first script deliveries random = all_deliveries (all_starts (beginning keys programs first script.choices random) script.starts) deliveries
