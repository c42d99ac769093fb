-- Honest principals that run apart: each with its own keys, programs and joins, and asked anything by anybody.
use Rattle.std.specs.Prelude.{◌≡◌, ℕ, List, [], ◌∷◌, IsTrue, All, ◌+◌, map, flat_map}
use Rattle.std.specs.Option.{option_map_or}
use Rattle.sg_model.specs.Names.{Name}
use Rattle.sg_protocol.specs.Texts.{Hash}
use Rattle.sg_protocol.specs.Calls.{Call}
use Rattle.sg_protocol.specs.Past.{Past, pairs_differ}
use Rattle.sg_protocol.specs.Ranges.{IsCallInRange}
use Rattle.sg_protocol.specs.Schedule.{Schedule}
use Rattle.sg_protocol.specs.World.{World, past_of}
use Rattle.sg_protocol.specs.Run.{called}
use Rattle.sg_protocol.specs.IsSchedule.{IsProgram}

-- ---- principals

-- A principal that was asked nothing yet: its programs are programs, of any roles of any graphs, and the joins that it begins with differ.
-- Nothing is asked of its keys: what a tag under a key of two honest principals says is an assumption
pub record Begins (sha : Hash) (p : Past) : Type 0 where
  pub calls : p.calls ≡ []
  pub programs : All (IsProgram sha) p.programs
  pub first : IsTrue (pairs_differ p.first)

-- their names
abbrev pub names_of : List Past → List Name
names_of ps = map (λ p. p.keys.me) ps

-- these principals are the honest ones, and the graphs are those of their programs. No session, key or step is declared
abbrev pub honest_are : List Past → Schedule
honest_are ps = record { graphs = flat_map (λ p. map (λ q. q.graph) p.programs) ps; honest = names_of ps; keys = []; sessions = []; steps = [] }

-- ---- what they are asked

-- a call at a principal
pub record CallAt : Type 0 where
  pub who : Name
  pub call : Call

-- The cast of a start, the values and confounders of an act and the bytes of a delivery are in range, and nothing else is asked of them: bytes come from anywhere
abbrev pub AreCallsInRange : List CallAt → Type 0
AreCallsInRange calls = All (λ c. IsCallInRange c.call) calls

-- the world after a call of number k. At a principal that is not one of these nothing happens
abbrev pub world_called : Hash → World → ℕ → CallAt → World
world_called sha w k c = option_map_or (called sha w k c.who c.call) (past_of w c.who) w

-- the world after these calls, in the order in which they happened, the first of number k
abbrev pub world_after_calls : Hash → World → ℕ → List CallAt → World
world_after_calls sha w k [] = w
world_after_calls sha w k (c ∷ cs) = world_after_calls sha (world_called sha w k c) (k + 1) cs

-- the run of these calls at principals that begin so: each answers as its node answers, and the log has each call with what was noted of it
abbrev pub run_apart : Hash → List Past → List CallAt → World
run_apart sha ps calls = world_after_calls sha (record { pasts = ps; log = [] }) 1 calls
