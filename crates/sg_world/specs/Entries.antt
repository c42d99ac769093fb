-- The graph by which an entry of a run's log names its numbers.
use Rattle.std.specs.Prelude.{◌-◌, List, Option, None, Some, option_and_then}
use Rattle.sg_protocol.specs.Beginnings.{first_steps}
use Rattle.sg_protocol.specs.Graph.{Graph}
use Rattle.sg_protocol.specs.Keyring.{Program}
use Rattle.sg_protocol.specs.Past.{Past, node_of}
use Rattle.sg_protocol.specs.Run.{run}
use Rattle.sg_protocol.specs.Schedule.{Schedule}
use Rattle.sg_protocol.specs.Texts.{real}
use Rattle.sg_protocol.specs.Named.{graph_of_call}
use Rattle.sg_protocol.specs.World.{Logged, Outcome, Answered, past_of}
use Rattle.sg_protocol.specs.Calls.{Answer}
use Rattle.sg_node.specs.Answers.{graph_named}

-- the past of the entry's principal before the step
abbrev pub past_before : List Program → Schedule → Logged → Option Past
past_before programs s l = option_and_then (past_of (run real programs (first_steps (l.number - 1) s))) l.who

-- the graph of the entry's call, at the node of the principal's past before the step
abbrev pub graph_of_entry : List Program → Schedule → Logged → Option Graph
graph_of_entry programs s l = option_and_then (λ c. option_and_then (λ past. graph_of_call real (node_of past) c) (past_before programs s l)) l.call

-- the answer that the entry's outcome is, if it is one
abbrev pub answer_in : Outcome → Option Answer
answer_in (Answered a) = Some a
answer_in other = None

-- the graph of the entry's call, if its answer names a role, a label or a variable by its number
abbrev pub graph_of_numbers : List Program → Schedule → Logged → Option Graph
graph_of_numbers programs s l = option_and_then (λ a. graph_named a (graph_of_entry programs s l)) (answer_in l.outcome)
