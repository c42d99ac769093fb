-- How each node represents its principal's past.
use Rattle.std.specs.Prelude.{◌≡◌, List}
use Rattle.std.specs.List.{AllZip}
use Rattle.sg_model.specs.Names.{Name}
use Rattle.sg_protocol.specs.NodeStates.{NodeState, RepresentsPast}
use Rattle.sg_protocol.specs.Past.{Past}
use Rattle.sg_node.specs.Answers.{IsAnsweredPast}

-- the principal's node represents its past, whose calls were in range and answered as a node answers
pub record RepresentsAs (node : Name × NodeState) (past : Past) : Type 0 where
  pub me : past.keys.me ≡ node.0
  pub represents : RepresentsPast node.1 past
  pub answered : IsAnsweredPast past

-- each principal's node represents its past
abbrev pub RepresentPasts : List (Name × NodeState) → List Past → Type 0
RepresentPasts nodes pasts = AllZip RepresentsAs nodes pasts
