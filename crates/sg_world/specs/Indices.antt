-- Where the node of a step's principal stands, and why a step is not taken, by the nodes and the record.
use Rattle.std.specs.Prelude.{◌≡◌, ℕ, ◌<◌, true, false, List, map, Option, Some, None, slice_get, MatchOption}
use Rattle.std.specs.Option.{option_map_or}
use Rattle.sg_model.specs.Lists.{has_text}
use Rattle.sg_model.specs.Names.{Name}
use Rattle.sg_model.specs.Limits.{most_record_before}
use Rattle.sg_protocol.specs.NodeStates.{NodeState}
use Rattle.sg_protocol.specs.Schedule.{Step, who_of}
use Rattle.sg_world.specs.declared.fault.StepFault.{StepFault}
use Rattle.sg_world.specs.declared.fault.StepFault.TheVariants.{NotHonest, RecordFull, OutOfMemory}

-- the names of the principals with a node
abbrev pub names_of : List (Name × NodeState) → List Name
names_of nodes = map (λ (n : Name × NodeState). n.0) nodes

-- the index is that of the principal whose step it is, or there is none for a craft
abbrev pub IsIndexOf : List (Name × NodeState) → Step → Option ℕ → Type 0
IsIndexOf nodes x index = MatchOption index (who_of x ≡ None) (λ i. (n : Name × NodeState) × (slice_get nodes i ≡ Some n) × (who_of x ≡ Some n.0))

-- the principal has no node; or it has one and the record has more bytes than it may have. Neither takes memory to say
abbrev pub IsFaultOf : List Name → ℕ → Step → StepFault → Type 0
IsFaultOf names size x (NotHonest name) = (who_of x ≡ Some name) × (has_text name names ≡ false)
IsFaultOf names size x (RecordFull bytes) = (option_map_or (λ who. has_text who names) (who_of x) true ≡ true) × (most_record_before < size) × (bytes ≡ size)
IsFaultOf names size x OutOfMemory = ⊥
