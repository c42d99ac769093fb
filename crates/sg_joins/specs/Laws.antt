-- What holds of the joins that are kept, in the subject's terms.
use Rattle.std.specs.Prelude.{◌≡◌, ℕ, List, ◌++◌, Contains, Ok}
use Rattle.sg_ledger.specs.Format.{Join, Represents}
use Rattle.sg_model.specs.Bytes.{IsBytes}
use Rattle.sg_node.specs.Answers.{IsAnsweredPast}
use Rattle.sg_protocol.specs.Frame.{Frame}
use Rattle.sg_protocol.specs.Past.{Past, node_of}
use Rattle.sg_protocol.specs.Reading.{read}
use Rattle.sg_joins.specs.Joins.{joins_made}
use Rattle.sg_joins.specs.Joins.{IsOfJoin}

-- The joins of a node are those that it was made with, and then those that its calls made
abbrev pub JoinsOfNode : Type 0
JoinsOfNode = (past : Past) → IsAnsweredPast past → (node_of past).joins ≡ past.first ++ joins_made past.calls

-- If a file represents joins, and bytes are a frame of one of the later of these, what is read of the bytes has its session and its sender among them
abbrev pub FramesShowTheirJoins : Type 0
FramesShowTheirJoins = (file bytes : List ℕ) (opened made : List Join) (f : Frame) → Represents file (opened ++ made) → IsOfJoin made bytes → IsBytes bytes → read bytes ≡ Ok f → Contains made (f.sid, f.sender)
