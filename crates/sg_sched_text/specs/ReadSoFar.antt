-- Where the reader stands in a text, and how it goes on.
use Rattle.std.specs.Prelude.{◌≡◌, ◌⊎◌, ◌==◌, ℕ, suc, if◌then◌else◌, List, [], ◌∷◌, ◌++◌, length, codes, Result, Ok, Err, OnOk, IfErr, IsTrue, IsFalse, ⊤, None}
use Rattle.sg_model.specs.Lists.{has_text}
use Rattle.sg_protocol.specs.Graph.{Graph as AGraph}
use Rattle.sg_parse.specs.Grammar.{SpellsGraph}
use Rattle.sg_parse.specs.Reading.{read}
use Rattle.sg_parse.specs.declared.fault.ParseFault.{ParseFault}
use Rattle.sg_sched.specs.Text.{lines}
use Rattle.sg_sched.specs.Format.LineContents.{BlockLine}
use Rattle.sg_sched.specs.Format.Forms.{SaysLine}
use Rattle.sg_sched.specs.Format.Items.{Item, GraphItem, SoFar, so_far, edges, graphs_declared, graph_names}
use Rattle.sg_sched.specs.Format.Kinds as Format
use Rattle.sg_sched.specs.Format.Kinds.{Twice, Graph}
use Rattle.sg_sched.specs.Format.Faults.{fault}
use Rattle.sg_sched.specs.Format.Spells.{Line, Declare, IsFirstEdge, IsFirstFault}
use Rattle.sg_sched.specs.declared.fault.LineFault.{LineFault}
use Rattle.sg_sched.specs.declared.fault.LineFault.TheVariants.{Line as AtLine, OutOfMemory}
use Rattle.sg_sched_text.specs.declared.reader.ScheduleReader.{ScheduleReader}
use Rattle.sg_sched_text.specs.Adding.{Added}
use Rattle.sg_sched_text.specs.Plus.{plus}
use Rattle.sg_sched_text.specs.TakingLines.{kind_of}

-- ---- where it stands

-- these lines are right and declare these items, which the reader keeps, and it knows the number of the first edge line, if there is one
pub record Keeps (r : ScheduleReader) (right : List Line) (items : List Item) : Type 0 where
  pub declared : Declare right items
  pub past : r.past ≡ so_far items
  pub edge : (edges items ≡ []) ⊎ ((edges items ≡ [] → ⊥) × IsFirstEdge right r.first_edge)

-- the reader keeps what the lines of the bytes declare up to the rest
pub record HasRead (bytes : List ℕ) (r : ScheduleReader) (rest : List ℕ) : Type 0 where
  pub right : List Line
  pub items : List Item
  pub all : lines bytes ≡ right ++ lines rest
  pub keeps : Keeps r right items
  pub number : r.number ≡ length right

-- after the lines that it keeps stands one with which a block begins
pub record Opens (bytes : List ℕ) (r : ScheduleReader) (after : List ℕ) : Type 0 where
  pub right : List Line
  pub items : List Item
  pub opening : Line
  pub all : lines bytes ≡ right ++ opening ∷ lines after
  pub keeps : Keeps r right items
  pub number : r.number ≡ suc (length right)
  pub opens : SaysLine opening BlockLine
  pub in_group : fault items BlockLine ≡ None

-- ---- how it goes on

-- the number of the first edge line, if there was none before the line of this number
abbrev pub edge_after : ScheduleReader → ℕ
edge_after r = if length r.past.edges == 0 then r.number else r.first_edge

-- the line of this number is wrong as the definition says, or there is no memory
abbrev pub IsAt : Added → ℕ → LineFault → Type 0
IsAt added n (AtLine line kind) = (line ≡ n) × (added ≡ Err (kind_of kind))
IsAt added n OutOfMemory = ⊤

-- the line of the reader's number is taken as the definition says, or it is wrong
pub record Says {A : Type 0} (added : Added) (old new : ScheduleReader) (result : Result A LineFault) : Type 0 where
  pub taken : OnOk result (added ≡ Ok new.past)
  pub number : OnOk result (new.number ≡ old.number)
  pub edge : OnOk result (new.first_edge ≡ edge_after old)
  pub wrong : IfErr result (IsAt added old.number)

-- the text is that of a graph of a new name, which is added
pub record IsShown (text : List ℕ) (old new : SoFar) : Type 0 where
  pub graph : AGraph
  pub spelled : SpellsGraph text graph
  pub fresh : IsFalse (has_text graph.name (graph_names (graphs_declared old)))
  pub added : new ≡ plus old (GraphItem graph)

-- the text is no graph's, or its graph has the name of one before, or is named `pair` after edge lines
pub data IsBad (text : List ℕ) (r : ScheduleReader) (line : ℕ) : Format.Kind → Type 0 where
  Refused : {e : ParseFault} → read text ≡ Err e → line ≡ r.number → IsBad text r line (Graph e)
  Again : (graph : AGraph) → SpellsGraph text graph → IsTrue (has_text graph.name (graph_names r.past.blocks)) → line ≡ r.number → IsBad text r line Twice
  AsPair : (graph : AGraph) → SpellsGraph text graph → graph.name ≡ codes "pair" → (r.past.edges ≡ [] → ⊥) → line ≡ r.first_edge → IsBad text r line Twice

-- the block that ends at the line of the reader's number is taken, or not, as its text says
abbrev pub IsBadAt : List ℕ → ScheduleReader → LineFault → Type 0
IsBadAt text r (AtLine line kind) = IsBad text r line (kind_of kind)
IsBadAt text r OutOfMemory = ⊤

pub record Shows {A : Type 0} (text : List ℕ) (old new : ScheduleReader) (result : Result A LineFault) : Type 0 where
  pub shown : OnOk result (IsShown text old.past new.past)
  pub number : OnOk result (new.number ≡ old.number)
  pub edge : OnOk result (new.first_edge ≡ old.first_edge)
  pub bad : IfErr result (IsBadAt text old)

-- ---- the fault

-- it is the first of the bytes, or there is no memory
abbrev pub IsFault : List ℕ → LineFault → Type 0
IsFault bytes (AtLine line kind) = IsFirstFault bytes line (kind_of kind)
IsFault bytes OutOfMemory = ⊤
