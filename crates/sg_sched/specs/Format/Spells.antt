-- The schedule that bytes spell, and the first wrong line of bytes that spell none.
use Rattle.std.specs.Prelude.{◌≡◌, ℕ, suc, ◌+◌, not, Bool, List, [], ◌∷◌, ◌++◌, length, codes, bytes_eq, IsTrue, IsFalse, Some, None, Err}
use Rattle.std.specs.List.{list_all, concat}
use Rattle.sg_model.specs.Lists.{has_text}
use Rattle.sg_protocol.specs.Graph.{Graph as AGraph}
use Rattle.sg_protocol.specs.Texts.{Hash}
use Rattle.sg_protocol.specs.Schedule.{Schedule}
use Rattle.sg_parse.specs.Grammar.{SpellsGraph}
use Rattle.sg_parse.specs.Reading.{read}
use Rattle.sg_parse.specs.declared.fault.ParseFault.{ParseFault}
use Rattle.sg_sched.specs.Text.{lines, content}
use Rattle.sg_sched.specs.Format.LineContents.{LineContent, BlockLine, EdgeLine}
use Rattle.sg_sched.specs.Format.Forms.{is_skipped, SaysLine}
use Rattle.sg_sched.specs.Format.Items.{Item, GraphItem, blocks, edges, graphs, graph_names, schedule_of}
use Rattle.sg_sched.specs.Format.Numbered.{made}
use Rattle.sg_sched.specs.Format.Kinds.{Kind, Form, Twice, Graph}
use Rattle.sg_sched.specs.Format.Faults.{fault}

-- a line with its line end, which the last line need not have
abbrev pub Line : Type 0
Line = List ℕ

-- ---- blocks

-- the line `}` alone
abbrev pub closes : Line → Bool
closes line = bytes_eq (content line) (codes "}")

-- the line `graph {`, in its group, and lines that don't close the block
pub record IsOpened (before : List Item) (opening : Line) (inner : List Line) : Type 0 where
  pub opens : SaysLine opening BlockLine
  pub in_group : fault before BlockLine ≡ None
  pub open_yet : IsTrue (list_all (λ l. not (closes l)) inner)

-- these lines are a block, and its bytes and line ends as they stand are its text
pub record IsBlock (before : List Item) (block : List Line) (text : List ℕ) : Type 0 where
  pub opening : Line
  pub inner : List Line
  pub closing : Line
  pub all : block ≡ opening ∷ inner ++ closing ∷ []
  pub opened : IsOpened before opening inner
  pub closed : IsTrue (closes closing)
  pub within : text ≡ concat inner

-- ---- right lines

-- after what is declared before them, these lines add these items: a line that is skipped, a line of a form, or a block of a graph whose name is new
pub data Add (before : List Item) : List Line → List Item → Type 0 where
  Skip : {line : Line} → IsTrue (is_skipped line) → Add before (line ∷ []) []
  Say : {line : Line} {statement : LineContent} {item : Item} → SaysLine line statement → fault before statement ≡ None → made before statement ≡ Some item → Add before (line ∷ []) (item ∷ [])
  Show : {block : List Line} {text : List ℕ} {g : AGraph} → IsBlock before block text → SpellsGraph text g → IsFalse (has_text g.name (graph_names (graphs before)))
      → Add before block (GraphItem g ∷ [])

-- the lines from the first one on declare these items, and none of them is wrong
pub data Declare : List Line → List Item → Type 0 where
  Nothing : Declare [] []
  Next : {first more : List Line} {items new : List Item} → Declare first items → Add items more new → Declare (first ++ more) (items ++ new)

-- the bytes are the schedule
pub record SpellsSchedule (sha : Hash) (bytes : List ℕ) (s : Schedule) : Type 0 where
  pub items : List Item
  pub declared : Declare (lines bytes) items
  pub schedule : schedule_of sha items ≡ s

-- ---- wrong lines

-- after what is declared before them, the last of these lines is wrong in this way, whatever the rest is
pub data IsWrong (before : List Item) : (these rest : List Line) → Kind → Type 0 where
  OfNoForm : {line : Line} {rest : List Line} → IsFalse (is_skipped line) → ((statement : LineContent) → SaysLine line statement → ⊥) → IsWrong before (line ∷ []) rest Form
  OfAForm : {line : Line} {rest : List Line} {statement : LineContent} {kind : Kind} → SaysLine line statement → fault before statement ≡ Some kind → IsWrong before (line ∷ []) rest kind
  NotClosed : {opening : Line} {inner : List Line} → IsOpened before opening inner → IsWrong before (opening ∷ inner) [] Form
  NoGraph : {block rest : List Line} {text : List ℕ} {e : ParseFault} → IsBlock before block text → read text ≡ Err e → IsWrong before block rest (Graph e)
  SameGraph : {block rest : List Line} {text : List ℕ} {g : AGraph} → IsBlock before block text → SpellsGraph text g → IsTrue (has_text g.name (graph_names (blocks before)))
      → IsWrong before block rest Twice

-- the lines before it are right, and the line of this number, counted from 1, is wrong
pub record IsWrongAt (ls : List Line) (n : ℕ) (kind : Kind) : Type 0 where
  pub right : List Line
  pub these : List Line
  pub rest : List Line
  pub items : List Item
  pub all : ls ≡ right ++ (these ++ rest)
  pub declared : Declare right items
  pub wrong : IsWrong items these rest kind
  pub number : n ≡ length right + length these

-- the first edge line among these lines has this number
pub record IsFirstEdge (ls : List Line) (n : ℕ) : Type 0 where
  pub right : List Line
  pub edge_line : Line
  pub more : List Line
  pub items : List Item
  pub all : ls ≡ right ++ edge_line ∷ more
  pub declared : Declare right items
  pub no_edge : edges items ≡ []
  pub label : List ℕ
  pub from : ℕ
  pub to : ℕ
  pub is_edge : SaysLine edge_line (EdgeLine label from to)
  pub number : n ≡ suc (length right)

-- the line of this number is the first edge line, and after right lines comes a block of a graph named `pair`
pub record IsPairAt (ls : List Line) (n : ℕ) : Type 0 where
  pub right : List Line
  pub block : List Line
  pub rest : List Line
  pub items : List Item
  pub text : List ℕ
  pub all : ls ≡ right ++ (block ++ rest)
  pub first_edge : IsFirstEdge right n
  pub declared : Declare right items
  pub is_block : IsBlock items block text
  pub graph : AGraph
  pub spelled : SpellsGraph text graph
  pub named : graph.name ≡ codes "pair"

-- the first wrong line of the bytes and what is wrong with it
pub data IsFirstFault (bytes : List ℕ) : ℕ → Kind → Type 0 where
  AtIt : {n : ℕ} {kind : Kind} → IsWrongAt (lines bytes) n kind → IsFirstFault bytes n kind
  AtEdge : {n : ℕ} → IsPairAt (lines bytes) n → IsFirstFault bytes n Twice
