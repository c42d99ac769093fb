-- Texts that are wrong, each with its first wrong line and what is wrong with it.
use Rattle.std.specs.Prelude.{◌≡◌, ℕ, true, not, List, [], ◌∷◌, codes, refl, None, Ok}
use Rattle.std.specs.List.{list_all, concat}
use Rattle.sg_protocol.specs.Graph.{Graph}
use Rattle.sg_parse.specs.Tokens.{tokens_from}
use Rattle.sg_parse.specs.Reading.{read, up_to}
use Rattle.sg_parse.specs.declared.fault.ParseFault.TheVariants.{BadByte}
use Rattle.sg_parse.proofs.TookGraph.{read-spells}
use Rattle.sg_sched.specs.Pair.{edge}
use Rattle.sg_sched.specs.Format.LineContents.{BlockLine, EdgeLine, HonestLine, StartLine}
use Rattle.sg_sched.specs.Format.Items.{Item, GraphItem, EdgeItem}
use Rattle.sg_sched.specs.Format.Faults.{fault}
use Rattle.sg_sched.specs.Format.Kinds.{Form, Unknown, Twice, Graph as BadGraph}
use Rattle.sg_sched.specs.Format.Spells.{Line, closes, IsBlock, Skip, Say, Show, Nothing, Next, OfNoForm, OfAForm, NotClosed, NoGraph, SameGraph, IsFirstFault, AtIt, AtEdge}
use Rattle.sg_sched.proofs.FormatHeads.{on_literals, on_forms}
use Rattle.sg_sched.proofs.LineLaws.{says_none}

-- ---- lines

-- the first line
first_line : IsFirstFault (codes "honest 9") 1 Form
unfolding on_forms
first_line = AtIt (record { right = []; these = codes "honest 9" ∷ []; rest = []; items = []; all = refl; declared = Nothing; wrong = OfNoForm refl (says_none (codes "honest 9") refl); number = refl })

-- a step of an undeclared session, after a line and a blank one, whatever follows
third_line : IsFirstFault (codes "honest a\n\nstart b s1\nhonest 9\n") 3 Unknown
unfolding on_literals
third_line = AtIt (record {
  right = codes "honest a\n" ∷ codes "\n" ∷ [];
  these = codes "start b s1\n" ∷ [];
  rest = codes "honest 9\n" ∷ [];
  items = _;
  all = refl;
  declared = Next (Next Nothing (Say {line = codes "honest a\n"} {statement = HonestLine (codes "a")} (record { spelled = refl; form = refl }) refl refl)) (Skip {line = codes "\n"} refl);
  wrong = OfAForm {statement = StartLine (codes "b") (codes "s1")} (record { spelled = refl; form = refl }) refl;
  number = refl;
})

-- ---- blocks

-- it isn't closed at the last line, since that keeps a carriage return
not_closed : IsFirstFault (codes "graph {\ngraph g;\n}\r") 3 Form
not_closed = AtIt (record {
  right = [];
  these = codes "graph {\n" ∷ codes "graph g;\n" ∷ codes "}\r" ∷ [];
  rest = [];
  items = [];
  all = refl;
  declared = Nothing;
  wrong = NotClosed (record { opens = record { spelled = refl; form = refl }; in_group = refl; open_yet = refl });
  number = refl;
})

-- the block of one line
abbrev block_of : Line → List Line
block_of text = codes "graph {\n" ∷ text ∷ codes "}\n" ∷ []

-- it is one in its group, if the line doesn't close it
blocked : {before : List Item} {text : Line} → fault before BlockLine ≡ None → list_all (λ l. not (closes l)) (text ∷ []) ≡ true → text ≡ concat (text ∷ []) → IsBlock before (block_of text) text
blocked {before} {text} group unclosed whole = record {
  opening = codes "graph {\n";
  inner = text ∷ [];
  closing = codes "}\n";
  all = refl;
  opened = record { opens = record { spelled = refl; form = refl }; in_group = group; open_yet = unclosed };
  closed = refl;
  within = whole;
}

-- a byte that begins no token, at the closing line
refused : IsFirstFault (codes "graph {\ngraph $;\n}\nhonest 9") 3 (BadGraph (BadByte 6))
unfolding tokens_from up_to
refused = AtIt (record {
  right = [];
  these = block_of (codes "graph $;\n");
  rest = codes "honest 9" ∷ [];
  items = [];
  all = refl;
  declared = Nothing;
  wrong = NoGraph {text = codes "graph $;\n"} (blocked refl refl refl) refl;
  number = refl;
})

-- a graph of two roles and a node
abbrev graph_of : List ℕ → Graph
graph_of name = record { name = name; roles = codes "a" ∷ codes "b" ∷ []; variables = []; nodes = record { name = codes "n"; role = 0 } ∷ []; edges = [] }

-- the text of the graph g
abbrev g_text : Line
g_text = codes "graph g;role a;role b;node n:a;\n"

-- the text of a graph named `pair`
abbrev pair_text : Line
pair_text = codes "graph pair;role a;role b;node n:a;\n"

g_read : read g_text ≡ Ok (graph_of (codes "g"))
unfolding tokens_from up_to
g_read = refl

pair_read : read pair_text ≡ Ok (graph_of (codes "pair"))
unfolding tokens_from up_to
pair_read = refl

-- the graph of a second block has the name of the first
same_graph : IsFirstFault (codes "graph {\ngraph g;role a;role b;node n:a;\n}\ngraph {\ngraph g;role a;role b;node n:a;\n}\n") 6 Twice
same_graph = AtIt (record {
  right = block_of g_text;
  these = block_of g_text;
  rest = [];
  items = GraphItem (graph_of (codes "g")) ∷ [];
  all = refl;
  declared = Next Nothing (Show {block = block_of g_text} {text = g_text} {g = graph_of (codes "g")} (blocked refl refl refl) (read-spells g_text (graph_of (codes "g")) g_read) refl);
  wrong = SameGraph {text = g_text} {g = graph_of (codes "g")} (blocked refl refl refl) (read-spells g_text (graph_of (codes "g")) g_read) refl;
  number = refl;
})

-- a block of a graph named `pair` behind an edge line: the edge line is wrong
pair_behind : IsFirstFault (codes "# edges\nedge L 0 1\ngraph {\ngraph pair;role a;role b;node n:a;\n}\n") 2 Twice
unfolding on_literals
pair_behind = AtEdge (record {
  right = codes "# edges\n" ∷ codes "edge L 0 1\n" ∷ [];
  block = block_of pair_text;
  rest = [];
  items = EdgeItem (edge (codes "L") 0 1) ∷ [];
  text = pair_text;
  all = refl;
  first_edge = record {
    right = codes "# edges\n" ∷ [];
    edge_line = codes "edge L 0 1\n";
    more = [];
    items = [];
    all = refl;
    declared = Next Nothing (Skip {line = codes "# edges\n"} refl);
    no_edge = refl;
    label = codes "L";
    from = 0;
    to = 1;
    is_edge = record { spelled = refl; form = refl };
    number = refl;
  };
  declared = Next (Next Nothing (Skip {line = codes "# edges\n"} refl)) (Say {line = codes "edge L 0 1\n"} {statement = EdgeLine (codes "L") 0 1} (record { spelled = refl; form = refl }) refl refl);
  is_block = blocked refl refl refl;
  graph = graph_of (codes "pair");
  spelled = read-spells pair_text (graph_of (codes "pair")) pair_read;
  named = refl;
})
