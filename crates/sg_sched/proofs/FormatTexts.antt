-- Whole texts, and texts that are wrong at a line.
use Rattle.std.specs.Prelude.{◌≡◌, ℕ, List, [], ◌∷◌, ◌++◌, replicate, codes, refl, Ok}
use Rattle.sg_protocol.specs.Graph.{Graph}
use Rattle.sg_protocol.specs.Texts.{Hash, graph_digest}
use Rattle.sg_protocol.specs.Schedule.{StartStep, ActStep, DeliverStep, Whole}
use Rattle.sg_parse.specs.Tokens.{tokens_from}
use Rattle.sg_parse.specs.Reading.{read, up_to}
use Rattle.sg_parse.proofs.TookGraph.{read-spells}
use Rattle.sg_sched.specs.Text.{lines}
use Rattle.sg_sched.specs.Pair.{edge, pair_graph}
use Rattle.sg_sched.specs.Format.LineContents.{EdgeLine, HonestLine, KeyLine, SessionLine, StartLine, ActLine, DeliverLine, TheFrame}
use Rattle.sg_sched.specs.Format.Items.{GraphItem, StepItem}
use Rattle.sg_sched.specs.Format.Spells.{Line, IsBlock, Add, Skip, Say, Show, Declare, Nothing, Next, SpellsSchedule}
use Rattle.sg_sched.proofs.FormatHeads.{on_literals, sixty_four, head_p}

-- ---- a session of two

-- two edges, two principals, and an exchange
exchange : List ℕ
exchange = codes "edge Request 0 1\nedge Reply 1 2\nhonest a\nhonest b\nkey a b " ++ sixty_four 49
    ++ codes "\nsession s1 pair 1 a,b\n\n# the steps\nstart a s1\nact a s1 Request\ndeliver b f1"

-- its lines one by one
exchange_lines : Declare (lines exchange) (head_p (codes "a" ∷ codes "b" ∷ []) ++ StepItem (StartStep (codes "a") 0) ∷ StepItem (ActStep (codes "a") 0 0 []) ∷ StepItem (DeliverStep (codes "b") (Whole 1)) ∷ [])
unfolding on_literals exchange
exchange_lines =
    Next (Next (Next (Next (Next (Next (Next (Next (Next (Next (Next Nothing
    (Say {line = codes "edge Request 0 1\n"} {statement = EdgeLine (codes "Request") 0 1} (record { spelled = refl; form = refl }) refl refl))
    (Say {line = codes "edge Reply 1 2\n"} {statement = EdgeLine (codes "Reply") 1 2} (record { spelled = refl; form = refl }) refl refl))
    (Say {line = codes "honest a\n"} {statement = HonestLine (codes "a")} (record { spelled = refl; form = refl }) refl refl))
    (Say {line = codes "honest b\n"} {statement = HonestLine (codes "b")} (record { spelled = refl; form = refl }) refl refl))
    (Say {line = codes "key a b " ++ sixty_four 49 ++ 10 ∷ []} {statement = KeyLine (codes "a") (codes "b") (sixty_four 49)} (record { spelled = refl; form = refl }) refl refl))
    (Say {line = codes "session s1 pair 1 a,b\n"} {statement = SessionLine (codes "s1") (codes "pair") 1 (codes "a" ∷ codes "b" ∷ []) 1} (record { spelled = refl; form = refl }) refl refl))
    (Skip {line = codes "\n"} refl))
    (Skip {line = codes "# the steps\n"} refl))
    (Say {line = codes "start a s1\n"} {statement = StartLine (codes "a") (codes "s1")} (record { spelled = refl; form = refl }) refl refl))
    (Say {line = codes "act a s1 Request\n"} {statement = ActLine (codes "a") (codes "s1") (codes "Request") []} (record { spelled = refl; form = refl }) refl refl))
    (Say {line = codes "deliver b f1"} {statement = DeliverLine (codes "b") (TheFrame 1)} (record { spelled = refl; form = refl }) refl refl)

-- the graph of its edge lines
abbrev pair : Graph
pair = pair_graph (edge (codes "Request") 0 1 ∷ edge (codes "Reply") 1 2 ∷ [])

-- the schedule
exchange_spelled : (sha : Hash) → SpellsSchedule sha exchange (record {
  graphs = pair ∷ [];
  honest = codes "a" ∷ codes "b" ∷ [];
  keys = record { one = codes "a"; two = codes "b"; key = replicate 32 17 } ∷ [];
  sessions = record { name = codes "s1"; cast = record { version = 1; graph = graph_digest sha pair; nonce = replicate 15 0 ++ 1 ∷ []; names = codes "a" ∷ codes "b" ∷ [] } } ∷ [];
  steps = StartStep (codes "a") 0 ∷ ActStep (codes "a") 0 0 [] ∷ DeliverStep (codes "b") (Whole 1) ∷ [];
})
unfolding on_literals
exchange_spelled sha = record { items = _; declared = exchange_lines; schedule = refl }

-- ---- blocks

-- two roles and a node, with a comment of any bytes and a line that closes nothing
small_block : List Line
small_block = codes "graph {\r\n" ∷ codes "graph g;role a;\r\n" ∷ (35 ∷ 200 ∷ 10 ∷ []) ∷ codes "# }\n" ∷ codes "role b;node n: a;\n" ∷ codes "}\r\n" ∷ []

-- its graph
small : Graph
small = record { name = codes "g"; roles = codes "a" ∷ codes "b" ∷ []; variables = []; nodes = record { name = codes "n"; role = 0 } ∷ []; edges = [] }

-- its text
small_text : List ℕ
small_text = codes "graph g;role a;\r\n" ++ 35 ∷ 200 ∷ 10 ∷ codes "# }\nrole b;node n: a;\n"

small_is_block : IsBlock [] small_block small_text
unfolding small_block small_text
small_is_block = record {
  opening = codes "graph {\r\n";
  inner = codes "graph g;role a;\r\n" ∷ (35 ∷ 200 ∷ 10 ∷ []) ∷ codes "# }\n" ∷ codes "role b;node n: a;\n" ∷ [];
  closing = codes "}\r\n";
  all = refl;
  opened = record { opens = record { spelled = refl; form = refl }; in_group = refl; open_yet = refl };
  closed = refl;
  within = refl;
}

small_read : read small_text ≡ Ok small
unfolding small_text small tokens_from up_to
small_read = refl

small_added : Add [] small_block (GraphItem small ∷ [])
unfolding small
small_added = Show small_is_block (read-spells small_text small small_read) refl
