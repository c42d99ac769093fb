-- The text of a program, line by line.
use Rattle.std.specs.Prelude.{ℕ, ◌+◌, ◌==◌, if◌then◌else◌, List, [], ◌∷◌, ◌++◌, map, filter, length, codes, flat_map, Option, Some, None}
use Rattle.std.specs.List.{list_all}
use Rattle.hex.specs.Hex.{encode_lower}
use Rattle.sg_model.specs.Lists.{below}
use Rattle.sg_model.specs.Shape.{role_at}
use Rattle.sg_protocol.specs.Graph.{Graph, shape, canonical, role_name, node_name, spaced}
use Rattle.sg_protocol.specs.Evidence.{Seen, View, mask}
use Rattle.sg_protocol.specs.Spelling.{u32}
use Rattle.sg_protocol.specs.Keyring.{Program}
use Rattle.sg_graph.specs.Edges.{leaving_from}
use Rattle.sg_graph.specs.Parts.{edge_name}

-- a line with its end
abbrev pub line : List ℕ → List ℕ
line text = text ++ 10 ∷ []

-- version 1 if each variable has one writing role, else version 2
abbrev pub version : Graph → ℕ
version g = if list_all (λ v. length v.writers == 1) g.variables then 1 else 2

-- the first line of a version
abbrev pub start_line : ℕ → List ℕ
start_line v = codes "sg-program " ++ (48 + v) ∷ []

-- the role's name
abbrev pub role_line : Graph → ℕ → List ℕ
role_line g r = codes "role " ++ role_name g r

-- the nodes of a role
abbrev pub nodes_of : Graph → ℕ → List ℕ
nodes_of g r = filter (λ n. role_at (shape g) n == r) (below (length g.nodes))

-- a node, and the labels among which its role chooses there
abbrev pub turn_line : Graph → ℕ → List ℕ
turn_line g n = codes "turn " ++ node_name g n ++ 58 ∷ spaced (map (edge_name g) (leaving_from g n))

-- a set of variables as eight hexadecimal digits, with bit x for variable x
abbrev pub mask_text : List ℕ → List ℕ
mask_text xs = encode_lower (u32 (mask xs))

-- a step that is seen: its label and what was written
abbrev pub item_text : Graph → Seen → List ℕ
item_text g i = edge_name g i.label ++ 47 ∷ mask_text i.delta

-- the word for the start, or the own last label
abbrev pub origin_text : Graph → Option ℕ → List ℕ
origin_text g None = codes "start"
origin_text g (Some e) = edge_name g e

-- a view: from where, and what is seen since
abbrev pub view_line : Graph → View → List ℕ
view_line g v = codes "view " ++ origin_text g v.origin ++ 58 ∷ spaced (map (item_text g) v.items)

-- the lines of the table: the turns at the nodes of the role, its views, and the end
abbrev pub table_lines : Program → List (List ℕ)
table_lines p = map (turn_line p.graph) (nodes_of p.graph p.role) ++ map (view_line p.graph) p.views ++ codes "end" ∷ []

-- the lines of the table as one text
abbrev pub table_text : Program → List ℕ
table_text p = flat_map line (table_lines p)

-- the text before the lines of the table: the version, the role and the graph
abbrev pub prefix : Graph → ℕ → List ℕ
prefix g r = line (start_line (version g)) ++ line (role_line g r) ++ canonical g ++ line (codes "table")

-- the text of a program
abbrev pub program_text : Program → List ℕ
program_text p = prefix p.graph p.role ++ table_text p
