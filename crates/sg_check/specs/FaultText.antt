-- The text for a graph whose shape is wrong, or that blinds two roles, by its names.
use Rattle.std.specs.Prelude.{ℕ, List, ◌++◌, codes}
use Rattle.sg_protocol.specs.Graph.{Graph, role_name, node_name}
use Rattle.sg_graph.specs.NamesOfGraph.{walk_text}
use Rattle.sg_graph.specs.Parts.{edge_name}
use Rattle.sg_check.specs.declared.shape.ShapeFault.{ShapeFault}
use Rattle.sg_check.specs.declared.shape.ShapeFault.TheVariants.{SelfEdge, Unreachable, IdleRole}
use Rattle.sg_check.specs.declared.blinding.BlindFault.{BlindFault}
use Rattle.sg_check.specs.declared.blinding.BlindFault.TheVariants.{Blinding, OutOfMemory}

-- what is wrong with the shape
abbrev pub shape_text : Graph → ShapeFault → List ℕ
shape_text g (SelfEdge e) = codes "self edge " ++ edge_name g e
shape_text g (Unreachable n) = codes "unreachable " ++ node_name g n
shape_text g (IdleRole r) = codes "idle role " ++ role_name g r

-- two roles
abbrev pub roles_text : Graph → (a b : ℕ) → List ℕ
roles_text g a b = codes " for " ++ role_name g a ++ codes " and " ++ role_name g b

-- where two roles are blinded
abbrev pub blinded_text : Graph → (n a b : ℕ) → List ℕ
blinded_text g n a b = codes "blinding at " ++ node_name g n ++ roles_text g a b

-- a walk to each of two roles
abbrev pub walks_text : Graph → (walk_a walk_b : List ℕ) → List ℕ
walks_text g walk_a walk_b = codes ":" ++ walk_text g walk_a ++ codes " /" ++ walk_text g walk_b

-- where two roles are blinded, with a walk to each
abbrev pub blinding_text : Graph → BlindFault → List ℕ
blinding_text g (Blinding n a b walk_a walk_b) = blinded_text g n a b ++ walks_text g walk_a walk_b
blinding_text g OutOfMemory = codes "out of memory"
