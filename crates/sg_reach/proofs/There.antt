-- The nodes and roles of a graph's edges and walks are there.
use Rattle.std.proofs.Common.{ℕ, ◌<◌, List, [], ◌∷◌, length}
use Rattle.std.proofs.lemmas.List.{length-map, get_or-map}
use Rattle.std.proofs.lemmas.List.Elements.{All-get_or}
use Rattle.sg_model.specs.Shape.{Arrow, Walk, end_of, role_at, source, target}
use Rattle.sg_protocol.specs.Graph.{Graph, Node, Edge, IsGraph, shape}

-- both ends of an edge are nodes
pub ends_there : (g : Graph) → IsGraph g → (e : ℕ) → e < length (shape g).edges → (source (shape g) e < length g.nodes) × (target (shape g) e < length g.nodes)
ends_there g x e h =
    let within : e < length g.edges = rw length-map at h in
    let none : Edge = record { name = []; source = 0; target = 0; writes = []; reads = [] } in
    let arrow : Arrow = record { source = 0; target = 0; writes = []; reads = [] } in
    let ends = All-get_or (λ (d : Edge). (d.source < length g.nodes) × (d.target < length g.nodes)) g.edges e none within x.ends in
    rw (get_or-map (λ (d : Edge). record { source = d.source; target = d.target; writes = d.writes; reads = d.reads }) g.edges e none arrow within, source, target) ends

-- the role of a node is a role
pub role_there : (g : Graph) → IsGraph g → (n : ℕ) → n < length g.nodes → role_at (shape g) n < length g.roles
role_there g x n h =
    let none : Node = record { name = []; role = 0 } in
    rw (get_or-map (λ (d : Node). d.role) g.nodes n none 0 h) (All-get_or (λ (d : Node). d.role < length g.roles) g.nodes n none h x.roles)

-- a walk from a node ends at a node
pub end_there : (g : Graph) → IsGraph g → (m : ℕ) (es : List ℕ) → m < length g.nodes → Walk (shape g) m es → end_of (shape g) m es < length g.nodes
end_there g x m [] h w = h
end_there g x m (e ∷ es) h w = end_there g x (target (shape g) e) es (ends_there g x e w.0).1 w.2
