-- Graphs and sessions by their names.
use Rattle.std.proofs.Common.{◌≡◌, ℕ, ◌∙◌, ap, sym, Bool, true, List, [], ◌∷◌, ◌++◌, map, length, cond}
use Rattle.std.specs.Prelude.{Some, None, position, slice_get, option_and_then, bytes_eq}
use Rattle.std.specs.Option.{option_or}
use Rattle.std.proofs.lemmas.List.{map_push, length-map}
use Rattle.sg_model.specs.Names.{Name}
use Rattle.sg_protocol.specs.Graph.{Graph}
use Rattle.sg_sched.specs.Format.Items.{Session, SoFar, graphs_declared, graph_names, session_named, graph_for}
use Rattle.sg_sched_text.specs.Adding.{session_index}
use Rattle.sg_sched_text.proofs.Indices.{index_append, index_map, found_at}

-- the graph behind those of the blocks
pub behind : (p : Name → Bool) (gs rest : List Graph) (g : Graph) (n : ℕ) → rest ≡ g ∷ [] → position p (graph_names gs) ≡ None → p g.name ≡ true → n ≡ length gs
    → Some n ≡ position p (graph_names (gs ++ rest))
behind p gs rest g n one none is count =
    let name : Graph → Name = λ g. g.name in
    ap (λ k. Some k) (count ∙ sym (length-map gs name))
    ∙ (λ i. option_or (sym none i) (cond (sym is i) (Some (length (map name gs))) None))
    ∙ sym (index_append p (map name gs) g.name)
    ∙ ap (position p) (sym (map_push name gs g))
    ∙ ap (λ hs. position p (graph_names (gs ++ hs))) (sym one)

-- the session of a name stands at its index
pub session_found : (n : Name) (past : SoFar) → session_named n past ≡ option_and_then (slice_get past.sessions) (session_index past n)
session_found n past =
    found_at (λ (s : Session). bytes_eq n s.name) past.sessions
    ∙ ap (option_and_then (slice_get past.sessions)) (sym (index_map (bytes_eq n) (λ (s : Session). s.name) past.sessions))

pub graph_by : (past : SoFar) (n : Name) (i : ℕ) (s : Session) → session_index past n ≡ Some i → slice_get past.sessions i ≡ Some s → slice_get (graphs_declared past) s.graph ≡ graph_for n past
graph_by past n i s p q =
    sym (ap (option_and_then (λ (s : Session). slice_get (graphs_declared past) s.graph)) (session_found n past ∙ ap (option_and_then (slice_get past.sessions)) p ∙ q))

pub no_graph : (past : SoFar) (n : Name) → session_index past n ≡ None → None ≡ graph_for n past
no_graph past n p =
    sym (ap (option_and_then (λ (s : Session). slice_get (graphs_declared past) s.graph)) (session_found n past ∙ ap (option_and_then (slice_get past.sessions)) p))
