use Rattle.std.proofs.Common.{◌≡◌, ◌<◌, ℕ, suc, true, List, [], ◌∷◌, ◌++◌, length, get_or, reverse, sym, ◌∙◌, ap, subst, arith}
use Rattle.std.specs.Prelude.{Option, Some, None, is_some}
use Rattle.std.proofs.lemmas.List.{length-map, get_or_default, reverse-append}
use Rattle.sg_graph.specs.declared.edge.Edge.{Edge}
use Rattle.sg_model.specs.Shape.{source, target}
use Rattle.sg_protocol.specs.Graph.{Graph, IsGraph, shape}
use Rattle.sg_reach.specs.WalkEnd.{found_at, edges_to}
use Rattle.sg_reach.specs.Reaches.{Closure, LeadsPast, IsWithin}
use Rattle.sg_reach.specs.declared.search.WalkEnd.{WalkEnd}
use Rattle.sg_reach.proofs.Leads.{leads_nowhere, leads_by}
use Rattle.sg_reach.proofs.Reached.{found_at_end, found_with, last_edge, no_edge}
use Rattle.sg_reach.proofs.Searching.{found_of_edges}
use Rattle.sg_reach.proofs.reach.Reach.walk_to.Invariants.{edges_of}
use Rattle.sg_reach.proofs.reach.Reach.walk_to.Goals as goal
use Rattle.sg_reach.proofs.reach.Reach.walk_to.Goals.{in-None-1, in-Some+else-way-gt0}

pub loop-at-init : goal.loop-at-init
loop-at-init c =
    let g = shape c.args.self.now.graph in
    let s = c.self.inside.search in
    let w : IsWithin (record { graph = c.self.inside.graph.now; from = s.from; past = s.past }) c.args.node = subst (λ (k : Closure). IsWithin k c.args.node) (sym c.self.view_is) c.requires.within in
    record {
      there = rw length-map c.requires.there;
      found = found_at_end (shape c.self.inside.graph.now) s s.from c.args.node w.0 c.self.invariant.search c.self.invariant.followed c.self.invariant.search.found.begun w.1;
      walk = rw c.new-walk.ensures.items (leads_nowhere g c.args.node c.args.self.now.past);
    }

-- the index of a node that is there is within what was found
inner : (g : Graph) (k : Closure) (found : List (Option WalkEnd)) (at i : ℕ) → IsGraph g → g ≡ k.graph → at < length (shape k.graph).roles → i ≡ at → length found ≡ 256 → i < length found
inner g k found at i x same there is size =
    let there' : at < length (shape g).roles = rw same there in
    omega (arith, x.sizes.2, rw length-map at there', is, size)

-- the entry that is read at an index is the one of the node
entry : (found : List (Option WalkEnd)) (at i : ℕ) (d : Option WalkEnd) (f : WalkEnd) → i < length found → i ≡ at → get_or found i d ≡ Some f → found_at found at ≡ Some f
entry found at i d f within is h = ap (found_at found) (sym is) ∙ get_or_default found i None d within ∙ h

-- a walk to the node that an edge leaves is shorter than the one to its target
shorter : (found : List (Option WalkEnd)) (n m k : ℕ) (f : WalkEnd) → found_at found n ≡ Some f → f.edges ≡ suc k → edges_to found m ≡ Some k → edges_of (found_at found m) < edges_of (found_at found n)
shorter found n m k f is edges before =
    let b = found_with found m k before in
    rw (is, b.1) (omega (arith, b.2, edges))

pub edge-requires : goal.edge-requires
edge-requires c =
    let s = c.self.inside.search in
    let same : c.self.inside.graph.now ≡ c.args.self.now.graph = ap (λ (k : Closure). k.graph) c.self.view_is in
    let within = inner c.self.inside.graph.now c.args.self.now s.found c.loop-at.at c.at.inside.0 c.self.invariant.graph same c.loop-at.invariant.there c.at.view_is c.type_inv.found in
    let is : found_at s.found c.loop-at.at ≡ Some c.in-Some.way = entry s.found c.loop-at.at c.at.inside.0 _ c.in-Some.way within c.at.view_is c.in-Some.is in
    let last = last_edge (shape c.self.inside.graph.now) s.from s.past s.found c.loop-at.at c.in-Some.way c.self.invariant.search.found.walks is c.if-way-gt0.true in
    rw length-map at last.2.0

pub loop-at-smaller : goal.loop-at-smaller
loop-at-smaller c =
    let s = c.self.inside.search in
    let same : c.self.inside.graph.now ≡ c.args.self.now.graph = ap (λ (k : Closure). k.graph) c.self.view_is in
    let within = inner c.self.inside.graph.now c.args.self.now s.found c.loop-at.at c.at.inside.0 c.self.invariant.graph same c.loop-at.invariant.there c.at.view_is c.type_inv.found in
    let is : found_at s.found c.loop-at.at ≡ Some c.in-Some.way = entry s.found c.loop-at.at c.at.inside.0 _ c.in-Some.way within c.at.view_is c.in-Some.is in
    let last = last_edge (shape c.self.inside.graph.now) s.from s.past s.found c.loop-at.at c.in-Some.way c.self.invariant.search.found.walks is c.if-way-gt0.true in
    let from : c.edge.result.now.source ≡ source (shape c.self.inside.graph.now) c.in-Some.way.last = ap (λ (e : Edge). e.source) c.edge.ensures.edge in
    shorter s.found c.loop-at.at c.edge.result.now.source last.0 c.in-Some.way is last.1 (rw from last.2.3)

pub loop-at-preserved : goal.loop-at-preserved
loop-at-preserved c =
    let s = c.self.inside.search in
    let g = shape c.self.inside.graph.now in
    let same : c.self.inside.graph.now ≡ c.args.self.now.graph = ap (λ (k : Closure). k.graph) c.self.view_is in
    let within = inner c.self.inside.graph.now c.args.self.now s.found c.loop-at.at c.at.inside.0 c.self.invariant.graph same c.loop-at.invariant.there c.at.view_is c.type_inv.found in
    let is : found_at s.found c.loop-at.at ≡ Some c.in-Some.way = entry s.found c.loop-at.at c.at.inside.0 _ c.in-Some.way within c.at.view_is c.in-Some.is in
    let last = last_edge g s.from s.past s.found c.loop-at.at c.in-Some.way c.self.invariant.search.found.walks is c.if-way-gt0.true in
    let from : c.edge.result.now.source ≡ source g c.in-Some.way.last = ap (λ (e : Edge). e.source) c.edge.ensures.edge in
    let items : c.push.new.self.items ≡ c.loop-at.walk.items ++ c.in-Some.way.last ∷ [] = c.in_ok-push.ensures.items in
    let turned : reverse c.push.new.self.items ≡ c.in-Some.way.last ∷ reverse c.loop-at.walk.items = ap reverse items ∙ reverse-append c.loop-at.walk.items (c.in-Some.way.last ∷ []) in
    let walk : LeadsPast g c.loop-at.at s.past c.args.node (reverse c.loop-at.walk.items) =
    subst (λ (k : Closure). LeadsPast (shape k.graph) c.loop-at.at k.past c.args.node (reverse c.loop-at.walk.items)) (sym c.self.view_is) c.loop-at.invariant.walk in
    let walk' : LeadsPast g (target g c.in-Some.way.last) s.past c.args.node (reverse c.loop-at.walk.items) = rw last.2.1 walk in
    let more : LeadsPast g (source g c.in-Some.way.last) s.past c.args.node (c.in-Some.way.last ∷ reverse c.loop-at.walk.items) =
    leads_by g s.past c.args.node c.in-Some.way.last (reverse c.loop-at.walk.items) last.2.0 last.2.2 walk' in
    record {
      there = rw length-map (rw (← same) c.edge.ensures.ends.0);
      found = rw from (found_of_edges s.found (source g c.in-Some.way.last) last.0 last.2.3);
      walk = rw (turned, from) (subst (λ (k : Closure). LeadsPast (shape k.graph) (source g c.in-Some.way.last) k.past c.args.node (c.in-Some.way.last ∷ reverse c.loop-at.walk.items)) c.self.view_is more);
    }

pub returns : goal.returns
returns c =
    let s = c.self.inside.search in
    let same : c.self.inside.graph.now ≡ c.args.self.now.graph = ap (λ (k : Closure). k.graph) c.self.view_is in
    let within = inner c.self.inside.graph.now c.args.self.now s.found c.loop-at.at c.at.inside.0 c.self.invariant.graph same c.loop-at.invariant.there c.at.view_is c.self.invariant.search.found.sizes.0 in
    let stands : c.loop-at.at ≡ s.from → LeadsPast (shape c.args.self.now.graph) c.args.self.now.from c.args.self.now.past c.args.node c.reverse.new.self.items =
    λ e. rw (c.reverse.ensures.items, ← ap (λ (k : Closure). k.from) c.self.view_is, ← e) c.loop-at.invariant.walk in
    elim c.match-found-at.branch [
      | in-None-1 w ↦
          (let read : (d : Option WalkEnd) → get_or s.found c.at.inside.0 d ≡ found_at s.found c.loop-at.at = λ d. get_or_default s.found c.at.inside.0 d None within ∙ ap (found_at s.found) c.at.view_is in
          let there : is_some (found_at s.found c.loop-at.at) ≡ true = c.loop-at.invariant.found in
          absurd (grind (arith, read, there)))
      | in-Some+else-way-gt0 w ↦
          (let is : found_at s.found c.loop-at.at ≡ Some w.in-Some.way = entry s.found c.loop-at.at c.at.inside.0 _ w.in-Some.way within c.at.view_is w.in-Some.is in
          stands (no_edge (shape c.self.inside.graph.now) s.from s.past s.found c.loop-at.at w.in-Some.way c.self.invariant.search.found.walks is w.if-way-gt0.false))
    ]
