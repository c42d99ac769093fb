use Rattle.std.proofs.Common.{◌≡◌, ◌≢◌, ℕ, ◌<◌, ◌≤◌, ◌+◌, ◌-◌, length, arith, inl, inr}
use Rattle.sg_protocol.specs.Graph.{Graph}
use Rattle.sg_graph.proofs.Sets.{numbers_within}
use Rattle.sg_compose.specs.Expansion.{inside, replaced}
use Rattle.sg_compose.proofs.Ends.{inside_length}
use Rattle.sg_compose.proofs.Joining.{replaced-below}
use Rattle.sg_compose.proofs.Renaming.{number-below, set_of-numbers}
use Rattle.sg_compose.proofs.add.add_edge.Goals as goal

-- a node that stands for one of the graph that is used is there
replaced-there : (inner : Graph) (count from to m x many : ℕ) → 0 < m → m < length inner.nodes → x < length inner.nodes → from < count → to < count → count + length (inside inner m) ≤ many
    → replaced count from to m x < many
replaced-there inner count from to m x many late there within first last room =
    let late' : m ≢ 0 = λ e. (absurd (omega (arith, e, late))) in
    let all : length (inside inner m) ≡ length inner.nodes - 2 = inside_length inner m late' there in
    elim (replaced-below count from to m x (length inner.nodes) late' there within first last) [
      | inl a ↦ omega (arith, a, all, room)
      | inr b ↦ omega (arith, b, room)
    ]

pub shifted-writes-requires : goal.shifted-writes-requires
shifted-writes-requires c =
    let room : length c.args.inner.now.variables ≤ 32 - c.args.vars = omega (arith, c.requires.vars, c.vars-count.ensures.graph.sizes.1) in
    numbers_within _ _ c.edge-edge.result.now.writes room c.edge-edge.ensures.sets.0

pub shifted-reads-requires : goal.shifted-reads-requires
shifted-reads-requires c =
    let room : length c.args.inner.now.variables ≤ 32 - c.args.vars = omega (arith, c.requires.vars, c.vars-count.ensures.graph.sizes.1) in
    numbers_within _ _ c.edge-edge.result.now.reads room c.edge-edge.ensures.sets.1

pub add_edge-requires-clause-source : goal.add_edge-requires-clause-source
add_edge-requires-clause-source c =
    rw c.replaced-source.ensures (replaced-there c.args.inner.now c.args.nodes c.args.used.now.from c.args.used.now.to c.args.end c.edge-edge.result.now.source _
    c.requires.late c.requires.there c.edge-edge.ensures.ends.0 c.requires.from c.requires.to c.requires.nodes)

pub add_edge-requires-clause-target : goal.add_edge-requires-clause-target
add_edge-requires-clause-target c =
    rw c.replaced-target.ensures (replaced-there c.args.inner.now c.args.nodes c.args.used.now.from c.args.used.now.to c.args.end c.edge-edge.result.now.target _
    c.requires.late c.requires.there c.edge-edge.ensures.ends.1 c.requires.from c.requires.to c.requires.nodes)

pub add_edge-requires-clause-writes : goal.add_edge-requires-clause-writes
add_edge-requires-clause-writes c =
    rw c.shifted-writes.ensures (set_of-numbers 32 _ (λ x. c.args.vars + x) c.edge-edge.result.now.writes
    (λ x i. (let low = number-below 32 (λ x. x) c.edge-edge.result.now.writes (length c.args.inner.now.variables) c.edge-edge.ensures.sets.0 x i in omega (arith, low, c.requires.vars))))

pub add_edge-requires-clause-reads : goal.add_edge-requires-clause-reads
add_edge-requires-clause-reads c =
    rw c.shifted-reads.ensures (set_of-numbers 32 _ (λ x. c.args.vars + x) c.edge-edge.result.now.reads
    (λ x i. (let low = number-below 32 (λ x. x) c.edge-edge.result.now.reads (length c.args.inner.now.variables) c.edge-edge.ensures.sets.1 x i in omega (arith, low, c.requires.vars))))
