use Rattle.std.proofs.Common.{◌≡◌, ℕ, ◌+◌, ◌<◌, Bool, true, false, List, [], ◌∷◌, ◌++◌, map, filter, length, sym, ap, ◌∙◌, subst, arith, append_assoc}
use Rattle.std.proofs.lemmas.List.{map-append}
use Rattle.sg_model.specs.Lists.{below, has_text}
use Rattle.sg_model.proofs.Numbers.{filter_below_in, filter_below_out}
use Rattle.sg_protocol.specs.Graph.{Graph, Node, node_name}
use Rattle.sg_graph.specs.Adding.{with_node}
use Rattle.sg_graph.specs.Parts.{node_names}
use Rattle.sg_compose.specs.Expansion.{inner_name, is_inside, new_node}
use Rattle.sg_compose.proofs.NewNames.{may-follow-passing}
use Rattle.sg_compose.proofs.add.add_nodes.Goals as goal
use Rattle.sg_compose.proofs.add.add_nodes.Goals.{then-is_inside+in_ok-add_node, else-is_inside}

one_more : (g : Graph) (f : ℕ → Node) (p : ℕ → Bool) (n : ℕ) → p n ≡ true → with_node (record g { nodes = g.nodes ++ map f (filter p (below n)) }) (f n) ≡ record g { nodes = g.nodes ++ map f (filter p (below (n + 1))) }
one_more g f p n h =
    ap (λ (l : List Node). record g { nodes = l }) (append_assoc g.nodes (map f (filter p (below n))) (f n ∷ []) ∙ ap (λ (l : List Node). g.nodes ++ l) (sym (map-append f (filter p (below n)) (n ∷ [])) ∙ ap (map f) (sym (filter_below_in p n h))))

pub loop-number-preserved : goal.loop-number-preserved
loop-number-preserved c =
    let f : ℕ → Node = new_node c.args.inner.now c.args.used.now in
    let p : ℕ → Bool = is_inside c.args.end in
    elim c.if-is_inside.branch [
      | then-is_inside+in_ok-add_node w ↦
          (let there : p c.loop-number.number ≡ true = sym c.is_inside.ensures ∙ w.if-is_inside.true in
          w.graph-is ∙ w.in_ok-add_node.ensures.added ∙ ap (λ (g : Graph). with_node g (f c.loop-number.number)) c.loop-number.invariant ∙ one_more c.args.graph.now f p c.loop-number.number there)
      | else-is_inside w ↦
          (let away : p c.loop-number.number ≡ false = sym c.is_inside.ensures ∙ w.if-is_inside.false in
          w.graph-is ∙ c.loop-number.invariant ∙ ap (λ (l : List ℕ). record c.args.graph.now { nodes = c.args.graph.now.nodes ++ map f l }) (sym (filter_below_out p c.loop-number.number away)))
    ]

pub add_node-requires-clause-short : goal.add_node-requires-clause-short
add_node-requires-clause-short c =
    let lt : c.loop-number.number < length c.args.inner.now.nodes = omega (arith, c.loop-number-test.true, c.nodes-number-end.ensures.count) in
    (may-follow-passing (λ (n : Node). n.name) (new_node c.args.inner.now c.args.used.now) c.args.graph.now.nodes 256 (is_inside c.args.end) c.loop-number.number (length c.args.inner.now.nodes) c.requires.names c.requires.room (sym c.is_inside.ensures ∙ c.if-is_inside.true) lt).short

pub add_node-requires-clause-new : goal.add_node-requires-clause-new
add_node-requires-clause-new c =
    let lt : c.loop-number.number < length c.args.inner.now.nodes = omega (arith, c.loop-number-test.true, c.nodes-number-end.ensures.count) in
    subst (λ (g : Graph). has_text (inner_name c.args.used.now (node_name c.args.inner.now c.loop-number.number)) (node_names g) ≡ false) (sym c.loop-number.invariant)
    (may-follow-passing (λ (n : Node). n.name) (new_node c.args.inner.now c.args.used.now) c.args.graph.now.nodes 256 (is_inside c.args.end) c.loop-number.number (length c.args.inner.now.nodes) c.requires.names c.requires.room (sym c.is_inside.ensures ∙ c.if-is_inside.true) lt).free

pub add_node-requires-clause-room : goal.add_node-requires-clause-room
add_node-requires-clause-room c =
    let lt : c.loop-number.number < length c.args.inner.now.nodes = omega (arith, c.loop-number-test.true, c.nodes-number-end.ensures.count) in
    subst (λ (g : Graph). length g.nodes < 256) (sym c.loop-number.invariant)
    (may-follow-passing (λ (n : Node). n.name) (new_node c.args.inner.now c.args.used.now) c.args.graph.now.nodes 256 (is_inside c.args.end) c.loop-number.number (length c.args.inner.now.nodes) c.requires.names c.requires.room (sym c.is_inside.ensures ∙ c.if-is_inside.true) lt).room
