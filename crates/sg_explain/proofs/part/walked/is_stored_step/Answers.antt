use Rattle.std.proofs.Common.{◌≡◌, map, ap, sym, ◌∙◌, rules}
use Rattle.sg_protocol.specs.Graph.{writes}
use Rattle.sg_explain.proofs.Steps.{stored_step, no_stored_step}
use Rattle.sg_explain.proofs.part.walked.is_stored_step.Goals as goal

pub returns-then-has_keys : goal.returns-then-has_keys
returns-then-has_keys c =
    let keys = c.has_keys.ensures.0 c.if-has_keys.true in
    let there : map (λ w. w.0) c.args.step.now.writes ≡ writes c.args.graph.now c.args.step.now.label =
    ap (λ l. map (λ w. w.0) l) (sym c.as_slice-writes.ensures) ∙ keys ∙ ap (λ e. e.writes) c.edge_of.ensures.edge in
    stored_step c.args.graph.now c.args.step.now c.are_typed.result there (search rules)

pub returns-else-has_keys : goal.returns-else-has_keys
returns-else-has_keys c =
    no_stored_step c.args.graph.now c.args.step.now c.has_keys.result c.if-has_keys.false
    (λ k. let keys : map (λ w. w.0) c.as_slice-writes.result.now ≡ c.edge_of.result.writes =
    ap (λ l. map (λ w. w.0) l) c.as_slice-writes.ensures ∙ k ∙ sym (ap (λ e. e.writes) c.edge_of.ensures.edge) in
    let t = c.has_keys.ensures.1 keys in absurd (cc))
