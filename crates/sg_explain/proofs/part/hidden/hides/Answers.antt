use Rattle.std.proofs.Common.{◌≡◌, ◌-◌, ◌==◌, ◌&&◌, ◌||◌, not, length, false, map, ap, sym, refl, ◌∙◌, subst, arith, replicate}
use Rattle.std.proofs.lemmas.List.{get_or-replicate}
use Rattle.sg_model.specs.Lists.{is_in}
use Rattle.sg_protocol.specs.Walk.{are_hidden}
use Rattle.sg_walk.specs.Model.{step_of}
use Rattle.sg_explain.proofs.Concealed.{Hiding-init, hide_wrong, hide_on}
use Rattle.sg_explain.proofs.Indices.{small_keys}
use Rattle.sg_explain.proofs.Steps.{named_at}
use Rattle.sg_explain.proofs.part.hidden.hides.Goals as goal

pub loop-left-init : goal.loop-left-init
loop-left-init c = Hiding-init c.args.graph.now (λ r. is_in r c.args.honest) c.args.taken c.as_slice-steps.result.now (replicate 32 false) refl (λ x b. get_or-replicate 32 x false false b)

pub receiver-requires : goal.receiver-requires
receiver-requires c = (let w = c.loop-left.invariant.within in named_at c.args.graph.now c.as_slice-steps.result.now c.args.walk.now.steps (c.loop-left.left - 1) c.index-steps-left.result c.as_slice-steps.ensures c.requires (let t = c.loop-left-test.true in omega arith) c.index-steps-left.is).0

pub edge_of-edge-requires : goal.edge_of-edge-requires
edge_of-edge-requires c = (let w = c.loop-left.invariant.within in named_at c.args.graph.now c.as_slice-steps.result.now c.args.walk.now.steps (c.loop-left.left - 1) c.index-steps-left.result c.as_slice-steps.ensures c.requires (let t = c.loop-left-test.true in omega arith) c.index-steps-left.is).0

pub sender-requires : goal.sender-requires
sender-requires c = (let w = c.loop-left.invariant.within in named_at c.args.graph.now c.as_slice-steps.result.now c.args.walk.now.steps (c.loop-left.left - 1) c.index-steps-left.result c.as_slice-steps.ensures c.requires (let t = c.loop-left-test.true in omega arith) c.index-steps-left.is).0

pub hides_all-requires : goal.hides_all-requires
hides_all-requires c = (small_keys c.args.graph.now c.index-steps-left.result c.edge_of-edge.result.writes (let w = c.loop-left.invariant.within in named_at c.args.graph.now c.as_slice-steps.result.now c.args.walk.now.steps (c.loop-left.left - 1) c.index-steps-left.result c.as_slice-steps.ensures c.requires (let t = c.loop-left-test.true in omega arith) c.index-steps-left.is) (ap (λ e. e.writes) c.edge_of-edge.ensures.edge) c.edge_of-edge.ensures.writes)

pub drop_written-requires : goal.drop_written-requires
drop_written-requires c = (small_keys c.args.graph.now c.index-steps-left.result c.edge_of-edge.result.writes (let w = c.loop-left.invariant.within in named_at c.args.graph.now c.as_slice-steps.result.now c.args.walk.now.steps (c.loop-left.left - 1) c.index-steps-left.result c.as_slice-steps.ensures c.requires (let t = c.loop-left-test.true in omega arith) c.index-steps-left.is) (ap (λ e. e.writes) c.edge_of-edge.ensures.edge) c.edge_of-edge.ensures.writes)

pub returns-then-not-hides_all : goal.returns-then-not-hides_all
returns-then-not-hides_all c =
    let w = c.loop-left.invariant.within in
    let t = c.loop-left-test.true in
    sym (subst (λ xs. are_hidden c.args.graph.now (λ r. is_in r c.args.honest) c.args.taken (map step_of xs) ≡ false) c.as_slice-steps.ensures
    (hide_wrong c.args.graph.now (λ r. is_in r c.args.honest) c.args.taken c.as_slice-steps.result.now c.loop-left.left (c.loop-left.left - 1) c.index-steps-left.result c.counts-hears.result c.has.result c.edge_of-edge.result.reads c.loop-left.carried c.carry.new.carried c.hides_all.result
    (omega arith) (omega arith) c.index-steps-left.is (ap (λ e. e.reads) c.edge_of-edge.ensures.edge)
    (c.counts-hears.ensures ∙ ap (λ r. is_in r c.args.honest && (c.args.taken || not (c.loop-left.left == length c.as_slice-steps.result.now))) c.receiver.ensures.role)
    (c.has.ensures ∙ ap (λ r. is_in r c.args.honest) c.sender.ensures.role)
    c.carry.ensures (small_keys c.args.graph.now c.index-steps-left.result c.edge_of-edge.result.writes (let w = c.loop-left.invariant.within in named_at c.args.graph.now c.as_slice-steps.result.now c.args.walk.now.steps (c.loop-left.left - 1) c.index-steps-left.result c.as_slice-steps.ensures c.requires (let t = c.loop-left-test.true in omega arith) c.index-steps-left.is) (ap (λ e. e.writes) c.edge_of-edge.ensures.edge) c.edge_of-edge.ensures.writes) c.hides_all.ensures c.loop-left.invariant c.if-not-hides_all.true))

pub loop-left-preserved : goal.loop-left-preserved
loop-left-preserved c =
    let w = c.loop-left.invariant.within in
    let t = c.loop-left-test.true in
    hide_on c.args.graph.now (λ r. is_in r c.args.honest) c.args.taken c.as_slice-steps.result.now c.loop-left.left (c.loop-left.left - 1) c.index-steps-left.result c.counts-hears.result c.has.result c.edge_of-edge.result.reads c.loop-left.carried c.carry.new.carried c.hides_all.result
    (omega arith) (omega arith) c.index-steps-left.is (ap (λ e. e.reads) c.edge_of-edge.ensures.edge)
    (c.counts-hears.ensures ∙ ap (λ r. is_in r c.args.honest && (c.args.taken || not (c.loop-left.left == length c.as_slice-steps.result.now))) c.receiver.ensures.role)
    (c.has.ensures ∙ ap (λ r. is_in r c.args.honest) c.sender.ensures.role)
    c.carry.ensures (small_keys c.args.graph.now c.index-steps-left.result c.edge_of-edge.result.writes (let w = c.loop-left.invariant.within in named_at c.args.graph.now c.as_slice-steps.result.now c.args.walk.now.steps (c.loop-left.left - 1) c.index-steps-left.result c.as_slice-steps.ensures c.requires (let t = c.loop-left-test.true in omega arith) c.index-steps-left.is) (ap (λ e. e.writes) c.edge_of-edge.ensures.edge) c.edge_of-edge.ensures.writes) c.hides_all.ensures c.loop-left.invariant c.drop_written.new.carried c.if-not-hides_all.false (let w = c.loop-left.invariant.within in named_at c.args.graph.now c.as_slice-steps.result.now c.args.walk.now.steps (c.loop-left.left - 1) c.index-steps-left.result c.as_slice-steps.ensures c.requires (let t = c.loop-left-test.true in omega arith) c.index-steps-left.is) c.drop_written.array_long c.drop_written.ensures
