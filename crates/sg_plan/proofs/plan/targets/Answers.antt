use Rattle.std.proofs.Common.{◌≡◌, length, sym, ◌∙◌, subst, arith}
use Rattle.sg_protocol.specs.Targets.{IsTargetTable}
use Rattle.sg_plan.proofs.Aimed.{sets_with, whole_table}
use Rattle.sg_plan.proofs.plan.targets.Goals as goal

pub loop-number-preserved : goal.loop-number-preserved
loop-number-preserved c =
    sets_with c.args.graph.now c.loop-number.number c.loop-number.sets.items c.push.new.self.items c.targets_of.result c.in_ok-push.ensures.items c.loop-number.invariant c.targets_of.ensures.rising c.targets_of.ensures.each

pub returns : goal.returns
returns c =
    let all : c.loop-number.number ≡ length c.args.graph.now.edges = omega (arith, c.loop-number-test.false, c.loop-number.auto.number-end, c.edges-number-end.ensures.count) in
    subst (IsTargetTable c.args.graph.now) (sym (c.from_sets.ensures ∙ c.from_vec.ensures)) (whole_table c.args.graph.now c.loop-number.number c.loop-number.sets.items all c.loop-number.invariant)
