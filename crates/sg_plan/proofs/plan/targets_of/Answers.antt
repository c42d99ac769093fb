use Rattle.std.proofs.Common.{◌≡◌, ◌<◌, true, false, ℕ, length, sym, ◌∙◌, arith}
use Rattle.sg_graph.proofs.Sets.{AreNumbers-with_member}
use Rattle.sg_plan.proofs.Aimed.{set_with, set_without}
use Rattle.sg_plan.proofs.plan.targets_of.Goals as goal
use Rattle.sg_plan.proofs.plan.targets_of.Goals.{then-is_target, else-is_target}

pub loop-number-preserved : goal.loop-number-preserved
loop-number-preserved c =
    let g = c.args.graph.now in
    let e : ℕ = c.args.label in
    let n = c.loop-number.number in
    let there : n < length g.roles = omega (arith, c.loop-number-test.true, c.roles-number-end.ensures.count) in
    let small : n < 16 = omega (arith, there, c.roles-number-end.ensures.graph.sizes.0) in
    elim c.if-is_target.branch [
      | then-is_target w ↦
          (let set = w.set-is ∙ w.with-set.ensures in
          record {
            numbers = rw set (AreNumbers-with_member 16 (length g.roles) n c.loop-number.set c.loop-number.invariant.numbers there);
            below = rw set (set_with g e n c.loop-number.set small c.loop-number.invariant.below (c.is_target.ensures.0 w.if-is_target.true));
          })
      | else-is_target w ↦
          record {
            numbers = rw w.set-is c.loop-number.invariant.numbers;
            below = rw w.set-is (set_without g e n c.loop-number.set small c.loop-number.invariant.below (λ y. let e : false ≡ true = sym w.if-is_target.false ∙ c.is_target.ensures.1 y in cc));
          }
    ]
