use Rattle.std.proofs.Common.{◌≡◌, ◌++◌, [], ◌∷◌, true, false, sym, ◌∙◌, arith, rules}
use Rattle.sg_model.specs.Lists.{is_in}
use Rattle.sg_certify.specs.Filling.{value_in}
use Rattle.sg_certify.proofs.Keeping.{kept_none, kept_more, kept_same, kept_all}
use Rattle.sg_certify.proofs.pass.all_kept.Goals as goal
use Rattle.sg_certify.proofs.pass.all_kept.Goals.{then-has+in_ok-copy_kept+in_ok-push, else-has}

pub loop-number-init : goal.loop-number-init
loop-number-init c = kept_none (value_in c.args.kept.now) c.args.vars c.new-writes.result.items c.new-writes.ensures.items

pub loop-number-preserved : goal.loop-number-preserved
loop-number-preserved c =
    elim c.if-has.branch [
      | then-has+in_ok-copy_kept+in_ok-push w ↦
          (let there : is_in c.loop-number.number c.args.vars ≡ true = sym c.has.ensures ∙ w.if-has.true in
          let more : c.if-has.writes.items ≡ c.loop-number.writes.items ++ (c.loop-number.number, w.in_ok-copy_kept.field-0) ∷ [] = search rules in
          kept_more (value_in c.args.kept.now) c.args.vars c.loop-number.number w.in_ok-copy_kept.field-0 c.loop-number.writes.items c.if-has.writes.items
          c.requires there c.loop-number.invariant more w.in_ok-copy_kept.ensures)
      | else-has w ↦
          (let away : is_in c.loop-number.number c.args.vars ≡ false = sym c.has.ensures ∙ w.if-has.false in
          let same : c.if-has.writes.items ≡ c.loop-number.writes.items = search rules in
          rw same (kept_same (value_in c.args.kept.now) c.args.vars c.loop-number.number c.loop-number.writes.items c.requires away c.loop-number.invariant))
    ]

pub returns : goal.returns
returns c = rw c.from_vec.ensures (kept_all (value_in c.args.kept.now) c.args.vars c.loop-number.number c.loop-number.writes.items c.requires (omega arith) c.loop-number.invariant)
