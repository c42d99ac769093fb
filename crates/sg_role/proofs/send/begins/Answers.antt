use Rattle.std.proofs.Common.{◌||◌, ◌+◌, Bool, Some, drop, sym, ap, ◌∙◌, arith}
use Rattle.std.specs.List.{list_any}
use Rattle.sg_model.proofs.Small.{length_map, drop_end}
use Rattle.sg_protocol.specs.Evidence.{View, same_origin}
use Rattle.sg_vis.specs.Table.{views_of, ShownView}
use Rattle.sg_role.proofs.Showing.{any_at}
use Rattle.sg_role.proofs.send.begins.Goals as goal

pub returns-then-begins_after : goal.returns-then-begins_after
returns-then-begins_after c =
    let p = λ (v : View). same_origin v.origin (Some c.args.label) in
    let rest = λ (b : Bool). b || list_any p (drop (c.loop-number.number + 1) (views_of c.args.table.now)) in
    sym (ap rest (sym c.begins_after.ensures ∙ c.if-begins_after.true)) ∙ sym (any_at p (views_of c.args.table.now) c.loop-number.number c.get.result.now c.get.ensures) ∙ c.loop-number.invariant

pub loop-number-preserved : goal.loop-number-preserved
loop-number-preserved c =
    let p = λ (v : View). same_origin v.origin (Some c.args.label) in
    let rest = λ (b : Bool). b || list_any p (drop (c.loop-number.number + 1) (views_of c.args.table.now)) in
    sym (ap rest (sym c.begins_after.ensures ∙ c.if-begins_after.false)) ∙ sym (any_at p (views_of c.args.table.now) c.loop-number.number c.get.result.now c.get.ensures) ∙ c.loop-number.invariant

pub returns : goal.returns
returns c =
    let p = λ (v : View). same_origin v.origin (Some c.args.label) in
    let count = length_map (λ (s : ShownView). s.view) c.args.table.now in
    sym (ap (list_any p) (drop_end (views_of c.args.table.now) c.loop-number.number (omega (arith, count)))) ∙ c.loop-number.invariant
