use Rattle.std.proofs.Common.{◌≡◌, ◌-◌, ◌<◌, ◌∙◌, sym, length, drop, arith, false}
use Rattle.std.proofs.lemmas.List.{take_all, length-drop}
use Rattle.std.proofs.lemmas.List.Elements.{All-take, All-drop}
use Rattle.std.specs.List.{list_any}
use Rattle.sg_model.specs.Lists.{is_in}
use Rattle.sg_protocol.specs.Graph.{shape}
use Rattle.sg_certify.proofs.Fresh.{is_known, all_new, new_back}
use Rattle.sg_certify.proofs.recent.new_labels.Goals as goal

pub returns-then-is_known-clause-labels : goal.returns-then-is_known-clause-labels
returns-then-is_known-clause-labels c =
    let es = c.args.walk.now in
    take_all (length es - (length es - c.loop-back.back)) (drop (length es - c.loop-back.back) es) (omega (arith, length-drop (length es - c.loop-back.back) es))
    ∙ new_back (shape c.args.graph.now) (λ r. is_in r c.args.honest) c.args.role es c.loop-back.back c.index-walk-walk.result (omega arith) c.index-walk-walk.is (sym c.is_known.ensures ∙ c.if-is_known.true) c.loop-back.invariant

pub returns-then-is_known-clause-edges : goal.returns-then-is_known-clause-edges
returns-then-is_known-clause-edges c =
    let es = c.args.walk.now in
    All-take (λ e. e < length c.args.graph.now.edges) (length es - (length es - c.loop-back.back)) (drop (length es - c.loop-back.back) es) (All-drop (λ e. e < length c.args.graph.now.edges) (length es - c.loop-back.back) es c.requires)

pub returns-clause-labels : goal.returns-clause-labels
returns-clause-labels c =
    let es = c.args.walk.now in
    let done : length es - c.loop-back.back ≡ 0 = omega arith in
    let none : list_any (is_known (shape c.args.graph.now) (λ r. is_in r c.args.honest) c.args.role) es ≡ false = rw done at c.loop-back.invariant in
    all_new (shape c.args.graph.now) (λ r. is_in r c.args.honest) c.args.role es none
