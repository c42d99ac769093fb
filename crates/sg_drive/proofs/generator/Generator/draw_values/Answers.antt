use Rattle.std.proofs.Common.{◌≡◌, List, ℕ, length, ap, ◌∙◌, arith}
use Rattle.sg_graph.specs.declared.edge.Edge.{Edge}
use Rattle.sg_protocol.specs.Graph.{Graph, writes}
use Rattle.sg_walk.specs.Model.{values_of}
use Rattle.sg_drive.specs.Generated.{values_drawn}
use Rattle.sg_drive.specs.Going.{drawing}
use Rattle.sg_drive.specs.Machine.{Machine}
use Rattle.sg_drive.proofs.Drawn.{all_written, both_more, draws_few}
use Rattle.sg_drive.proofs.generator.Generator.draw_values.Goals as goal

pub draw_value-requires-clause-draws : goal.draw_value-requires-clause-draws
draw_value-requires-clause-draws c =
    let many = c.vars-number-end.ensures.count in
    let most = c.vars-number-end.ensures.graph.sizes.1 in
    draws_few _ c.args.self.now c.loop-number.self c.loop-number.number c.loop-number.invariant.0 c.requires.draws (let t = c.loop-number-test.true in omega (arith, many, most, t))

pub loop-number-preserved : goal.loop-number-preserved
loop-number-preserved c =
    both_more _ c.loop-number.number c.args.self.now c.loop-number.self c.draw_value.new.self (values_of c.loop-number.values) (values_of c.draw_value.new.values) c.loop-number.invariant.0 c.loop-number.invariant.1
    c.in_ok-draw_value.ensures.going c.in_ok-draw_value.ensures.values

pub returns : goal.returns
returns c =
    let graph : c.self.inside.graph.now ≡ c.args.self.now.graph = ap (λ (m : Machine). m.graph) c.self.view_is in
    let many = c.vars-number-end.ensures.count in
    let last = c.loop-number-test.false in
    let end = c.loop-number.auto.number-end in
    let written =
    all_written c.self.inside.graph.now c.args.label _ c.loop-number.number (ap (λ (e : Edge). e.writes) c.edge.ensures.edge) c.edge.ensures.sets.0 (omega (arith, many, last, end))
    ∙ ap (λ (g : Graph). writes g c.args.label) graph in
    record {
      values = c.loop-number.invariant.1 ∙ ap (values_drawn c.args.self.now.seed c.args.self.now.going.draws c.args.self.now.graph) written;
      going = c.loop-number.invariant.0
          ∙ ap (λ (xs : List ℕ). let y : Machine = record (c.args.self.now) { going = drawing (length xs) c.args.self.now.going } in y) written;
    }
