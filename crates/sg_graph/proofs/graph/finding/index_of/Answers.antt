use Rattle.std.proofs.Common.{◌∙◌, ap, sym, arith}
use Rattle.std.specs.Prelude.{bytes_eq}
use Rattle.std.proofs.lemmas.Iterator.Adapters.{position_from-zero}
use Rattle.sg_graph.proofs.FirstIndex.{search_past, search_found, search_ended}
use Rattle.sg_graph.proofs.graph.finding.index_of.Goals as goal

pub loop-at-preserved : goal.loop-at-preserved
loop-at-preserved g c =
    c.loop-at.invariant
    ∙ search_past _ c.args.parts.now c.loop-at.at c.index-parts-at.result (omega arith) c.index-parts-at.is
    (ap (bytes_eq c.args.name.now) (sym c.name.ensures) ∙ sym c.same.ensures ∙ c.if-same.false)

pub returns-then-same : goal.returns-then-same
returns-then-same g c =
    sym (position_from-zero _ c.args.parts.now ∙ c.loop-at.invariant
    ∙ search_found _ c.args.parts.now c.loop-at.at c.index-parts-at.result (omega arith) c.index-parts-at.is
    (ap (bytes_eq c.args.name.now) (sym c.name.ensures) ∙ sym c.same.ensures ∙ c.if-same.true))

pub returns : goal.returns
returns g c = sym (position_from-zero _ c.args.parts.now ∙ c.loop-at.invariant ∙ search_ended _ c.args.parts.now c.loop-at.at (omega arith))
