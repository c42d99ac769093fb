use Rattle.std.proofs.Common.{◌<◌, arith}
use Rattle.sg_know.specs.Reads.{HasBadRead}
use Rattle.sg_know.proofs.Bounds.{read_there, read_var_there, source_there}
use Rattle.sg_know.proofs.First.{IsFirstBad-same, more_vars}
use Rattle.sg_know.proofs.bad.first_bad_read.Goals as goal

pub returns-then-nodes-eq0 : goal.returns-then-nodes-eq0
returns-then-nodes-eq0 c e x b =
    let g = c.args.graph.now in
    let there = source_there g e c.nodes.ensures.graph (read_there g e x b.1.is_read) in
    absurd (omega (arith, there))

pub loop-number-preserved : goal.loop-number-preserved
loop-number-preserved c =
    more_vars c.args.graph.now c.loop-number.number c.loop-number.first c.in_ok-found.found c.earlier-first.result c.earlier-first.ensures c.loop-number.invariant c.in_ok-found.ensures

pub returns : goal.returns
returns c =
    let g = c.args.graph.now in
    IsFirstBad-same g (λ e y. HasBadRead g e y × (y < c.loop-number.number)) (HasBadRead g) c.loop-number.first (λ e y p. p.0)
    (λ e y b. (let there = read_var_there g e y c.vars-number-end.ensures.graph b.1.is_read in (b, omega (arith, there))))
    c.loop-number.invariant
