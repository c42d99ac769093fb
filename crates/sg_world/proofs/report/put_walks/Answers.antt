use Rattle.std.proofs.Common.{ap, arith, length}
use Rattle.sg_text.specs.Sessions.{Naming, all_sids}
use Rattle.sg_world.specs.Walked.{path_at, path_line}
use Rattle.sg_world.proofs.WalkLaws.{all_walks, walk_more}
use Rattle.sg_world.proofs.report.put_walks.Goals as goal

pub loop-index-preserved : goal.loop-index-preserved
loop-index-preserved c = λ m e. walk_more (path_line m) (path_at c.args.traces.now) (all_sids m) c.loop-index.index c.args.out.now c.loop-index.out c.put_walk_at.new.out (c.loop-index.invariant m e) (c.in_ok-put_walk_at.ensures m e)

pub returns : goal.returns
returns c = λ m e.
    let last = c.loop-index-test.false in
    let end = c.loop-index.auto.index-end in
    let many = c.len-index-end.ensures in
    let names = ap (λ (n : Naming). length n.names) e in
    all_walks m (path_line m) (path_at c.args.traces.now) c.loop-index.index c.args.out.now c.loop-index.out (c.loop-index.invariant m e) (omega (arith, last, end, many, names))
