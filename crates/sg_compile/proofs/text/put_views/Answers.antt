use Rattle.std.proofs.Common.{◌≡◌, ◌++◌, rules}
use Rattle.sg_vis.specs.Table.{views_of}
use Rattle.sg_compile.specs.Text.{line, view_line}
use Rattle.sg_compile.proofs.Lines.{listed_more}
use Rattle.sg_compile.proofs.text.put_views.Goals as goal

pub loop-number-preserved : goal.loop-number-preserved
loop-number-preserved c =
    let more : c.put_view.new.out ≡ c.loop-number.out ++ line (view_line c.args.graph.now c.get.result.now) = search rules in
    listed_more line (view_line c.args.graph.now) (views_of c.args.views.now) c.loop-number.number c.get.result.now c.args.out.now c.loop-number.out c.put_view.new.out
    c.get.ensures c.loop-number.invariant more
