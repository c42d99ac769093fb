use Rattle.std.proofs.Common.{◌≡◌, ◌++◌, map, take}
use Rattle.std.specs.Prelude.{flat_map}
use Rattle.sg_vis.specs.Table.{views_of}
use Rattle.sg_compile.specs.Text.{line, view_line}
use Rattle.sg_compile.proofs.text.put_views.Given as goal

abbrev pub invariant-loop-number : goal.invariant-loop-number
invariant-loop-number l = l.out ≡ l.initial.out ++ flat_map line (map (view_line l.graph) (take l.number (views_of l.views)))
