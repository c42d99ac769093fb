use Rattle.std.proofs.Common.{◌≡◌, ◌+◌, drop, map}
use Rattle.std.specs.Prelude.{option_and_then}
use Rattle.toml.specs.Data.{as_table}
use Rattle.toml.specs.View.{view}
use Rattle.sg_script.specs.Format.{each_from}
use Rattle.sg_script.proofs.ListLaws.{onto}
use Rattle.sg_script.proofs.entry.each_entry.Given as goal

-- the answer to all entries is what was read so far and then the answer to those that are left
abbrev pub invariant-loop-at : goal.invariant-loop-at
invariant-loop-at g l =
    each_from g.T.Entry.fault_at 1 (map (λ d. option_and_then (g.T.Entry.in_table l.programs) (as_table d)) (map view l.values))
    ≡ onto l.entries (each_from g.T.Entry.fault_at (l.at + 1) (map (λ d. option_and_then (g.T.Entry.in_table l.programs) (as_table d)) (map view (drop l.at l.values))))
