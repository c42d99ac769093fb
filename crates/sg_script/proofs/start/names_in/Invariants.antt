use Rattle.std.proofs.Common.{◌≡◌, drop, map}
use Rattle.toml.specs.View.{view}
use Rattle.sg_script.specs.Format.{all_there, name_of}
use Rattle.sg_script.proofs.ListLaws.{behind}
use Rattle.sg_script.proofs.start.names_in.Given as goal

-- the names of all values are those found so far and then those that are left
abbrev pub invariant-loop-value : goal.invariant-loop-value
invariant-loop-value l = all_there (map name_of (map view l.values)) ≡ behind l.names (all_there (map name_of (map view (drop l.value-index l.values))))
