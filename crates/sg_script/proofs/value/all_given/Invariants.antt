use Rattle.std.proofs.Common.{◌≡◌, ◌-◌, length, filter_map}
use Rattle.toml.specs.View.{table_view}
use Rattle.sg_graph.specs.Parts.{variable_names}
use Rattle.sg_model.specs.Lists.{below, range_from}
use Rattle.sg_walk.specs.Model.{values_of}
use Rattle.sg_script.specs.Format.{all_there, given}
use Rattle.sg_script.proofs.ListLaws.{behind}
use Rattle.sg_script.proofs.value.all_given.Given as goal

-- what all variables are given is what was found so far and then what those are given that are left
abbrev pub invariant-loop-number : goal.invariant-loop-number
invariant-loop-number l =
    let names = variable_names l.graph in
    let of = given names (table_view l.table) in
    all_there (filter_map of (below (length names))) ≡ behind (values_of l.values) (all_there (filter_map of (range_from l.number (length names - l.number))))
