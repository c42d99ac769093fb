use Rattle.std.proofs.Common.{◌≡◌, length}
use Rattle.std.specs.Prelude.{option_map}
use Rattle.sg_graph.specs.Parts.{variable_names}
use Rattle.sg_sched.specs.Format.Values.{spelled_value}
use Rattle.sg_audit.specs.LineContents.{both_assigned}
use Rattle.sg_audit.specs.Reading.{all_assigned}
use Rattle.sg_audit.specs.TakingLines.{assigned_values}
use Rattle.sg_audit.proofs.assignments.read_values.Given as goal

abbrev pub invariant-words : goal.invariant-words
invariant-words l =
    option_map (both_assigned (assigned_values l.given)) (all_assigned (variable_names l.graph) spelled_value l.words) ≡ all_assigned (variable_names l.graph) spelled_value l.fn.words

abbrev pub decreases-words : goal.decreases-words
decreases-words l = length l.words
