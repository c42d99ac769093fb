use Rattle.std.proofs.Common.{◌≡◌, false, length}
use Rattle.std.specs.Prelude.{option_map}
use Rattle.sg_graph.specs.Parts.{variable_names}
use Rattle.sg_audit.specs.LineContents.{both_assigned}
use Rattle.sg_audit.specs.Reading.{all_assigned, parts, shown_or_hidden}
use Rattle.sg_audit.specs.TakingLines.{assigned_writes}
use Rattle.sg_audit.proofs.step.read_writes.Given as goal

abbrev pub invariant-parts : goal.invariant-parts
invariant-parts l =
    option_map (both_assigned (assigned_writes l.given)) (all_assigned (variable_names l.graph) shown_or_hidden (parts false l.left)) ≡ all_assigned (variable_names l.graph) shown_or_hidden (parts false l.inner)

abbrev pub decreases-parts : goal.decreases-parts
decreases-parts l = length l.left
