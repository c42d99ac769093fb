use Rattle.std.proofs.Common.{◌∙◌, is_some}
use Rattle.sg_graph.specs.Parts.{variable_names}
use Rattle.sg_keys.proofs.TableLaws.{keys_pass}
use Rattle.sg_script.specs.Format.{number_of}
use Rattle.sg_script.proofs.graph.has_variables_alone.Goals as goal

pub returns : goal.returns
returns c = c.are_variables.ensures ∙ keys_pass (λ k. is_some (number_of (variable_names c.args.graph.now) k)) c.args.table.now.entries
