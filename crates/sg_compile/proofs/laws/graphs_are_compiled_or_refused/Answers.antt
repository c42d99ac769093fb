-- The laws of graphs that are compiled or refused.
use Rattle.sg_compile.proofs.Decided.{accepted_or_refused}
use Rattle.sg_compile.proofs.Whole.{all_or_one_refused, role_or_refused}
use Rattle.sg_compile.proofs.laws.graphs_are_compiled_or_refused.Goals as goal

pub returns : goal.returns
returns c = record { accepted = accepted_or_refused; one = role_or_refused; all = all_or_one_refused }
