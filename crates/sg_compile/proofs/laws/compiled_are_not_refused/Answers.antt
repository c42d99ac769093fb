-- The laws of graphs that are compiled.
use Rattle.sg_compile.proofs.Only.{not_refused}
use Rattle.sg_compile.proofs.Refusals.{all_or_refused}
use Rattle.sg_compile.proofs.laws.compiled_are_not_refused.Goals as goal

pub returns : goal.returns
returns c = record { one = λ g r p f compiled refused. not_refused g r p compiled f refused; all = all_or_refused }
