-- The laws of the texts of programs.
use Rattle.std.proofs.Common.{refl}
use Rattle.std.specs.Prelude.{Ok, Err}
use Rattle.sg_compile.specs.Laws.{TextIsNotRefused, TextsDiffer}
use Rattle.sg_compile.specs.Text.{program_text}
use Rattle.sg_compile.proofs.Once.{loaded_or_memory}
use Rattle.sg_compile.proofs.OneFault.{one_fault}
use Rattle.sg_compile.proofs.laws.texts_are_one.Goals as goal

differ : TextsDiffer
differ p q v w e = (loaded_or_memory (program_text q) q w refl (Ok p) v e tt).0

apart : TextIsNotRefused
apart p f w k = (loaded_or_memory (program_text p) p w refl (Err f) tt tt k).1

pub returns : goal.returns
returns c = record { differ = differ; apart = apart; once = one_fault }
