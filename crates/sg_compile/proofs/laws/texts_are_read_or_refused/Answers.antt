-- The law of texts that are read or refused.
use Rattle.sg_compile.proofs.Texts.{text_or_refused}
use Rattle.sg_compile.proofs.laws.texts_are_read_or_refused.Goals as goal

pub returns : goal.returns
returns c = text_or_refused
