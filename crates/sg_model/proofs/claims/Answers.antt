-- The laws of claims, from the lemmas.
use Rattle.sg_model.proofs.OneBit.{bits_decide, confined_holds, has_its_own}
use Rattle.sg_model.proofs.Decided.{confined_or_broken}
use Rattle.sg_model.proofs.claims.Goals as goal

pub returns : goal.returns
returns c = record { decided = bits_decide; shown = confined_holds; either = confined_or_broken; own = has_its_own }
