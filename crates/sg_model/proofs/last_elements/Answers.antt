-- The laws of last elements, from the lemmas.
use Rattle.sg_model.proofs.LastOf.{last_of_again, Sublist-last_of, covered}
use Rattle.sg_model.proofs.Evidence.{after_last-append}
use Rattle.sg_model.proofs.last_elements.Goals as goal

pub returns : goal.returns
returns c = record { again = last_of_again; part = Sublist-last_of; covered = covered; cut = after_last-append }
