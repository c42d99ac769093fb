-- The laws of evidence, from the lemmas.
use Rattle.sg_model.proofs.Evidence.{evidence_again, evidence_joined, evidence_since, steps-evidence}
use Rattle.sg_model.proofs.evidence_laws.Goals as goal

pub returns : goal.returns
returns c = record { again = evidence_again; joined = evidence_joined; since = evidence_since; steps = steps-evidence }
