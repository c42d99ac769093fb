-- The laws of blinding, from the lemmas.
use Rattle.sg_model.proofs.Walks.{blinding_turned, leads_on}
use Rattle.sg_model.proofs.blinding.Goals as goal

pub returns : goal.returns
returns c = record {
  turned = blinding_turned;
  to_a = λ g m a b x. leads_on g m a b x.to_a x.leads_a x.not_a;
  to_b = λ g m a b x. leads_on g m b a x.to_b x.leads_b x.not_b;
}
