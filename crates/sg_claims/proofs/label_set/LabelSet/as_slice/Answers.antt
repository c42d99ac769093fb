use Rattle.std.proofs.Common.{ℕ, List, ◌<◌, All, subst}
use Rattle.sg_claims.proofs.Labelled.{all_within}
use Rattle.sg_claims.proofs.label_set.LabelSet.as_slice.Goals as goal

pub returns-clause-there : goal.returns-clause-there
returns-clause-there c = subst (λ (ls : List ℕ). All (λ l. l < 512) ls) c.self.view_is (all_within c.self.inside.labels.items c.self.inside.table c.self.invariant)
