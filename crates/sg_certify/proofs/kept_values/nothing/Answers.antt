use Rattle.std.proofs.Common.{ap, Bor}
use Rattle.std.specs.Prelude.{None, option_map}
use Rattle.std.proofs.lemmas.List.{get_or-replicate}
use Rattle.sg_base.specs.Model.{value_of}
use Rattle.sg_base.specs.declared.value.Value.{Value as Held}
use Rattle.sg_certify.proofs.kept_values.nothing.Goals as goal

pub returns : goal.returns
returns c x below = ap (λ o. option_map (λ (v : Bor Held). value_of v.now) o) (get_or-replicate 32 x None None below)
