use Rattle.std.proofs.Common.{◌≡◌, false, sym, subst, rules}
use Rattle.sg_model.specs.Lists.{has_text}
use Rattle.sg_model.specs.Names.{reserved}
use Rattle.sg_compose.specs.Expansion as Expansion
use Rattle.sg_compose.proofs.Renaming.{inner-free}
use Rattle.sg_compose.proofs.rename.inner_name.Goals as goal

pub returns-clause-free : goal.returns-clause-free
returns-clause-free c =
    let e : c.in-Some.name ≡ Expansion.inner_name c.args.used.now c.args.name.now = search rules in
    subst (λ n. has_text n reserved ≡ false) (sym e) (inner-free c.args.used.now.name c.args.name.now)
