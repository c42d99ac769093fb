use Rattle.std.proofs.Common.{sym, subst, true≢false}
use Rattle.std.specs.Prelude.{IsTrue}
use Rattle.sg_model.specs.Names.{is_name}
use Rattle.sg_design.proofs.Named.{not_among}
use Rattle.sg_design.proofs.compile.role_named.Goals as goal

pub returns-in-None : goal.returns-in-None
returns-in-None c =
    not_among c.args.graph.now.roles c.args.name.now c.roles-count.ensures.graph.role_names
    (λ is. true≢false (sym (c.in-None.ensures.found.1 (subst (λ t. IsTrue (is_name t)) (sym c.as_bytes.ensures.value) is))))
