use Rattle.std.proofs.Common.{◌≡◌, sym, ◌∙◌, ap}
use Rattle.sg_base.specs.SetsBack.{mask_of-variables}
use Rattle.sg_protocol.specs.Evidence.{mask}
use Rattle.sg_protocol.specs.Spelling.{u32}
use Rattle.sg_base.specs.declared.sets.VarSet.TheInside.{Inside}
use Rattle.sg_compile.proofs.text.mask_bytes.Goals as goal

pub returns : goal.returns
returns c =
    let back : mask c.args.vars ≡ c.vars.inside.0 = ap mask (sym c.vars.view_is) ∙ ap (λ (s : Inside). s.0) (mask_of-variables c.vars.inside c.vars.invariant) in
    c.to_be_bytes.ensures ∙ ap u32 (sym back)
