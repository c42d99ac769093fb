use Rattle.std.proofs.Common.{◌≡◌, List, ℕ, ◌++◌, ◌∷◌, [], ap, refl, subst, sym, ◌∙◌, arith}
use Rattle.std.specs.Prelude.{IsTrue}
use Rattle.std.specs.Fmt.{decimal}
use Rattle.sg_text.proofs.Numbered.{is_name-numbered}
use Rattle.sg_model.specs.Names.{is_name}
use Rattle.sg_sessions.proofs.declared.session_name.Goals as goal

pub name_of-requires : goal.name_of-requires
name_of-requires c =
    let written : c.as_slice.result.now ≡ 115 ∷ decimal c.args.number =
    c.as_slice.ensures.value ∙ c.done.ensures ∙ c.in_ok-decimal.ensures.ok ∙ (λ i. (c.in_ok-u8.ensures.ok ∙ ap (λ (z : List ℕ). z ++ 115 ∷ []) c.new-out.ensures) i ++ decimal (c.from.ensures i)) in
    subst (λ (n : List ℕ). IsTrue (is_name n)) (sym written) (is_name-numbered 115 c.args.number refl (omega arith))
