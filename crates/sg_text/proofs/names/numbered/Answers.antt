use Rattle.std.proofs.Common.{ap, ◌∙◌, ◌++◌, ◌≡◌, ◌<◌, ◌^◌, ◌∷◌, [], arith}
use Rattle.std.proofs.lemmas.Bool.{false≢true}
use Rattle.std.specs.Fmt.{decimal}
use Rattle.sg_model.specs.Names.{is_name}
use Rattle.sg_text.specs.Sessions.{numbered}
use Rattle.sg_text.proofs.Numbered.{is_name-numbered}
use Rattle.sg_text.proofs.names.numbered.Goals as goal

pub unreachable-requires : goal.unreachable-requires
unreachable-requires c =
    let small : c.args.number < 2 ^ 64 = omega arith in
    let text : c.as_slice.result.now ≡ numbered c.args.letter c.args.number =
    c.as_slice.ensures.value ∙ c.done.ensures ∙ c.in_ok-decimal.ensures.ok ∙ ap (λ bs. bs ++ decimal c.args.number) (c.in_ok-u8.ensures.ok ∙ ap (λ bs. bs ++ c.args.letter ∷ []) c.new-out.ensures) in
    false≢true (c.in-None.ensures.found.1 (ap is_name text ∙ is_name-numbered c.args.letter c.args.number c.requires small))
