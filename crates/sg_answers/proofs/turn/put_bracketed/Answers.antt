use Rattle.std.proofs.Common.{◌≡◌, ◌++◌, ◌∷◌, [], ◌∙◌, append_assoc, rules}
use Rattle.std.proofs.lemmas.Result.{on_ok_weaker}
use Rattle.sg_answers.specs.Answers.{bracketed, opened}
use Rattle.sg_answers.proofs.VariableLaws.{bracketed_some}
use Rattle.sg_answers.proofs.turn.put_bracketed.Goals as goal

pub returns : goal.returns
returns c =
    let whole : bracketed c.args.graph.now c.args.vars ≡ opened c.args.graph.now c.args.vars ++ 41 ∷ [] =
    bracketed_some c.args.graph.now c.args.vars c.is_empty.result c.is_empty.ensures.1 c.if-is_empty.false in
    let put : c.put_variables.new.out ≡ c.args.out.now ++ opened c.args.graph.now c.args.vars = search rules in
    let joined : c.put_variables.new.out ++ 41 ∷ [] ≡ c.args.out.now ++ bracketed c.args.graph.now c.args.vars = rw (put, append_assoc, whole) in
    on_ok_weaker c.u8.result (λ e. e ∙ joined) c.u8.ensures.ok
