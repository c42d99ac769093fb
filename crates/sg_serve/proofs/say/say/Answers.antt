use Rattle.std.proofs.Common.{[], ℕ, List, ◌++◌, ap, ◌∙◌}
use Rattle.sg_serve.specs.Said.{said_text}
use Rattle.sg_serve.proofs.say.say.Goals as goal

pub returns-in-Ok-clause-text : goal.returns-in-Ok-clause-text
returns-in-Ok-clause-text c =
    let line = c.done.ensures ∙ c.in-Ok.ensures ∙ ap (λ (l : List ℕ). l ++ said_text c.args.said) c.new-out.ensures in
    c.new.ensures ∙ ap (λ (l : List ℕ). record { line = l; frames = [] }) line
