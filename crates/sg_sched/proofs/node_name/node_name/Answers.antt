use Rattle.std.proofs.Common.{◌≡◌, ◌%◌, ◌+◌, ◌∙◌, ap, sym, [], ◌∷◌, arith}
use Rattle.sg_sched.proofs.NodeNames.{decimal_one, decimal_two, decimal_three}
use Rattle.sg_sched.proofs.node_name.node_name.Goals as goal

pub returns-then-number-lt10-clause-name : goal.returns-then-number-lt10-clause-name
returns-then-number-lt10-clause-name c =
    let same : c.args.number % 10 ≡ c.args.number = omega arith in
    c.name_of.ensures ∙ ap (λ n. 110 ∷ (48 + n) ∷ []) same ∙ ap (λ ds. 110 ∷ ds) (sym (decimal_one c.args.number (omega arith)))

pub returns-then-number-lt100-clause-name : goal.returns-then-number-lt100-clause-name
returns-then-number-lt100-clause-name c =
    c.name_of-then-number-lt100.ensures ∙ ap (λ ds. 110 ∷ ds) (sym (decimal_two c.args.number (omega arith) (omega arith)))

pub returns-else-number-lt100-clause-name : goal.returns-else-number-lt100-clause-name
returns-else-number-lt100-clause-name c =
    c.name_of-else-number-lt100.ensures ∙ ap (λ ds. 110 ∷ ds) (sym (decimal_three c.args.number (omega arith) (omega arith)))
