use Rattle.std.proofs.Common.{◌≡◌, ◌+◌, ◌/◌, ◌%◌, ◌∷◌, [], ap, sym, ◌∙◌, arith}
use Rattle.sg_sched.proofs.NodeNames.{decimal_one, decimal_two}
use Rattle.sg_sessions.proofs.declared.player.Goals as goal

pub returns-then-role-lt10 : goal.returns-then-role-lt10
returns-then-role-lt10 c = c.name_of.ensures ∙ ap (λ ds. 112 ∷ ds) (sym (decimal_one c.args.role (omega arith)))

pub returns-else-role-lt10 : goal.returns-else-role-lt10
returns-else-role-lt10 c =
    let one : c.args.role / 10 ≡ 1 = omega arith in
    c.name_of-else-role-lt10.ensures ∙ sym (ap (λ ds. 112 ∷ ds) (decimal_two c.args.role (omega arith) (omega arith)) ∙ ap (λ n. 112 ∷ (48 + n) ∷ (48 + c.args.role % 10) ∷ []) one)
