use Rattle.std.proofs.Common.{sym, ap, ◌∙◌, map, ℕ, List, Bor}
use Rattle.std.specs.List.{list_any}
use Rattle.std.proofs.lemmas.List.{take_all}
use Rattle.sg_args.specs.Command.{is_option}
use Rattle.sg_args.proofs.Args.{passes_at, none_more}
use Rattle.sg_args.proofs.command.has_option.Goals as goal

pub returns-then-begins_with_dash : goal.returns-then-begins_with_dash
returns-then-begins_with_dash c =
    sym (passes_at is_option (λ (s : Bor (List ℕ)). s.now) c.args.args.now c.loop-arg.arg-index _ c.loop-arg-test.true
    (sym c.begins_with_dash.ensures ∙ c.if-begins_with_dash.true))

pub loop-arg-preserved : goal.loop-arg-preserved
loop-arg-preserved c =
    none_more is_option (λ (s : Bor (List ℕ)). s.now) c.args.args.now c.loop-arg.arg-index _ c.loop-arg-test.true c.loop-arg.invariant
    (sym c.begins_with_dash.ensures ∙ c.if-begins_with_dash.false)

pub returns : goal.returns
returns c =
    sym (ap (λ (ws : List (Bor (List ℕ))). list_any is_option (map (λ s. s.now) ws)) (sym (take_all c.loop-arg.arg-index c.args.args.now c.loop-arg-test.false)) ∙ c.loop-arg.invariant)
