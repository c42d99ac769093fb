use Rattle.std.proofs.Common.{◌∙◌, ◌+◌, ap, sym, drop, arith, Bool, if◌then◌else◌}
use Rattle.std.specs.Prelude.{option_map, slice_get}
use Rattle.sg_model.specs.Lists.{value_at}
use Rattle.sg_model.proofs.Small.{same_number}
use Rattle.sg_sched.specs.Format.Values.{value_of}
use Rattle.sg_sched_text.specs.Numbers.{numbered}
use Rattle.sg_sched_text.proofs.ValueLaws.{is_indexed, other_number}
use Rattle.sg_sched_text.proofs.values.index_of.Goals as goal

pub returns-then-one-number : goal.returns-then-one-number
returns-then-one-number c =
    let ns = c.args.numbers.now in
    let vs = c.args.values.now in
    let x = c.args.number in
    let i = c.loop-at.at in
    let n = c.index-numbers-at.result in (
      omega (arith, c.requires),
      c.loop-at.invariant ∙ is_indexed ns vs x i n c.loop-at-test.true c.requires c.index-numbers-at.is
          ∙ ap (λ (b : Bool). if b then option_map (λ v. value_of v.value) (slice_get vs i) else value_at (numbered (drop (i + 1) ns) (drop (i + 1) vs)) x)
          (same_number n x (sym c.one.view_is ∙ c.if-one-number.true)),
    )

pub loop-at-preserved : goal.loop-at-preserved
loop-at-preserved c =
    let ns = c.args.numbers.now in
    let vs = c.args.values.now in
    let x = c.args.number in
    let i = c.loop-at.at in
    let n = c.index-numbers-at.result in
    c.loop-at.invariant ∙ is_indexed ns vs x i n c.loop-at-test.true c.requires c.index-numbers-at.is
    ∙ ap (λ (b : Bool). if b then option_map (λ v. value_of v.value) (slice_get vs i) else value_at (numbered (drop (i + 1) ns) (drop (i + 1) vs)) x)
    (other_number n x (λ e. c.if-one-number.false (c.one.view_is ∙ e)))
