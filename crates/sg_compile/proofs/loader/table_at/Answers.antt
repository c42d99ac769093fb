use Rattle.std.proofs.Common.{◌≡◌, ◌&&◌, false, bytes_eq, take, drop, sym, ap, ◌∙◌, arith}
use Rattle.std.specs.Prelude.{codes}
use Rattle.sg_compile.specs.Text.{line}
use Rattle.sg_compile.proofs.Tabled.{table_more, table_found, table_there}
use Rattle.sg_compile.proofs.loader.table_at.Goals as goal
use Rattle.sg_compile.proofs.loader.table_at.Goals.{else-begins-via-then-begins+else-starts_with, else-begins-via-else-begins}

pub returns-then-starts_with-clause-split : goal.returns-then-starts_with-clause-split
returns-then-starts_with-clause-split c =
    table_found c.args.text.now c.loop-at.at c.loop-at.begins c.if-begins.true (sym (rw c.split_at.ensures.back at c.starts_with.ensures.value) ∙ c.if-starts_with.true) c.loop-at.invariant

pub returns-then-starts_with-clause-here : goal.returns-then-starts_with-clause-here
returns-then-starts_with-clause-here c =
    table_there c.args.text.now c.loop-at.at (sym (rw c.split_at.ensures.back at c.starts_with.ensures.value) ∙ c.if-starts_with.true)

pub loop-at-preserved : goal.loop-at-preserved
loop-at-preserved c =
    elim c.else-begins.branch [
      | else-begins-via-then-begins+else-starts_with w ↦
          (let miss : (c.loop-at.begins && bytes_eq (line (codes "table")) (take 6 (drop c.loop-at.at c.args.text.now))) ≡ false =
          (λ i. w.if-begins.true i && (sym (rw c.split_at.ensures.back at w.starts_with.ensures.value) ∙ w.if-starts_with.false) i) in
          table_more c.args.text.now c.loop-at.at c.loop-at.begins (omega arith) miss c.loop-at.invariant)
      | else-begins-via-else-begins w ↦
          (let miss : (c.loop-at.begins && bytes_eq (line (codes "table")) (take 6 (drop c.loop-at.at c.args.text.now))) ≡ false =
          ap (λ b. b && bytes_eq (line (codes "table")) (take 6 (drop c.loop-at.at c.args.text.now))) w.if-begins.false in
          table_more c.args.text.now c.loop-at.at c.loop-at.begins (omega arith) miss c.loop-at.invariant)
    ]
