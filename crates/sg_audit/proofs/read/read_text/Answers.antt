use Rattle.std.proofs.Common.{◌≡◌, ◌+◌, ℕ, List, false, sym, subst, ap, ◌∙◌}
use Rattle.std.specs.Prelude.{Err}
use Rattle.std.proofs.lemmas.Result.{err_from_is_err_and}
use Rattle.sg_sched.specs.Text.{lines}
use Rattle.sg_audit.specs.Read.{LinesLeft, begins_block, begins_graph, block_text, first_block, read, read_lines}
use Rattle.sg_audit.specs.TakingLines.{Refuses}
use Rattle.sg_audit.specs.declared.fault.LogFault.TheVariants.{OutOfMemory}
use Rattle.sg_audit.proofs.BlockText.{same_block}
use Rattle.sg_audit.proofs.read.read_text.Goals as goal

-- all lines are those of the bytes
begun : (bytes : List ℕ) (all : LinesLeft) → all ≡ record { lines = lines bytes; number = 0 } → read_lines (all.number + 1) all.lines ≡ read bytes
unfolding read
begun bytes all e = ap (λ (l : LinesLeft). read_lines (l.number + 1) l.lines) e

-- the block with which they begin
first : (bytes : List ℕ) (all left : LinesLeft) → all ≡ record { lines = lines bytes; number = 0 } → first_block all.lines ≡ block_text left.lines
    → begins_block (lines bytes) ≡ false → begins_graph (block_text left.lines) ≡ false
first bytes all left e block h = same_block (lines bytes) left.lines (sym (ap (λ (l : LinesLeft). first_block l.lines) e) ∙ block) h

pub returns-in-Ok-clause-exact : goal.returns-in-Ok-clause-exact
returns-in-Ok-clause-exact c =
    sym (begun c.args.bytes.now c.new-lines.result c.new-lines.ensures) ∙ c.in_ok-skip_to_block.ensures.exact ∙ c.in_ok-graph.ensures.exact ∙ c.in-Ok.ensures.exact

pub returns-in-Err-clause-exact : goal.returns-in-Err-clause-exact
returns-in-Err-clause-exact c =
    subst (λ r. Refuses r c.in-Err.fault)
    (sym (c.in_ok-skip_to_block.ensures.exact ∙ c.in_ok-graph.ensures.exact) ∙ begun c.args.bytes.now c.new-lines.result c.new-lines.ensures) c.in-Err.ensures.exact

pub returns-in-Err-clause-early : goal.returns-in-Err-clause-early
returns-in-Err-clause-early c = λ h e.
    let none = first c.args.bytes.now c.new-lines.result c.skip_to_block.new.lines c.new-lines.ensures c.in_ok-skip_to_block.ensures.block h in
    let some = c.in_ok-graph.ensures.begins in
    absurd (cc)

pub returns-in_err-graph-clause-exact : goal.returns-in_err-graph-clause-exact
returns-in_err-graph-clause-exact c =
    let p = err_from_is_err_and c.from_residual-in_err-graph.result c.from_residual-in_err-graph.ensures.1 in
    rw (p.1, p.2) (subst (λ r. Refuses r c.in_err-graph.field-0.0)
    (sym c.in_ok-skip_to_block.ensures.exact ∙ begun c.args.bytes.now c.new-lines.result c.new-lines.ensures) c.in_err-graph.ensures.exact)

pub returns-in_err-graph-clause-early : goal.returns-in_err-graph-clause-early
returns-in_err-graph-clause-early c = λ h e.
    let p = err_from_is_err_and c.from_residual-in_err-graph.result c.from_residual-in_err-graph.ensures.1 in
    let is : c.in_err-graph.field-0.0 ≡ OutOfMemory = cc (sym p.1 ∙ e, p.2) in
    c.in_err-graph.ensures.early (first c.args.bytes.now c.new-lines.result c.skip_to_block.new.lines c.new-lines.ensures c.in_ok-skip_to_block.ensures.block h) (ap Err is)

pub returns-in_err-skip_to_block-clause-exact : goal.returns-in_err-skip_to_block-clause-exact
returns-in_err-skip_to_block-clause-exact c =
    let p = err_from_is_err_and c.from_residual.result c.from_residual.ensures.1 in
    rw (p.1, p.2) (subst (λ r. Refuses r c.in_err-skip_to_block.field-0.0) (begun c.args.bytes.now c.new-lines.result c.new-lines.ensures) c.in_err-skip_to_block.ensures.exact)
