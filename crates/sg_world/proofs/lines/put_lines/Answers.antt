use Rattle.std.proofs.Common.{◌≡◌, ◌+◌, ◌++◌, ap, ◌∙◌, arith, length, map, subst, take}
use Rattle.std.proofs.Math.Seq.{take-length}
use Rattle.sg_report.specs.Report.{line, lines_from}
use Rattle.sg_world.specs.KeptLines.{line_kept}
use Rattle.sg_world.proofs.WrittenLines.{line_more}
use Rattle.sg_world.proofs.lines.put_lines.Goals as goal

pub loop-entry-preserved : goal.loop-entry-preserved
loop-entry-preserved c = (
  omega arith,
  λ m e. line_more m c.args.setting.now c.args.entries.now c.loop-entry.entry-index c.entry-item.result c.args.out.now c.loop-entry.out c.put_entry.new.out c.loop-entry-test.true c.entry-item.is (c.loop-entry.invariant.1 m e)
      (subst (λ n. c.put_entry.new.out ≡ c.loop-entry.out ++ line m (n + 1) (line_kept c.args.setting.now c.entry-item.result)) c.loop-entry.invariant.0 (c.in_ok-put_entry.ensures m e)),
)

pub returns : goal.returns
returns c = λ m e.
    let last = c.loop-entry-test.false in
    let end = c.loop-entry.auto.entry-index-end in
    let all : c.loop-entry.entry-index ≡ length c.args.entries.now = omega (arith, last, end) in
    c.loop-entry.invariant.1 m e ∙ ap (λ n. c.args.out.now ++ lines_from m 1 (map (line_kept c.args.setting.now) (take n c.args.entries.now))) all
    ∙ ap (λ es. c.args.out.now ++ lines_from m 1 (map (line_kept c.args.setting.now) es)) (take-length c.args.entries.now)
