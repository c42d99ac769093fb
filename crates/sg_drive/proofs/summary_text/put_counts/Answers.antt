use Rattle.std.proofs.Common.{◌++◌, List, ℕ, ap, codes, ◌∙◌}
use Rattle.sg_drive.proofs.Written.{seven}
use Rattle.sg_drive.specs.Summary.{Counts, count_lines, number_line}
use Rattle.sg_drive.proofs.summary_text.put_counts.Goals as goal

pub returns : goal.returns
returns c =
    let t = c.tally.inside in
    let counted : Counts = record { sent = t.sent; received = t.received; refused = t.refused; abandoned = t.abandoned; complete = t.complete.keys } in
    let prefix : List ℕ = number_line (codes "sessions") c.args.sessions ++ number_line (codes "sent") t.sent ++ number_line (codes "received") t.received ++ number_line (codes "refused") t.refused ++ number_line (codes "lost") c.args.lost ++ number_line (codes "abandoned") t.abandoned in
    seven c.put_number-7.result c.args.out.now c.put_number.new.out c.put_number-2.new.out c.put_number-3.new.out c.put_number-4.new.out c.put_number-5.new.out c.put_number-6.new.out c.put_number-7.new.out _ _ _ _ _ _ _ (count_lines c.args.sessions c.args.lost c.args.tally.now)
    (ap (λ n. prefix ++ number_line (codes "complete") n) c.len.ensures.len ∙ ap (count_lines c.args.sessions c.args.lost) c.tally.view_is)
    c.in_ok-put_number.ensures c.in_ok-put_number-2.ensures c.in_ok-put_number-3.ensures c.in_ok-put_number-4.ensures c.in_ok-put_number-5.ensures c.in_ok-put_number-6.ensures c.put_number-7.ensures
