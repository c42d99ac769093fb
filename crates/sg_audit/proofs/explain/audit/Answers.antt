use Rattle.std.proofs.Common.{◌≡◌, ◌<◌, ℕ, false, sym, subst, map}
use Rattle.std.specs.Prelude.{IsPermutation, IsTrue}
use Rattle.std.specs.List.{AllByRecursion}
use Rattle.sg_walk.specs.Model.{event_of}
use Rattle.sg_audit.specs.Model.{log_of, logs_of}
use Rattle.sg_audit.specs.Merged.{Log, AscendFrom, clashes, events_of}
use Rattle.sg_audit.proofs.Answering.{none_clashes, first_of_all, unordered}
use Rattle.sg_audit.proofs.explain.audit.Goals as goal

pub returns-in-Some : goal.returns-in-Some
returns-in-Some c =
    first_of_all (logs_of c.args.session.now) (map event_of c.in_ok-merged.merged.items) c.in-Some.time
    (subst (λ ls. IsPermutation (events_of (map log_of ls)) (map event_of c.in_ok-merged.merged.items)) c.as_slice.ensures c.in_ok-merged.ensures.all)
    (subst (λ es. IsTrue (clashes (map event_of es) c.in-Some.time) × ((s : ℕ) → s < c.in-Some.time → clashes (map event_of es) s ≡ false)) c.as_slice-2.ensures.value c.in-Some.ensures)

pub returns-then-not-all_ascend : goal.returns-then-not-all_ascend
returns-then-not-all_ascend c = (
  none_clashes (logs_of c.args.session.now) (map event_of c.in_ok-merged.merged.items)
      (subst (λ ls. IsPermutation (events_of (map log_of ls)) (map event_of c.in_ok-merged.merged.items)) c.as_slice.ensures c.in_ok-merged.ensures.all)
      (subst (λ es. (t : ℕ) → clashes (map event_of es) t ≡ false) c.as_slice-2.ensures.value c.in_default.ensures),
  λ steps q. unordered c.args.graph.now (logs_of c.args.session.now)
      (λ h. let t = c.all_ascend.ensures.1 (subst (λ ls. AllByRecursion (λ (l : Log). AscendFrom 0 l.1) (map log_of ls)) (sym c.as_slice-3.ensures) h) in let f = c.if-not-all_ascend.true in absurd (cc)) steps,
)

pub explain-requires-clause-apart : goal.explain-requires-clause-apart
explain-requires-clause-apart c =
    none_clashes (logs_of c.args.session.now) (map event_of c.in_ok-merged.merged.items)
    (subst (λ ls. IsPermutation (events_of (map log_of ls)) (map event_of c.in_ok-merged.merged.items)) c.as_slice.ensures c.in_ok-merged.ensures.all)
    (subst (λ es. (t : ℕ) → clashes (map event_of es) t ≡ false) c.as_slice-2.ensures.value c.in_default.ensures)
