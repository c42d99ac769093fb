use Rattle.std.proofs.Common.{rules, ◌≡◌, ◌≤◌, ◌+◌, ℕ, List, [], ◌∷◌, take, drop, Some, Err, Ok, refl, sym, ap, ◌∙◌, subst, arith}
use Rattle.sg_play.specs.Ends.{Outside}
use Rattle.sg_play.specs.Played.{Play, all_deliveries}
use Rattle.sg_play.specs.Representation.{Progressed}
use Rattle.sg_play.proofs.Counting.{asked_then, counted_then, link_counted, memory_counted, none_counted, passed_on}
use Rattle.sg_play.proofs.Looping.{left_next, left_none}
use Rattle.sg_play.proofs.Running.{delivery_failed, delivery_more, link_ended, link_failed, link_full, nothing_sent}
use Rattle.sg_play.proofs.player.Player.take_all.Goals as goal

pub loop-taken-init : goal.loop-taken-init
loop-taken-init g c = record {
  link_bound = refl;
  faults = none_counted _ tt;
  left = λ deliveries reported. reported;
  progress = λ deliveries reported p start s w h. ((s, h), w);
}

pub loop-taken-preserved : goal.loop-taken-preserved
loop-taken-preserved g c =
    let inv = c.loop-taken.invariant in
    let k = c.loop-taken._taken in
    let first = rw c.in-Ok-Some.field-0-is at c.in-Ok-Some.ensures.first in
    let one = c.in_ok-deliver-in-Ok-Some.ensures in
    record {
      link_bound = one.kept.bound ∙ c.recv.ensures.kept_bound ∙ inv.link_bound;
      faults = counted_then inv.faults (asked_then c.recv.ensures.never_falls one.kept.faults);
      left = λ deliveries reported. one.kept.deliveries ∙ (first (drop k deliveries) (inv.left deliveries reported)).1 ∙ ap (λ l. Some l) (left_next k deliveries);
      progress = λ deliveries reported p start s w h.
          let now : Outside = record { written = g.O.Sink.written c.deliver.new.out; sent = g.L.Link.sent c.deliver.new.link } in
          let so_far : Play = all_deliveries p (take k deliveries) in
          let before = inv.progress deliveries reported p start s w h in
          let whole = nothing_sent start so_far (g.O.Sink.written c.loop-taken.out) (g.L.Link.sent c.loop-taken.link) (g.L.Link.sent c.recv.new.self) c.recv.ensures.kept_sent before.0.1 in
          let next : drop k deliveries ≡ c.as_slice.result.now ∷ drop 1 (drop k deliveries) = (first (drop k deliveries) (inv.left deliveries reported)).0 ∙ ap (λ (b : List ℕ). b ∷ drop 1 (drop k deliveries)) (sym c.as_slice.ensures.value) in
          delivery_more start now c.deliver.new.self (g.R.Fresh.random c.deliver.new.fresh) p deliveries k c.as_slice.result.now next (one.progress so_far start before.0.0 before.1 whole);
    }

pub returns-in_err-deliver-in-Ok-Some-clause-progress : goal.returns-in_err-deliver-in-Ok-Some-clause-progress
returns-in_err-deliver-in-Ok-Some-clause-progress g c = let same : c.from_residual.result ≡ Err c.in_err-deliver-in-Ok-Some.field-0.0 = search rules in let within : c.loop-taken._taken + 1 ≤ c.args.most = omega arith in λ deliveries reported p start s w h.
    let inv = c.loop-taken.invariant in
    let k = c.loop-taken._taken in
    let first = rw c.in-Ok-Some.field-0-is at c.in-Ok-Some.ensures.first in
    let now : Outside = record { written = g.O.Sink.written c.deliver.new.out; sent = g.L.Link.sent c.deliver.new.link } in
    let so_far : Play = all_deliveries p (take k deliveries) in
    let before = inv.progress deliveries reported p start s w h in
    let whole = nothing_sent start so_far (g.O.Sink.written c.loop-taken.out) (g.L.Link.sent c.loop-taken.link) (g.L.Link.sent c.recv.new.self) c.recv.ensures.kept_sent before.0.1 in
    let next : drop k deliveries ≡ c.as_slice.result.now ∷ drop 1 (drop k deliveries) = (first (drop k deliveries) (inv.left deliveries reported)).0 ∙ ap (λ (b : List ℕ). b ∷ drop 1 (drop k deliveries)) (sym c.as_slice.ensures.value) in
    delivery_failed start now c.deliver.new.self (g.R.Fresh.random c.deliver.new.fresh) p deliveries k c.as_slice.result.now c.args.most c.from_residual.result c.in_err-deliver-in-Ok-Some.field-0.0 next within same
    (c.in_err-deliver-in-Ok-Some.ensures.progress so_far start before.0.0 before.1 whole)

pub returns-in_err-deliver-in-Ok-Some-clause-at_most : goal.returns-in_err-deliver-in-Ok-Some-clause-at_most
returns-in_err-deliver-in-Ok-Some-clause-at_most g c = let within : c.loop-taken._taken + 1 ≤ c.args.most = omega arith in λ deliveries reported.
    let k = c.loop-taken._taken in
    let first = rw c.in-Ok-Some.field-0-is at c.in-Ok-Some.ensures.first in
    (k + 1, within, c.in_err-deliver-in-Ok-Some.ensures.kept.deliveries ∙ (first (drop k deliveries) (c.loop-taken.invariant.left deliveries reported)).1 ∙ ap (λ l. Some l) (left_next k deliveries))

pub returns-in-Ok-None-clause-progress : goal.returns-in-Ok-None-clause-progress
returns-in-Ok-None-clause-progress g c = let within : c.loop-taken._taken ≤ c.args.most = omega arith in λ deliveries reported p start s w h.
    let inv = c.loop-taken.invariant in
    let k = c.loop-taken._taken in
    let end = rw c.in-Ok-None.field-0-is at c.in-Ok-None.ensures.at_end in
    let now : Outside = record { written = g.O.Sink.written c.loop-taken.out; sent = g.L.Link.sent c.recv.new.self } in
    let so_far : Play = all_deliveries p (take k deliveries) in
    let before = inv.progress deliveries reported p start s w h in
    link_ended start now c.loop-taken.self (g.R.Fresh.random c.loop-taken.fresh) p deliveries k c.args.most within (end (drop k deliveries) (inv.left deliveries reported)) before.0.0
    (nothing_sent start so_far (g.O.Sink.written c.loop-taken.out) (g.L.Link.sent c.loop-taken.link) (g.L.Link.sent c.recv.new.self) c.recv.ensures.kept_sent before.0.1) before.1

pub returns-in-Ok-None-clause-left : goal.returns-in-Ok-None-clause-left
returns-in-Ok-None-clause-left g c = let within : c.loop-taken._taken ≤ c.args.most = omega arith in λ deliveries reported.
    let inv = c.loop-taken.invariant in
    let k = c.loop-taken._taken in
    let end = rw c.in-Ok-None.field-0-is at c.in-Ok-None.ensures.at_end in
    let kept = rw c.in-Ok-None.field-0-is at c.in-Ok-None.ensures.kept_at_end in
    let none : drop k deliveries ≡ [] = end (drop k deliveries) (inv.left deliveries reported) in
    kept ∙ inv.left deliveries reported ∙ ap (λ l. Some l) (none ∙ sym (left_none k c.args.most deliveries within none))

pub returns-in-Ok-None-clause-at_most : goal.returns-in-Ok-None-clause-at_most
returns-in-Ok-None-clause-at_most g c = let within : c.loop-taken._taken ≤ c.args.most = omega arith in λ deliveries reported.
    let kept = rw c.in-Ok-None.field-0-is at c.in-Ok-None.ensures.kept_at_end in
    (c.loop-taken._taken, within, kept ∙ c.loop-taken.invariant.left deliveries reported)

pub returns-in-Err-Failed-clause-progress : goal.returns-in-Err-Failed-clause-progress
returns-in-Err-Failed-clause-progress g c = let within : c.loop-taken._taken ≤ c.args.most = omega arith in λ deliveries reported p start s w h.
    link_failed start c.loop-taken.self (g.R.Fresh.random c.loop-taken.fresh) p deliveries c.loop-taken._taken (g.O.Sink.written c.loop-taken.out) (g.L.Link.sent c.recv.new.self) c.recv.ensures.kept_sent c.args.most within
    (c.loop-taken.invariant.progress deliveries reported p start s w h).0.1

pub returns-in-Err-Failed-clause-at_most : goal.returns-in-Err-Failed-clause-at_most
returns-in-Err-Failed-clause-at_most g c = let within : c.loop-taken._taken ≤ c.args.most = omega arith in λ deliveries reported. (c.loop-taken._taken, within, c.in-Err-Failed.ensures.kept ∙ c.loop-taken.invariant.left deliveries reported)

pub returns-in-Err-OutOfMemory-clause-progress : goal.returns-in-Err-OutOfMemory-clause-progress
returns-in-Err-OutOfMemory-clause-progress g c = let within : c.loop-taken._taken ≤ c.args.most = omega arith in λ deliveries reported p start s w h.
    link_full start c.loop-taken.self (g.R.Fresh.random c.loop-taken.fresh) p deliveries c.loop-taken._taken (g.O.Sink.written c.loop-taken.out) (g.L.Link.sent c.recv.new.self) c.recv.ensures.kept_sent c.args.most within
    (c.loop-taken.invariant.progress deliveries reported p start s w h).0.1

pub returns-in-Err-OutOfMemory-clause-at_most : goal.returns-in-Err-OutOfMemory-clause-at_most
returns-in-Err-OutOfMemory-clause-at_most g c = let within : c.loop-taken._taken ≤ c.args.most = omega arith in λ deliveries reported. (c.loop-taken._taken, within, c.in-Err-OutOfMemory.ensures.kept ∙ c.loop-taken.invariant.left deliveries reported)

pub returns-clause-progress : goal.returns-clause-progress
returns-clause-progress g c = let all : c.loop-taken._taken ≡ c.args.most = omega arith in λ deliveries reported p start s w h.
    let now : Outside = record { written = g.O.Sink.written c.loop-taken.out; sent = g.L.Link.sent c.loop-taken.link } in
    subst (λ (k : ℕ). Progressed start now c.loop-taken.self (g.R.Fresh.random c.loop-taken.fresh) (all_deliveries p (take k deliveries)) (Ok tt)) all (c.loop-taken.invariant.progress deliveries reported p start s w h)

pub returns-clause-left : goal.returns-clause-left
returns-clause-left g c = let all : c.loop-taken._taken ≡ c.args.most = omega arith in λ deliveries reported.
    c.loop-taken.invariant.left deliveries reported ∙ ap (λ k. Some (drop k deliveries)) all

pub returns-clause-at_most : goal.returns-clause-at_most
returns-clause-at_most g c = let within : c.loop-taken._taken ≤ c.args.most = omega arith in λ deliveries reported. (c.loop-taken._taken, within, c.loop-taken.invariant.left deliveries reported)

pub returns-in_err-deliver-in-Ok-Some-clause-faults : goal.returns-in_err-deliver-in-Ok-Some-clause-faults
returns-in_err-deliver-in-Ok-Some-clause-faults g c = let same : c.from_residual.result ≡ Err c.in_err-deliver-in-Ok-Some.field-0.0 = search rules in
    passed_on same (counted_then c.loop-taken.invariant.faults (asked_then c.recv.ensures.never_falls c.in_err-deliver-in-Ok-Some.ensures.kept.faults))

pub returns-in-Ok-None-clause-faults : goal.returns-in-Ok-None-clause-faults
returns-in-Ok-None-clause-faults g c = counted_then c.loop-taken.invariant.faults (asked_then c.recv.ensures.never_falls (none_counted _ tt))

pub returns-in-Err-Failed-clause-faults : goal.returns-in-Err-Failed-clause-faults
returns-in-Err-Failed-clause-faults g c =
    let failed = rw c.in-Err-Failed.field-0-is at c.in-Err-Failed.ensures.failed in
    counted_then c.loop-taken.invariant.faults (link_counted c.recv.ensures.never_falls (failed refl))

pub returns-in-Err-OutOfMemory-clause-faults : goal.returns-in-Err-OutOfMemory-clause-faults
returns-in-Err-OutOfMemory-clause-faults g c = counted_then c.loop-taken.invariant.faults (asked_then c.recv.ensures.never_falls (memory_counted refl refl))

pub returns-in_err-deliver-in-Ok-Some-clause-link_bound : goal.returns-in_err-deliver-in-Ok-Some-clause-link_bound
returns-in_err-deliver-in-Ok-Some-clause-link_bound g c = c.in_err-deliver-in-Ok-Some.ensures.kept.bound ∙ c.recv.ensures.kept_bound ∙ c.loop-taken.invariant.link_bound
