use Rattle.std.proofs.Common.{◌≡◌, ◌≤◌, ◌+◌, ℕ, List, [], ◌∷◌, take, drop, Some, Err, Ok, refl, sym, ap, ◌∙◌, subst, arith}
use Rattle.sg_protocol.specs.Calls.{Deliver}
use Rattle.sg_play.specs.Ends.{Outside}
use Rattle.sg_play.specs.Played.{Play, all_deliveries, with_turn}
use Rattle.sg_play.proofs.Looping.{delivery_next, left_next, left_none, taken_all}
use Rattle.sg_play.proofs.Running.{nothing_sent}
use Rattle.sg_keep.specs.Faults.{Counts}
use Rattle.sg_keep.specs.KeptRuns.{HasKept}
use Rattle.sg_keep.specs.Representation.{Progressed}
use Rattle.sg_keep.proofs.Asking.{holds_all, link_failed, link_full}
use Rattle.sg_keep.proofs.AtMost.{kept_early, kept_taking, leaves_next, not_asked_at_most}
use Rattle.sg_keep.proofs.Counting.{asked_then, counted_then, link_counted, memory_counted, none_counted}
use Rattle.sg_keep.proofs.Ending.{end_on, to_same}
use Rattle.sg_keep.proofs.Going.{by_deliveries, deliveries_on, nothing, with_call}
use Rattle.sg_keep.proofs.Moments.{all_held, more_none, more_on, more_then, not_asked}
use Rattle.sg_keep.proofs.Silent.{represents_silent, silent, whole_silent, written_since}
use Rattle.sg_keep.proofs.keeper.Keeper.take_all.Goals as goal

pub loop-taken-init : goal.loop-taken-init
loop-taken-init g c = record {
  link_bound = refl;
  disk_bound = refl;
  faults = none_counted tt;
  holds = c.requires.holds;
  more = more_none c.args.self.now.ledger.joins;
  any_moment =
      not_asked g.D.Disk.moment g.D.Disk.left_since c.args.disk.now (g.D.Disk.may_leave c.args.disk.now) (g.met.D.Disk.only_now c.args.disk.now) c.args.self.now.ledger.joins (all_held c.args.self.now (g.D.Disk.may_leave c.args.disk.now) c.requires.holds);
  left = λ deliveries reported. reported;
  leaves_at_most = λ p start deliveries reported s w h.
      not_asked_at_most g.D.Disk.moment g.D.Disk.left_since c.args.disk.now (g.D.Disk.may_leave c.args.disk.now) (g.met.D.Disk.only_now c.args.disk.now) p p (nothing p) (holds_all c.args.self.now (g.D.Disk.may_leave c.args.disk.now) p c.requires.holds s);
  progress = λ p start deliveries reported s w h. (s, h, w);
}

pub loop-taken-preserved : goal.loop-taken-preserved
loop-taken-preserved g c =
    let inv = c.loop-taken.invariant in
    let k = c.loop-taken._taken in
    let first = rw c.in-Ok-Some.field-0-is at c.in-Ok-Some.ensures.first in
    let one = c.in-Ok.ensures in
    let old : Counts = record { link = g.L.Link.faults c.args.link.now; out = g.O.Sink.faults c.args.out.now; disk = g.D.Disk.faults c.args.disk.now } in
    let new : Counts = record { link = g.L.Link.faults c.deliver.new.link; out = g.O.Sink.faults c.deliver.new.out; disk = g.D.Disk.faults c.deliver.new.disk } in
    record {
      link_bound = one.kept.link_bound ∙ c.recv.ensures.kept_bound ∙ inv.link_bound;
      disk_bound = one.kept.disk_bound ∙ inv.disk_bound;
      faults = counted_then {old = old} {new = new} inv.faults (asked_then {new = new} c.recv.ensures.never_falls one.kept.faults);
      holds = one.holds;
      more = more_then c.args.self.now.ledger.joins c.loop-taken.self.ledger.joins c.deliver.new.self.ledger.joins inv.more one.more;
      any_moment = more_on g.D.Disk.moment g.D.Disk.left_since c.args.disk.now c.loop-taken.disk c.deliver.new.disk c.args.self.now.ledger.joins c.loop-taken.self.ledger.joins inv.more inv.any_moment c.deliver.ensures.any_moment;
      left = λ deliveries reported. one.kept.deliveries ∙ (first (drop k deliveries) (inv.left deliveries reported)).1 ∙ ap (λ l. Some l) (left_next k deliveries);
      leaves_at_most = λ p start deliveries reported s w h.
          let so_far : Play = all_deliveries p (take k deliveries) in
          let call = Deliver c.as_slice.result.now in
          let before = inv.progress p start deliveries reported s w h in
          let next : drop k deliveries ≡ c.as_slice.result.now ∷ drop 1 (drop k deliveries) = (first (drop k deliveries) (inv.left deliveries reported)).0 ∙ ap (λ (b : List ℕ). b ∷ drop 1 (drop k deliveries)) (sym c.as_slice.ensures.value) in
          leaves_next g.D.Disk.moment g.D.Disk.left_since c.args.disk.now c.loop-taken.disk c.deliver.new.disk so_far (with_turn so_far call) (all_deliveries p (take (k + 1) deliveries))
          (delivery_next p k deliveries c.as_slice.result.now next) (with_call so_far call) (inv.leaves_at_most p start deliveries reported s w h) (one.leaves_at_most so_far before.0);
      progress = λ p start deliveries reported s w h.
          let now : Outside = record { written = g.O.Sink.written c.deliver.new.out; sent = g.L.Link.sent c.deliver.new.link } in
          let so_far : Play = all_deliveries p (take k deliveries) in
          let before = inv.progress p start deliveries reported s w h in
          let whole = nothing_sent start so_far (g.O.Sink.written c.loop-taken.out) (g.L.Link.sent c.loop-taken.link) (g.L.Link.sent c.recv.new.self) c.recv.ensures.kept_sent before.1 in
          let next : drop k deliveries ≡ c.as_slice.result.now ∷ drop 1 (drop k deliveries) = (first (drop k deliveries) (inv.left deliveries reported)).0 ∙ ap (λ (b : List ℕ). b ∷ drop 1 (drop k deliveries)) (sym c.as_slice.ensures.value) in
          to_same start now (g.D.Disk.may_leave c.deliver.new.disk) c.deliver.new.self (g.R.Fresh.random c.deliver.new.fresh) (with_turn so_far (Deliver c.as_slice.result.now)) (all_deliveries p (take (k + 1) deliveries)) (Ok tt)
          (delivery_next p k deliveries c.as_slice.result.now next) (one.progress so_far start before.0 before.2 whole);
    }

pub returns-in-Err-clause-faults : goal.returns-in-Err-clause-faults
returns-in-Err-clause-faults g c = counted_then c.loop-taken.invariant.faults (asked_then c.recv.ensures.never_falls c.in-Err.ensures.kept.faults)

pub returns-in-Err-clause-progress : goal.returns-in-Err-clause-progress
returns-in-Err-clause-progress g c = let within : c.loop-taken._taken + 1 ≤ c.args.most = omega arith in λ p start deliveries reported s w h.
    let inv = c.loop-taken.invariant in
    let k = c.loop-taken._taken in
    let first = rw c.in-Ok-Some.field-0-is at c.in-Ok-Some.ensures.first in
    let now : Outside = record { written = g.O.Sink.written c.deliver.new.out; sent = g.L.Link.sent c.deliver.new.link } in
    let leaves = g.D.Disk.may_leave c.deliver.new.disk in
    let so_far : Play = all_deliveries p (take k deliveries) in
    let before = inv.progress p start deliveries reported s w h in
    let whole = nothing_sent start so_far (g.O.Sink.written c.loop-taken.out) (g.L.Link.sent c.loop-taken.link) (g.L.Link.sent c.recv.new.self) c.recv.ensures.kept_sent before.1 in
    let next : drop k deliveries ≡ c.as_slice.result.now ∷ drop 1 (drop k deliveries) = (first (drop k deliveries) (inv.left deliveries reported)).0 ∙ ap (λ (b : List ℕ). b ∷ drop 1 (drop k deliveries)) (sym c.as_slice.ensures.value) in
    end_on start now leaves (all_deliveries p (take (k + 1) deliveries)) (all_deliveries p (take c.args.most deliveries)) c.in-Err.fault (deliveries_on p (k + 1) c.args.most deliveries within)
    (subst (λ (z : Play). HasKept start now leaves z (Err c.in-Err.fault)) (delivery_next p k deliveries c.as_slice.result.now next) (c.in-Err.ensures.progress so_far start before.0 before.2 whole))

pub returns-in-Err-clause-at_most : goal.returns-in-Err-clause-at_most
returns-in-Err-clause-at_most g c = let within : c.loop-taken._taken + 1 ≤ c.args.most = omega arith in λ deliveries reported.
    let k = c.loop-taken._taken in
    let first = rw c.in-Ok-Some.field-0-is at c.in-Ok-Some.ensures.first in
    (k + 1, within, c.in-Err.ensures.kept.deliveries ∙ (first (drop k deliveries) (c.loop-taken.invariant.left deliveries reported)).1 ∙ ap (λ l. Some l) (left_next k deliveries))

pub returns-in-Ok-None-clause-faults : goal.returns-in-Ok-None-clause-faults
returns-in-Ok-None-clause-faults g c = counted_then c.loop-taken.invariant.faults (asked_then c.recv.ensures.never_falls (none_counted tt))

pub returns-in-Ok-None-clause-progress : goal.returns-in-Ok-None-clause-progress
returns-in-Ok-None-clause-progress g c = let within : c.loop-taken._taken ≤ c.args.most = omega arith in λ p start deliveries reported s w h.
    let inv = c.loop-taken.invariant in
    let k = c.loop-taken._taken in
    let end = rw c.in-Ok-None.field-0-is at c.in-Ok-None.ensures.at_end in
    let now : Outside = record { written = g.O.Sink.written c.loop-taken.out; sent = g.L.Link.sent c.recv.new.self } in
    let so_far : Play = all_deliveries p (take k deliveries) in
    let before = inv.progress p start deliveries reported s w h in
    let whole = nothing_sent start so_far (g.O.Sink.written c.loop-taken.out) (g.L.Link.sent c.loop-taken.link) (g.L.Link.sent c.recv.new.self) c.recv.ensures.kept_sent before.1 in
    subst (λ (z : List (List ℕ)). Progressed start now (g.D.Disk.may_leave c.loop-taken.disk) c.loop-taken.self (g.R.Fresh.random c.loop-taken.fresh) (all_deliveries p z) (Ok tt))
    (sym (taken_all k c.args.most deliveries within (end (drop k deliveries) (inv.left deliveries reported)))) (before.0, whole, before.2)

pub returns-in-Ok-None-clause-left : goal.returns-in-Ok-None-clause-left
returns-in-Ok-None-clause-left g c = let within : c.loop-taken._taken ≤ c.args.most = omega arith in λ deliveries reported.
    let inv = c.loop-taken.invariant in
    let k = c.loop-taken._taken in
    let end = rw c.in-Ok-None.field-0-is at c.in-Ok-None.ensures.at_end in
    let kept = rw c.in-Ok-None.field-0-is at c.in-Ok-None.ensures.kept_at_end in
    let none : drop k deliveries ≡ [] = end (drop k deliveries) (inv.left deliveries reported) in
    kept ∙ inv.left deliveries reported ∙ ap (λ l. Some l) (none ∙ sym (left_none k c.args.most deliveries within none))

pub returns-in-Ok-None-clause-at_most : goal.returns-in-Ok-None-clause-at_most
returns-in-Ok-None-clause-at_most g c = let within : c.loop-taken._taken ≤ c.args.most = omega arith in λ deliveries reported.
    let kept = rw c.in-Ok-None.field-0-is at c.in-Ok-None.ensures.kept_at_end in
    (c.loop-taken._taken, within, kept ∙ c.loop-taken.invariant.left deliveries reported)

pub returns-in-Err-Failed-clause-faults : goal.returns-in-Err-Failed-clause-faults
returns-in-Err-Failed-clause-faults g c = counted_then c.loop-taken.invariant.faults (link_counted c.recv.ensures.never_falls (c.recv.ensures.failed (c.in-Err-Failed.is ∙ ap Err c.in-Err-Failed.field-0-is)))

pub returns-in-Err-Failed-clause-progress : goal.returns-in-Err-Failed-clause-progress
returns-in-Err-Failed-clause-progress g c = let within : c.loop-taken._taken ≤ c.args.most = omega arith in λ p start deliveries reported s w h.
    let before = c.loop-taken.invariant.progress p start deliveries reported s w h in
    link_failed start (g.O.Sink.written c.loop-taken.out) (g.L.Link.sent c.loop-taken.link) (g.L.Link.sent c.recv.new.self) c.recv.ensures.kept_sent
    (g.D.Disk.may_leave c.loop-taken.disk) c.loop-taken.self p deliveries c.loop-taken._taken c.args.most within c.loop-taken.invariant.holds before.0 before.1

pub returns-in-Err-Failed-clause-at_most : goal.returns-in-Err-Failed-clause-at_most
returns-in-Err-Failed-clause-at_most g c = let within : c.loop-taken._taken ≤ c.args.most = omega arith in λ deliveries reported. (c.loop-taken._taken, within, c.in-Err-Failed.ensures.kept ∙ c.loop-taken.invariant.left deliveries reported)

pub returns-in-Err-OutOfMemory-clause-faults : goal.returns-in-Err-OutOfMemory-clause-faults
returns-in-Err-OutOfMemory-clause-faults g c = counted_then c.loop-taken.invariant.faults (asked_then c.recv.ensures.never_falls (memory_counted refl))

pub returns-in-Err-OutOfMemory-clause-progress : goal.returns-in-Err-OutOfMemory-clause-progress
returns-in-Err-OutOfMemory-clause-progress g c = let within : c.loop-taken._taken ≤ c.args.most = omega arith in λ p start deliveries reported s w h.
    let before = c.loop-taken.invariant.progress p start deliveries reported s w h in
    link_full start (g.O.Sink.written c.loop-taken.out) (g.L.Link.sent c.loop-taken.link) (g.L.Link.sent c.recv.new.self) c.recv.ensures.kept_sent
    (g.D.Disk.may_leave c.loop-taken.disk) c.loop-taken.self p deliveries c.loop-taken._taken c.args.most within c.loop-taken.invariant.holds before.0 before.1

pub returns-in-Err-OutOfMemory-clause-at_most : goal.returns-in-Err-OutOfMemory-clause-at_most
returns-in-Err-OutOfMemory-clause-at_most g c = let within : c.loop-taken._taken ≤ c.args.most = omega arith in λ deliveries reported. (c.loop-taken._taken, within, c.in-Err-OutOfMemory.ensures.kept ∙ c.loop-taken.invariant.left deliveries reported)

pub returns-clause-progress : goal.returns-clause-progress
returns-clause-progress g c = let all : c.loop-taken._taken ≡ c.args.most = omega arith in λ p start deliveries reported s w h.
    let now : Outside = record { written = g.O.Sink.written c.loop-taken.out; sent = g.L.Link.sent c.loop-taken.link } in
    subst (λ (k : ℕ). Progressed start now (g.D.Disk.may_leave c.loop-taken.disk) c.loop-taken.self (g.R.Fresh.random c.loop-taken.fresh) (all_deliveries p (take k deliveries)) (Ok tt)) all (c.loop-taken.invariant.progress p start deliveries reported s w h)

pub returns-clause-left : goal.returns-clause-left
returns-clause-left g c = let all : c.loop-taken._taken ≡ c.args.most = omega arith in λ deliveries reported.
    c.loop-taken.invariant.left deliveries reported ∙ ap (λ k. Some (drop k deliveries)) all

pub returns-clause-at_most : goal.returns-clause-at_most
returns-clause-at_most g c = let within : c.loop-taken._taken ≤ c.args.most = omega arith in λ deliveries reported. (c.loop-taken._taken, within, c.loop-taken.invariant.left deliveries reported)

pub returns-in-Err-clause-any_moment : goal.returns-in-Err-clause-any_moment
returns-in-Err-clause-any_moment g c =
    let inv = c.loop-taken.invariant in
    more_on g.D.Disk.moment g.D.Disk.left_since c.args.disk.now c.loop-taken.disk c.deliver.new.disk c.args.self.now.ledger.joins c.loop-taken.self.ledger.joins inv.more inv.any_moment c.deliver.ensures.any_moment

pub returns-in-Err-clause-throughout : goal.returns-in-Err-clause-throughout
returns-in-Err-clause-throughout g c = let within : c.loop-taken._taken + 1 ≤ c.args.most = omega arith in λ p start deliveries reported s w h.
    let inv = c.loop-taken.invariant in
    let k = c.loop-taken._taken in
    let first = rw c.in-Ok-Some.field-0-is at c.in-Ok-Some.ensures.first in
    let leaves = g.D.Disk.may_leave c.deliver.new.disk in
    let mid : Outside = record { written = g.O.Sink.written c.loop-taken.out; sent = g.L.Link.sent c.recv.new.self } in
    let now : Outside = record { written = g.O.Sink.written c.deliver.new.out; sent = g.L.Link.sent c.deliver.new.link } in
    let from : Outside = record { written = mid.written; sent = start.sent } in
    let so_far : Play = all_deliveries p (take k deliveries) in
    let call = Deliver c.as_slice.result.now in
    let after : Play = with_turn so_far call in
    let all : Play = all_deliveries p (take c.args.most deliveries) in
    let before = inv.progress p start deliveries reported s w h in
    let whole = nothing_sent start so_far (g.O.Sink.written c.loop-taken.out) (g.L.Link.sent c.loop-taken.link) (g.L.Link.sent c.recv.new.self) c.recv.ensures.kept_sent before.1 in
    let next : drop k deliveries ≡ c.as_slice.result.now ∷ drop 1 (drop k deliveries) = (first (drop k deliveries) (inv.left deliveries reported)).0 ∙ ap (λ (b : List ℕ). b ∷ drop 1 (drop k deliveries)) (sym c.as_slice.ensures.value) in
    let is = delivery_next p k deliveries c.as_slice.result.now next in
    let more = written_since from now leaves (with_turn (silent so_far) call) c.in-Err.fault
    (c.in-Err.ensures.progress (silent so_far) from (represents_silent c.loop-taken.self so_far before.0) before.2 (whole_silent start mid so_far whole)) in
    kept_early g.D.Disk.moment g.D.Disk.left_since c.args.disk.now c.loop-taken.disk c.deliver.new.disk start.written mid.written now.written p so_far after (all_deliveries p (take (k + 1) deliveries)) all is
    (by_deliveries p (take k deliveries)) (with_call so_far call) (deliveries_on p (k + 1) c.args.most deliveries within) (deliveries_on p k c.args.most deliveries (omega (arith, within))) before.0.in_step before.1.lines more
    (inv.leaves_at_most p start deliveries reported s w h) (c.deliver.ensures.leaves_at_most so_far before.0)

pub returns-in-Ok-None-clause-throughout : goal.returns-in-Ok-None-clause-throughout
returns-in-Ok-None-clause-throughout g c = let within : c.loop-taken._taken ≤ c.args.most = omega arith in λ p start deliveries reported s w h.
    let inv = c.loop-taken.invariant in
    let before = inv.progress p start deliveries reported s w h in
    kept_taking g.D.Disk.moment g.D.Disk.left_since c.args.disk.now c.loop-taken.disk start.written (g.O.Sink.written c.loop-taken.out) p deliveries c.loop-taken._taken c.args.most within before.0.in_step before.1.lines (inv.leaves_at_most p start deliveries reported s w h)

pub returns-in-Err-Failed-clause-throughout : goal.returns-in-Err-Failed-clause-throughout
returns-in-Err-Failed-clause-throughout g c = let within : c.loop-taken._taken ≤ c.args.most = omega arith in λ p start deliveries reported s w h.
    let inv = c.loop-taken.invariant in
    let before = inv.progress p start deliveries reported s w h in
    kept_taking g.D.Disk.moment g.D.Disk.left_since c.args.disk.now c.loop-taken.disk start.written (g.O.Sink.written c.loop-taken.out) p deliveries c.loop-taken._taken c.args.most within before.0.in_step before.1.lines (inv.leaves_at_most p start deliveries reported s w h)

pub returns-in-Err-OutOfMemory-clause-throughout : goal.returns-in-Err-OutOfMemory-clause-throughout
returns-in-Err-OutOfMemory-clause-throughout g c = let within : c.loop-taken._taken ≤ c.args.most = omega arith in λ p start deliveries reported s w h.
    let inv = c.loop-taken.invariant in
    let before = inv.progress p start deliveries reported s w h in
    kept_taking g.D.Disk.moment g.D.Disk.left_since c.args.disk.now c.loop-taken.disk start.written (g.O.Sink.written c.loop-taken.out) p deliveries c.loop-taken._taken c.args.most within before.0.in_step before.1.lines (inv.leaves_at_most p start deliveries reported s w h)

pub returns-clause-throughout : goal.returns-clause-throughout
returns-clause-throughout g c = let within : c.loop-taken._taken ≤ c.args.most = omega arith in λ p start deliveries reported s w h.
    let inv = c.loop-taken.invariant in
    let before = inv.progress p start deliveries reported s w h in
    kept_taking g.D.Disk.moment g.D.Disk.left_since c.args.disk.now c.loop-taken.disk start.written (g.O.Sink.written c.loop-taken.out) p deliveries c.loop-taken._taken c.args.most within before.0.in_step before.1.lines (inv.leaves_at_most p start deliveries reported s w h)
