-- Plays over a ledger and a link that were opened.
use Rattle.std.proofs.Common.{◌≡◌, ℕ, ◌≤◌, false, true, List, take, Option, Result, Err, refl, sym, ◌∙◌, subst}
use Rattle.std.proofs.lemmas.Result.{on_ok_weaker}
use Rattle.sg_base.specs.declared.address.Addr.{Addr}
use Rattle.sg_base.specs.Outside.{HasRisen}
use Rattle.sg_keep.specs.Faults.{CountsFaults}
use Rattle.sg_joins.specs.Images.{AllRepresent}
use Rattle.sg_keep.specs.KeptRuns.{HasKept, KeptThroughout, RepresentsAtMost, RepresentsMore}
use Rattle.sg_keep.specs.declared.fault.KeepFault.{KeepFault}
use Rattle.sg_keep.specs.declared.fault.KeepFault.TheVariants as KeepFaults
use Rattle.sg_keep.proofs.Asking.{not_begun}
use Rattle.sg_keep.proofs.AtMost.{not_begun_throughout}
use Rattle.sg_keep.proofs.Counting.{asked_then, link_counted}
use Rattle.sg_keep.proofs.Moments.{not_asked}
use Rattle.sg_ledger.specs.declared.disk.Disk as Disk
use Rattle.sg_ledger.specs.Format.{Join}
use Rattle.sg_play.specs.declared.fault.PlayFault.TheVariants as PlayFaults
use Rattle.sg_ending.specs.Output.{Output}
use Rattle.sg_setup.specs.Setup.{Setup}
use Rattle.sg_principal.specs.Ledgers.{EndsOver, LeavesMeanwhile, alone_until, counts, left_in, moment_in, play_over}
use Rattle.sg_principal.specs.Outside.{Disked, Linked, Stage, disk_of}
use Rattle.sg_principal.proofs.Meanwhile.{kept_throughout, meanwhile, once_opened}
use Rattle.sg_principal.proofs.Playing.{none_left}

-- a play from when the ledger was opened ended as one over the disk that was left alone until then
pub after_ledger : (opened : List Join) (s : Setup) (most : ℕ) (old new : Stage) (disk disk1 disk2 : Disked) (r : Result (Unit {0}) KeepFault) → disk1.faults ≡ disk.faults
    → ((t : ℕ) (image : List ℕ) → t ≤ disk.moment → disk.may_leave image → disk.left_since t image) → LeavesMeanwhile disk disk1 disk.may_leave
    → EndsOver opened s most old new disk1 disk2 r → EndsOver opened s most old new (alone_until disk1.moment disk) disk2 r
after_ledger opened s most old new disk disk1 disk2 r same counts_now first h = record {
  plays = h.plays;
  any_moment = once_opened disk disk1 disk2 (RepresentsMore opened) counts_now first h.any_moment;
  throughout = λ ds ws d w.
      let p = play_over opened s most ds ws in
      let k : KeptThroughout (moment_in disk1 disk2) (left_in disk1 disk2) false true (old.out).bytes (new.out).bytes p = h.throughout ds ws d w in
      record {
        count = k.count;
        within = k.within;
        rest = k.rest;
        written = k.written;
        any_moment = once_opened disk disk1 disk2 (RepresentsAtMost p.past.first p.past.calls k.count) counts_now first k.any_moment;
      };
  faults = subst (λ (n : ℕ). CountsFaults (record { link = (old.link).faults; out = (old.out).faults; disk = n }) (counts new disk2) r) same h.faults;
  left = h.left;
  at_most = h.at_most;
}

module _ (opened : List Join) (s : Setup) (most : ℕ) (out : Output) (random : Option (List (List ℕ))) (link link1 : Linked) (kept : link1.deliveries ≡ link.deliveries) (kept_sent : link1.sent ≡ link.sent) (falls : link.faults ≤ link1.faults) where
  -- before the link was opened, and when it was
  abbrev pub before : Stage
  before = record { out = out; link = link; random = random }

  abbrev pub opened_link : Stage
  opened_link = record { out = out; link = link1; random = random }

  -- a play from when the link was opened ended as one from before
  pub after_link : (new : Stage) (disk disk' : Disked) (r : Result (Unit {0}) KeepFault) → EndsOver opened s most opened_link new disk disk' r → EndsOver opened s most before new disk disk' r
  after_link new disk disk' r h = record {
    plays = λ ds ws d w. subst
        (λ (x : Option (List (Addr × List ℕ))). HasKept (record { written = out.bytes; sent = x }) (record { written = (new.out).bytes; sent = (new.link).sent }) disk'.may_leave (play_over opened s most ds ws) r) kept_sent
        (h.plays ds ws (kept ∙ d) w);
    any_moment = h.any_moment;
    throughout = λ ds ws d w. h.throughout ds ws (kept ∙ d) w;
    faults = asked_then falls h.faults;
    left = on_ok_weaker r (λ t ds d. t ds (kept ∙ d)) h.left;
    at_most = λ ds d. h.at_most ds (kept ∙ d);
  }

  -- the link was not opened
  pub without_link : {D : Type 0} (g : Disk.Ghosts D) (disk : D) → ((image : List ℕ) → g.left_since disk (g.moment disk) image → g.may_leave disk image) → HasRisen link.faults link1.faults → AllRepresent (g.may_leave disk) opened
      → EndsOver opened s most before opened_link (disk_of g disk) (disk_of g disk) (Err (KeepFaults.Played PlayFaults.LinkFailed))
  without_link g disk only_now risen all = record {
    plays = λ ds ws d w. subst
        (λ (x : Option (List (Addr × List ℕ))). HasKept (record { written = out.bytes; sent = link.sent }) (record { written = out.bytes; sent = x }) (g.may_leave disk) (play_over opened s most ds ws) (Err (KeepFaults.Played PlayFaults.LinkFailed))) (sym kept_sent)
        (not_begun (record { written = out.bytes; sent = link.sent }) (g.may_leave disk) s.keys s.programs opened s.script (take most ds) ws all PlayFaults.OutOfMemory refl);
    any_moment = meanwhile g disk disk (RepresentsMore opened) (not_asked g.moment g.left_since disk (g.may_leave disk) only_now opened all);
    throughout = λ ds ws d w. kept_throughout g disk disk out.bytes out.bytes (play_over opened s most ds ws)
        (not_begun_throughout g.moment g.left_since disk (g.may_leave disk) only_now out.bytes s.keys s.programs opened s.script (take most ds) ws all);
    faults = link_counted falls risen;
    left = tt;
    at_most = none_left most link.deliveries link1.deliveries kept;
  }
