use Rattle.std.proofs.Common.{arith, [], ◌∷◌, ◌++◌, ◌+◌, ◌≡◌, ◌<◌, ◌≤◌, ℕ, List, refl, sym, ◌∙◌, ap, subst, append-nil, length, take}
use Rattle.std.proofs.lemmas.List.{take_all}
use Rattle.sg_ledger.specs.Disk.{overlaid}
use Rattle.sg_ledger.specs.Memory.{Platter, Medium, platter}
use Rattle.sg_ledger.specs.declared.medium.DiskCall.TheVariants.{Kept, Wrote, Tore, Synced}
use Rattle.sg_ledger.proofs.Replay.{state_after, total_after, time_after, one_longer, calls_fit, no_ranges, more_ranges}
use Rattle.sg_ledger.proofs.medium.Medium.keep.Goals as goal

pub invariant_of-self : goal.invariant_of-self
invariant_of-self c =
    let old = c.self.invariant in
    let after = state_after c.self.inside c.push_within.new.list.items c.self.inside.written.items Kept [] old c.push_within.ensures.items (sym (append-nil c.self.inside.written.items)) in
    let longer = one_longer c.self.inside.calls.items c.push_within.new.list.items Kept c.push_within.ensures.items in
    record {
      seen = old.seen ∙ ap (λ (p : Platter). p.seen) (sym after);
      synced = old.synced ∙ ap (λ (p : Platter). p.synced) (sym after);
      tears = old.tears ∙ ap (λ (p : Platter). p.tears) (sym after);
      total = total_after c.self.inside c.push_within.new.list.items c.self.inside.written.items Kept [] old c.push_within.ensures.items (sym (append-nil c.self.inside.written.items)) refl;
      within = old.within;
      within_synced = old.within_synced;
      within_start = old.within_start;
      within_written = old.within_written;
      within_tears = omega (arith, old.within_tears, longer);
      within_calls = calls_fit c.self.inside c.push_within.new.list.items Kept c.self.view_is c.requires c.push_within.ensures.items;
      ranges = old.ranges;
      small = old.small;
      room_start = old.room_start;
      room_bytes = old.room_bytes;
      room_synced = old.room_synced;
      room_written = old.room_written;
      room_calls = omega (arith, old.room_calls, c.push_within.ensures.capacity);
      room_tears = old.room_tears;
    }

pub returns-clause-time : goal.returns-clause-time
returns-clause-time c = rw (← c.self.view_is) (time_after c.self.inside c.push_within.new.list.items c.self.inside.written.items Kept [] c.self.invariant c.push_within.ensures.items (sym (append-nil c.self.inside.written.items)))

pub returns-clause-state : goal.returns-clause-state
returns-clause-state c = rw (← c.self.view_is) (state_after c.self.inside c.push_within.new.list.items c.self.inside.written.items Kept [] c.self.invariant c.push_within.ensures.items (sym (append-nil c.self.inside.written.items)))
