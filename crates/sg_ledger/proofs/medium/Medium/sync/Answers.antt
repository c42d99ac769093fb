use Rattle.std.proofs.Common.{arith, [], ◌∷◌, ◌++◌, ◌+◌, ◌≡◌, ◌<◌, ◌≤◌, ℕ, List, refl, sym, ◌∙◌, ap, subst, append-nil, length, take}
use Rattle.std.proofs.lemmas.List.{take_all}
use Rattle.sg_ledger.specs.Disk.{overlaid}
use Rattle.sg_ledger.specs.Memory.{Platter, Medium, platter}
use Rattle.sg_ledger.specs.declared.medium.DiskCall.TheVariants.{Kept, Wrote, Tore, Synced}
use Rattle.sg_ledger.proofs.Replay.{state_after, total_after, time_after, calls_fit, no_ranges}
use Rattle.sg_ledger.proofs.medium.Medium.sync.Goals as goal

pub invariant_of-self : goal.invariant_of-self
invariant_of-self c =
    let old = c.self.invariant in
    let after = state_after c.self.inside c.push_within.new.list.items c.self.inside.written.items Synced [] old c.push_within.ensures.items (sym (append-nil c.self.inside.written.items)) in
    let copied = ap length (c.put_within.ensures.items ∙ c.deref.ensures.value) in
    let none = ap length c.clear.ensures.items in
    record {
      seen = old.seen ∙ ap (λ (p : Platter). p.seen) (sym after);
      synced = (c.put_within.ensures.items ∙ c.deref.ensures.value ∙ old.seen) ∙ ap (λ (p : Platter). p.synced) (sym after);
      tears = c.clear.ensures.items ∙ ap (λ (p : Platter). p.tears) (sym after);
      total = total_after c.self.inside c.push_within.new.list.items c.self.inside.written.items Synced [] old c.push_within.ensures.items (sym (append-nil c.self.inside.written.items)) refl;
      within = old.within;
      within_synced = omega (arith, copied, old.within);
      within_start = old.within_start;
      within_written = old.within_written;
      within_tears = omega (arith, none);
      within_calls = calls_fit c.self.inside c.push_within.new.list.items Synced c.self.view_is c.requires c.push_within.ensures.items;
      ranges = no_ranges c.self.inside.room c.clear.new.self.items c.clear.ensures.items;
      small = old.small;
      room_start = old.room_start;
      room_bytes = old.room_bytes;
      room_synced = omega (arith, old.room_synced, c.put_within.ensures.capacity);
      room_written = old.room_written;
      room_calls = omega (arith, old.room_calls, c.push_within.ensures.capacity);
      room_tears = omega (arith, old.room_tears, c.clear.ensures.capacity);
    }

pub returns-clause-time : goal.returns-clause-time
returns-clause-time c = rw (← c.self.view_is) (time_after c.self.inside c.push_within.new.list.items c.self.inside.written.items Synced [] c.self.invariant c.push_within.ensures.items (sym (append-nil c.self.inside.written.items)))

pub returns-clause-state : goal.returns-clause-state
returns-clause-state c = rw (← c.self.view_is) (state_after c.self.inside c.push_within.new.list.items c.self.inside.written.items Synced [] c.self.invariant c.push_within.ensures.items (sym (append-nil c.self.inside.written.items)))
