use Rattle.std.proofs.Common.{arith, [], ◌∷◌, ◌++◌, ◌+◌, ◌≡◌, ◌<◌, ◌≤◌, ℕ, List, refl, sym, ◌∙◌, ap, subst, append-nil, length, take, length-append}
use Rattle.std.proofs.lemmas.List.{take_all}
use Rattle.sg_ledger.specs.Disk.{overlaid}
use Rattle.sg_ledger.specs.Memory.{Platter, Medium, platter}
use Rattle.sg_ledger.specs.declared.medium.DiskCall.TheVariants.{Kept, Wrote, Tore, Synced}
use Rattle.sg_ledger.proofs.Replay.{state_after, total_after, time_after, one_longer, calls_fit, no_ranges, more_ranges}
use Rattle.sg_ledger.proofs.Tears.{overlaid_long}
use Rattle.sg_ledger.proofs.medium.Medium.write.Goals as goal

pub invariant_of-self : goal.invariant_of-self
invariant_of-self c =
    let old = c.self.invariant in
    let after = state_after c.self.inside c.push_within-2.new.list.items c.append_within.new.list.items (Wrote c.args.at (length c.args.bytes.now)) c.args.bytes.now old c.push_within-2.ensures.items c.append_within.ensures.items in
    let longer = one_longer c.self.inside.calls.items c.push_within-2.new.list.items (Wrote c.args.at (length c.args.bytes.now)) c.push_within-2.ensures.items in
    let torn = one_longer c.self.inside.tears.items c.push_within.new.list.items (c.args.at, length c.args.bytes.now) c.push_within.ensures.items in
    let fits : c.args.at + length c.args.bytes.now ≤ c.self.inside.room = subst (λ (m : Medium). c.args.at + length c.args.bytes.now ≤ m.room) (sym c.self.view_is) c.requires.fits in
    let noted : length c.self.inside.written.items + length c.args.bytes.now ≤ c.self.inside.room = subst (λ (m : Medium). length m.written + length c.args.bytes.now ≤ m.room) (sym c.self.view_is) c.requires.record in
    let begins : c.args.at ≤ length c.self.inside.bytes.items = subst (λ (l : List ℕ). c.args.at ≤ length l) (sym old.seen) (subst (λ (m : Medium). c.args.at ≤ length (platter m).seen) (sym c.self.view_is) c.requires.begins) in
    let over = overlaid_long c.self.inside.bytes.items c.args.at c.args.bytes.now begins in
    let now = ap length c.write_over.ensures.items in
    let note = ap length c.append_within.ensures.items ∙ length-append c.self.inside.written.items c.args.bytes.now in
    record {
      seen = (c.write_over.ensures.items ∙ (λ i. overlaid (old.seen i) c.args.at (sym (take_all (length c.args.bytes.now) c.args.bytes.now (omega arith)) i))) ∙ ap (λ (p : Platter). p.seen) (sym after);
      synced = old.synced ∙ ap (λ (p : Platter). p.synced) (sym after);
      tears = (c.push_within.ensures.items ∙ ap (λ (l : List (ℕ × ℕ)). l ++ (c.args.at, length c.args.bytes.now) ∷ []) old.tears) ∙ ap (λ (p : Platter). p.tears) (sym after);
      total = total_after c.self.inside c.push_within-2.new.list.items c.append_within.new.list.items (Wrote c.args.at (length c.args.bytes.now)) c.args.bytes.now old c.push_within-2.ensures.items c.append_within.ensures.items refl;
      within = omega (arith, now, over, fits, old.within);
      within_synced = old.within_synced;
      within_start = old.within_start;
      within_written = omega (arith, note, noted);
      within_tears = omega (arith, torn, longer, old.within_tears);
      within_calls = calls_fit c.self.inside c.push_within-2.new.list.items (Wrote c.args.at (length c.args.bytes.now)) c.self.view_is c.requires.call c.push_within-2.ensures.items;
      ranges = more_ranges c.self.inside.room c.self.inside.tears.items c.push_within.new.list.items c.args.at (length c.args.bytes.now) old.ranges fits c.push_within.ensures.items;
      small = old.small;
      room_start = old.room_start;
      room_bytes = omega (arith, old.room_bytes, c.write_over.ensures.capacity);
      room_synced = old.room_synced;
      room_written = omega (arith, old.room_written, c.append_within.ensures.capacity);
      room_calls = omega (arith, old.room_calls, c.push_within-2.ensures.capacity);
      room_tears = omega (arith, old.room_tears, c.push_within.ensures.capacity);
    }

pub returns-clause-time : goal.returns-clause-time
returns-clause-time c = rw (← c.self.view_is) (time_after c.self.inside c.push_within-2.new.list.items c.append_within.new.list.items (Wrote c.args.at (length c.args.bytes.now)) c.args.bytes.now c.self.invariant c.push_within-2.ensures.items c.append_within.ensures.items)

pub returns-clause-state : goal.returns-clause-state
returns-clause-state c = rw (← c.self.view_is) (state_after c.self.inside c.push_within-2.new.list.items c.append_within.new.list.items (Wrote c.args.at (length c.args.bytes.now)) c.args.bytes.now c.self.invariant c.push_within-2.ensures.items c.append_within.ensures.items)
