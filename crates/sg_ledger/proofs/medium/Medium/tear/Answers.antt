use Rattle.std.proofs.Common.{arith, [], ◌∷◌, ◌++◌, ◌+◌, ◌≡◌, ◌<◌, ◌≤◌, ℕ, List, refl, sym, ◌∙◌, ap, subst, append-nil, length, take}
use Rattle.std.proofs.lemmas.List.{take_all}
use Rattle.sg_ledger.specs.Disk.{overlaid}
use Rattle.sg_ledger.specs.Memory.{Platter, Medium, platter}
use Rattle.sg_ledger.specs.declared.medium.DiskCall.TheVariants.{Kept, Wrote, Tore, Synced}
use Rattle.sg_ledger.proofs.Replay.{state_after, total_after, time_after, one_longer, calls_fit, no_ranges, more_ranges}
use Rattle.sg_ledger.proofs.medium.Medium.tear.Goals as goal

pub invariant_of-self : goal.invariant_of-self
invariant_of-self c =
    let old = c.self.invariant in
    let after = state_after c.self.inside c.push_within-2.new.list.items c.self.inside.written.items (Tore c.args.at c.args.count) [] old c.push_within-2.ensures.items (sym (append-nil c.self.inside.written.items)) in
    let longer = one_longer c.self.inside.calls.items c.push_within-2.new.list.items (Tore c.args.at c.args.count) c.push_within-2.ensures.items in
    let torn = one_longer c.self.inside.tears.items c.push_within.new.list.items (c.args.at, c.args.count) c.push_within.ensures.items in
    let fits : c.args.at + c.args.count ≤ c.self.inside.room = subst (λ (m : Medium). c.args.at + c.args.count ≤ m.room) (sym c.self.view_is) c.requires.fits in
    record {
      seen = old.seen ∙ ap (λ (p : Platter). p.seen) (sym after);
      synced = old.synced ∙ ap (λ (p : Platter). p.synced) (sym after);
      tears = (c.push_within.ensures.items ∙ ap (λ (l : List (ℕ × ℕ)). l ++ (c.args.at, c.args.count) ∷ []) old.tears) ∙ ap (λ (p : Platter). p.tears) (sym after);
      total = total_after c.self.inside c.push_within-2.new.list.items c.self.inside.written.items (Tore c.args.at c.args.count) [] old c.push_within-2.ensures.items (sym (append-nil c.self.inside.written.items)) refl;
      within = old.within;
      within_synced = old.within_synced;
      within_start = old.within_start;
      within_written = old.within_written;
      within_tears = omega (arith, torn, longer, old.within_tears);
      within_calls = calls_fit c.self.inside c.push_within-2.new.list.items (Tore c.args.at c.args.count) c.self.view_is c.requires.call c.push_within-2.ensures.items;
      ranges = more_ranges c.self.inside.room c.self.inside.tears.items c.push_within.new.list.items c.args.at c.args.count old.ranges fits c.push_within.ensures.items;
      small = old.small;
      room_start = old.room_start;
      room_bytes = old.room_bytes;
      room_synced = old.room_synced;
      room_written = old.room_written;
      room_calls = omega (arith, old.room_calls, c.push_within-2.ensures.capacity);
      room_tears = omega (arith, old.room_tears, c.push_within.ensures.capacity);
    }

pub returns-clause-time : goal.returns-clause-time
returns-clause-time c = rw (← c.self.view_is) (time_after c.self.inside c.push_within-2.new.list.items c.self.inside.written.items (Tore c.args.at c.args.count) [] c.self.invariant c.push_within-2.ensures.items (sym (append-nil c.self.inside.written.items)))

pub returns-clause-state : goal.returns-clause-state
returns-clause-state c = rw (← c.self.view_is) (state_after c.self.inside c.push_within-2.new.list.items c.self.inside.written.items (Tore c.args.at c.args.count) [] c.self.invariant c.push_within-2.ensures.items (sym (append-nil c.self.inside.written.items)))
