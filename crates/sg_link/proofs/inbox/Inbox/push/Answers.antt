use Rattle.std.proofs.Common.{◌≡◌, ◌+◌, length, drop, ap, ◌∙◌, arith}
use Rattle.std.proofs.lemmas.List.{length-drop, length-append, drop-append-le}
use Rattle.sg_link.specs.Inbox.{total}
use Rattle.sg_link.proofs.Cut.{total-more, total-left, cut-more, no_more_than}
use Rattle.sg_link.proofs.inbox.Inbox.push.Goals as goal

pub append-requires : goal.append-requires
append-requires c =
    let same = total-left c.self.inside.lens.items c.self.inside.bytes.items c.self.inside.taken c.self.invariant.0 in
    let has = no_more_than c.self.inside.lens.items (drop c.self.inside.taken c.self.inside.bytes.items) same (rw (← c.self.view_is) at c.requires.room) in
    let kept : length (drop c.move_to_front.new.taken c.move_to_front.new.bytes.items) ≡ length (drop c.self.inside.taken c.self.inside.bytes.items) = ap length c.move_to_front.ensures.same in
    omega (arith, kept, has.1, c.requires.fits, c.move_to_front.ensures.half, c.move_to_front.ensures.capacity, c.self.invariant.3)

pub put_last-requires : goal.put_last-requires
put_last-requires c =
    let same = total-left c.self.inside.lens.items c.self.inside.bytes.items c.self.inside.taken c.self.invariant.0 in
    let has = no_more_than c.self.inside.lens.items (drop c.self.inside.taken c.self.inside.bytes.items) same (rw (← c.self.view_is) at c.requires.room) in
    omega (arith, has.0, c.self.invariant.2)

pub invariant_of-self : goal.invariant_of-self
invariant_of-self c =
    let same = total-left c.self.inside.lens.items c.self.inside.bytes.items c.self.inside.taken c.self.invariant.0 in
    let has = no_more_than c.self.inside.lens.items (drop c.self.inside.taken c.self.inside.bytes.items) same (rw (← c.self.view_is) at c.requires.room) in
    let kept : length (drop c.move_to_front.new.taken c.move_to_front.new.bytes.items) ≡ length (drop c.self.inside.taken c.self.inside.bytes.items) = ap length c.move_to_front.ensures.same in
    let after = length-drop c.move_to_front.new.taken c.move_to_front.new.bytes.items in
    let more : total c.put_last.new.lens.items ≡ total c.self.inside.lens.items + length c.args.piece.now = ap total c.put_last.ensures.items ∙ total-more c.self.inside.lens.items (length c.args.piece.now) in
    let long : length c.append.new.bytes.items ≡ length c.move_to_front.new.bytes.items + length c.args.piece.now = ap length c.append.ensures.items ∙ length-append c.move_to_front.new.bytes.items c.args.piece.now in
    (omega (arith, more, long, same, kept, after, c.move_to_front.ensures.within), omega (arith, more, has.1, same, c.requires.fits), omega (arith, c.self.invariant.2, c.put_last.ensures.capacity), omega (arith, c.self.invariant.3, c.move_to_front.ensures.capacity, c.append.ensures.capacity))

pub returns : goal.returns
returns c =
    let same = total-left c.self.inside.lens.items c.self.inside.bytes.items c.self.inside.taken c.self.invariant.0 in
    rw (← c.self.view_is, c.put_last.ensures.items, c.append.ensures.items, drop-append-le c.move_to_front.new.taken c.move_to_front.new.bytes.items c.args.piece.now c.move_to_front.ensures.within, c.move_to_front.ensures.same) (cut-more c.self.inside.lens.items (drop c.self.inside.taken c.self.inside.bytes.items) c.args.piece.now same)
