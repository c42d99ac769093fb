use Rattle.std.proofs.Common.{drop, arith}
use Rattle.std.proofs.lemmas.List.{length-drop}
use Rattle.sg_link.proofs.Cut.{room}
use Rattle.sg_link.proofs.inbox.Inbox.has_room.Goals as goal

pub returns : goal.returns
returns c =
    let left = length-drop c.self.inside.taken c.self.inside.bytes.items in
    λ yes. rw (← c.self.view_is) (room c.self.inside.lens.items (drop c.self.inside.taken c.self.inside.bytes.items) (omega (arith, c.self.invariant.0, left)) (omega (arith, c.len.ensures, c.if-len-ge-MOST_PIECES.false)) (omega (arith, c.len-2.ensures, left, c.if-held.false)))
