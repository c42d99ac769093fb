use Rattle.std.proofs.Common.{◌≡◌, ◌<◌, ◌↔◌, nat_le, nat_lt, Bool, true, false, not, ◌||◌, IsTrue, length, length-append, refl, arith}
use Rattle.std.proofs.lemmas.Bool.Decides.{nat_tests}
use Rattle.std.proofs.lemmas.List.{length-map}
use Rattle.sg_base.proofs.memory.link.MemLinkLink.send.Goals as goal

-- a call that did not fail had room
had_room : (fails room : Bool) → (false ≡ true ↔ IsTrue (fails || not room)) → room ≡ true
had_room fails true h = refl
had_room true false h = h.1 refl
had_room false false h = h.1 refl

pub invariant_of-self-2 : goal.invariant_of-self-2
invariant_of-self-2 c =
    let there = had_room _ _ c.in_default.ensures.cause in
    let less : length c.self.inside.sent.items < c.self.inside.room = grind (arith, nat_tests, there, c.len.ensures) in
    (rw (c.put_frame.ensures.frames, length-append) (omega arith), omega (arith, c.put_frame.ensures.room, c.self.invariant))

pub returns-clause-cause : goal.returns-clause-cause
returns-clause-cause c =
    let late : nat_le c.self.inside.room (length c.self.inside.sent.items) ≡ not (nat_lt c.len.result c.self.inside.room) = grind (arith, nat_tests, c.len.ensures) in
    rw (← c.self.view_is, length-map, late) c.in_default.ensures.cause
