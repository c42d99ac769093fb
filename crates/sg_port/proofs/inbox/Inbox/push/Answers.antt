use Rattle.std.proofs.Common.{ℕ, List, Vec, Global, length, map, ap, ◌∙◌, arith}
use Rattle.std.specs.List.{concat}
use Rattle.std.proofs.lemmas.List.{length-map}
use Rattle.sg_port.proofs.Queue.{total_more}
use Rattle.sg_port.proofs.inbox.Inbox.push.Goals as goal

pub put_last-requires : goal.put_last-requires
put_last-requires c =
    let has = rw (← c.self.view_is) at c.requires.room in
    omega (arith, has.fewer, length-map c.self.inside.frames.items (λ (f : Vec ℕ Global). f.items), c.self.invariant.2)

pub invariant_of-self : goal.invariant_of-self
invariant_of-self c =
    let has = rw (← c.self.view_is) at c.requires.room in
    let more = ap (λ (l : List (Vec ℕ Global)). length (concat (map (λ (f : Vec ℕ Global). f.items) l))) c.put_last.ensures.items ∙ total_more c.self.inside.frames.items c.args.frame in
    (omega (arith, more, c.self.invariant.0, c.len.ensures), omega (arith, c.self.invariant.0, has.fits, c.requires.fits, c.len.ensures), omega (arith, c.self.invariant.2, c.put_last.ensures.capacity))
