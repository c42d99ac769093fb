use Rattle.std.proofs.Common.{◌≡◌, ◌<◌, true, [], length, sym, ◌∙◌, arith}
use Rattle.std.proofs.lemmas.List.{length-set}
use Rattle.sg_stream.proofs.Bringing.{nil_there}
use Rattle.sg_stream.proofs.Steps.{none_part, all_parts, end_taken}
use Rattle.sg_stream.proofs.incoming.Incoming.put.Goals as goal

pub invariant_of-self : goal.invariant_of-self
invariant_of-self c =
    let within : c.args.conn < length c.self.inside.readers.items = omega (arith, c.ranges.conn.fits, c.self.invariant.0) in
    let parts = rw (← c.self.view_is) at c.requires.parts in
    let all = all_parts c.self.inside.readers.items c.args.conn c.new.result within (λ conn differs. parts conn) (rw c.new.ensures none_part) in
    (rw length-set c.self.invariant.0, c.self.invariant.1, (λ conn differs. all conn), (λ some. all c.self.inside.last))

pub invariant_of-self-else-is_empty : goal.invariant_of-self-else-is_empty
invariant_of-self-else-is_empty c =
    let parts = rw (← c.self.view_is) at c.requires.parts in
    (c.self.invariant.0, omega (arith, c.ranges.conn.fits), (λ conn differs. parts conn), (λ some. parts c.args.conn))

pub returns-then-is_empty : goal.returns-then-is_empty
returns-then-is_empty c = λ ps.
    let within : c.args.conn < length c.self.inside.readers.items = omega (arith, c.ranges.conn.fits, c.self.invariant.0) in
    let parts = rw (← c.self.view_is) at c.requires.parts in
    let kept = rw (← c.self.view_is) at c.requires.none_kept in
    let none : c.args.piece.items ≡ [] = sym c.as_slice.ensures.value ∙ nil_there c.as_slice.result.now (sym c.is_empty.ensures ∙ c.if-is_empty.true) in
    rw (← c.self.view_is, kept, c.new.ensures, none) (end_taken c.self.inside.readers.items c.args.conn ps within parts)
