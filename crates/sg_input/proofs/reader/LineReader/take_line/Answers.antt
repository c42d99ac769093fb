use Rattle.std.proofs.Common.{◌≡◌, ◌==◌, ◌+◌, Some, None, slice_range, refl, ap, arith}
use Rattle.std.specs.List.{position}
use Rattle.sg_input.proofs.Buffer.{feed_at, feed_nowhere}
use Rattle.sg_input.proofs.Left.{whole_at, over_at}
use Rattle.sg_input.proofs.reader.LineReader.take_line.Goals as goal

pub invariant_of-self : goal.invariant_of-self
invariant_of-self c =
    let i = c.self.invariant in
    let none : position (λ b. b == 10) (slice_range c.self.inside.buffer.items c.self.inside.seen c.self.inside.end) ≡ None = cc in
    (omega arith, omega arith, omega arith, omega arith, i.4, i.5, feed_nowhere c.self.inside.buffer.items c.self.inside.start c.self.inside.seen c.self.inside.end i.2 i.3 i.6 none)

pub returns-in_default-clause-none : goal.returns-in_default-clause-none
returns-in_default-clause-none c =
    let i = c.self.invariant in
    let none : position (λ b. b == 10) (slice_range c.self.inside.buffer.items c.self.inside.seen c.self.inside.end) ≡ None = cc in
    let unread : slice_range c.self.inside.buffer.items c.self.inside.start c.self.inside.end ≡ c.args.self.now.unread = ap (λ r. r.unread) c.self.view_is in
    λ is. (unread, rw (← unread) (feed_nowhere c.self.inside.buffer.items c.self.inside.start c.self.inside.seen c.self.inside.end i.2 i.3 i.6 none), refl)

pub returns-then-to-from-gt-MOST_BYTES-clause-too_long : goal.returns-then-to-from-gt-MOST_BYTES-clause-too_long
returns-then-to-from-gt-MOST_BYTES-clause-too_long c =
    let there : position (λ b. b == 10) (slice_range c.self.inside.buffer.items c.self.inside.seen c.self.inside.end) ≡ Some c.in-Some.at = cc in
    let f = feed_at c.self.inside.buffer.items c.self.inside.start c.self.inside.seen c.self.inside.end c.in-Some.at c.self.invariant.2 c.self.invariant.3 c.self.invariant.4 c.self.invariant.6 there in
    λ is. over_at c.self.inside.buffer.items c.args.self.now.unread c.self.inside.start c.self.inside.end (c.self.inside.seen + c.in-Some.at) f (ap (λ r. r.unread) c.self.view_is) (omega (arith, c.if-to-from-gt-MOST_BYTES.true))

pub returns-clause-one : goal.returns-clause-one
returns-clause-one c =
    let i = c.self.invariant in
    let there : position (λ b. b == 10) (slice_range c.self.inside.buffer.items c.self.inside.seen c.self.inside.end) ≡ Some c.in-Some.at = cc in
    (feed_at c.self.inside.buffer.items c.self.inside.start c.self.inside.seen c.self.inside.end c.in-Some.at i.2 i.3 i.4 i.6 there).line

pub returns-clause-line : goal.returns-clause-line
returns-clause-line c =
    let there : position (λ b. b == 10) (slice_range c.self.inside.buffer.items c.self.inside.seen c.self.inside.end) ≡ Some c.in-Some.at = cc in
    let f = feed_at c.self.inside.buffer.items c.self.inside.start c.self.inside.seen c.self.inside.end c.in-Some.at c.self.invariant.2 c.self.invariant.3 c.self.invariant.4 c.self.invariant.6 there in
    λ is. whole_at c.self.inside.buffer.items c.args.self.now.unread c.self.inside.start c.self.inside.end (c.self.inside.seen + c.in-Some.at) f (ap (λ r. r.unread) c.self.view_is) (omega (arith, c.if-to-from-gt-MOST_BYTES.false))
