use Rattle.std.proofs.Common.{◌≡◌, ◌+◌, ◌++◌, ℕ, List, Ok, length, slice_range, ap, ◌∙◌, arith}
use Rattle.sg_input.specs.Lines.{lines_of, lines_left}
use Rattle.sg_input.proofs.Buffer.{parts, same_part, length_part}
use Rattle.sg_input.proofs.Left.{left_filled, left_kept, left_none}
use Rattle.sg_input.proofs.reader.LineReader.fill.Goals as goal

pub invariant_of-self : goal.invariant_of-self
invariant_of-self g c =
    let k = c.make_room-kept.ensures in
    let r = c.read_behind.ensures in
    let same = same_part c.read_behind.new.buffer.items c.make_room-kept.new.buffer.items c.make_room-kept.result.start c.make_room-kept.result.end k.within r.prefix in
    (omega arith, omega arith, k.within, omega arith, c.in-Ok.ensures.fits, r.whole ∙ k.whole, rw same k.no_feed)

pub invariant_of-self-in-Err : goal.invariant_of-self-in-Err
invariant_of-self-in-Err g c =
    let k = c.make_room-kept.ensures in
    let r = c.read_behind.ensures in
    let same = same_part c.read_behind.new.buffer.items c.make_room-kept.new.buffer.items c.make_room-kept.result.start c.make_room-kept.result.end k.within r.prefix in
    (omega arith, omega arith, k.within, omega arith, omega (arith, r.whole, k.room), r.whole ∙ k.whole, rw same k.no_feed)

pub returns-in-Ok-clause-same : goal.returns-in-Ok-clause-same
returns-in-Ok-clause-same g c =
    let k = c.make_room-kept.ensures in
    let r = c.read_behind.ensures in
    let kept : List ℕ = slice_range c.make_room-kept.new.buffer.items c.make_room-kept.result.start c.make_room-kept.result.end in
    let prefix : List ℕ = slice_range c.read_behind.new.buffer.items c.make_room-kept.result.end (c.make_room-kept.result.end + c.in-Ok.count) in
    let same = same_part c.read_behind.new.buffer.items c.make_room-kept.new.buffer.items c.make_room-kept.result.start c.make_room-kept.result.end k.within r.prefix in
    let two = parts c.read_behind.new.buffer.items c.make_room-kept.result.start c.make_room-kept.result.end (c.make_room-kept.result.end + c.in-Ok.count) k.within (omega arith) in
    let unread : slice_range c.self.inside.buffer.items c.self.inside.start c.self.inside.end ≡ c.args.self.now.unread = ap (λ u. u.unread) c.self.view_is in
    let lines : (more : List ℕ) → lines_of (kept ++ more) ≡ lines_of (c.args.self.now.unread ++ more) = λ more. k.same more ∙ ap (λ u. lines_of (u ++ more)) unread in
    let long : length prefix ≡ c.in-Ok.count = length_part c.read_behind.new.buffer.items c.make_room-kept.result.end (c.make_room-kept.result.end + c.in-Ok.count) (omega arith) c.in-Ok.ensures.fits ∙ omega arith in
    ap (λ u. lines_left u (g.I.Input.coming c.read_behind.new.input)) (two ∙ ap (λ p. p ++ prefix) same)
    ∙ left_filled c.args.self.now.unread kept prefix c.in-Ok.count (g.I.Input.coming c.args.input.now) (g.I.Input.coming c.read_behind.new.input) lines c.in-Ok.ensures.first c.in-Ok.ensures.taken long

pub returns-in-Ok-clause-at_end : goal.returns-in-Ok-clause-at_end
returns-in-Ok-clause-at_end g c =
    λ end.
    let zero : c.in-Ok.count ≡ 0 = cc in
    let is : c.read_behind.result ≡ Ok 0 = cc in
    left_none c.args.self.now.unread (g.I.Input.coming c.args.input.now) c.requires (c.read_behind.ensures.at_end is)

pub returns-in-Err-clause-same : goal.returns-in-Err-clause-same
returns-in-Err-clause-same g c =
    let k = c.make_room-kept.ensures in
    let r = c.read_behind.ensures in
    let kept : List ℕ = slice_range c.make_room-kept.new.buffer.items c.make_room-kept.result.start c.make_room-kept.result.end in
    let same = same_part c.read_behind.new.buffer.items c.make_room-kept.new.buffer.items c.make_room-kept.result.start c.make_room-kept.result.end k.within r.prefix in
    let unread : slice_range c.self.inside.buffer.items c.self.inside.start c.self.inside.end ≡ c.args.self.now.unread = ap (λ u. u.unread) c.self.view_is in
    let lines : (more : List ℕ) → lines_of (kept ++ more) ≡ lines_of (c.args.self.now.unread ++ more) = λ more. k.same more ∙ ap (λ u. lines_of (u ++ more)) unread in
    ap (λ u. lines_left u (g.I.Input.coming c.read_behind.new.input)) same
    ∙ left_kept c.args.self.now.unread kept (g.I.Input.coming c.args.input.now) (g.I.Input.coming c.read_behind.new.input) lines c.in-Err.ensures.kept
