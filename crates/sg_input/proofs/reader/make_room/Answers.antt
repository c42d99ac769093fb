use Rattle.std.proofs.Common.{◌≡◌, ◌+◌, ◌-◌, take, slice_range, ap, ◌∙◌, refl, arith}
use Rattle.sg_input.proofs.Buffer.{kept_part}
use Rattle.sg_input.proofs.reader.make_room.Goals as goal

pub returns-then-start-eq0-clause-same : goal.returns-then-start-eq0-clause-same
returns-then-start-eq0-clause-same c =
    (kept_part c.args.buffer.now.items c.args.start c.args.end c.kept_bytes-count.result _ c.requires.within c.requires.fits c.requires.no_feed c.kept_bytes-count.ensures.within c.kept_bytes-count.ensures.enough refl).1

pub returns-clause-no_feed : goal.returns-clause-no_feed
returns-clause-no_feed c =
    let all : c.kept_bytes-count.result - 0 ≡ c.kept_bytes-count.result = omega arith in
    let prefix : slice_range c.move_prefix.new.buffer.items 0 c.kept_bytes-count.result ≡ slice_range c.args.buffer.now.items c.args.start (c.args.start + c.kept_bytes-count.result) = ap (λ k. take k c.move_prefix.new.buffer.items) all ∙ c.move_prefix.ensures.moved in
    (kept_part c.args.buffer.now.items c.args.start c.args.end c.kept_bytes-count.result (slice_range c.move_prefix.new.buffer.items 0 c.kept_bytes-count.result) c.requires.within c.requires.fits c.requires.no_feed c.kept_bytes-count.ensures.within c.kept_bytes-count.ensures.enough prefix).0

pub returns-clause-same : goal.returns-clause-same
returns-clause-same c =
    let all : c.kept_bytes-count.result - 0 ≡ c.kept_bytes-count.result = omega arith in
    let prefix : slice_range c.move_prefix.new.buffer.items 0 c.kept_bytes-count.result ≡ slice_range c.args.buffer.now.items c.args.start (c.args.start + c.kept_bytes-count.result) = ap (λ k. take k c.move_prefix.new.buffer.items) all ∙ c.move_prefix.ensures.moved in
    (kept_part c.args.buffer.now.items c.args.start c.args.end c.kept_bytes-count.result (slice_range c.move_prefix.new.buffer.items 0 c.kept_bytes-count.result) c.requires.within c.requires.fits c.requires.no_feed c.kept_bytes-count.ensures.within c.kept_bytes-count.ensures.enough prefix).1
