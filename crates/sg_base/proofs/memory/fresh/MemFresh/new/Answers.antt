use Rattle.std.proofs.Common.{◌≡◌, ◌+◌, ◌*◌, refl, arith}
use Rattle.rand_chacha.specs.ChaCha.{key_of}
use Rattle.sg_base.specs.Seeded.{stream_draw}
use Rattle.sg_base.proofs.Seeded.{seeded_random-suc}
use Rattle.sg_base.proofs.memory.fresh.MemFresh.new.Goals as goal

pub loop-preserved : goal.loop-preserved
loop-preserved c =
    let more = seeded_random-suc c.args.seed c.loop.counter in
    let step : 4 * c.loop.counter + 4 ≡ 4 * (c.loop.counter + 1) = omega arith in
    let bytes : c.draw.result ≡ stream_draw (key_of c.args.seed) 0 (4 * c.loop.counter) =
    rw c.loop.invariant.position at c.draw.ensures.drawn in
    record {
      position = rw (c.draw.ensures.position, c.loop.invariant.position) (λ i. record { key = key_of c.args.seed; stream = 0; word_pos = step i });
      drawn = rw (c.in_ok-push_back.ensures.items, c.loop.invariant.drawn, bytes, more) refl;
    }
