use Rattle.std.proofs.Common.{◌≡◌, ◌*◌}
use Rattle.rand_chacha.specs.ChaCha.{key_of}
use Rattle.sg_base.specs.Seeded.{seeded_random}
use Rattle.sg_base.proofs.memory.fresh.MemFresh.new.Given as goal

abbrev pub invariant-loop : goal.invariant-loop
invariant-loop l = record {
  position : l.rng ≡ record { key = key_of l.fn.seed; stream = 0; word_pos = 4 * l.counter };
  drawn : l.drawn.items ≡ seeded_random l.fn.seed l.counter;
}
