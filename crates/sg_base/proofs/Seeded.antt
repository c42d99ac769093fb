use Rattle.std.proofs.Common.{◌≡◌, refl, ◌+◌, ◌*◌, ◌<◌, ◌%◌, ◌^◌, ℕ, List, [], ◌∷◌, ◌++◌, arith}
use Rattle.std.proofs.lemmas.List.{map-append}
use Rattle.rand_core.specs.Steps.{fill_via_u32, word_bytes}
use Rattle.rand_chacha.specs.ChaCha.{ChaCha, next_word, key_of}
use Rattle.sg_model.specs.Lists.{below}
use Rattle.sg_model.proofs.Numbers.{below-suc}
use Rattle.sg_base.specs.Seeded.{stream_draw, seeded_random}

-- four words from a generator that does not wrap
pub next_four : (g : ChaCha) → g.word_pos + 4 < 2 ^ 68
    → fill_via_u32 (next_word 10) 16 g ≡ (stream_draw g.key g.stream g.word_pos, record g { word_pos = g.word_pos + 4 })
unfolding word_bytes
next_four g small =
    let one : (g.word_pos + 1) % 2 ^ 68 ≡ g.word_pos + 1 = omega arith in
    let two : (g.word_pos + 1 + 1) % 2 ^ 68 ≡ g.word_pos + 2 = omega arith in
    let three : (g.word_pos + 2 + 1) % 2 ^ 68 ≡ g.word_pos + 3 = omega arith in
    let four : (g.word_pos + 3 + 1) % 2 ^ 68 ≡ g.word_pos + 4 = omega arith in
    rw (one, two, three, four) refl

-- sixteen bytes more of a seed
pub seeded_random-suc : (seed : List ℕ) (n : ℕ)
    → seeded_random seed (n + 1) ≡ seeded_random seed n ++ stream_draw (key_of seed) 0 (4 * n) ∷ []
seeded_random-suc seed n =
    rw (below-suc n) (map-append (λ i. stream_draw (key_of seed) 0 (4 * i)) (below n) (n ∷ []))
