use Rattle.std.proofs.Common.{◌≡◌, ◌≤◌, ◌<◌, ℕ, List, length, take, sym, arith}
use Rattle.std.proofs.lemmas.List.{length-take, take_all}
use Rattle.sg_base.specs.Outside.{as_path}
use Rattle.sg_base.proofs.last_path.as_path.Goals as goal

-- so many of more are so many
cut : (n : ℕ) (xs : List ℕ) → n < length xs → n ≡ length (take n xs)
cut n xs more = let e = length-take n xs in omega (arith, e)

-- and never more
fits : (n : ℕ) (xs : List ℕ) → length (take n xs) ≤ n
fits n xs = let e = length-take n xs in omega (arith, e)

pub returns-then-name-le-MOST_BYTES-clause-path : goal.returns-then-name-le-MOST_BYTES-clause-path
unfolding as_path
returns-then-name-le-MOST_BYTES-clause-path c = sym (take_all 4095 c.args.name.now c.if-name-le-MOST_BYTES.true)

pub slice_bounds-result-end : goal.slice_bounds-result-end
slice_bounds-result-end c = cut 4095 c.args.name.now c.if-name-le-MOST_BYTES.false

pub returns-clause-fits : goal.returns-clause-fits
returns-clause-fits c = fits 4095 c.args.name.now
