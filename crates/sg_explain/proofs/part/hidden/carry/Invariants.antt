use Rattle.std.proofs.Common.{◌≡◌, ℕ, ◌<◌, nat_lt, false, ◌&&◌, ◌||◌, get_or, length}
use Rattle.sg_model.specs.Lists.{is_in}
use Rattle.sg_explain.proofs.part.hidden.carry.Given as goal

abbrev pub invariant-loop-number : goal.invariant-loop-number
invariant-loop-number l = record {
  wide : length l.carried ≡ 32;
  carries : (x : ℕ) → x < 32 → get_or l.carried x false ≡ ((nat_lt x l.number && is_in x l.vars) || get_or l.initial.carried x false);
}
