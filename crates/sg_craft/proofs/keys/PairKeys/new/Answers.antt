use Rattle.std.proofs.Common.{ℕ, ◌<◌, sym, subst, List, length, take, All, arith}
use Rattle.sg_protocol.specs.Schedule.{PairKey}
use Rattle.sg_craft.specs.Invariant.{AreApart}
use Rattle.sg_craft.proofs.KeyLaws.{apart_before}
use Rattle.sg_craft.proofs.keys.PairKeys.new.Goals as goal

pub add-requires : goal.add-requires
add-requires c =
    let i : ℕ = c.loop-key.key-index in
    let lt : i < length c.args.keys.now = omega arith in
    let d : PairKey = c.key-item.result in
    subst (λ (ks : List PairKey). All (λ (k : PairKey). AreApart k d) ks) (sym c.loop-key.invariant)
    (subst (λ (x : PairKey). All (λ (k : PairKey). AreApart k x) (take i c.args.keys.now)) (sym c.key-item.is) (apart_before c.args.keys.now i d c.requires lt))
