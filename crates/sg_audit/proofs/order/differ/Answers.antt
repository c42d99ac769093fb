use Rattle.std.proofs.Common.{◌≡◌, ◌<◌, ◌+◌, ◌-◌, ◌∙◌, ℕ, true, false, refl, sym, ap, subst, arith, drop, get_or}
use Rattle.std.specs.Prelude.{slice_set}
use Rattle.std.proofs.lemmas.List.{length-set}
use Rattle.sg_model.specs.Lists.{is_in}
use Rattle.sg_audit.specs.LineContents.{differ}
use Rattle.sg_audit.proofs.Orders.{vars, seen_none, seen_first, seen_twice, seen_more}
use Rattle.sg_audit.proofs.order.differ.Goals as goal

pub loop-left-init : goal.loop-left-init
loop-left-init g c = (omega arith, refl, seen_none c.args.pairs.now, λ x b. seen_first c.args.pairs.now x b)

pub returns-then-seen-index : goal.returns-then-seen-index
returns-then-seen-index g c =
    let at : c.index_of-index.result ≡ c.index-pairs-left.result.0 = c.index_of-index.ensures.index ∙ ap (λ q. q.0) (sym c.index-pairs-left.is) in
    let up : c.loop-left.left ≡ c.loop-left.left - 1 + 1 = omega arith in
    sym (seen_twice c.args.pairs.now c.loop-left.seen (c.loop-left.left - 1) c.index-pairs-left.result (omega arith) c.index-pairs-left.is (subst (λ n. n < 256) at c.index_of-index.ensures.within)
    (subst (λ n. (x : ℕ) → x < 256 → get_or c.loop-left.seen x false ≡ is_in x (vars (drop n c.args.pairs.now))) up c.loop-left.invariant.3)
    (subst (λ n. get_or c.loop-left.seen n false ≡ true) at c.if-seen-index.true))

pub loop-left-preserved : goal.loop-left-preserved
loop-left-preserved g c =
    let at : c.index_of-index.result ≡ c.index-pairs-left.result.0 = c.index_of-index.ensures.index ∙ ap (λ q. q.0) (sym c.index-pairs-left.is) in
    let up : c.loop-left.left ≡ c.loop-left.left - 1 + 1 = omega arith in
    let more = seen_more c.args.pairs.now c.loop-left.seen (c.loop-left.left - 1) c.index-pairs-left.result (omega arith) c.index-pairs-left.is (subst (λ n. n < 256) at c.index_of-index.ensures.within) c.loop-left.invariant.1
    (subst (λ n. differ (vars (drop n c.args.pairs.now)) ≡ true) up c.loop-left.invariant.2)
    (subst (λ n. (x : ℕ) → x < 256 → get_or c.loop-left.seen x false ≡ is_in x (vars (drop n c.args.pairs.now))) up c.loop-left.invariant.3)
    (subst (λ n. get_or c.loop-left.seen n false ≡ false) at c.if-seen-index.false) in (
      omega arith,
      length-set c.loop-left.seen c.index_of-index.result true ∙ c.loop-left.invariant.1,
      more.0,
      subst (λ n. (x : ℕ) → x < 256 → get_or (slice_set c.loop-left.seen n true) x false ≡ is_in x (vars (drop (c.loop-left.left - 1) c.args.pairs.now))) (sym at) more.1,
    )

pub returns : goal.returns
returns g c = let z : c.loop-left.left ≡ 0 = omega arith in sym (subst (λ n. differ (vars (drop n c.args.pairs.now)) ≡ true) z c.loop-left.invariant.2)
