use Rattle.std.proofs.Common.{◌≡◌, ℕ, ◌<◌, true, List, length, get_or, drop, Err, sym, subst, ap, ◌∙◌, arith}
use Rattle.std.specs.Prelude.{Some, slice_get}
use Rattle.std.proofs.lemmas.Result.{err_from_is_err_and}
use Rattle.sg_parse.specs.Parts.{Use, Part, IsUse, AreParts}
use Rattle.sg_compose.specs.Expansion.{extended, roles_fit}
use Rattle.sg_compose.proofs.FirstUse.{first-is, first-split, first-there, graph-before, refused-at, suits-at}
use Rattle.sg_compose.proofs.Steps.{part-there}
use Rattle.sg_compose.proofs.expansion.check_first_use.Goals as goal

-- the first use of a part, as a slice gives it, is one of the part's
first-fits : (ps : List Part) (i : ℕ) (p : Part) (us : List Use) (u : Use) → AreParts ps → i < length ps → p ≡ get_or ps i p → p.uses ≡ us → 0 < length us → u ≡ get_or us 0 u
    → (slice_get p.uses 0 ≡ Some u) × IsUse i p.graph u
first-fits ps i p us u are l at same some first =
    let there = first-there p.uses us u same some first in
    (there, first-is (IsUse i p.graph) p.uses u (part-there ps i p are l at).uses there)

pub part_at-inner-requires : goal.part_at-inner-requires
part_at-inner-requires c =
    let fits = first-fits c.args.parts.now c.loop-part.part-index c.part-item.result c.as_slice.result.now c.in-Some.used.now c.requires c.loop-part-test.true c.part-item.is
    (ap (λ (p : Part). p.uses) (sym c.part.view_is) ∙ sym c.as_slice.ensures) c.in-Some.ensures.lookup.3.0 c.in-Some.ensures.lookup.1 in
    omega (arith, (fits.1).part, c.loop-part-test.true, ap (λ (u : Use). u.part) c.used.view_is)

pub check_use-requires : goal.check_use-requires
check_use-requires c =
    let fits = first-fits c.args.parts.now c.loop-part.part-index c.part-item.result c.as_slice.result.now c.in-Some.used.now c.requires c.loop-part-test.true c.part-item.is
    (ap (λ (p : Part). p.uses) (sym c.part.view_is) ∙ sym c.as_slice.ensures) c.in-Some.ensures.lookup.3.0 c.in-Some.ensures.lookup.1 in
    let same = sym (ap (λ (p : Part). p.graph) c.part.view_is) in
    record {
      from = subst (λ g. c.in-Some.used.now.from < length g.nodes) same (fits.1).from;
      to = subst (λ g. c.in-Some.used.now.to < length g.nodes) same (fits.1).to;
    }

pub returns-in_err-check_use-clause-refused : goal.returns-in_err-check_use-clause-refused
returns-in_err-check_use-clause-refused c =
    let r = err_from_is_err_and c.from_residual.result c.from_residual.ensures.1 in
    let ps = c.args.parts.now in
    let i = c.loop-part.part-index in
    let p = c.part-item.result in
    let u = c.in-Some.used.now in
    let fits = first-fits ps i p c.as_slice.result.now u c.requires c.loop-part-test.true c.part-item.is (ap (λ (p : Part). p.uses) (sym c.part.view_is) ∙ sym c.as_slice.ensures) c.in-Some.ensures.lookup.3.0 c.in-Some.ensures.lookup.1 in
    let is = graph-before ps i u.part c.part_at-inner.result.now (fits.1).part (ap (λ (u : Use). slice_get ps u.part) (sym c.used.view_is) ∙ c.part_at-inner.ensures) ∙ sym (ap (λ (p : Part). p.graph) c.inner.view_is) in
    let refused : extended p.graph.name p.graph c.inner.inside.graph u ≡ Err c.in_err-check_use.field-0.0 =
    ap (λ g. extended p.graph.name g c.inner.inside.graph u) (sym (ap (λ (p : Part). p.graph) c.part.view_is)) ∙ c.in_err-check_use.ensures.refused in
    rw (r.1, r.2) (refused-at ps i p c.loop-part-test.true c.part-item.is u (drop 1 p.uses) c.inner.inside.graph c.in_err-check_use.field-0.0 (first-split p.uses u fits.0) is refused c.loop-part.invariant.so_far)

pub returns-in-Some-clause-suits : goal.returns-in-Some-clause-suits
returns-in-Some-clause-suits c =
    let ps = c.args.parts.now in
    let i = c.loop-part.part-index in
    let p = c.part-item.result in
    let u = c.in-Some.used.now in
    let m = c.in_ok-check_use.field-0 in
    let fits = first-fits ps i p c.as_slice.result.now u c.requires c.loop-part-test.true c.part-item.is (ap (λ (p : Part). p.uses) (sym c.part.view_is) ∙ sym c.as_slice.ensures) c.in-Some.ensures.lookup.3.0 c.in-Some.ensures.lookup.1 in
    let is = graph-before ps i u.part c.part_at-inner.result.now (fits.1).part (ap (λ (u : Use). slice_get ps u.part) (sym c.used.view_is) ∙ c.part_at-inner.ensures) ∙ sym (ap (λ (p : Part). p.graph) c.inner.view_is) in
    let roles : roles_fit p.graph c.inner.inside.graph u m ≡ true = ap (λ g. roles_fit g c.inner.inside.graph u m) (sym (ap (λ (p : Part). p.graph) c.part.view_is)) ∙ c.in_ok-check_use.ensures.roles in
    suits-at ps i p c.loop-part-test.true c.part-item.is u (drop 1 p.uses) c.inner.inside.graph m (first-split p.uses u fits.0) is c.in_ok-check_use.ensures.end roles c.in_ok-check_use.ensures.names c.loop-part.invariant.suits
