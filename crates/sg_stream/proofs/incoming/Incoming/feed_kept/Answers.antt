use Rattle.std.proofs.Common.{◌≡◌, ◌≢◌, ℕ, ◌<◌, ◌==◌, false, [], ◌++◌, length, get_or, set, sym, ap, ◌∙◌, arith, inl, inr}
use Rattle.std.proofs.lemmas.Bool.Decides.{eqb_tells}
use Rattle.std.proofs.lemmas.List.{length-set, get_or_default, get_or-set_same}
use Rattle.sg_stream.specs.Link.{IsPart}
use Rattle.sg_stream.proofs.Steps.{others_same, piece_fed, kept_some}
use Rattle.sg_stream.proofs.incoming.Incoming.feed_kept.Goals as goal

pub invariant_of-self : goal.invariant_of-self
invariant_of-self c =
    (rw length-set c.self.invariant.0, c.self.invariant.1, others_same c.self.inside.readers.items c.self.inside.last c.feed.new.self c.self.invariant.2, (λ some. absurd (some c.clear.ensures.items)))

pub invariant_of-self-in-Err : goal.invariant_of-self-in-Err
invariant_of-self-in-Err c =
    let within : c.self.inside.last < length c.self.inside.readers.items = omega (arith, c.self.invariant.1, c.self.invariant.0) in
    let here = get_or_default c.self.inside.readers.items c.self.inside.last [] c.index_mut.result.now within ∙ sym c.index_mut.ensures.value in
    let stays : get_or (set c.self.inside.readers.items c.self.inside.last c.feed.new.self) c.self.inside.last [] ≡ get_or c.self.inside.readers.items c.self.inside.last [] =
    get_or-set_same c.self.inside.readers.items c.self.inside.last c.feed.new.self [] within ∙ (c.in-Err.ensures.err ∙ sym here) in
    (rw length-set c.self.invariant.0, c.self.invariant.1, others_same c.self.inside.readers.items c.self.inside.last c.feed.new.self c.self.invariant.2, (λ some. rw stays (c.self.invariant.3 some)))

pub returns-in-Ok-clause-same : goal.returns-in-Ok-clause-same
returns-in-Ok-clause-same c = λ ps.
    let within : c.self.inside.last < length c.self.inside.readers.items = omega (arith, c.self.invariant.1, c.self.invariant.0) in
    let here = get_or_default c.self.inside.readers.items c.self.inside.last [] c.index_mut.result.now within ∙ sym c.index_mut.ensures.value in
    let empty : (length c.self.inside.kept.items == 0) ≡ false = ap (λ b. length b == 0) (sym c.as_slice-piece.ensures.value) ∙ (sym c.is_empty.ensures ∙ c.if-is_empty.false) in
    let some : c.self.inside.kept.items ≢ [] = λ e. absurd (cc) in
    let parts : (conn : ℕ) → IsPart (get_or c.self.inside.readers.items conn []) =
    λ conn. elim (eqb_tells conn c.self.inside.last) [
      | inl (e, is) ↦ rw is (c.self.invariant.3 some)
      | inr (e, differs) ↦ c.self.invariant.2 conn differs
    ] in
    let fed : c.feed.new.self ≡ get_or c.self.inside.readers.items c.self.inside.last [] ++ c.self.inside.kept.items = c.in-Ok.ensures.ok ∙ (ap (λ b. b ++ c.as_slice-piece.result.now) (sym here) ∙ ap (λ b. get_or c.self.inside.readers.items c.self.inside.last [] ++ b) c.as_slice-piece.ensures.value) in
    let kept = kept_some c.self.inside.last c.self.inside.kept.items some in
    rw (← c.self.view_is, c.clear.ensures.items, fed, kept) (piece_fed c.self.inside.readers.items c.self.inside.last c.self.inside.kept.items ps within parts empty)
