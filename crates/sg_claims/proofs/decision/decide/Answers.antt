use Rattle.std.proofs.Common.{◌≡◌, false, ◌<◌, ◌≤◌, ℕ, List, ◌∷◌, [], ◌++◌, length, sym, subst, arith}
use Rattle.std.proofs.lemmas.List.{get_or_read}
use Rattle.sg_protocol.specs.Graph.{shape}
use Rattle.sg_claims.specs.Breaks.{IsFirstBreak}
use Rattle.sg_claims.specs.Search.{entry_at, AreWalks, IsLeastWrong}
use Rattle.sg_claims.specs.declared.search.Entry.{Entry}
use Rattle.sg_claims.proofs.First.{holds_at_end, first_break}
use Rattle.sg_claims.proofs.Walked.{walk_of, have_walks}
use Rattle.sg_claims.proofs.decision.decide.Goals as goal

pub returns-in-Some : goal.returns-in-Some
returns-in-Some c =
    let g = shape c.args.graph.now in
    let claim = c.args.claim.now in
    let at = c.loop-at.at in
    let entries = c.loop-at.search.entries.items in
    let x = c.loop-at.invariant in
    let within : at < length entries = omega (arith, c.loop-at-test.true, c.len.ensures) in
    let walks = have_walks entries (λ i p l. (x.found.led i p l).earlier) in
    let here : entry_at entries at ≡ c.index-entry.result.now = sym (get_or_read entries at c.index-entry.result.now within c.index-entry.ensures (record { node = 0; bit = false; from = 0; last = 0 })) in
    let least : IsLeastWrong g claim (entry_at entries at).node (entry_at entries at).bit c.in-Some.label = subst (λ (y : Entry). IsLeastWrong g claim y.node y.bit c.in-Some.label) (sym here) c.in-Some.ensures.some in
    let first : IsFirstBreak g claim (walk_of entries at ++ c.in-Some.label ∷ []) = first_break g claim at entries c.loop-at.search.seen x (walk_of entries) walks c.in-Some.label within least in
    let walk : c.in_ok-walk.walk.items ≡ walk_of entries at ++ c.in-Some.label ∷ [] = c.in_ok-walk.ensures (walk_of entries) (subst (λ (es : List Entry). AreWalks es (walk_of entries)) (sym c.as_slice.ensures.value) walks) in
    subst (λ (ls : List ℕ). IsFirstBreak g claim ls) (sym walk) first

pub returns : goal.returns
returns c =
    let entries = c.loop-at.search.entries.items in
    let x = c.loop-at.invariant in
    let over : length entries ≤ c.loop-at.at = omega (arith, c.loop-at-test.false, c.len.ensures) in
    holds_at_end (shape c.args.graph.now) c.args.claim.now c.loop-at.at entries c.loop-at.search.seen x (walk_of entries) (have_walks entries (λ i p l. (x.found.led i p l).earlier)) over
