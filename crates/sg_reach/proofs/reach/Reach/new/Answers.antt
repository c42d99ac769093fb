use Rattle.std.proofs.Common.{length, arith, ◌<◌, ◌+◌, refl}
use Rattle.std.proofs.lemmas.List.{length-map, get_or_default}
use Rattle.std.proofs.lemmas.List.Sums.{count_by-le-length}
use Rattle.std.specs.Prelude.{is_some}
use Rattle.sg_protocol.specs.Graph.{shape}
use Rattle.sg_reach.specs.WalkEnd.{IsSearch}
use Rattle.sg_reach.proofs.Searching.{taken}
use Rattle.sg_reach.proofs.reach.Reach.new.Goals as goal

pub new-search-requires : goal.new-search-requires
new-search-requires c = omega (arith, c.requires, c.nodes-nodes.ensures.graph.sizes.2)

pub loop-search-init : goal.loop-search-init
loop-search-init c =
    let there : c.args.from < length (shape c.args.graph.now).roles = simp length-map c.requires in
    record { search = c.new-search.ensures.begins (shape c.args.graph.now) there; from = c.new-search.ensures.from; past = c.new-search.ensures.past }

pub follow-requires-clause-search : goal.follow-requires-clause-search
follow-requires-clause-search c =
    let s = c.loop-search.search in
    let x : IsSearch (shape c.args.graph.now) (λ _. ⊥) s = c.loop-search.invariant.search in
    let within : s.at < length s.queue = omega (arith, c.loop-search-test.true, x.found.counted, x.found.sizes.0, x.found.sizes.1, count_by-le-length is_some s.found) in
    rw (get_or_default s.queue s.at c.index-search-search.result 0 within) (taken (shape c.args.graph.now) s (s.at + 1) x c.loop-search-test.true refl)

pub follow-requires-clause-found : goal.follow-requires-clause-found
follow-requires-clause-found c =
    let s = c.loop-search.search in
    let x : IsSearch (shape c.args.graph.now) (λ _. ⊥) s = c.loop-search.invariant.search in
    let within : s.at < length s.queue = omega (arith, c.loop-search-test.true, x.found.counted, x.found.sizes.0, x.found.sizes.1, count_by-le-length is_some s.found) in
    rw (get_or_default s.queue s.at c.index-search-search.result 0 within) (x.found.queued s.at c.loop-search-test.true)

pub follow-requires-clause-there : goal.follow-requires-clause-there
follow-requires-clause-there c =
    let s = c.loop-search.search in
    let x : IsSearch (shape c.args.graph.now) (λ _. ⊥) s = c.loop-search.invariant.search in
    let within : s.at < length s.queue = omega (arith, c.loop-search-test.true, x.found.counted, x.found.sizes.0, x.found.sizes.1, count_by-le-length is_some s.found) in
    rw (get_or_default s.queue s.at c.index-search-search.result 0 within) (rw length-map at (x.found.there s.at c.loop-search-test.true))
