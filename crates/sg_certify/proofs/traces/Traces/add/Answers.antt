use Rattle.std.proofs.Common.{◌≡◌, ◌<◌, All, List, ℕ, [], ◌∷◌, ◌++◌, length, sym, ◌∙◌, ap, subst, inr}
use Rattle.std.specs.Prelude.{Some, slice_get}
use Rattle.sg_model.specs.Lists.{has_text}
use Rattle.sg_protocol.specs.Calls.{sid_of}
use Rattle.sg_protocol.specs.Graph.{Graph}
use Rattle.sg_walk.specs.Model.{event_of}
use Rattle.sg_certify.specs.Adding.{IsAdded, begun}
use Rattle.sg_certify.specs.Traces.{Traces}
use Rattle.sg_certify.proofs.Going.{keys}
use Rattle.sg_certify.proofs.Taking.{on_ok}
use Rattle.sg_certify.proofs.traces.Traces.add.Goals as goal

-- the session's trace has the graph, along whose edges the walk goes
pub add_at-requires-clause-there : goal.add_at-requires-clause-there
add_at-requires-clause-there c =
    let trace = c.in-Some.ensures.1 in
    let at = c.in-Some.ensures.2 ∙ ap (λ (k : List ℕ). Some (k, trace)) c.sid_of.ensures in
    let graph = c.requires.graph c.in-Some.index trace (ap (λ (es : Traces). slice_get es c.in-Some.index) (sym c.self.view_is) ∙ at) in
    (trace, at, subst (λ (g : Graph). All (λ e. e < length g.edges) c.args.walk.now) (sym graph) c.requires.edges)

pub returns-in-None-clause-added : goal.returns-in-None-clause-added
returns-in-None-clause-added c =
    let e = event_of c.args.event.now in
    let walk = c.args.walk.now in
    let es = c.self.inside.table.entries in
    let now = c.begin.new.table.entries in
    on_ok (now ≡ es ++ (sid_of e, begun c.args.graph.now c.args.honest e walk) ∷ []) (IsAdded c.args.graph.now c.args.honest e walk c.args.self.now now) c.begin.result
    (λ more. subst (λ (old : Traces). IsAdded c.args.graph.now c.args.honest e walk old now) c.self.view_is
    (inr (ap (λ k. has_text k (keys es)) (sym c.sid_of.ensures) ∙ c.in-None.ensures, more)))
    c.begin.ensures.ok
