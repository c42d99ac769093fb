use Rattle.std.proofs.Common.{◌≡◌, true, false, ◌&&◌, map, sym, ◌∙◌}
use Rattle.sg_model.specs.Lists.{is_in}
use Rattle.sg_walk.specs.Model.{event_of, steps_of}
use Rattle.sg_explain.proofs.Steps.{named}
use Rattle.sg_explain.proofs.Whole.{path_last, path_none, and_left, and_right}
use Rattle.sg_explain.proofs.part.check_part.Goals as goal
use Rattle.sg_explain.proofs.part.check_part.Goals.{then-not-sent-via-then-not-sent, then-not-sent-via-else-not-sent+then-not-received}

pub last_ends-sent-requires : goal.last_ends-sent-requires
last_ends-sent-requires c = named c.args.graph.now (steps_of c.args.walk.now) (c.is_stored_walk.ensures.0 c.if-not-is_stored_walk.false)

pub is_part-requires : goal.is_part-requires
is_part-requires c = named c.args.graph.now (steps_of c.args.walk.now) (c.is_stored_walk.ensures.0 c.if-not-is_stored_walk.false)

pub is_part-requires-2 : goal.is_part-requires-2
is_part-requires-2 c = named c.args.graph.now (steps_of c.args.walk.now) (c.is_stored_walk.ensures.0 c.if-not-is_stored_walk.false)

pub returns-then-not-sent : goal.returns-then-not-sent
returns-then-not-sent c =
    let missing : (c.last_ends-sent.result.0 && c.last_ends-sent.result.1) ≡ false =
    elim c.then-not-sent.branch [
      | then-not-sent-via-then-not-sent w ↦ and_left c.last_ends-sent.result.0 c.last_ends-sent.result.1 w.if-not-sent.true
      | then-not-sent-via-else-not-sent+then-not-received w ↦ and_right c.last_ends-sent.result.0 c.last_ends-sent.result.1 w.if-not-received.true
    ] in
    (λ t. absurd (cc), λ o. absurd (path_none c.args.graph.now (λ r. is_in r c.args.honest) (map event_of c.args.events.now) (steps_of c.args.walk.now) c.last_ends-sent.result.0 c.last_ends-sent.result.1 (c.last_ends-sent.ensures.sent, c.last_ends-sent.ensures.received) (λ p. let t = c.is_part.ensures.1 p in let f = c.if-is_part.false in let z : true ≡ false = sym t ∙ f in absurd (cc)) missing o))

pub returns : goal.returns
returns c = path_last c.args.graph.now (λ r. is_in r c.args.honest) (map event_of c.args.events.now) (steps_of c.args.walk.now) c.last_ends-sent.result.0 c.last_ends-sent.result.1 c.is_part-2.result (c.is_stored_walk.ensures.0 c.if-not-is_stored_walk.false) (c.last_ends-sent.ensures.sent, c.last_ends-sent.ensures.received) (λ p. let t = c.is_part.ensures.1 p in let f = c.if-is_part.false in let z : true ≡ false = sym t ∙ f in absurd (cc)) c.if-not-sent.false c.if-not-received.false c.is_part-2.ensures
