use Rattle.std.proofs.Common.{ℕ, List, length, map, sym, ap, subst}
use Rattle.sg_model.proofs.Small.{clash}
use Rattle.sg_protocol.specs.Schedule.{Step}
use Rattle.sg_walk.specs.declared.stored.StoredWalk.{StoredWalk}
use Rattle.sg_world.specs.Walked.{WalksAreMade, sid_and_steps}
use Rattle.sg_world.proofs.PremiseLaws.{none_made}
use Rattle.sg_world.proofs.WalkLaws.{walks_made, made_ok}
use Rattle.sg_world.proofs.world.World.walks.Goals as goal

pub returns-clause-made : goal.returns-clause-made
returns-clause-made c =
    let u = c.in_ok-traces.ensures.unbroken in
    made_ok c.make_walks.result (λ walks. walks_made c.args.self.now u.compiled u.schedule c.requires c.in_ok-traces.traces c.in_ok-traces.ensures.traces (map sid_and_steps walks.items)) c.make_walks.ensures

pub returns-then-has_no_steps-clause-made : goal.returns-then-has_no_steps-clause-made
returns-then-has_no_steps-clause-made c =
    subst (λ (walks : List (List ℕ × StoredWalk)). WalksAreMade c.args.self.now (map sid_and_steps walks)) (sym c.new.ensures.items)
    (none_made c.args.self.now (c.has_no_steps.ensures.0 c.if-has_no_steps.true))

pub returns-clause-before_steps : goal.returns-clause-before_steps
returns-clause-before_steps c = λ e. clash c.has_no_steps.result (c.has_no_steps.ensures.1 (ap (λ (xs : List Step). length xs) e)) c.if-has_no_steps.false
