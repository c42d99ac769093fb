use Rattle.std.proofs.Common.{ap, not, sym, ◌∙◌, subst, MatchBool}
use Rattle.sg_world.specs.Walked.{PremisesHold}
use Rattle.sg_world.proofs.ReportText.{collision_says, forged_breaks, not_not}
use Rattle.sg_world.proofs.world.World.is_unbroken.Goals as goal

pub returns-then-is_some : goal.returns-then-is_some
returns-then-is_some c = forged_breaks c.args.self.now (λ f. (f.step, f.note.now)) c.in_ok-forged.field-0 c.in_ok-forged.ensures.found (sym c.is_some.ensures ∙ c.if-is_some.true)

pub returns : goal.returns
returns c =
    subst (λ b. MatchBool b (PremisesHold c.args.self.now) (PremisesHold c.args.self.now → ⊥)) (ap not c.is_none.ensures ∙ not_not c.is_none.result)
    (collision_says c.args.self.now (λ f. (f.step, f.note.now)) (λ k. (k.one.now, k.other.now)) c.in_ok-forged.field-0 c.in_ok-collision.field-0 c.in_ok-forged.ensures.found (sym c.is_some.ensures ∙ c.if-is_some.false) c.in_ok-collision.ensures.found)
