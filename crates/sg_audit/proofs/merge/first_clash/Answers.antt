use Rattle.std.proofs.Common.{◌≡◌, ◌<◌, sym, subst, ◌∙◌, arith, map, ℕ, false}
use Rattle.std.specs.Prelude.{Some, IsTrue}
use Rattle.sg_walk.specs.Model.{event_of}
use Rattle.sg_audit.specs.Merged.{moment, clashes}
use Rattle.sg_audit.proofs.Moments.{first_twice, no_clash, least_clash}
use Rattle.sg_audit.proofs.Neighbours.{twice_here, twice_next, twice_end}
use Rattle.sg_audit.proofs.merge.first_clash.Goals as goal

pub loop-next-preserved : goal.loop-next-preserved
loop-next-preserved c =
    c.loop-next.invariant
    ∙ twice_next event_of c.args.events.now c.loop-next.next c.index-events-next-in-loop-next.result c.index-events-next.result (omega arith) (omega arith) c.index-events-next-in-loop-next.is c.index-events-next.is
    (λ q. c.if-moment_of.false (c.moment_of.ensures ∙ q ∙ sym c.moment_of-in-loop-next.ensures))

pub returns-then-moment_of : goal.returns-then-moment_of
returns-then-moment_of c =
    let first : first_twice (map event_of c.args.events.now) ≡ Some (moment (event_of c.index-events-next.result)) =
    c.loop-next.invariant ∙ twice_here event_of c.args.events.now c.loop-next.next c.index-events-next-in-loop-next.result c.index-events-next.result (omega arith) (omega arith) c.index-events-next-in-loop-next.is c.index-events-next.is
    (sym c.moment_of.ensures ∙ c.if-moment_of.true ∙ c.moment_of-in-loop-next.ensures) in
    subst (λ t. IsTrue (clashes (map event_of c.args.events.now) t) × ((s : ℕ) → s < t → clashes (map event_of c.args.events.now) s ≡ false)) (sym c.time_of.ensures)
    (least_clash (moment (event_of c.index-events-next.result)) (map event_of c.args.events.now) c.requires first)

pub returns : goal.returns
returns c = no_clash (map event_of c.args.events.now) c.requires (c.loop-next.invariant ∙ twice_end event_of c.args.events.now c.loop-next.next (omega arith))
