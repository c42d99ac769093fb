use Rattle.std.proofs.Common.{sym, ◌∙◌, ap, subst}
use Rattle.std.specs.List.{AllByRecursion}
use Rattle.sg_protocol.specs.Calls.{Abandon}
use Rattle.sg_protocol.specs.IsSchedule.{IsProgram}
use Rattle.sg_protocol.specs.NodeStates.{NodeState, IsReachableLive, RepresentsPast, state_after}
use Rattle.sg_protocol.specs.Past.{node_of}
use Rattle.sg_protocol.specs.Texts.{real}
use Rattle.sg_node.specs.Answers.{GoesOn}
use Rattle.sg_node.specs.Slots.{held_in}
use Rattle.sg_node.specs.Invariant.{node_state}
use Rattle.sg_node.proofs.Acts.{first_at}
use Rattle.sg_node.proofs.Going.{all_reachable, goes_on}
use Rattle.sg_node.proofs.Leaving.{not_abandoned, abandoned, left}
use Rattle.sg_node.proofs.node.Node.abandon.Goals as goal

pub take-live-requires : goal.take-live-requires
take-live-requires c = (first_at c.self.inside c.self.invariant c.args.sid c.in-Some.index (sym c.in-Some.ensures)).within

pub returns-in_default-clause-state : goal.returns-in_default-clause-state
returns-in_default-clause-state c = λ past st. goes_on c.args.self.now c.args.self.now (Abandon c.args.sid) past (subst (λ (z : NodeState). AllByRecursion (IsProgram real) z.programs) c.self.view_is c.self.invariant.programs) (subst (λ (z : NodeState). AllByRecursion (IsReachableLive real z.programs) z.live) c.self.view_is (all_reachable c.self.inside c.self.invariant)) tt st
    (ap (state_after c.args.self.now (Abandon c.args.sid)) (sym (not_abandoned c.self.inside c.self.invariant (node_of past) (subst (λ (z : NodeState). RepresentsPast z past) (sym c.self.view_is) st) c.args.sid (sym c.first.ensures ∙ c.in_default.is))))

pub returns-clause-state : goal.returns-clause-state
returns-clause-state c = λ past st. subst (λ (z : NodeState). GoesOn z (record { keys = c.self.inside.keys; programs = c.self.inside.programs.now; joins = c.self.inside.joins.pairs; live = held_in c.take-live.new.self.slots }) (Abandon c.args.sid) past) c.self.view_is
    (goes_on (node_state c.self.inside) (record { keys = c.self.inside.keys; programs = c.self.inside.programs.now; joins = c.self.inside.joins.pairs; live = held_in c.take-live.new.self.slots }) (Abandon c.args.sid) past c.self.invariant.programs (all_reachable c.self.inside c.self.invariant) tt (subst (λ (z : NodeState). RepresentsPast z past) (sym c.self.view_is) st)
    (ap (λ z. record { keys = c.self.inside.keys; programs = c.self.inside.programs.now; joins = c.self.inside.joins.pairs; live = held_in z }) c.take-live.ensures.slots ∙ ap (λ hs. record { keys = c.self.inside.keys; programs = c.self.inside.programs.now; joins = c.self.inside.joins.pairs; live = hs }) (left c.self.inside c.self.invariant c.args.sid c.in-Some.index (sym c.in-Some.ensures))
    ∙ ap (state_after (node_state c.self.inside) (Abandon c.args.sid)) (sym (abandoned c.self.inside c.self.invariant (node_of past) (subst (λ (z : NodeState). RepresentsPast z past) (sym c.self.view_is) st) c.args.sid c.in-Some.index (sym c.in-Some.ensures)))))

pub returns-in_default-clause-answer : goal.returns-in_default-clause-answer
returns-in_default-clause-answer c = λ past st. not_abandoned c.self.inside c.self.invariant (node_of past) (subst (λ (z : NodeState). RepresentsPast z past) (sym c.self.view_is) st) c.args.sid (sym c.first.ensures ∙ c.in_default.is)

pub returns-clause-answer : goal.returns-clause-answer
returns-clause-answer c = λ past st. abandoned c.self.inside c.self.invariant (node_of past) (subst (λ (z : NodeState). RepresentsPast z past) (sym c.self.view_is) st) c.args.sid c.in-Some.index (sym c.in-Some.ensures)
