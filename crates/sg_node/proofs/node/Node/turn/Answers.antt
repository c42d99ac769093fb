use Rattle.std.proofs.Common.{true, Option, option_and_then, Some, sym, ◌∙◌, ap, subst}
use Rattle.sg_model.proofs.Small.{clash}
use Rattle.sg_protocol.specs.NodeStates.{NodeState, RepresentsPast}
use Rattle.sg_protocol.specs.Past.{node_of}
use Rattle.sg_node.specs.Slots.{state_in, is_live}
use Rattle.sg_node.specs.declared.sessions.Live.{Live}
use Rattle.sg_node.proofs.Indices.{live_at}
use Rattle.sg_node.proofs.Turning.{turn_is, turn_at, at_its_turn}
use Rattle.sg_node.proofs.node.Node.turn.Goals as goal

pub returns-in_default : goal.returns-in_default
returns-in_default c = λ past st. sym (turn_is c.self.inside c.self.invariant (node_of past) (subst (λ (z : NodeState). RepresentsPast z past) (sym c.self.view_is) st) c.args.sid ∙ ap (turn_at c.self.inside.sessions.slots) (sym c.first.ensures ∙ c.in_default.is))

pub returns-in-Some-AtTurn : goal.returns-in-Some-AtTurn
returns-in-Some-AtTurn c = λ past st. sym (turn_is c.self.inside c.self.invariant (node_of past) (subst (λ (z : NodeState). RepresentsPast z past) (sym c.self.view_is) st) c.args.sid ∙ ap (turn_at c.self.inside.sessions.slots) (sym c.in-Some.ensures)
    ∙ ap (λ (o : Option Live). option_and_then (λ l. Some (state_in l).held.kept.place) o) (sym c.in-Some-AtTurn.ensures ∙ ap (λ z. Some z) c.in-Some-AtTurn.field-0-is)
    ∙ ap (λ z. Some z) (sym c.node.ensures.node))

pub returns-in-Some-Waiting : goal.returns-in-Some-Waiting
returns-in-Some-Waiting c = λ past st. clash (is_live true (live_at c.self.inside.sessions.slots c.in-Some.index)) (at_its_turn c.args.sid c.self.inside.sessions.slots c.in-Some.index (sym c.in-Some.ensures)) (ap (is_live true) (sym c.in-Some-Waiting.ensures ∙ ap (λ z. Some z) c.in-Some-Waiting.field-0-is))

pub returns-in-None : goal.returns-in-None
returns-in-None c = λ past st. clash (is_live true (live_at c.self.inside.sessions.slots c.in-Some.index)) (at_its_turn c.args.sid c.self.inside.sessions.slots c.in-Some.index (sym c.in-Some.ensures)) (ap (is_live true) (sym c.in-None.ensures))
