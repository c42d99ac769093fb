use Rattle.std.proofs.Common.{Some, sym, ◌∙◌, ap, subst}
use Rattle.sg_protocol.specs.NodeStates.{NodeState, RepresentsPast}
use Rattle.sg_protocol.specs.Past.{node_of}
use Rattle.sg_node.proofs.Acts.{first_at}
use Rattle.sg_node.proofs.Indices.{some_none}
use Rattle.sg_node.proofs.GraphsOfSessions.{graph_with_sid, none_with_sid}
use Rattle.sg_node.proofs.node.Node.graph_of.Goals as goal

pub returns-in_default : goal.returns-in_default
returns-in_default c = λ past st. sym (none_with_sid c.self.inside c.self.invariant (node_of past) (subst (λ (z : NodeState). RepresentsPast z past) (sym c.self.view_is) st) c.args.sid.now (sym c.first.ensures ∙ c.in_default.is))

pub returns-in-Some-get : goal.returns-in-Some-get
returns-in-Some-get c = λ past st. ap (λ g. Some g) c.live_graph.ensures
    ∙ sym (graph_with_sid c.self.inside c.self.invariant (node_of past) (subst (λ (z : NodeState). RepresentsPast z past) (sym c.self.view_is) st) c.args.sid.now c.in-Some.index c.in-Some-get.live.now (sym c.in-Some.ensures) (sym c.in-Some-get.ensures))

-- the slot that was found isn't empty
pub returns-in-None : goal.returns-in-None
returns-in-None c = λ past st.
    let at = first_at c.self.inside c.self.invariant c.args.sid.now c.in-Some.index (sym c.in-Some.ensures) in
    some_none at.live (sym at.there ∙ sym c.in-None.ensures)
