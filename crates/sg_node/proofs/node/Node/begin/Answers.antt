use Rattle.std.proofs.Common.{◌≡◌, true, false, None, Some, refl, sym, subst, rules}
use Rattle.std.specs.List.{AllByRecursion}
use Rattle.sg_protocol.specs.Acting.{answer_start}
use Rattle.sg_protocol.specs.Calls.{Start, NotStarted}
use Rattle.sg_protocol.specs.Calls as Protocol
use Rattle.sg_protocol.specs.IsSchedule.{IsProgram}
use Rattle.sg_protocol.specs.Node.{starter, is_cast, stranger}
use Rattle.sg_protocol.specs.NodeStates.{NodeState, IsReachableLive, RepresentsPast, state_after}
use Rattle.sg_protocol.specs.Past.{Past, node_of}
use Rattle.sg_protocol.specs.Texts.{real}
use Rattle.sg_node.proofs.Going.{all_reachable, goes_on}
use Rattle.sg_protocol.specs.Named.{graph_of_call}
use Rattle.sg_node.specs.Answers.{GoesOn}
use Rattle.sg_node.proofs.Receipts.{in_err, on_ok}
use Rattle.sg_node.proofs.Starts.{bad_cast, no_key, no_starter, refused_start, same_graph, start_graph, start_may}
use Rattle.sg_node.proofs.node.Node.begin.Goals as goal

pub returns-in_default : goal.returns-in_default
returns-in_default c =
    let none : starter c.args.self.now.programs c.args.cast.graph ≡ None = search rules in
    let all : (past : Past) → RepresentsPast c.args.self.now past → answer_start real (node_of past) c.args.cast ≡ NotStarted Protocol.StartFault.UnknownGraph = λ past st.
    no_starter (node_of past) c.args.cast (subst (λ ps. starter ps c.args.cast.graph ≡ None) st.programs none) in
    let left = λ (past : Past) (st : RepresentsPast c.args.self.now past). refused_start c.self.inside c.self.invariant c.self.view_is c.args.cast c.facts_of_cast.ensures Protocol.StartFault.UnknownGraph refl c.args.notes.now past st (all past st) in
    record { answer = all; graph = λ past st. refl; state = λ past st. (left past st).0; notes = λ past st. (left past st).1; refused = refl; memory = tt; early = λ past st. tt }

pub returns-then-not-is_cast : goal.returns-then-not-is_cast
returns-then-not-is_cast c =
    let found : starter c.args.self.now.programs c.args.cast.graph ≡ Some c.in-Some.program.now = search rules in
    let wrong : is_cast c.args.self.now.keys c.in-Some.program.now.graph c.args.cast c.in-Some.program.now.role ≡ false = search rules in
    let all : (past : Past) → RepresentsPast c.args.self.now past → answer_start real (node_of past) c.args.cast ≡ NotStarted Protocol.StartFault.BadCast = λ past st.
    bad_cast (node_of past) c.args.cast c.in-Some.program.now (subst (λ ps. starter ps c.args.cast.graph ≡ Some c.in-Some.program.now) st.programs found) (subst (λ k. is_cast k c.in-Some.program.now.graph c.args.cast c.in-Some.program.now.role ≡ false) st.keys wrong) in
    let left = λ (past : Past) (st : RepresentsPast c.args.self.now past). refused_start c.self.inside c.self.invariant c.self.view_is c.args.cast c.facts_of_cast.ensures Protocol.StartFault.BadCast refl c.args.notes.now past st (all past st) in
    record { answer = all; graph = λ past st. refl; state = λ past st. (left past st).0; notes = λ past st. (left past st).1; refused = refl; memory = tt; early = λ past st. tt }

pub returns-in-Some-covers : goal.returns-in-Some-covers
returns-in-Some-covers c =
    let found : starter c.args.self.now.programs c.args.cast.graph ≡ Some c.in-Some.program.now = search rules in
    let right : is_cast c.args.self.now.keys c.in-Some.program.now.graph c.args.cast c.in-Some.program.now.role ≡ true = search rules in
    let lacks : stranger c.args.self.now.keys c.args.cast ≡ Some c.in-Some-covers.name = search rules in
    let all : (past : Past) → RepresentsPast c.args.self.now past → answer_start real (node_of past) c.args.cast ≡ NotStarted (Protocol.StartFault.UnknownPeer c.in-Some-covers.name) = λ past st.
    no_key (node_of past) c.args.cast c.in-Some.program.now (subst (λ ps. starter ps c.args.cast.graph ≡ Some c.in-Some.program.now) st.programs found) (subst (λ k. is_cast k c.in-Some.program.now.graph c.args.cast c.in-Some.program.now.role ≡ true) st.keys right) c.in-Some-covers.name
    (subst (λ k. stranger k c.args.cast ≡ Some c.in-Some-covers.name) st.keys lacks) in
    let left = λ (past : Past) (st : RepresentsPast c.args.self.now past). refused_start c.self.inside c.self.invariant c.self.view_is c.args.cast c.facts_of_cast.ensures (Protocol.StartFault.UnknownPeer c.in-Some-covers.name) refl c.args.notes.now past st (all past st) in
    record { answer = all; graph = λ past st. refl; state = λ past st. (left past st).0; notes = λ past st. (left past st).1; refused = refl; memory = tt; early = λ past st. tt }

pub returns-clause-state : goal.returns-clause-state
returns-clause-state c = λ past st.
    on_ok (c.begin_in.new.self ≡ state_after c.args.self.now (Start c.args.cast) (answer_start real (node_of past) c.args.cast)) (GoesOn c.args.self.now c.begin_in.new.self (Start c.args.cast) past) c.begin_in.result
    (goes_on c.args.self.now c.begin_in.new.self (Start c.args.cast) past (subst (λ (z : NodeState). AllByRecursion (IsProgram real) z.programs) c.self.view_is c.self.invariant.programs)
    (subst (λ (z : NodeState). AllByRecursion (IsReachableLive real z.programs) z.live) c.self.view_is (all_reachable c.self.inside c.self.invariant)) c.facts_of_cast.ensures st)
    (c.begin_in.ensures.state (node_of past) st)

pub returns-clause-graph : goal.returns-clause-graph
returns-clause-graph c = λ past st.
    let found : starter c.args.self.now.programs c.args.cast.graph ≡ Some c.in-Some.program.now = search rules in
    same_graph c.begin_in.result (Some c.in-Some.program.now.graph) (graph_of_call real (node_of past) (Start c.args.cast)) c.begin_in.ensures.graph
    (sym (start_graph (node_of past) c.args.cast c.in-Some.program.now (subst (λ ps. starter ps c.args.cast.graph ≡ Some c.in-Some.program.now) st.programs found)))

pub returns-clause-early : goal.returns-clause-early
returns-clause-early c = λ past st.
    let found : starter c.args.self.now.programs c.args.cast.graph ≡ Some c.in-Some.program.now = search rules in
    let right : is_cast c.args.self.now.keys c.in-Some.program.now.graph c.args.cast c.in-Some.program.now.role ≡ true = search rules in
    let covered : stranger c.args.self.now.keys c.args.cast ≡ None = search rules in
    in_err _ c.begin_in.result (start_may (node_of past) c.args.cast c.in-Some.program.now
    (subst (λ ps. starter ps c.args.cast.graph ≡ Some c.in-Some.program.now) st.programs found)
    (subst (λ k. is_cast k c.in-Some.program.now.graph c.args.cast c.in-Some.program.now.role ≡ true) st.keys right)
    (subst (λ k. stranger k c.args.cast ≡ None) st.keys covered))
