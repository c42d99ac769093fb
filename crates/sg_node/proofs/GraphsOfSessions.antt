-- The graph of a node's session, by what is live in its slot.
use Rattle.std.specs.Prelude.{◌≡◌, ℕ, false, List, refl, Option, Some, None, option_map, option_and_then}
use Rattle.std.proofs.Common.{◌∙◌, ap}
use Rattle.sg_protocol.specs.Graph.{Graph}
use Rattle.sg_protocol.specs.Keyring.{Program}
use Rattle.sg_protocol.specs.Node.{Node, program_for, session_with}
use Rattle.sg_protocol.specs.NodeStates.{RepresentsNode, has_sid}
use Rattle.sg_protocol.specs.Session.{Session}
use Rattle.sg_protocol.specs.Named.{live_with}
use Rattle.sg_node.specs.declared.node.Node.TheInside.{Inside}
use Rattle.sg_node.specs.declared.sessions.Live.{Live}
use Rattle.sg_node.specs.Invariant.{HoldsNode, node_state}
use Rattle.sg_node.specs.Slots.{state_in, is_of, first_index}
use Rattle.sg_node.proofs.Acts.{session_at, represents_if, tests}
use Rattle.sg_node.proofs.InSlots.{Its, none_here}
use Rattle.sg_node.proofs.Indices.{live_at}

-- the graph of a program beside a session
beside : (s : Session) (o : Option Program) → option_map (λ (x : Program × Session). x.0.graph) (option_map (λ p. (p, s)) o) ≡ option_map (λ p. p.graph) o
beside s None = refl
beside s (Some p) = refl

-- the graph of a session, by the node's programs
abbrev graph_in : Node → Option Session → Option Graph
graph_in n o = option_map (λ (x : Program × Session). x.0.graph) (option_and_then (λ s. option_map (λ p. (p, s)) (program_for n.programs (s.cast).graph s.role)) o)

-- the session that what is live represents is of the same program's graph
graph_of_its : (m : Node) (l : Live) (o : Option Session) → Its m.programs l o → graph_in m o ≡ Some (state_in l).program.graph
graph_of_its m l o x = ap (graph_in m) x.is ∙ beside x.session (program_for m.programs (x.session.cast).graph x.session.role) ∙ ap (option_map (λ p. p.graph)) x.program

module _ (n : Inside) (h : HoldsNode n) (m : Node) (st : RepresentsNode (node_state n) m) (sid : List ℕ) where
  -- no live session has the sid
  pub none_with_sid : first_index (is_of false sid) n.sessions.slots ≡ None → option_map (λ x. x.0.graph) (live_with m sid) ≡ None
  none_with_sid e = ap (graph_in m) (none_here n h (has_sid sid) (is_of false sid) (tests n h sid) e m.programs (session_with m.live sid) (represents_if n h sid m st))

  -- the first that has it is live in this slot
  pub graph_with_sid : (i : ℕ) (l : Live) → first_index (is_of false sid) n.sessions.slots ≡ Some i → live_at n.sessions.slots i ≡ Some l → option_map (λ x. x.0.graph) (live_with m sid) ≡ Some (state_in l).program.graph
  graph_with_sid i l e there = graph_of_its m l (session_with m.live sid) (session_at n h sid i l e there m st)
