-- What a compiled program owes.
use Rattle.std.proofs.Common.{◌≡◌, ℕ, ◌<◌, List, length, sym, subst}
use Rattle.sg_protocol.specs.Accepted.{Accepted}
use Rattle.sg_protocol.specs.Evidence.{View, IsViewTable}
use Rattle.sg_protocol.specs.Graph.{Graph, IsGraph}
use Rattle.sg_protocol.specs.IsSchedule.{IsProgram}
use Rattle.sg_protocol.specs.Targets.{IsTargetTable}
use Rattle.sg_protocol.specs.Texts.{graph_digest, real}

-- the parts of a program, of a copy of the graph
pub program_from : (g h : Graph) (r : ℕ) (d : List ℕ) (vs : List View) (ts : List (List ℕ)) → h ≡ g → IsGraph g → Accepted g → r < length g.roles
    → d ≡ graph_digest real g → IsViewTable g r vs → IsTargetTable g ts → IsProgram real (record { graph = h; role = r; digest = d; views = vs; targets = ts })
program_from g h r d vs ts e whole accepted there digest views targets =
    let P : Graph → Type 0 = λ k. IsProgram real (record { graph = k; role = r; digest = d; views = vs; targets = ts }) in
    subst P (sym e) (record { is_graph = whole; accepted = accepted; role = there; digest = digest; views = views; targets = targets })
