use Rattle.std.proofs.Common.{◌≡◌, ◌<◌, ℕ, true, length}
use Rattle.sg_model.specs.Lists.{is_in}
use Rattle.sg_model.specs.Shape.{sender}
use Rattle.sg_protocol.specs.Graph.{reads, shape}
use Rattle.sg_know.proofs.bad.senders_of.Given as goal

abbrev pub invariant-loop-number : goal.invariant-loop-number
invariant-loop-number l = (e : ℕ) → e < l.number → is_in l.var (reads l.graph e) ≡ true → (is_in (sender (shape l.graph) e) l.senders ≡ true) × (sender (shape l.graph) e < length l.graph.roles)
