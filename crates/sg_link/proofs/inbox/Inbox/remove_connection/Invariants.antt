use Rattle.std.proofs.Common.{◌≡◌, ◌==◌, length}
use Rattle.std.specs.List.{list_any}
use Rattle.sg_link.specs.Inbox.{behind_first}
use Rattle.sg_link.proofs.inbox.Inbox.remove_connection.Given as goal

abbrev pub invariant-loop-piece : goal.invariant-loop-piece
invariant-loop-piece l = record {
  pieces : behind_first l.initial.self ≡ behind_first l.self;
  ended : list_any (λ p. length p == 0) l.initial.self ≡ list_any (λ p. length p == 0) l.self;
}

abbrev pub decreases-loop-piece : goal.decreases-loop-piece
decreases-loop-piece l = length l.self
