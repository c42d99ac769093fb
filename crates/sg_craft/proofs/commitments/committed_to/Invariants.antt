use Rattle.std.proofs.Common.{◌≡◌, take}
use Rattle.sg_protocol.specs.Crafted.{committed_to}
use Rattle.sg_protocol.specs.Texts.{real}
use Rattle.sg_craft.proofs.commitments.committed_to.Given as goal

abbrev pub invariant-loop-opening : goal.invariant-loop-opening
invariant-loop-opening l = l.delta ≡ committed_to real l.sid (take l.opening-index l.openings)
