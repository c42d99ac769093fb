use Rattle.std.proofs.Common.{◌++◌, flat_map, take}
use Rattle.sg_protocol.specs.Notes.{Notes}
use Rattle.sg_certify.specs.Collisions.{Keeps}
use Rattle.sg_certify.proofs.collision.find_collision.Given as goal

abbrev pub invariant-loop-step : goal.invariant-loop-step
invariant-loop-step l = Keeps (l.fn.texts ++ flat_map (λ (n : Notes). n.hashed) (take l.step-index l.notes)) l.firsts
