-- A wait without a limit takes the first delivery off.
use Rattle.sg_wait.proofs.Deliveries.{first_of, end_of, left_of}
use Rattle.sg_wait.proofs.memory.MemTimedLinkLink.recv.Goals as goal

pub returns-clause-first : goal.returns-clause-first
returns-clause-first c = first_of (λ bytes. bytes.items) c.next.result c.args.self.now.coming c.next.ensures.found

pub returns-clause-at_end : goal.returns-clause-at_end
returns-clause-at_end c = end_of (λ bytes. bytes.items) c.next.result c.args.self.now.coming c.next.ensures.found

pub returns-clause-left : goal.returns-clause-left
returns-clause-left c = left_of c.next.result c.args.self.now c.next.new.self c.next.ensures.ok
