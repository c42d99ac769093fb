-- The line with which a block begins.
use Rattle.std.proofs.Common.{◌≡◌, refl}
use Rattle.sg_sched.specs.declared.line.Line.{Line}
use Rattle.sg_sched.specs.declared.line.Line.TheVariants.{Block, Edge, Honest, Key, Session, Start, Act, Abandon, Deliver, Craft}
use Rattle.sg_sched.specs.Format.Model.{statement}
use Rattle.sg_sched.specs.Format.LineContents.{BlockLine}

-- only one line begins a block
pub only_block : (l : Line) → statement l ≡ BlockLine → l ≡ Block
only_block Block e = refl
only_block (Edge label from to) e = absurd (cc)
only_block (Honest who) e = absurd (cc)
only_block (Key one two digits) e = absurd (cc)
only_block (Session name graph nonce names version) e = absurd (cc)
only_block (Start who session) e = absurd (cc)
only_block (Act who session label values) e = absurd (cc)
only_block (Abandon who session) e = absurd (cc)
only_block (Deliver who what) e = absurd (cc)
only_block (Craft c) e = absurd (cc)
