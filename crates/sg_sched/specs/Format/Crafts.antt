-- The sources of a craft's tags, as the program holds them.
use Rattle.std.specs.Prelude.{ℕ}
use Rattle.sg_protocol.specs.Schedule as Protocol
use Rattle.sg_protocol.specs.Schedule.{Key as ByKey, CopyItem as OfItem, CopySeal as OfSeal, Zero as Zeros}
use Rattle.sg_sched.specs.declared.craft.Source.{Source}
use Rattle.sg_sched.specs.declared.craft.Source.TheVariants.{Key, CopyItem, CopySeal, Zero}

-- a source that is held
abbrev pub source_of : Source → Protocol.Source
source_of (Key one two) = ByKey one two
source_of (CopyItem frame item role) = OfItem frame item role
source_of (CopySeal frame) = OfSeal frame
source_of Zero = Zeros

-- a role and its source
abbrev pub tag_of : ℕ × Source → ℕ × Protocol.Source
tag_of t = (t.0, source_of t.1)
