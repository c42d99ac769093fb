-- The sources of crafted tags, as the program holds them.
use Rattle.sg_sched.specs.declared.line.TagSource.{TagSource}
use Rattle.sg_sched.specs.declared.line.TagSource.TheVariants.{Key, Item, Seal, Zero}
use Rattle.sg_sched.specs.Format.LineContents as Format
use Rattle.sg_sched.specs.Format.LineContents.{FromKey, FromItem, FromSeal, FromZero}

-- a source that is held
abbrev pub from_of : TagSource → Format.TagSource
from_of (Key one two) = FromKey one two
from_of (Item frame item role) = FromItem frame item role
from_of (Seal frame) = FromSeal frame
from_of Zero = FromZero
