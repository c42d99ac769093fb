-- The values of the program as those of the definitions.
use Rattle.sg_model.specs.Values.{Value, IntValue, TextValue}
use Rattle.sg_base.specs.declared.value.Value.{Value as Held}
use Rattle.sg_base.specs.declared.value.Value.TheVariants.{Int, Text}
use Rattle.sg_base.specs.declared.value.VarType.{VarType}
use Rattle.sg_base.specs.declared.value.VarType.TheVariants.{Int as IntType, Text as TextType}

-- the value that is held
abbrev pub value_of : Held → Value
value_of (Int z) = IntValue z
value_of (Text t) = TextValue t

-- its type
abbrev pub kind_of : Held → VarType
kind_of (Int z) = IntType
kind_of (Text t) = TextType
