-- How a cast is kept: its names in sixteen slots, the first again after the last; and two principals in order.
use Rattle.std.specs.Prelude.{◌-◌, if◌then◌else◌, List, [], ◌++◌, length, take, replicate, slice_index_or}
use Rattle.sg_model.specs.Names.{Name}
use Rattle.sg_protocol.specs.Frame.{Cast}
use Rattle.sg_protocol.specs.Notes.{text_before}
use Rattle.sg_crypt.specs.declared.cast.Cast.TheInside.{Inside}

-- the first name
abbrev pub first_of : List Name → Name
first_of names = slice_index_or names 0 []

-- the names, and the first again up to sixteen
abbrev pub filled : List Name → List Name
filled names = names ++ replicate (16 - length names) (first_of names)

-- the cast that is kept
abbrev pub cast_of : Inside → Cast
cast_of c = record { version = c.version; graph = c.graph; nonce = c.nonce; names = take c.count c.names }

-- the fields of a cast
abbrev pub fields_of : Cast → Inside
fields_of c = record { version = c.version; graph = c.graph; nonce = c.nonce; count = length c.names; names = filled c.names }

-- two principals, the lesser name first
abbrev pub pair_of : Name → Name → Name × Name
pair_of a b = if text_before b a then (b, a) else (a, b)
