-- A cast gives its fields back.
use Rattle.std.proofs.Common.{◌≡◌, sym}
use Rattle.sg_crypt.specs.declared.cast.Cast.TheInside.{Inside}
use Rattle.sg_crypt.specs.Model.{cast_of, fields_of}
use Rattle.sg_crypt.specs.Invariant.{HoldsCast}

-- a cast gives its fields back
pub fields_of-cast_of : (c : Inside) → HoldsCast c → fields_of (cast_of c) ≡ c
fields_of-cast_of c h =
    λ i. record { version = c.version; graph = c.graph; nonce = c.nonce; count = h.counted i; names = sym h.slots i }
