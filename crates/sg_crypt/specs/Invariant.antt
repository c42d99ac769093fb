-- What a cast and a key keep true.
use Rattle.std.specs.Prelude.{◌≡◌, length, take}
use Rattle.sg_protocol.specs.Frame.{IsCastOf}
use Rattle.sg_protocol.specs.TextLaws.{IsVersion}
use Rattle.sg_crypt.specs.declared.cast.Cast.TheInside.{Inside}
use Rattle.sg_crypt.specs.Model.{filled, cast_of}
use Rattle.sha2.specs.Hashers.{Holds256}
use Rattle.sg_protocol.specs.Texts.{real, key_block, padded}
use Rattle.sg_crypt.specs.declared.key.Key.TheInside.{Inside as KeyInside}

-- a cast of version 1 or 2, and after its names the first again
pub record HoldsCast (c : Inside) : Type 0 where
  pub version : IsVersion c.version
  pub cast : IsCastOf c.version (cast_of c)
  pub counted : length (take c.count c.names) ≡ c.count
  pub slots : c.names ≡ filled (take c.count c.names)

-- each hasher holds the key's block under its pad
pub record IsReady (k : KeyInside) : Type 0 where
  pub inner : Holds256 k.inner (padded 0x36 (key_block real k.bytes))
  pub outer : Holds256 k.outer (padded 0x5C (key_block real k.bytes))
