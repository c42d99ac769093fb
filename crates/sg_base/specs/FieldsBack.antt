-- A name's bytes give its fields back.
use Rattle.std.proofs.Common.{◌≡◌, ◌-◌, ◌++◌, length, take, replicate, arith}
use Rattle.std.proofs.lemmas.List.{take-append-drop, length-take-le}
use Rattle.sg_base.specs.declared.name.Name.TheInside.{Inside}
use Rattle.sg_base.specs.Fields.{bytes_of, fields_of, HoldsName}

-- a name's bytes give its fields back
pub fields_of-bytes_of : (n : Inside) → HoldsName n → fields_of (bytes_of n) ≡ n
fields_of-bytes_of n h =
    let long : length (take n.count n.bytes) ≡ n.count = length-take-le n.count n.bytes (omega (arith, h.fits, h.whole)) in
    let tail : take n.count n.bytes ++ replicate (32 - length (take n.count n.bytes)) 0 ≡ n.bytes =
    rw (long, ← h.zeros) (take-append-drop n.count n.bytes) in
    λ i. record { bytes = tail i; count = long i }
