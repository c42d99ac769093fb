-- What holds of a result, by what holds of it already.
use Rattle.std.proofs.Common.{IfOk, OnOk, Result, Ok, Err}

-- what follows of the value
pub applied : {T E : Type 0} (r : Result T E) (P Q : T → Type 0) → ((t : T) → P t → Q t) → IfOk r P → IfOk r Q
applied (Ok t) P Q f h = f t h
applied (Err e) P Q f h = tt

-- both
pub both_ok : {T E : Type 0} (r : Result T E) (P Q R : Type 0) → (P → Q → R) → OnOk r P → OnOk r Q → OnOk r R
both_ok (Ok t) P Q R f p q = f p q
both_ok (Err e) P Q R f p q = tt
