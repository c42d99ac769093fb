-- What holds on Ok.
use Rattle.std.proofs.Common.{Result, Ok, Err, IfOk, OnOk}

-- what follows holds too
pub mapped : {T E : Type 0} (r : Result T E) (P Q : Type 0) → (P → Q) → OnOk r P → OnOk r Q
mapped (Ok v) P Q f h = f h
mapped (Err e) P Q f h = tt

-- what holds whatever came
pub anyway : {T E : Type 0} (r : Result T E) (P : Type 0) → P → OnOk r P
anyway (Ok v) P h = h
anyway (Err e) P h = tt

-- what holds of the value for each play, or each past
pub each_ok : {T E A : Type 0} (r : Result T E) (Q : A → Type 0) (P R : A → T → Type 0) → ((a : A) (t : T) → Q a → P a t → R a t) → ((a : A) → Q a → IfOk r (P a)) → IfOk r (λ t. (a : A) → Q a → R a t)
each_ok (Ok t) Q P R f h = λ a q. f a t q (h a q)
each_ok (Err e) Q P R f h = tt

-- what follows of it
pub then_ok : {T E A : Type 0} (r : Result T E) (Q : A → Type 0) (P : A → T → Type 0) (R : Type 0) → ((t : T) → ((a : A) → Q a → P a t) → R) → ((a : A) → Q a → IfOk r (P a)) → OnOk r R
then_ok (Ok t) Q P R f h = f t h
then_ok (Err e) Q P R f h = tt
