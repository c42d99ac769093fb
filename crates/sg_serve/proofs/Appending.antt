-- What was added at the end of a list, whole or in a prefix.
use Rattle.std.proofs.Common.{◌≡◌, ◌+◌, List, [], ◌++◌, take, length, Option, Some, sym, ap, ◌∙◌, subst, append_assoc, arith}
use Rattle.std.proofs.lemmas.List.{append-nil, length-append, take-append-le}
use Rattle.std.proofs.Math.Seq.{take-append-add}
use Rattle.sg_base.specs.Outside.{Appends, AppendsPrefix}

-- nothing was added
pub kept : {A : Type 0} (old new : Option (List A)) → new ≡ old → Appends old new []
kept old new e before is = e ∙ is ∙ ap Some (sym (append-nil before))

-- a prefix of the first of two
pub prefix_of : {A : Type 0} (old new : Option (List A)) (a b : List A) → AppendsPrefix old new a → AppendsPrefix old new (a ++ b)
prefix_of {A} old new a b (n, l, h) = (n, omega (arith, l, length-append a b), subst (λ (xs : List A). Appends old new xs) (sym (take-append-le n a b l)) h)

-- the first of two, and a prefix of the second
pub prefix_then : {A : Type 0} (old mid new : Option (List A)) (a b : List A) → Appends old mid a → AppendsPrefix mid new b → AppendsPrefix old new (a ++ b)
prefix_then {A} old mid new a b f (n, l, h) = (
  length a + n,
  omega (arith, l, length-append a b),
  λ before is. h (before ++ a) (f before is) ∙ ap Some (append_assoc before a (take n b) ∙ ap (λ (xs : List A). before ++ xs) (sym (take-append-add a b n))),
)
