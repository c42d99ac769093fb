-- What one edge more says of a variable and a role.
use Rattle.std.proofs.Common.{◌≡◌, ℕ, Bool, true, false, ◌&&◌, ◌||◌, if◌then◌else◌, List, [], ◌∷◌, ◌++◌, refl, ap, ◌∙◌, inl, inr}
use Rattle.std.specs.List.{list_any}
use Rattle.std.proofs.lemmas.Bool.{cases_Bool, or_parts}
use Rattle.std.proofs.lemmas.List.Folds.{list_any-append}
use Rattle.sg_model.specs.Lists.{is_in, from_last}
use Rattle.sg_model.specs.Shape.{Shape, end_of, target}
use Rattle.sg_model.proofs.Small.{or_false}
use Rattle.sg_protocol.specs.Graph.{Graph, shape, writes}
use Rattle.sg_protocol.specs.Knowledge.{learns, knows}
use Rattle.sg_know.specs.States.{known_if, mark_of, mark_after, is_known, state_after, state_along}

-- no list begins with a last one that passes if none passes
from_last-none : {A : Type 0} (p : A → Bool) (xs : List A) → list_any p xs ≡ false → from_last p xs ≡ []
from_last-none p [] h = refl
from_last-none p (x ∷ xs) h = let parts = or_parts (p x) (list_any p xs) h in rw (parts.1, parts.0) refl

-- whether some element passes q, from the last one that passes p on, with one element more
any_from_last : {A : Type 0} (p q : A → Bool) (xs : List A) (y : A)
    → list_any q (from_last p (xs ++ y ∷ [])) ≡ (if p y then q y else (list_any q (from_last p xs) || (list_any p xs && q y)))
any_from_last p q [] y = elim (cases_Bool (p y)) [ inl h ↦ rw h (or_false (q y)) | inr h ↦ rw h refl ]
any_from_last p q (x ∷ xs) y =
    elim (cases_Bool (p y)) [
      | inl h ↦ (let e : list_any p (xs ++ y ∷ []) ≡ true = list_any-append p xs (y ∷ []) ∙ rw h (or_true (list_any p xs)) in rw e (any_from_last p q xs y ∙ rw h refl))
      | inr h ↦
          (let e : list_any p (xs ++ y ∷ []) ≡ list_any p xs = list_any-append p xs (y ∷ []) ∙ rw h (or_false (list_any p xs)) in
          let rest : list_any q (from_last p (xs ++ y ∷ [])) ≡ (list_any q (from_last p xs) || (list_any p xs && q y)) = any_from_last p q xs y ∙ rw h refl in
          elim (cases_Bool (list_any p xs)) [
            | inl k ↦ rw (e, k) (rest ∙ rw (k, h) (both (list_any q (from_last p xs)) (p x) (q y)))
            | inr k ↦ rw (e, k) (elim (cases_Bool (p x)) [ inl l ↦ rw (l, h) (list_any-append q (x ∷ xs) (y ∷ []) ∙ ap (λ b. list_any q (x ∷ xs) || b) (or_false (q y))) | inr l ↦ rw (l, h) refl ])
          ])
    ]
  where
    or_true : (a : Bool) → (a || (true || false)) ≡ true
    or_true true = refl
    or_true false = refl

    both : (a b c : Bool) → (a || (true && c)) ≡ (a || ((b || true) && c))
    both a true c = refl
    both a false c = refl

-- the marks before and after one edge
mark_more : (w k p q : Bool) → mark_of (w || (p || false)) (if p then q else (k || (w && q))) ≡ mark_after p q (mark_of w k)
mark_more true true true q = refl
mark_more true false true q = refl
mark_more false true true q = refl
mark_more false false true q = refl
mark_more true true false q = refl
mark_more true false false q = refl
mark_more false true false q = refl
mark_more false false false q = refl

-- the walk with one edge more leads to the edge's target
pub end_of-more : (g : Shape) (m e : ℕ) (walk : List ℕ) → end_of g m (walk ++ e ∷ []) ≡ target g e
end_of-more g m e [] = refl
end_of-more g m e (f ∷ walk) = end_of-more g (target g f) e walk

-- the walk with one edge more has the state that this edge leads to
pub state_after-more : (g : Graph) (r x e : ℕ) (walk : List ℕ) → state_after g r x (walk ++ e ∷ []) ≡ state_along g r x e (state_after g r x walk)
state_after-more g r x e walk =
    let p : ℕ → Bool = λ e. is_in x (writes g e) in
    rw (end_of-more (shape g) 0 e walk, list_any-append p walk (e ∷ []), any_from_last p (learns g r x) walk e)
    (ap (λ m. record { node = target (shape g) e; mark = m }) (mark_more (list_any p walk) (knows g r x walk) (p e) (learns g r x e)))

-- the mark of a walk says whether the role knows the variable
pub knows_as : (g : Graph) (r x : ℕ) (walk : List ℕ) → knows g r x walk ≡ is_known (state_after g r x walk).mark
knows_as g r x walk =
    let p : ℕ → Bool = λ e. is_in x (writes g e) in
    elim (cases_Bool (list_any p walk)) [
      | inl h ↦ rw h (mark (knows g r x walk))
      | inr h ↦ rw h (ap (list_any (learns g r x)) (from_last-none p walk h))
    ]
  where
    mark : (k : Bool) → k ≡ is_known (known_if k)
    mark true = refl
    mark false = refl
