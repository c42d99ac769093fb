-- Indices of names, each once and in the order in which they stand, and statements that are repeated.
use Rattle.std.proofs.Common.{◌≡◌, ℕ, zero, suc, ◌+◌, ◌-◌, ◌<◌, ◌≤◌, ◌==◌, Bool, true, false, List, [], ◌∷◌, ◌++◌, Result, Ok, Err, inl, inr, refl, sym, ap, ◌∙◌, arith}
use Rattle.std.specs.Prelude.{Option, Some, None, position, bytes_eq, IsSome, IfSome, IsTrue}
use Rattle.std.specs.List.{list_any, position_from}
use Rattle.std.proofs.lemmas.Iterator.Adapters.{position_from-zero}
use Rattle.std.proofs.lemmas.Bool.{cases_Bool}
use Rattle.sg_model.specs.Lists.{has_text, is_in}
use Rattle.sg_protocol.specs.Graph.{Name}
use Rattle.sg_graph.proofs.FirstIndex.{some_passes, none_passes}
use Rattle.sg_parse.specs.Owed.{Refuses}
use Rattle.sg_parse.specs.PartsReading.{one_index, with_index, repeat}
use Rattle.sg_parse.specs.Reading.{Parsed, Parser, on, is_next, name, index_of, known}
use Rattle.sg_parse.specs.declared.token.TokenAt.{TokenAt}
use Rattle.sg_parse.specs.declared.token.Token.{Token}
use Rattle.sg_parse.specs.declared.fault.ParseFault.{ParseFault}
use Rattle.sg_parse.specs.declared.fault.ParseFault.TheVariants.{Twice}
use Rattle.sg_parse.proofs.Loops.{refuses}
use Rattle.sg_parse.proofs.Readings.{onward}

-- one of the numbers is this one
pub any-is_in : (n : ℕ) (ms : List ℕ) → list_any (λ m. m == n) ms ≡ is_in n ms
any-is_in n [] = refl
any-is_in n (m ∷ ms) = rw (any-is_in n ms) refl

-- a name that joins the indices
pub index_joins : (names : List Name) (indices : List ℕ) (ps qs : List TokenAt) (n : Name) (at r : ℕ) → name ps ≡ Ok (record { value = (n, at); rest = qs })
    → has_text n names ≡ true → index_of n names ≡ r → is_in r indices ≡ false → one_index names indices ps ≡ Ok (record { value = indices ++ r ∷ []; rest = qs })
index_joins names indices ps qs n at r h has index new =
    onward name (λ (n : Name × ℕ). known (with_index names indices n)) ps (record { value = (n, at); rest = qs }) h ∙ rw (has, index, new) refl

-- a name that stands among the indices already
pub index_twice : (names : List Name) (indices : List ℕ) (ps qs : List TokenAt) (n : Name) (at r : ℕ) → name ps ≡ Ok (record { value = (n, at); rest = qs })
    → has_text n names ≡ true → index_of n names ≡ r → is_in r indices ≡ true → one_index names indices ps ≡ Err (Twice at)
index_twice names indices ps qs n at r h has index old =
    onward name (λ (n : Name × ℕ). known (with_index names indices n)) ps (record { value = (n, at); rest = qs }) h ∙ rw (has, index, old) refl

-- the first index of a name, from n on
index_from : (m : Name) (ns : List Name) (n i : ℕ) → position_from (bytes_eq m) n ns ≡ Some i → n + index_of m ns ≡ i
index_from m [] n i h = absurd (cc)
index_from m (k ∷ ks) n i h = elim (cases_Bool (bytes_eq m k)) [
  | inl y ↦ (let e : Some n ≡ Some i = rw y at h in let same : n ≡ i = cc in rw y (omega (arith, same)))
  | inr z ↦ (let rest = index_from m ks (n + 1) i (rw z at h) in rw z (omega (arith, rest)))
]

-- the first index of a name is its index
pub first_index : (m : Name) (ns : List Name) (o : Option ℕ) → o ≡ position (bytes_eq m) ns → IfSome o (λ k. index_of m ns ≡ k)
first_index m ns None h = tt
first_index m ns (Some i) h = let e = index_from m ns 0 i (sym (position_from-zero (bytes_eq m) ns) ∙ sym h) in omega (arith, e)

-- it has one exactly if it is there
pub index_is_there : (m : Name) (ns : List Name) (o : Option ℕ) → o ≡ position (bytes_eq m) ns → (IsSome o → IsTrue (has_text m ns)) × (IsTrue (has_text m ns) → IsSome o)
index_is_there m ns None h = (λ x. absurd (cc), λ x. (let no = none_passes (bytes_eq m) ns (sym h) in absurd (cc)))
index_is_there m ns (Some i) h = (λ x. some_passes (bytes_eq m) ns i (sym h), λ x. refl)

-- ---- repeated readings

module _ {A : Type 0} (test : Token → Bool) (reader : A → Parser A) where
  pub repeat-there : (n : ℕ) (x : A) (ps : List TokenAt) → is_next test ps ≡ true → repeat (suc n) test reader x ps ≡ on (reader x ps) (repeat n test reader)
  unfolding repeat
  repeat-there n x ps h = rw h refl

  pub repeat-away : (n : ℕ) (x : A) (ps : List TokenAt) → is_next test ps ≡ false → repeat n test reader x ps ≡ Ok (record { value = x; rest = ps })
  unfolding repeat
  repeat-away zero x ps h = refl
  repeat-away (suc n) x ps h = rw h refl

  pub repeat-none : (x : A) (ps : List TokenAt) → repeat 0 test reader x ps ≡ Ok (record { value = x; rest = ps })
  unfolding repeat
  repeat-none x ps = refl

  -- once more
  pub repeat_more : (count i : ℕ) (x y : A) (ps qs : List TokenAt) (total : Result (Parsed A) ParseFault) → i < count → is_next test ps ≡ true
      → reader x ps ≡ Ok (record { value = y; rest = qs }) → repeat (count - i) test reader x ps ≡ total → repeat (count - (i + 1)) test reader y qs ≡ total
  repeat_more count i x y ps qs total lt there read so_far =
      let k : count - i ≡ suc (count - (i + 1)) = omega arith in
      let one : repeat (count - i) test reader x ps ≡ repeat (count - (i + 1)) test reader y qs =
      rw k (repeat-there (count - (i + 1)) x ps there ∙ ap (λ r. on r (repeat (count - (i + 1)) test reader)) read) in
      sym one ∙ so_far

  -- a reading that stops
  pub repeat_stop : (e : ParseFault) (count i : ℕ) (x : A) (ps : List TokenAt) (total : Result (Parsed A) ParseFault) → i < count → is_next test ps ≡ true
      → Refuses (reader x ps) e → repeat (count - i) test reader x ps ≡ total → Refuses total e
  repeat_stop e count i x ps total lt there stop so_far =
      let k : count - i ≡ suc (count - (i + 1)) = omega arith in
      refuses (reader x ps) total e
      (λ h. sym so_far ∙ rw k (repeat-there (count - (i + 1)) x ps there ∙ ap (λ r. on r (repeat (count - (i + 1)) test reader)) h)) stop

  -- no more are there
  pub repeat_done : (n : ℕ) (x : A) (ps : List TokenAt) (total : Result (Parsed A) ParseFault) → is_next test ps ≡ false
      → repeat n test reader x ps ≡ total → total ≡ Ok (record { value = x; rest = ps })
  repeat_done n x ps total away so_far = sym so_far ∙ repeat-away n x ps away

  -- as many as may be were read
  pub repeat_full : (count i : ℕ) (x : A) (ps : List TokenAt) (total : Result (Parsed A) ParseFault) → count ≤ i
      → repeat (count - i) test reader x ps ≡ total → total ≡ Ok (record { value = x; rest = ps })
  repeat_full count i x ps total le so_far =
      let k : count - i ≡ 0 = omega arith in
      sym so_far ∙ rw k (repeat-none x ps)
