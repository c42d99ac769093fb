-- What the first index of a name says of the names.
use Rattle.std.proofs.Common.{◌≡◌, ℕ, ◌+◌, ◌<◌, ◌≤◌, nat_lt, Bool, true, false, List, [], ◌∷◌, map, length, get_or, drop, refl, sym, ap, ◌∙◌, inl, inr, arith}
use Rattle.std.specs.Prelude.{Option, Some, None, position, bytes_eq, IsSome, IsTrue, is_some, ◌↔◌}
use Rattle.std.specs.List.{list_any, position_or_len, position_from}
use Rattle.std.proofs.lemmas.Bool.Decides.{nat_tests}
use Rattle.std.proofs.lemmas.Iterator.Adapters.{position_from-zero}
use Rattle.std.proofs.lemmas.List.{drop_more, drop_all}
use Rattle.std.proofs.lemmas.List.Sums.{passes_at_first}
use Rattle.std.proofs.lemmas.Slice.Eq.{bytes_eq-Decides}
use Rattle.std.proofs.lemmas.Bool.{cases_Bool}
use Rattle.sg_model.specs.Lists.{has_text}
use Rattle.sg_model.specs.Names.{Name}
use Rattle.sg_protocol.specs.Graph.{Graph}

-- the first index of one that passes is an index of one that passes
pub passes_there : {X : Type 0} (p : X → Bool) (xs : List X) (i : ℕ) (d : X) → position p xs ≡ Some i → (i < length xs) × (p (get_or xs i d) ≡ true)
passes_there p xs i d h =
    elim (cases_Bool (nat_lt (position_or_len p xs) (length xs))) [
      | inl y ↦
          (let e : Some (position_or_len p xs) ≡ Some i = rw y at h in
          let same : position_or_len p xs ≡ i = cc in
          let within : position_or_len p xs < length xs = grind (arith, nat_tests, y) in
          let passes = passes_at_first p xs d within in
          (omega arith, rw same at passes))
      | inr n ↦ (let e : None ≡ Some i = rw n at h in absurd (cc))
    ]

-- the search goes on past an element that doesn't pass
pub search_past : {X : Type 0} (p : X → Bool) (xs : List X) (i : ℕ) (x : X) → i < length xs → x ≡ get_or xs i x → p x ≡ false
    → position_from p i (drop i xs) ≡ position_from p (i + 1) (drop (i + 1) xs)
search_past p xs i x l at fails = rw (drop_more xs i x l, ← at, fails) refl

-- it ends at one that passes
pub search_found : {X : Type 0} (p : X → Bool) (xs : List X) (i : ℕ) (x : X) → i < length xs → x ≡ get_or xs i x → p x ≡ true
    → position_from p i (drop i xs) ≡ Some i
search_found p xs i x l at passes = rw (drop_more xs i x l, ← at, passes) refl

-- it finds none past the end
pub search_ended : {X : Type 0} (p : X → Bool) (xs : List X) (i : ℕ) → length xs ≤ i → position_from p i (drop i xs) ≡ None
search_ended p xs i le = rw (drop_all i xs le) refl

-- if the search from n on finds an index, one passes
some_from : {X : Type 0} (p : X → Bool) (xs : List X) (n i : ℕ) → position_from p n xs ≡ Some i → list_any p xs ≡ true
some_from p [] n i h = absurd (cc)
some_from p (x ∷ xs) n i h = elim (cases_Bool (p x)) [ inl y ↦ rw y refl | inr z ↦ rw z (some_from p xs (n + 1) i (rw z at h)) ]

-- if it finds none, none passes
none_from : {X : Type 0} (p : X → Bool) (xs : List X) (n : ℕ) → position_from p n xs ≡ None → list_any p xs ≡ false
none_from p [] n h = refl
none_from p (x ∷ xs) n h = elim (cases_Bool (p x)) [ inl y ↦ (let e : Some n ≡ None = rw y at h in absurd (cc)) | inr z ↦ rw z (none_from p xs (n + 1) (rw z at h)) ]

-- if there is a first index, one passes
pub some_passes : {X : Type 0} (p : X → Bool) (xs : List X) (i : ℕ) → position p xs ≡ Some i → list_any p xs ≡ true
some_passes p xs i h = some_from p xs 0 i (sym (position_from-zero p xs) ∙ h)

-- if there is none, none passes
pub none_passes : {X : Type 0} (p : X → Bool) (xs : List X) → position p xs ≡ None → list_any p xs ≡ false
none_passes p xs h = none_from p xs 0 (sym (position_from-zero p xs) ∙ h)

-- a test of images is a test of the elements
pub list_any-map : {X Y : Type 0} (p : Y → Bool) (f : X → Y) (xs : List X) → list_any p (map f xs) ≡ list_any (λ x. p (f x)) xs
list_any-map p f [] = refl
list_any-map p f (x ∷ xs) = rw (list_any-map p f xs)

-- the search in images is the search in the elements
position_from-map : {X Y : Type 0} (p : Y → Bool) (f : X → Y) (xs : List X) (n : ℕ) → position_from p n (map f xs) ≡ position_from (λ x. p (f x)) n xs
position_from-map p f [] n = refl
position_from-map p f (x ∷ xs) n = rw (position_from-map p f xs (n + 1))

-- the first index among images is the first among the elements
pub position-map : {X Y : Type 0} (p : Y → Bool) (f : X → Y) (xs : List X) → position p (map f xs) ≡ position (λ x. p (f x)) xs
position-map p f xs = position_from-zero p (map f xs) ∙ position_from-map p f xs 0 ∙ sym (position_from-zero (λ x. p (f x)) xs)

-- the first index of a name has it
pub name_at : {Y : Type 0} (name_of : Y → Name) (name : Name) (ys : List Y) (i : ℕ) (d : Y) → Some i ≡ position (λ y. bytes_eq name (name_of y)) ys
    → (i < length ys) × (name_of (get_or ys i d) ≡ name)
name_at name_of name ys i d h =
    let there = passes_there (λ y. bytes_eq name (name_of y)) ys i d (sym h) in
    (there.0, sym ((bytes_eq-Decides name (name_of (get_or ys i d))).0 there.1))

-- neither the index nor the name is there
pub neither : {A : Type 0} (o : Option A) (b : Bool) → o ≡ None → b ≡ false → (IsSome o → IsTrue b) × (IsTrue b → IsSome o)
neither (Some a) b n f = absurd (cc)
neither None true n f = absurd (cc)
neither None false n f = (λ y. y, λ y. y)

-- the first index of a name among parts that are kept as other ones
module _ {X Y : Type 0} (part_of : X → Y) (name_of : Y → Name) (name : Name) (kept : List X) (parts : List Y) (seen : map part_of kept ≡ parts) where
  -- it is the first among the parts
  index_seen : (o : Option ℕ) → o ≡ position (λ x. bytes_eq name (name_of (part_of x))) kept → o ≡ position (λ y. bytes_eq name (name_of y)) parts
  index_seen o at = at ∙ sym (position-map (λ y. bytes_eq name (name_of y)) part_of kept) ∙ ap (position (λ y. bytes_eq name (name_of y))) seen

  -- so the name is among the names
  pub name_found : (i : ℕ) (d : Y) → Some i ≡ position (λ x. bytes_eq name (name_of (part_of x))) kept
      → (IsSome (Some i) ↔ IsTrue (has_text name (map name_of parts))) × ((i < length parts) × (name_of (get_or parts i d) ≡ name))
  name_found i d at =
      let there = list_any-map (bytes_eq name) name_of parts ∙ some_passes (λ y. bytes_eq name (name_of y)) parts i (sym (index_seen (Some i) at)) in
      ((λ y. there, λ y. refl), name_at name_of name parts i d (index_seen (Some i) at))

  -- if there is none, it isn't
  pub name_missed : {A : Type 0} (o : Option A) → o ≡ None → None ≡ position (λ x. bytes_eq name (name_of (part_of x))) kept → IsSome o ↔ IsTrue (has_text name (map name_of parts))
  name_missed o none at = neither o _ none (list_any-map (bytes_eq name) name_of parts ∙ none_passes (λ y. bytes_eq name (name_of y)) parts (sym (index_seen None at)))

-- a name that has no index isn't there
pub unfound : {A : Type 0} (o : Option A) (r b : Bool) → (IsSome o ↔ IsTrue b) → r ≡ is_some o → r ≡ false → b ≡ false
unfound o r true h s f = absurd (clash (is_some o) (h.1 refl) (sym s ∙ f))
  where
    clash : (b : Bool) → b ≡ true → b ≡ false → ⊥
    clash b t f = absurd (cc)
unfound o r false h s f = refl

-- a name that isn't found in a graph is none of its names
pub unfound_name : {A : Type 0} (o : Option A) (r : Bool) (names : Graph → List Name) (name : Name) (g now : Graph) → g ≡ now → (IsSome o ↔ IsTrue (has_text name (names now))) → r ≡ is_some o → r ≡ false → has_text name (names g) ≡ false
unfound_name o r names name g now view found some none = ap (λ (g : Graph). has_text name (names g)) view ∙ unfound o r _ found some none
