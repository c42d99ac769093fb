-- The index that is found is that of the name.
use Rattle.std.proofs.Common.{◌≡◌, ◌∙◌, sym, refl, Bool, true, false, true≢false, List, [], Some, None, Option, IsSome, IfSome, IsTrue, ◌↔◌, ℕ, ◌<◌, length, get_or, map, bytes_eq, position}
use Rattle.std.proofs.lemmas.List.{length-map, get_or-map}
use Rattle.sg_model.specs.Names.{Name}
use Rattle.sg_model.specs.Lists.{has_text, all_differ}
use Rattle.sg_sched.proofs.NamesLaws.{position_in, position_out}

-- among names that differ
pub found_index : (names : List Name) (name : Name) (found : Option ℕ) → all_differ names ≡ true → (IsSome found ↔ IsTrue (has_text name names)) → IfSome found (λ i. (i < length names) × (get_or names i [] ≡ name))
    → found ≡ position (bytes_eq name) names
found_index names name (Some i) differ f p = sym (position_in names i name differ p.0 p.1)
found_index names name None differ f p = sym (position_out names name (not_there (has_text name names) refl))
  where
    not_there : (b : Bool) → has_text name names ≡ b → has_text name names ≡ false
    not_there true e = absurd (true≢false (sym (f.1 e)))
    not_there false e = e

-- among the names of what differs by its name
pub found_named : {A : Type 0} (name_of : A → Name) (xs : List A) (d : A) (name : Name) (found : Option ℕ) → all_differ (map name_of xs) ≡ true → (IsSome found ↔ IsTrue (has_text name (map name_of xs)))
    → IfSome found (λ i. (i < length xs) × (name_of (get_or xs i d) ≡ name)) → found ≡ position (bytes_eq name) (map name_of xs)
found_named name_of xs d name (Some i) differ f p =
    let count : length (map name_of xs) ≡ length xs = length-map xs name_of in
    found_index (map name_of xs) name (Some i) differ f (rw count p.0, get_or-map name_of xs i d [] p.0 ∙ p.1)
found_named name_of xs d name None differ f p = found_index (map name_of xs) name None differ f p
