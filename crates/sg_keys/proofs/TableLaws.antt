-- A map and a list of values beside the data that they represent.
use Rattle.std.proofs.Common.{◌≡◌, ℕ, Bool, ◌&&◌, ◌||◌, List, [], ◌∷◌, map, String, Global, string_bytes, None, Some, is_some, if◌then◌else◌, bytes_eq, refl, ap, ◌∙◌}
use Rattle.std.specs.List.{list_all, list_any}
use Rattle.std.specs.Map.{keys_of}
use Rattle.sg_model.specs.Lists.{has_text}
use Rattle.toml.specs.Data.{Data, Members, no_members, member, as_table}
use Rattle.toml.specs.View.{view, items_of, items_view, members_view}
use Rattle.toml.specs.declared.value.Value.{Value}
use Rattle.sg_keys.specs.KeyFile.{all_keys, list_of, tables_in}

-- a test of each key of a map is one of each key of its data
pub keys_pass : (p : List ℕ → Bool) (es : List (String Global × Value)) → list_all (λ k. p (string_bytes k)) (keys_of es) ≡ all_keys p (members_view es)
keys_pass p [] = refl
keys_pass p (e ∷ es) = ap (λ b. p (string_bytes e.0) && b) (keys_pass p es)

-- tests that say the same say the same of all keys
pub keys_same : (p q : List ℕ → Bool) → ((k : List ℕ) → p k ≡ q k) → (table : Members) → all_keys p table ≡ all_keys q table
keys_same p q same no_members = refl
keys_same p q same (member k d table) = ap (λ b. b && all_keys p table) (same k) ∙ ap (λ b. q k && b) (keys_same p q same table)

-- a word stands among images if one of the elements gives it
pub word_among : {X : Type 0} (k : List ℕ) (word_of : X → List ℕ) (xs : List X) → list_any (λ x. bytes_eq k (word_of x)) xs ≡ has_text k (map word_of xs)
word_among k word_of [] = refl
word_among k word_of (x ∷ xs) = ap (λ b. bytes_eq k (word_of x) || b) (word_among k word_of xs)

-- the items of a list of data are that list
pub list_of-items_of : (ds : List Data) → list_of (items_of ds) ≡ ds
list_of-items_of [] = refl
list_of-items_of (d ∷ ds) = ap (λ es. d ∷ es) (list_of-items_of ds)

all_tables : (vs : List Value) → list_all (λ d. is_some (as_table d)) (map view vs) ≡ list_all (λ v. is_some (as_table (view v))) vs
all_tables [] = refl
all_tables (v ∷ vs) = ap (λ b. is_some (as_table (view v)) && b) (all_tables vs)

-- a list of values, if each is a table
pub tables_in_items : (vs : List Value) → tables_in (items_view vs) ≡ (if list_all (λ v. is_some (as_table (view v))) vs then Some (map view vs) else None)
tables_in_items vs = rw (list_of-items_of (map view vs), all_tables vs)
