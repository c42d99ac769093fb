use Rattle.std.specs.Prelude.{◌≡◌, ℕ, ◌-◌, ◌<◌, ◌≤◌, ◌^◌, ◌⊎◌, List, ◌∷◌, ◌++◌, Option, Some, length, take, drop, find}
use Rattle.std.specs.Option.{option_map}
use Rattle.std.specs.Str.{bytes_eq}

-- a count of faults rose, or stood at its end, if a rise does not show
abbrev pub HasRisen : ℕ → ℕ → Type 0
HasRisen old new = (old < new) ⊎ (2 ^ 64 - 1 ≤ old)

-- the name of a file as far as a path may go, which has at most 4,095 bytes
unfoldable pub as_path : List ℕ → List ℕ
as_path name = take 4095 name

-- the faults of files: how often a call failed, and the name of the file for which the last such call was, as far as a path may go
pub record FileFaults : Type 0 where
  pub count : ℕ
  pub last : Option (List ℕ)

-- a call for this file failed, and none did after it
abbrev pub FailsAt : (file : List ℕ) → (old new : FileFaults) → Type 0
FailsAt file old new = HasRisen old.count new.count × (new.last ≡ Some (as_path file))

-- the items were added at the end of a list, if the list is known
abbrev pub Appends : {A : Type 0} → Option (List A) → Option (List A) → List A → Type 0
Appends {A} old new items = (before : List A) → old ≡ Some before → new ≡ Some (before ++ items)

-- a prefix of the items was added at the end of a list, if the list is known
abbrev pub AppendsPrefix : {A : Type 0} → Option (List A) → Option (List A) → List A → Type 0
AppendsPrefix {A} old new items =
    (count : ℕ) × (count ≤ length items) × Appends old new (take count items)

-- the first item was taken off a list, if the list is known
abbrev pub TakesFirst : {A : Type 0} → Option (List A) → Option (List A) → A → Type 0
TakesFirst {A} old new first =
    (all : List A) → old ≡ Some all → (all ≡ first ∷ drop 1 all) × (new ≡ Some (drop 1 all))

-- the bytes of the first file with a name
abbrev pub file_at : List (List ℕ × List ℕ) → List ℕ → Option (List ℕ)
file_at files name = option_map (λ f. f.1) (find (λ f. bytes_eq f.0 name) files)
