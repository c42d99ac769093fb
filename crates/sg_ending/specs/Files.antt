-- Files, what they hold, and how it ends at one of them.
use Rattle.std.specs.Prelude.{◌≡◌, ℕ, ◌≤◌, ◌<◌, ◌⊎◌, List, Option, Some, None, length, IsSomeAnd}
use Rattle.sg_base.specs.Outside.{FailsAt, FileFaults, file_at}
use Rattle.sg_ending.specs.Ending.{Ending, FileFailed, NoMemory, NoSuchFile, TooLarge}
use Rattle.sg_ending.specs.Output.{Output}

-- files, each its name and its bytes, if they are known
abbrev pub KnownFiles : Type 0
KnownFiles = Option (List (List ℕ × List ℕ))

-- what a file has, if it is known
abbrev pub Has : KnownFiles → List ℕ → Option (List ℕ) → Type 0
Has known file found = (files : List (List ℕ × List ℕ)) → known ≡ Some files → file_at files file ≡ found

-- the file has at most `most` bytes, and `Such` holds of them
abbrev pub Holds : KnownFiles → (most : ℕ) → (file : List ℕ) → (List ℕ → Type 0) → Type 0
Holds known most file Such = (bytes : List ℕ) × Has known file (Some bytes) × (length bytes ≤ most) × Such bytes

-- a file is not read: the call for it failed, or none did, and there is no such file, it has more bytes than it may have, or memory ran out
abbrev pub IsUnread : ℕ → List ℕ → KnownFiles → (faults faults' : FileFaults) → Ending → Type 0
IsUnread most file known faults faults' (FileFailed arg) = (arg ≡ file) × FailsAt file faults faults'
IsUnread most file known faults faults' (NoSuchFile arg) = (arg ≡ file) × Has known file None × (faults' ≡ faults)
IsUnread most file known faults faults' (TooLarge arg) =
    (arg ≡ file) × ((files : List (List ℕ × List ℕ)) → known ≡ Some files → IsSomeAnd (file_at files file) (λ bytes. most < length bytes)) × (faults' ≡ faults)
IsUnread most file known faults faults' NoMemory = faults' ≡ faults
IsUnread most file known faults faults' ending = ⊥

-- it ends at this file, of at most `most` bytes: the file isn't read, or it is, and what it holds is refused
abbrev pub EndsAt : KnownFiles → (faults faults' : FileFaults) → (most : ℕ) → (file : List ℕ) → (List ℕ → Ending → Type 0) → Ending → Type 0
EndsAt known faults faults' most file Refuses ending = IsUnread most file known faults faults' ending ⊎ Holds known most file (λ bytes. Refuses bytes ending × (faults' ≡ faults))

-- what is done with a file of at most `most` bytes ends so: it is read and done with its bytes, or it is not read and nothing is written
abbrev pub OnFile : (List ℕ → (old new : Output) → Ending → Type 0) → ℕ → List ℕ → KnownFiles → (faults faults' : FileFaults) → (old new : Output) → Ending → Type 0
OnFile Does most file known faults faults' old new ending =
    Holds known most file (λ bytes. Does bytes old new ending × (faults' ≡ faults))
    ⊎ ((new ≡ old) × IsUnread most file known faults faults' ending)
