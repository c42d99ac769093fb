-- A disk in memory, as its record of calls has it.
use Rattle.std.specs.Prelude.{◌≡◌, ◌⊎◌, ℕ, ◌+◌, ◌-◌, ◌≤◌, nat_le, if◌then◌else◌, List, [], ◌∷◌, ◌++◌, length, take, drop, replicate}
use Rattle.sg_ledger.specs.Disk.{overlaid, Torn}
use Rattle.sg_ledger.specs.declared.medium.DiskCall.{DiskCall}
use Rattle.sg_ledger.specs.declared.medium.DiskCall.TheVariants.{Kept, Wrote, Tore, Synced}

-- the bytes as read, those at the last sync, and the ranges of the writes since, in their order
pub record Platter : Type 0 where
  pub seen : List ℕ
  pub synced : List ℕ
  pub tears : List (ℕ × ℕ)

-- a file that is all on the disk
abbrev pub at_rest : List ℕ → Platter
at_rest file = record { seen = file; synced = file; tears = [] }

-- how many of the bytes that were written are a call's
abbrev pub taken : DiskCall → ℕ
taken Kept = 0
taken (Wrote at count) = count
taken (Tore at count) = 0
taken Synced = 0

-- after a call whose bytes come first
abbrev pub after_call : Platter → DiskCall → List ℕ → Platter
after_call p Kept written = p
after_call p (Wrote at count) written = record {
  seen = overlaid p.seen at (take count written);
  synced = p.synced;
  tears = p.tears ++ (at, count) ∷ [];
}
after_call p (Tore at count) written = record { seen = p.seen; synced = p.synced; tears = p.tears ++ (at, count) ∷ [] }
after_call p Synced written = at_rest p.seen

-- after calls that wrote these bytes
abbrev pub after_calls : Platter → List DiskCall → List ℕ → Platter
after_calls p [] written = p
after_calls p (call ∷ calls) written = after_calls (after_call p call written) calls (drop (taken call) written)

-- what torn writes, one after another, may leave
abbrev pub Leaves : List ℕ → List (ℕ × ℕ) → List ℕ → Type 0
Leaves from [] image = image ≡ from
Leaves from (tear ∷ tears) image = (next : List ℕ) × Torn tear.0 tear.1 from next × Leaves next tears image

-- the images: the bytes as read, and what the torn writes since the last sync may leave
abbrev pub IsImage : Platter → List ℕ → Type 0
IsImage p image = (image ≡ p.seen) ⊎ Leaves p.synced p.tears image

-- `count` bytes of a list, and zeros where it ends
abbrev pub padded : ℕ → List ℕ → List ℕ
padded count picks = take count picks ++ replicate (count - length picks) 0

-- an image with the first picks in a range, which begins within it
abbrev pub torn_by : List ℕ → ℕ × ℕ → List ℕ → List ℕ
torn_by image tear picks = if nat_le tear.0 (length image) then overlaid image tear.0 (padded tear.1 picks) else image

-- the same for ranges, one after another, each with the next picks
abbrev pub picked : List ℕ → List (ℕ × ℕ) → List ℕ → List ℕ
picked image [] picks = image
picked image (tear ∷ tears) picks = picked (torn_by image tear picks) tears (drop tear.1 picks)

-- The bytes that it was made with, its calls so far, all bytes that these wrote, and its room: for `room` bytes in the file and as
-- many written, and for `most` calls.
pub record Medium : Type 0 where
  pub start : List ℕ
  pub calls : List DiskCall
  pub written : List ℕ
  pub room : ℕ
  pub most : ℕ

abbrev pub platter_at : Medium → ℕ → Platter
platter_at m k = after_calls (at_rest m.start) (take k m.calls) m.written

abbrev pub platter : Medium → Platter
platter m = after_calls (at_rest m.start) m.calls m.written

-- what a crash after the first t calls or later might have left
abbrev pub LeftSince : Medium → ℕ → List ℕ → Type 0
LeftSince m t image = (k : ℕ) × (t ≤ k) × (k ≤ length m.calls) × IsImage (platter_at m k) image

-- with one more call
abbrev pub with_call : Medium → DiskCall → List ℕ → Medium
with_call m call bytes = record {
  start = m.start;
  calls = m.calls ++ call ∷ [];
  written = m.written ++ bytes;
  room = m.room;
  most = m.most;
}
