-- What stands beside the record of a disk in memory.
use Rattle.std.specs.Prelude.{◌≡◌, ℕ, ◌+◌, ◌<◌, ◌≤◌, ◌^◌, List, [], ◌∷◌, length, All, vec_capacity}
use Rattle.sg_ledger.specs.declared.medium.Medium.TheInside.{Inside}
use Rattle.sg_ledger.specs.declared.medium.DiskCall.{DiskCall}
use Rattle.sg_ledger.specs.Memory.{Platter, at_rest, taken, after_calls}

-- how many bytes calls wrote
abbrev pub all_taken : List DiskCall → ℕ
all_taken [] = 0
all_taken (call ∷ calls) = taken call + all_taken calls

abbrev pub state_of : Inside → Platter
state_of m = after_calls (at_rest m.start.items) m.calls.items m.written.items

pub record IsTied (m : Inside) : Type 0 where
  pub seen : m.bytes.items ≡ (state_of m).seen
  pub synced : m.synced.items ≡ (state_of m).synced
  pub tears : m.tears.items ≡ (state_of m).tears
  pub total : all_taken m.calls.items ≡ length m.written.items
  pub within : length m.bytes.items ≤ m.room
  pub within_synced : length m.synced.items ≤ m.room
  pub within_start : length m.start.items ≤ m.room
  pub within_written : length m.written.items ≤ m.room
  pub within_tears : length m.tears.items ≤ length m.calls.items
  pub within_calls : length m.calls.items ≤ m.most
  pub ranges : All (λ r. r.0 + r.1 ≤ m.room) m.tears.items
  pub small : m.room < 2 ^ 32
  pub room_start : m.room ≤ vec_capacity m.start
  pub room_bytes : m.room ≤ vec_capacity m.bytes
  pub room_synced : m.room ≤ vec_capacity m.synced
  pub room_written : m.room ≤ vec_capacity m.written
  pub room_calls : m.most ≤ vec_capacity m.calls
  pub room_tears : m.most ≤ vec_capacity m.tears
