-- The record with the room that was made for more steps.
use Rattle.std.specs.Prelude.{ℕ}
use Rattle.sg_world.specs.RecordModel.{Recorded}

-- the record, and for how many more steps no memory is needed
pub record Recording : Type 0 where
  pub done : Recorded
  pub room : ℕ
