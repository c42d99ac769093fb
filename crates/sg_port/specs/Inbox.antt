-- Frames that were taken in and are not handed out yet.
use Rattle.std.specs.Prelude.{ℕ, ◌+◌, ◌<◌, ◌≤◌, List, length}
use Rattle.std.specs.List.{concat}

-- there is room for one more frame: below 65,536 frames, and 4,194,304 bytes in all
pub record HasRoom (frames : List (List ℕ)) : Type 0 where
  pub fewer : length frames < 65536
  pub fits : length (concat frames) + 60000 ≤ 4194304
