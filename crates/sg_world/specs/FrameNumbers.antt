-- The number of the frame that is reported of a step.
use Rattle.std.specs.Prelude.{ℕ, ◌≤◌, ⊤}
use Rattle.sg_report.specs.Reported.{Reported, Sends, Crafted}

-- the frame that is reported, if one is, has at most this number
abbrev pub HasNumberUpTo : ℕ → Reported → Type 0
HasNumberUpTo n (Sends e to frame) = frame ≤ n
HasNumberUpTo n (Crafted frame) = frame ≤ n
HasNumberUpTo n other = ⊤
