-- What a play over a ledger has given the outside and what it has kept, where it ended.
use Rattle.std.specs.Prelude.{◌≡◌, ◌≤◌, ◌+◌, ℕ, List, ◌++◌, length, take, Option, Result, Ok, Err, All}
use Rattle.sg_base.specs.declared.address.Addr.{Addr}
use Rattle.sg_base.specs.Outside.{Appends}
use Rattle.sg_ledger.specs.Disk.{LeavesOnly}
use Rattle.sg_ledger.specs.Format.{Join, Represents}
use Rattle.sg_play.specs.Ends.{Begun, Outside, Whole, WholePrefix}
use Rattle.sg_play.specs.Played.{Play}
use Rattle.sg_play.specs.Steps.{frames_of, lines_of}
use Rattle.sg_play.specs.declared.fault.PlayFault.TheVariants.{LinkFailed, WriteFailed, OutOfMemory}
use Rattle.sg_protocol.specs.Past.{AnsweredCall}
use Rattle.sg_joins.specs.Images.{AllRepresent}
use Rattle.sg_joins.specs.Joins.{IsOfJoin, joins_made}
use Rattle.sg_keep.specs.declared.fault.KeepFault.{KeepFault}
use Rattle.sg_keep.specs.declared.fault.KeepFault.TheVariants.{Played, DiskFailed}

-- a file represents these joins, and then others
abbrev pub RepresentsMore : List Join → (image : List ℕ) → Type 0
RepresentsMore joins image = (more : List Join) × Represents image (joins ++ more)

-- each of these frames, which stand beside the addresses that they go to, is of one of these joins
abbrev pub AreOfJoins : List Join → (frames : List (Addr × List ℕ)) → Type 0
AreOfJoins joins frames = All (λ x. IsOfJoin joins x.1) frames

-- a file represents the joins that the ledger was opened with, and then those of the first of these calls: of at least `count` calls, and among
-- their joins are the session and the sender of each of these frames
pub record RepresentsFirst (image : List ℕ) (opened : List Join) (calls : List AnsweredCall) (count : ℕ) (frames : List (Addr × List ℕ)) : Type 0 where
  pub prefix : List AnsweredCall
  pub rest : List AnsweredCall
  pub is : calls ≡ prefix ++ rest
  pub enough : count ≤ length prefix
  pub sent : AreOfJoins (joins_made prefix) frames
  pub represents : Represents image (opened ++ joins_made prefix)

-- each image represents the joins that the node of the play was made with, and then those of its first calls: at least `count` of them, and with
-- those of these frames
abbrev pub KeepsFirst : (may_leave : List ℕ → Type 0) → Play → ℕ → (frames : List (Addr × List ℕ)) → Type 0
KeepsFirst may_leave p count frames = (image : List ℕ) → may_leave image → RepresentsFirst image p.past.first p.past.calls count frames

-- the lines of the first steps were written and their frames taken; and the joins of the calls of these steps are kept, and those of these frames
pub record KeptPrefix (start now : Outside) (may_leave : List ℕ → Type 0) (p : Play) : Type 0 where
  pub given : WholePrefix start now p.steps
  pub kept : KeepsFirst may_leave p (length given.prefix) (frames_of given.prefix)

-- then the frame of one more step was taken and a prefix of its line was written; and the joins of the calls of all these steps are kept, and
-- those of all these frames
pub record KeptBegun (start now : Outside) (may_leave : List ℕ → Type 0) (p : Play) : Type 0 where
  pub given : Begun start now p.steps
  pub kept : KeepsFirst may_leave p (length given.prefix + 1) (frames_of given.prefix ++ (given.step).frames)

-- a play ended so. If the link or the disk failed or memory ran out, whole steps were given; if a line was not written whole,
-- one more step was begun
abbrev pub HasKept : (start now : Outside) → (may_leave : List ℕ → Type 0) → Play → Result (Unit {0}) KeepFault → Type 0
HasKept start now may_leave p (Ok u) = Whole start now p.steps × AllRepresent may_leave (p.past.first ++ joins_made p.past.calls) × AreOfJoins (joins_made p.past.calls) (frames_of p.steps)
HasKept start now may_leave p (Err (Played LinkFailed)) = KeptPrefix start now may_leave p
HasKept start now may_leave p (Err (Played WriteFailed)) = KeptBegun start now may_leave p
HasKept start now may_leave p (Err (Played OutOfMemory)) = KeptPrefix start now may_leave p
HasKept start now may_leave p (Err DiskFailed) = KeptPrefix start now may_leave p

-- a file represents the joins that the ledger was opened with, and then those of the first of these calls: at most one join more than the first `count`
-- calls made
pub record RepresentsAtMost (opened : List Join) (calls : List AnsweredCall) (count : ℕ) (image : List ℕ) : Type 0 where
  pub prefix : List AnsweredCall
  pub rest : List AnsweredCall
  pub is : calls ≡ prefix ++ rest
  pub most : length (joins_made prefix) ≤ length (joins_made (take count calls)) + 1
  pub represents : Represents image (opened ++ joins_made prefix)

-- A crash at any moment from old to new leaves such a file, of a play's calls
abbrev pub LeavesAtMost : {D : Type 0} (moment : D → ℕ) (left_since : D → ℕ → List ℕ → Type 0) (old new : D) → Play → (count : ℕ) → Type 0
LeavesAtMost moment left_since old new p count = LeavesOnly moment left_since old new (RepresentsAtMost p.past.first p.past.calls count)

-- The lines of the first `count` steps of a play were written, if what was written is known, and a crash at any moment left at most one join
-- more than these steps made
pub record KeptThroughout {D : Type 0} (moment : D → ℕ) (left_since : D → ℕ → List ℕ → Type 0) (old new : D) (start now : Option (List ℕ)) (p : Play) : Type 0 where
  pub count : ℕ
  pub within : count ≤ length p.steps
  -- what was written behind them
  pub rest : List ℕ
  pub written : Appends start now (lines_of (take count p.steps) ++ rest)
  pub any_moment : LeavesAtMost moment left_since old new p count
