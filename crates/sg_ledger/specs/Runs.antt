-- What happens to a ledger over runs and crashes.
use Rattle.std.specs.Prelude.{◌≡◌, ◌≢◌, ◌⊎◌, List, [], ◌∷◌, ◌++◌, Contains}
use Rattle.sg_ledger.specs.Format.{Join}

-- A join that `add` answered with Ok; or one whose `add` failed or was cut short by a crash, after which the ledger is opened again.
-- A crash at another moment is no event: the ledger opens with the joins that it had.
pub data LedgerEvent : Type 0 where
  Added : (join : Join) → LedgerEvent
  CutShort : (join : Join) → LedgerEvent

-- From joins, these events may happen and leave the last joins: `add` takes no join that the ledger has, and one that was cut short is
-- in the ledger that is opened next, or not.
abbrev pub MayHappen : List Join → List LedgerEvent → List Join → Type 0
MayHappen joins [] last = joins ≡ last
MayHappen joins (Added join ∷ events) last = (¬ Contains joins join) × MayHappen (joins ++ join ∷ []) events last
MayHappen joins (CutShort join ∷ events) last =
    (¬ Contains joins join) × (MayHappen joins events last ⊎ MayHappen (joins ++ join ∷ []) events last)

-- the joins that were answered with Ok
abbrev pub answered : List LedgerEvent → List Join
answered [] = []
answered (Added join ∷ events) = join ∷ answered events
answered (CutShort join ∷ events) = answered events
