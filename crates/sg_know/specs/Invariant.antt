-- What a list of states keeps true.
use Rattle.sg_know.specs.States.{IsTable, AreInOrder}
use Rattle.sg_know.specs.declared.states.States.TheInside.{Inside}

-- the table is right, and each state was reached from an earlier one
pub record HoldsStates (s : Inside) : Type 0 where
  pub table : IsTable s.list.items s.indices.items
  pub order : AreInOrder s.list.items
