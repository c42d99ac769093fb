-- How a list of states is kept: with a table of their indices.
use Rattle.std.specs.Prelude.{List}
use Rattle.sg_know.specs.declared.states.ReachedState.{ReachedState}
use Rattle.sg_know.specs.declared.states.States.TheInside.{Inside}

-- the states, in the order in which they were reached
abbrev pub states_of : Inside → List ReachedState
states_of s = s.list.items
