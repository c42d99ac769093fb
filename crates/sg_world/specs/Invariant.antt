-- What a replay keeps true.
use Rattle.sg_world.specs.Holds.{Holds}
use Rattle.sg_world.specs.declared.world.World.TheInside.{Inside}

-- what is kept is the run of the steps so far
abbrev pub HoldsWorld : Inside → Type 0
HoldsWorld w = Holds w.setting w.nodes.entries w.history.done
