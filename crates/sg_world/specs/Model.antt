-- How a replay is kept.
use Rattle.sg_setting.specs.Replay.{Replay}
use Rattle.sg_world.specs.Holds.{schedule_of}
use Rattle.sg_world.specs.declared.world.World.TheInside.{Inside}

-- the replay that is kept
abbrev pub replay_of : Inside → Replay
replay_of w = record { programs = w.setting.programs; schedule = schedule_of w.setting w.nodes.entries w.history.done }
