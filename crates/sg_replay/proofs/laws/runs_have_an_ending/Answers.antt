-- The law that an ending applies.
use Rattle.sg_replay.proofs.SomeAudits.{audit_always}
use Rattle.sg_replay.proofs.SomeDrives.{drive_always}
use Rattle.sg_replay.proofs.SomeRuns.{replay_always}
use Rattle.sg_replay.proofs.laws.runs_have_an_ending.Goals as goal

pub returns : goal.returns
returns c = record { replay = replay_always c.runs_of_replays.ensures; drive = drive_always c.runs_of_replays.ensures c.generator_ends.ensures; audit = audit_always }
