-- The law of endings.
use Rattle.sg_design.proofs.OneEnding.{check_once, compile_once, compose_once, suggest_once}
use Rattle.sg_replay.proofs.OneEnding.{audit_once, drive_once, replay_once}
use Rattle.sg_top.proofs.laws.one_file_ends_once.Goals as goal

pub returns : goal.returns
returns c = record { check = check_once; compile = compile_once; suggest = suggest_once; audit = audit_once; compose = compose_once; replay = replay_once; drive = drive_once c.generated_is_one.ensures }
