use Rattle.sg_drive.specs.GeneratorModel.{drive_of}
use Rattle.sg_replay.proofs.Driving.{few_steps, full_record, sums}
use Rattle.sg_replay.proofs.drive.summary_of.Goals as goal

pub summary-text-requires : goal.summary-text-requires
summary-text-requires c = record { few = few_steps c.args.seed c.args.sessions c.args.graph.now c.args.programs.now (drive_of c.in-Ok.driven) c.in-Ok.ensures.generated c.requires.sessions.1 }

pub returns-in-Ok-text-clause-sums : goal.returns-in-Ok-text-clause-sums
returns-in-Ok-text-clause-sums c = sums c.args.seed c.args.sessions c.args.graph.now c.args.programs.now (drive_of c.in-Ok.driven) c.in-Ok.ensures.generated c.in-Ok-text.text.items c.in-Ok-text.ensures c.laws.ensures.laws

pub returns-in-Err-RecordFull-clause-stops : goal.returns-in-Err-RecordFull-clause-stops
returns-in-Err-RecordFull-clause-stops c =
    full_record c.args.seed c.args.sessions c.args.graph.now c.args.programs.now c.in-Err-RecordFull.field-0 _ c.in-Err-RecordFull.field-0-is c.in-Err-RecordFull.ensures.refused
