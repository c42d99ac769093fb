use Rattle.sg_script.specs.Format.{script_file}
use Rattle.sg_script.proofs.ScriptLaws.{answered, read_from_spells, spelled}
use Rattle.sg_script.proofs.WholeLaws.{script_answered}
use Rattle.sg_script.proofs.reader.read_script.Goals as goal

pub returns-clause-spelled : goal.returns-clause-spelled
returns-clause-spelled c = spelled c.args.programs.now c.args.bytes.now c.answer.result c.answer.ensures.answer

pub returns-clause-each : goal.returns-clause-each
returns-clause-each c =
    λ s h. answered c.answer.result (script_file c.args.programs.now c.args.bytes.now) s c.answer.ensures.answer c.answer.ensures.fault (read_from_spells c.args.programs.now c.args.bytes.now s h)

pub returns-clause-script : goal.returns-clause-script
returns-clause-script c =
    script_answered c.args.programs.now c.args.bytes.now c.answer.result (spelled c.args.programs.now c.args.bytes.now c.answer.result c.answer.ensures.answer)
