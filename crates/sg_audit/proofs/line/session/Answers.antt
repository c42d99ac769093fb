use Rattle.std.proofs.Common.{◌∙◌, ap}
use Rattle.std.specs.Prelude.{option_map}
use Rattle.sg_base.specs.Words.{name}
use Rattle.sg_sched.specs.Format.Reading.{word}
use Rattle.sg_audit.specs.LineContents.{SessionLine}
use Rattle.sg_audit.specs.Reading.{session_form}
use Rattle.sg_audit.proofs.LastName.{said}
use Rattle.sg_audit.proofs.line.session.Goals as goal

pub returns-in-Some-clause-statement : goal.returns-in-Some-clause-statement
unfolding session_form
returns-in-Some-clause-statement c = ap (option_map SessionLine) c.in-Some.ensures ∙ said SessionLine (word name c.args.words.now)

pub returns-in-None-clause-statement : goal.returns-in-None-clause-statement
unfolding session_form
returns-in-None-clause-statement c = ap (option_map SessionLine) c.in-None.ensures ∙ said SessionLine (word name c.args.words.now)
