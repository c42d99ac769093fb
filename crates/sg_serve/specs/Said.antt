-- The text of an answer that is no step's line, and needs no graph.
use Rattle.std.specs.Prelude.{ℕ, List}
use Rattle.sg_answers.specs.Answers as Answers
use Rattle.sg_serve.specs.declared.say.Said.{Said}
use Rattle.sg_serve.specs.declared.say.Said.TheVariants.{Wrong, Unknown, Quiet, Failed, Nothing, Waits, Over, Id}

abbrev pub said_text : Said → List ℕ
said_text (Wrong wrong) = Answers.wrong_text wrong
said_text (Unknown n) = Answers.unknown_text n
said_text Quiet = Answers.quiet_text
said_text Failed = Answers.failed_text
said_text (Nothing n) = Answers.nothing_text n
said_text (Waits n) = Answers.waits_text n
said_text (Over n) = Answers.over_text n
said_text (Id n sid) = Answers.id_text n sid
