use Rattle.sg_parse.specs.Kinds.{first_word, reader_of}
use Rattle.sg_parse.proofs.Loops.{statement_read}
use Rattle.sg_parse.proofs.statement.read_statement.Goals as goal

pub returns-clause-reads : goal.returns-clause-reads
returns-clause-reads c =
    statement_read (first_word c.args.kind) (reader_of c.args.kind) c.first_word.result.now c.args.graph.now c.read_part.new.graph c.args.scanner.now c.word.new.self c.read_part.new.scanner c.read_part.result
    c.first_word.ensures c.in_ok-word.ensures.reads c.read_part.ensures.reads
