use Rattle.sg_parse.proofs.Scanning.{word_is_name}
use Rattle.sg_parse.proofs.scan.word_at.Goals as goal

pub word_token-requires-clause-named : goal.word_token-requires-clause-named
word_token-requires-clause-named c =
    rw (c.name_bytes-word.ensures, c.tail.ensures) (word_is_name c.args.bytes.now c.args.at c.requires.there c.requires.letter)
