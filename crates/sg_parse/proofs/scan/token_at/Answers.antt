use Rattle.std.proofs.Common.{◌∙◌, sym}
use Rattle.sg_parse.proofs.Scanning.{word_there}
use Rattle.sg_parse.proofs.scan.token_at.Goals as goal

pub returns-then-is_letter-clause-tokens : goal.returns-then-is_letter-clause-tokens
returns-then-is_letter-clause-tokens c =
    rw (c.word_at.ensures.token, c.word_at.ensures.end) (word_there c.args.bytes.now c.args.at c.requires.there (sym c.is_letter.ensures ∙ c.if-is_letter.true) c.requires.begins)
