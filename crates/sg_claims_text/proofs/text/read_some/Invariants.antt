use Rattle.std.proofs.Common.{◌≡◌, ◌-◌, codes}
use Rattle.sg_claims_text.specs.Reading.{read_claim}
use Rattle.sg_parse.specs.PartsReading.{repeat}
use Rattle.sg_parse.specs.Tokens.{is_word}
use Rattle.sg_claims_text.proofs.text.read_some.Given as goal

abbrev pub invariant-claims : goal.invariant-claims
invariant-claims l = repeat (1024 - l.counter) (is_word (codes "claim")) (read_claim l.names) l.claims l.scanner
    ≡ repeat 1024 (is_word (codes "claim")) (read_claim l.names) l.fn.claims l.fn.scanner
