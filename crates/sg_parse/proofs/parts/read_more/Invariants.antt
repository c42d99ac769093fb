use Rattle.std.proofs.Common.{◌≡◌, ◌-◌, codes}
use Rattle.sg_parse.specs.PartsReading.{read_part, repeat}
use Rattle.sg_parse.specs.Tokens.{is_word}
use Rattle.sg_parse.proofs.parts.read_more.Given as goal

abbrev pub invariant-more : goal.invariant-more
invariant-more l = repeat (l.bytes - l.counter) (is_word (codes "graph")) (read_part l.bytes) l.parts l.scanner
    ≡ repeat l.bytes (is_word (codes "graph")) (read_part l.bytes) l.fn.parts l.fn.scanner
