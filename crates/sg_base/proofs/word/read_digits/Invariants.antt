use Rattle.std.proofs.Common.{◌≡◌, ◌≤◌, drop}
use Rattle.sg_base.proofs.WordLaws.{digits_from}
use Rattle.sg_base.proofs.word.read_digits.Given as goal

abbrev pub invariant-digits : goal.invariant-digits
invariant-digits l = (digits_from l.most 0 l.word ≡ digits_from l.most l.value (drop l.digit-index l.word)) × (l.value ≤ l.most)
