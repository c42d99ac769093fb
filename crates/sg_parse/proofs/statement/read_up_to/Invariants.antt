use Rattle.std.proofs.Common.{◌≡◌, ◌+◌, ◌-◌}
use Rattle.sg_parse.specs.Kinds.{first_word, reader_of, count_of}
use Rattle.sg_parse.specs.Reading.{up_to}
use Rattle.sg_parse.proofs.statement.read_up_to.Given as goal

abbrev pub invariant-more : goal.invariant-more
invariant-more l = record {
  reads : up_to (l.most - l.counter) (first_word l.kind) (reader_of l.kind) l.graph l.scanner ≡ up_to l.most (first_word l.kind) (reader_of l.kind) l.fn.graph l.fn.scanner;
  count : count_of l.kind l.graph ≡ count_of l.kind l.fn.graph + l.counter;
}
