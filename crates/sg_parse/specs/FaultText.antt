-- The text for bytes that are no graph.
use Rattle.std.specs.Prelude.{ℕ, List, ◌++◌, codes}
use Rattle.std.specs.Fmt.{decimal}
use Rattle.sg_parse.specs.declared.fault.ParseFault.{ParseFault}
use Rattle.sg_parse.specs.declared.fault.ParseFault.TheVariants.{BadByte, Unexpected, UnknownName, Twice, TooMany, OutOfMemory}

-- the first wrong token of a text
abbrev pub parse_text : ParseFault → List ℕ
parse_text (BadByte at) = codes "bad byte at " ++ decimal at
parse_text (Unexpected at) = codes "unexpected at " ++ decimal at
parse_text (UnknownName at) = codes "unknown name at " ++ decimal at
parse_text (Twice at) = codes "twice at " ++ decimal at
parse_text (TooMany at) = codes "too many at " ++ decimal at
parse_text OutOfMemory = codes "out of memory"
