-- The text for bytes that are no claims of a graph.
use Rattle.std.specs.Prelude.{ℕ, List, ◌++◌, codes}
use Rattle.std.specs.Fmt.{decimal}
use Rattle.sg_claims_text.specs.declared.fault.ClaimsFault.{ClaimsFault}
use Rattle.sg_claims_text.specs.declared.fault.ClaimsFault.TheVariants.{Text, OtherGraph}
use Rattle.sg_parse.specs.FaultText.{parse_text}

-- the first wrong token of a text
abbrev pub fault_text : ClaimsFault → List ℕ
fault_text (Text e) = parse_text e
fault_text (OtherGraph at) = codes "other graph at " ++ decimal at
