-- What the reader of a text of claims owes the definition.
use Rattle.std.specs.Prelude.{◌≡◌, Result, Err}
use Rattle.sg_claims_text.specs.declared.fault.ClaimsFault.{ClaimsFault}
use Rattle.sg_claims_text.specs.declared.fault.ClaimsFault.TheVariants.{Text}
use Rattle.sg_parse.specs.declared.fault.ParseFault.TheVariants.{OutOfMemory}

-- the definition has this fault, or memory ran out
abbrev pub Refuses : {A : Type 0} → Result A ClaimsFault → ClaimsFault → Type 0
Refuses read (Text OutOfMemory) = Unit {0}
Refuses read e = read ≡ Err e
