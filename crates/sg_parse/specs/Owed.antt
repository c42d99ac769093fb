-- What a function that reads owes the definition of its construct.
use Rattle.std.specs.Prelude.{◌≡◌, List, Result, Ok, Err}
use Rattle.sg_parse.specs.Reading.{Parser}
use Rattle.sg_parse.specs.declared.token.TokenAt.{TokenAt}
use Rattle.sg_parse.specs.declared.fault.ParseFault.{ParseFault}
use Rattle.sg_parse.specs.declared.fault.ParseFault.TheVariants.{OutOfMemory}

-- the definition has this fault, or memory ran out
abbrev pub Refuses : {A : Type 0} → Result A ParseFault → ParseFault → Type 0
Refuses read OutOfMemory = Unit {0}
Refuses read e = read ≡ Err e

-- what was read, seen so, is what the definition reads, and the scanner has the tokens that are left
abbrev pub ReadsSeen : {X A : Type 0} → (X → A) → Parser A → List TokenAt → List TokenAt → Result X ParseFault → Type 0
ReadsSeen view reader old new (Ok x) = reader old ≡ Ok (record { value = view x; rest = new })
ReadsSeen view reader old new (Err e) = Refuses (reader old) e

-- what was read is what the definition reads
abbrev pub Reads : {A : Type 0} → Parser A → List TokenAt → List TokenAt → Result A ParseFault → Type 0
Reads reader old new result = ReadsSeen (λ x. x) reader old new result

-- what was read was put into x
abbrev pub ReadsInto : {A X : Type 0} → Parser A → List TokenAt → List TokenAt → A → Result X ParseFault → Type 0
ReadsInto reader old new x result = ReadsSeen (λ _. x) reader old new result
