-- The reading of a text and its grammar agree.
use Rattle.std.proofs.Common.{◌≡◌, ℕ, List, Result, Ok, Err, IfOk, MatchResult, refl, sym, ◌∙◌}
use Rattle.sg_protocol.specs.Graph.{Graph}
use Rattle.sg_parse.specs.Grammar.{SpellsGraph}
use Rattle.sg_parse.specs.Owed.{Refuses}
use Rattle.sg_parse.specs.Reading.{read}
use Rattle.sg_parse.specs.declared.fault.ParseFault.{ParseFault}
use Rattle.sg_parse.specs.declared.fault.ParseFault.TheVariants.{BadByte, Unexpected, UnknownName, Twice, TooMany, OutOfMemory}
use Rattle.sg_parse.proofs.Took.{ok_same}
use Rattle.sg_parse.proofs.TookGraph.{read-spells}
use Rattle.sg_parse.proofs.GivesGraph.{spells-read}

-- what is read is spelled
pub found : (bs : List ℕ) (result : Result Graph ParseFault) → MatchResult result (λ g. read bs ≡ Ok g) (Refuses (read bs)) → IfOk result (SpellsGraph bs)
found bs (Ok g) h = read-spells bs g h
found bs (Err e) h = tt

clash : (bs : List ℕ) (g : Graph) (e : ParseFault) → SpellsGraph bs g → read bs ≡ Err e → ⊥
clash bs g e s h = let ok : read bs ≡ Ok g = spells-read bs g s in cc

-- what is spelled is read, or memory ran out
pub only : (bs : List ℕ) (result : Result Graph ParseFault) → MatchResult result (λ g. read bs ≡ Ok g) (Refuses (read bs)) → (g : Graph) → SpellsGraph bs g
    → MatchResult result (λ h. h ≡ g) (λ e. e ≡ OutOfMemory)
only bs (Ok h) r g s = ok_same h g (sym r ∙ spells-read bs g s)
only bs (Err OutOfMemory) r g s = refl
only bs (Err (BadByte at)) r g s = absurd (clash bs g (BadByte at) s r)
only bs (Err (Unexpected at)) r g s = absurd (clash bs g (Unexpected at) s r)
only bs (Err (UnknownName at)) r g s = absurd (clash bs g (UnknownName at) s r)
only bs (Err (Twice at)) r g s = absurd (clash bs g (Twice at) s r)
only bs (Err (TooMany at)) r g s = absurd (clash bs g (TooMany at) s r)
