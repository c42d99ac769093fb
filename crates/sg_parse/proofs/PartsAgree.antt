-- The reading of a text of parts and its grammar agree.
use Rattle.std.proofs.Common.{◌≡◌, ℕ, List, Result, Ok, Err, IfOk, MatchResult, refl, sym, ◌∙◌}
use Rattle.sg_parse.specs.Parts.{Part}
use Rattle.sg_parse.specs.PartsGrammar.{SpellsParts}
use Rattle.sg_parse.specs.Owed.{Refuses}
use Rattle.sg_parse.specs.PartsReading.{read}
use Rattle.sg_parse.specs.declared.fault.ParseFault.{ParseFault}
use Rattle.sg_parse.specs.declared.fault.ParseFault.TheVariants.{BadByte, Unexpected, UnknownName, Twice, TooMany, OutOfMemory}
use Rattle.sg_parse.proofs.Took.{ok_same}
use Rattle.sg_parse.proofs.TookParts.{read-spells}
use Rattle.sg_parse.proofs.GivesParts.{spells-read}

module _ {V : Type 0} (items : V → List Part) (bs : List ℕ) where
  -- what is read is spelled
  pub found : (result : Result V ParseFault) → MatchResult result (λ v. read bs ≡ Ok (items v)) (Refuses (read bs)) → IfOk result (λ v. SpellsParts bs (items v))
  found (Ok v) h = read-spells bs (items v) h
  found (Err e) h = tt

  clash : (ps : List Part) (e : ParseFault) → SpellsParts bs ps → read bs ≡ Err e → ⊥
  clash ps e s h = let ok : read bs ≡ Ok ps = spells-read bs ps s in cc

  -- what is spelled is read, or memory ran out
  pub only : (result : Result V ParseFault) → MatchResult result (λ v. read bs ≡ Ok (items v)) (Refuses (read bs)) → (ps : List Part) → SpellsParts bs ps
      → MatchResult result (λ v. items v ≡ ps) (λ e. e ≡ OutOfMemory)
  only (Ok v) r ps s = ok_same (items v) ps (sym r ∙ spells-read bs ps s)
  only (Err OutOfMemory) r ps s = refl
  only (Err (BadByte at)) r ps s = absurd (clash ps (BadByte at) s r)
  only (Err (Unexpected at)) r ps s = absurd (clash ps (Unexpected at) s r)
  only (Err (UnknownName at)) r ps s = absurd (clash ps (UnknownName at) s r)
  only (Err (Twice at)) r ps s = absurd (clash ps (Twice at) s r)
  only (Err (TooMany at)) r ps s = absurd (clash ps (TooMany at) s r)
