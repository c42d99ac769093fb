-- The reading of a text of claims and its grammar agree.
use Rattle.std.proofs.Common.{◌≡◌, ℕ, List, Result, Ok, Err, IfOk, MatchResult, refl, sym, ◌∙◌}
use Rattle.sg_claims.specs.declared.claim.NamedClaim.{NamedClaim}
use Rattle.sg_claims_text.specs.Grammar.{SpellsClaims}
use Rattle.sg_claims_text.specs.Owed.{Refuses}
use Rattle.sg_claims_text.specs.Reading.{read}
use Rattle.sg_claims_text.specs.declared.fault.ClaimsFault.{ClaimsFault}
use Rattle.sg_claims_text.specs.declared.fault.ClaimsFault.TheVariants.{Text, OtherGraph}
use Rattle.sg_claims_text.proofs.TookClaims.{read-spells}
use Rattle.sg_claims_text.proofs.GivesClaims.{spells-read}
use Rattle.sg_parse.specs.declared.fault.ParseFault.TheVariants.{BadByte, Unexpected, UnknownName, Twice, TooMany, OutOfMemory}
use Rattle.sg_protocol.specs.Graph.{Graph, IsGraph}

module _ {V : Type 0} (items : V → List NamedClaim) (g : Graph) (bs : List ℕ) where
  -- what is read is spelled
  pub found : (result : Result V ClaimsFault) → MatchResult result (λ v. read g bs ≡ Ok (items v)) (Refuses (read g bs)) → IfOk result (λ v. SpellsClaims g bs (items v))
  found (Ok v) h = read-spells g bs (items v) h
  found (Err e) h = tt

  clash : (cs : List NamedClaim) (e : ClaimsFault) → IsGraph g → SpellsClaims g bs cs → read g bs ≡ Err e → ⊥
  clash cs e is s h = let ok : read g bs ≡ Ok cs = spells-read g bs cs is s in cc

  same : (cs ds : List NamedClaim) → (let r : Result (List NamedClaim) ClaimsFault = Ok cs in r ≡ Ok ds) → cs ≡ ds
  same cs ds e = cc

  -- what is spelled is read, or memory ran out
  pub only : (result : Result V ClaimsFault) → MatchResult result (λ v. read g bs ≡ Ok (items v)) (Refuses (read g bs)) → IsGraph g → (cs : List NamedClaim) → SpellsClaims g bs cs
      → MatchResult result (λ v. items v ≡ cs) (λ e. e ≡ Text OutOfMemory)
  only (Ok v) r is cs s = same (items v) cs (sym r ∙ spells-read g bs cs is s)
  only (Err (Text OutOfMemory)) r is cs s = refl
  only (Err (Text (BadByte at))) r is cs s = absurd (clash cs (Text (BadByte at)) is s r)
  only (Err (Text (Unexpected at))) r is cs s = absurd (clash cs (Text (Unexpected at)) is s r)
  only (Err (Text (UnknownName at))) r is cs s = absurd (clash cs (Text (UnknownName at)) is s r)
  only (Err (Text (Twice at))) r is cs s = absurd (clash cs (Text (Twice at)) is s r)
  only (Err (Text (TooMany at))) r is cs s = absurd (clash cs (Text (TooMany at)) is s r)
  only (Err (OtherGraph at)) r is cs s = absurd (clash cs (OtherGraph at) is s r)
