-- The grammar of a text of claims, as a relation between the bytes and the claims of a graph.
use Rattle.std.specs.Prelude.{◌≡◌, ℕ, ◌<◌, ◌≤◌, false, List, [], ◌∷◌, ◌++◌, map, length, get_or, codes, All, IsTrue, flat_map, ◌⊎◌}
pub use Rattle.sg_claims.specs.Suggestions.{between}
use Rattle.sg_claims.specs.declared.claim.NamedClaim.{NamedClaim}
use Rattle.sg_graph.specs.Parts.{edge_names}
use Rattle.sg_model.specs.Claims.{Claim, ClaimKind, Needs, Bars}
use Rattle.sg_model.specs.Lists.{has_text}
use Rattle.sg_parse.specs.Grammar.{differ, named}
use Rattle.sg_parse.specs.Tokens.{tokens}
use Rattle.sg_parse.specs.declared.token.Token.{Token}
use Rattle.sg_parse.specs.declared.token.Token.TheVariants.{Word, Colon, Semicolon, End}
use Rattle.sg_protocol.specs.Graph.{Graph, Name, AreNames}

-- the most claims that a text has
abbrev pub most_claims : ℕ
most_claims = 1024

-- the names of the claims
abbrev pub claim_names : List NamedClaim → List Name
claim_names cs = map (λ c. c.name) cs

-- one or more different labels of those that have these names, and none that is spelled like a word between lists
pub record AreLabels (names : List Name) (labels : List ℕ) : Type 0 where
  pub some : 1 ≤ length labels
  pub there : All (λ l. l < length names) labels
  pub differ : IsTrue (differ labels)
  pub spelled : All (λ l. has_text (get_or names l []) between ≡ false) labels

-- a claim on these labels: those of `since` may be none
pub record IsClaim (names : List Name) (c : Claim) : Type 0 where
  pub later : AreLabels names c.later
  pub earlier : AreLabels names c.earlier
  pub since : (c.since ≡ []) ⊎ AreLabels names c.since

-- a word and the labels after it, or nothing if there are none
abbrev pub since_tokens : List Name → Name → List ℕ → List Token
since_tokens names word [] = []
since_tokens names word (l ∷ ls) = Word word ∷ named names (l ∷ ls)

-- what a claim says: A needs B since C, or B bars A until C, where A is `later`, B `earlier` and C `since`
abbrev pub claim_kind_tokens : List Name → ClaimKind → (later earlier since : List ℕ) → List Token
claim_kind_tokens names Needs later earlier since = named names later ++ Word (codes "needs") ∷ (named names earlier ++ since_tokens names (codes "since") since)
claim_kind_tokens names Bars later earlier since = named names earlier ++ Word (codes "bars") ∷ (named names later ++ since_tokens names (codes "until") since)

-- the statement of a claim
abbrev pub claim_tokens : List Name → NamedClaim → List Token
claim_tokens names c = Word (codes "claim") ∷ Word c.name ∷ Colon ∷ claim_kind_tokens names c.claim.kind c.claim.later c.claim.earlier c.claim.since ++ Semicolon ∷ []

-- the statement of the graph's name
abbrev pub head_tokens : Name → List Token
head_tokens name = Word (codes "claims") ∷ Word name ∷ Semicolon ∷ []

-- the bytes are a text of these claims of the graph: their tokens are the statements of the claims in turn, and the end
pub record SpellsClaims (g : Graph) (bs : List ℕ) (cs : List NamedClaim) : Type 0 where
  pub few : length cs ≤ most_claims
  pub names : AreNames (claim_names cs)
  pub claims : All (λ c. IsClaim (edge_names g) c.claim) cs
  pub spelled : map (λ p. p.token) (tokens bs) ≡ head_tokens g.name ++ (flat_map (claim_tokens (edge_names g)) cs ++ End ∷ [])
