-- The text of claims as it is written: a statement on each line.
use Rattle.std.specs.Prelude.{ℕ, List, [], ◌∷◌, ◌++◌, codes, flat_map}
use Rattle.sg_claims.specs.declared.claim.NamedClaim.{NamedClaim}
use Rattle.sg_graph.specs.NamesOfGraph.{walk_text}
use Rattle.sg_model.specs.Claims.{ClaimKind, Needs, Bars}
use Rattle.sg_protocol.specs.Graph.{Graph, ended}

-- a word and the labels after it, each after a space, or nothing if there are none
abbrev pub since_text : Graph → List ℕ → List ℕ → List ℕ
since_text g word [] = []
since_text g word (l ∷ ls) = word ++ walk_text g (l ∷ ls)

-- what a claim says
abbrev pub kind_text : Graph → ClaimKind → (later earlier since : List ℕ) → List ℕ
kind_text g Needs later earlier since = walk_text g later ++ codes " needs" ++ walk_text g earlier ++ since_text g (codes " since") since
kind_text g Bars later earlier since = walk_text g earlier ++ codes " bars" ++ walk_text g later ++ since_text g (codes " until") since

-- the statement of a claim
abbrev pub claim_line : Graph → NamedClaim → List ℕ
claim_line g c = ended (codes "claim " ++ c.name ++ codes ":" ++ kind_text g c.claim.kind c.claim.later c.claim.earlier c.claim.since)

-- the text
abbrev pub written : Graph → List NamedClaim → List ℕ
written g cs = ended (codes "claims " ++ g.name) ++ flat_map (claim_line g) cs
