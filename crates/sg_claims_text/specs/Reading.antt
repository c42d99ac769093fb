-- How a text of claims is read: one token after the other, up to the first that is wrong.
use Rattle.std.specs.Prelude.{ℕ, Bool, not, ◌&&◌, if◌then◌else◌, List, [], ◌∷◌, ◌++◌, codes, bytes_eq, Result, Ok, Err}
use Rattle.std.specs.List.{list_any}
use Rattle.sg_claims.specs.declared.claim.NamedClaim.{NamedClaim}
use Rattle.sg_claims_text.specs.Grammar.{between, most_claims, claim_names}
use Rattle.sg_claims_text.specs.declared.fault.ClaimsFault.{ClaimsFault}
use Rattle.sg_claims_text.specs.declared.fault.ClaimsFault.TheVariants.{Text, OtherGraph}
use Rattle.sg_graph.specs.Parts.{edge_names}
use Rattle.sg_model.specs.Claims.{Claim, ClaimKind, Needs, Bars}
use Rattle.sg_parse.specs.PartsReading.{more_indices, some_indices, repeat}
use Rattle.sg_parse.specs.Reading.{Parsed, Parser, after, give, token, branch, skip, name, new_name, no_more, read_end, whole}
use Rattle.sg_parse.specs.Tokens.{tokens, is_word, is_named, is_colon, is_semicolon}
use Rattle.sg_parse.specs.declared.token.Token.{Token}
use Rattle.sg_parse.specs.declared.fault.ParseFault.{ParseFault}
use Rattle.sg_protocol.specs.Graph.{Graph, Name}

-- a word that ends a list of labels
abbrev pub is_between : Token → Bool
is_between t = list_any (λ w. is_word w t) between

-- a name that may stand in a list of labels
abbrev pub is_label : Token → Bool
is_label t = is_named t && not (is_between t)

-- the labels, with those of all names that follow
abbrev pub more_labels : List Name → List ℕ → Parser (List ℕ)
more_labels = more_indices is_label

-- one or more labels of these names, each once, in the order in which they stand
abbrev pub some_labels : List Name → Parser (List ℕ)
some_labels = some_indices is_label

-- the labels after this word, or none if the word isn't there
abbrev pub read_since : Name → List Name → Parser (List ℕ)
read_since first names = branch (is_word first) (after skip λ _. some_labels names) (give [])

-- the claim of this kind that names its labels in this order
abbrev pub claim_of : ClaimKind → (first second since : List ℕ) → Claim
claim_of Needs first second since = record { kind = Needs; later = first; earlier = second; since = since }
claim_of Bars first second since = record { kind = Bars; later = second; earlier = first; since = since }

-- the word before the last labels of a claim
abbrev pub since_word : ClaimKind → Name
since_word Needs = codes "since"
since_word Bars = codes "until"

-- the rest of a claim, after its first labels and the word of its kind
abbrev pub read_rest : ClaimKind → List Name → List ℕ → Parser Claim
read_rest kind names first =
    after (some_labels names) λ second.
    after (read_since (since_word kind) names) λ since.
    give (claim_of kind first second since)

-- a claim that labels need others, after `needs`
abbrev pub read_needs : List Name → List ℕ → Parser Claim
read_needs = read_rest Needs

-- a claim that labels bar others, after `bars`
abbrev pub read_bars : List Name → List ℕ → Parser Claim
read_bars = read_rest Bars

-- what a claim says
abbrev pub read_kind : List Name → Parser Claim
read_kind names =
    after (some_labels names) λ first.
    branch (is_word (codes "needs")) (after skip λ _. read_needs names first) (after (token (is_word (codes "bars"))) λ _. read_bars names first)

-- one more claim
abbrev pub read_claim : List Name → List NamedClaim → Parser (List NamedClaim)
read_claim names claims =
    after (token (is_word (codes "claim"))) λ _.
    after (new_name (claim_names claims)) λ n.
    after (token is_colon) λ _.
    after (read_kind names) λ claim.
    after (token is_semicolon) λ _.
    give (claims ++ record { name = n; claim = claim } ∷ [])

-- all claims, after the graph's name, and the end
abbrev pub read_claims : List Name → Parser (List NamedClaim)
read_claims names =
    after (token is_semicolon) λ _.
    after (repeat most_claims (is_word (codes "claim")) (read_claim names) []) λ claims.
    after (no_more (codes "claim")) λ _.
    after read_end λ _.
    give claims

-- the name of a graph, and its offset
abbrev pub read_name : Parser (Name × ℕ)
read_name = after (token (is_word (codes "claims"))) λ _. name

-- what was read, or the fault, which a graph's text may have too
abbrev pub in_text : {A : Type 0} → Result A ParseFault → Result A ClaimsFault
in_text (Ok x) = Ok x
in_text (Err e) = Err (Text e)

-- the claims after the name of this graph, or the fault at another name
abbrev pub read_named : Graph → Result (Parsed (Name × ℕ)) ParseFault → Result (List NamedClaim) ClaimsFault
read_named g (Err e) = Err (Text e)
read_named g (Ok r) = if bytes_eq r.value.0 g.name then in_text (whole (read_claims (edge_names g) r.rest)) else Err (OtherGraph r.value.1)

-- the claims of the graph that the bytes spell, or the fault at the first wrong token
abbrev pub read : Graph → List ℕ → Result (List NamedClaim) ClaimsFault
read g bs = read_named g (read_name (tokens bs))
