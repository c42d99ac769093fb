-- How a text of parts is read: the statements of one part after another, up to the first wrong token.
use Rattle.std.specs.Prelude.{ℕ, zero, suc, Bool, if◌then◌else◌, List, [], ◌∷◌, ◌++◌, length, codes, Result, Ok, Err}
use Rattle.sg_model.specs.Lists.{has_text, is_in}
use Rattle.sg_protocol.specs.Graph.{Graph, Name}
use Rattle.sg_graph.specs.Adding.{no_parts}
use Rattle.sg_graph.specs.Parts.{node_names}
use Rattle.sg_parse.specs.Parts.{Part, Use, part_names, use_names}
use Rattle.sg_parse.specs.Reading.{Parser, on, after, give, known, token, branch, refused, name, new_name, known_name, index_of, statement, read_role, read_statements, read_end, whole}
use Rattle.sg_parse.specs.Tokens.{part_tokens, is_word, is_named, is_colon, is_semicolon, is_arrow, is_use, is_as, text_of}
use Rattle.sg_parse.specs.declared.token.Token.{Token}
use Rattle.sg_parse.specs.declared.fault.ParseFault.{ParseFault}
use Rattle.sg_parse.specs.declared.fault.ParseFault.TheVariants.{UnknownName, Twice}

-- the indices with that of one more name, which is one of the names and none of the indices yet, or the fault at its offset
abbrev pub with_index : List Name → List ℕ → Name × ℕ → Result (List ℕ) ParseFault
with_index names indices n =
    if has_text n.0 names then (if is_in (index_of n.0 names) indices then Err (Twice n.1) else Ok (indices ++ index_of n.0 names ∷ []))
    else Err (UnknownName n.1)

-- one more name
abbrev pub one_index : List Name → List ℕ → Parser (List ℕ)
one_index names indices = after name λ n. known (with_index names indices n)

-- the indices, with those of all names that follow and pass the test
abbrev pub more_indices : (Token → Bool) → List Name → List ℕ → Parser (List ℕ)
more_indices test names indices [] = give indices []
more_indices test names indices (p ∷ ps) =
    if test p.token then on (known (with_index names indices (text_of p.token, p.at)) ps) (λ next _. more_indices test names next ps)
    else give indices (p ∷ ps)

-- one or more of these names that pass the test, each once: their indices in the order in which they stand
abbrev pub some_indices : (Token → Bool) → List Name → Parser (List ℕ)
some_indices test names = branch test (more_indices test names []) refused

-- one reading after another as long as the next token passes the test, up to n times
unfoldable pub repeat : {A : Type 0} → ℕ → (Token → Bool) → (A → Parser A) → A → Parser A
repeat zero test reader x = give x
repeat (suc n) test reader x = branch test (after (reader x) (repeat n test reader)) (give x)

-- a use of one of the parts of these names
abbrev pub read_use : List Name → Graph → List Use → Parser (List Use)
read_use names g uses =
    after (token is_use) λ _.
    after (new_name (use_names uses)) λ n.
    after (token is_colon) λ _.
    after (known_name names) λ part.
    after (known_name (node_names g)) λ from.
    after (token is_arrow) λ _.
    after (known_name (node_names g)) λ to.
    after (token is_as) λ _.
    after (some_indices is_named g.roles) λ roles.
    after (token is_semicolon) λ _.
    give (uses ++ record { name = n; part = part; from = from; to = to; roles = roles } ∷ [])

-- all uses that follow: a text has no more of them than bytes
abbrev pub read_uses : ℕ → List Name → Graph → Parser (List Use)
read_uses bytes names g = repeat bytes is_use (read_use names g) []

-- the name of a part, which no part before it has
abbrev pub read_part_head : List Name → Parser Graph
read_part_head names =
    after (token (is_word (codes "graph"))) λ _.
    after (new_name names) λ n.
    after (token is_semicolon) λ _.
    give (no_parts n)

-- the name of a part and its first role
abbrev pub read_part_beginning : List Name → Parser Graph
read_part_beginning names = after (read_part_head names) λ g. statement (codes "role") read_role g

-- a part: the statements of its graph, then its uses
abbrev pub read_part : ℕ → List Part → Parser (List Part)
read_part bytes parts =
    after (read_part_head (part_names parts)) λ g.
    after (read_statements g) λ g.
    after (read_uses bytes (part_names parts) g) λ uses.
    give (parts ++ record { graph = g; uses = uses } ∷ [])

-- a part and all that follow, and the end: a text has no more of them than bytes
abbrev pub read_parts : ℕ → Parser (List Part)
read_parts bytes =
    after (read_part bytes []) λ parts.
    after (repeat bytes (is_word (codes "graph")) (read_part bytes) parts) λ parts.
    after read_end λ _.
    give parts

-- the parts that the bytes spell, or the fault at the first wrong token
abbrev pub read : List ℕ → Result (List Part) ParseFault
read bs = whole (read_parts (length bs) (part_tokens bs))
