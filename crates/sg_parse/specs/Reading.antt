-- How tokens are read: one after the other, up to the first that is wrong.
use Rattle.std.specs.Prelude.{ℕ, zero, suc, Bool, false, if◌then◌else◌, List, [], ◌∷◌, codes, bytes_eq, Result, Ok, Err}
use Rattle.sg_base.specs.Sets.{with_member}
use Rattle.sg_model.specs.Lists.{has_text, is_in}
use Rattle.sg_model.specs.Limits.{most_edges, most_roles, most_variables}
use Rattle.sg_protocol.specs.Graph.{Graph, Name, VariableKind, Int, Text}
use Rattle.sg_graph.specs.Adding.{no_parts, with_role, with_variable, with_node, with_edge}
use Rattle.sg_graph.specs.Parts.{variable_names, node_names, edge_names}
use Rattle.sg_parse.specs.Tokens.{tokens, is_word, is_named, is_colon, is_semicolon, is_arrow, is_end, text_of}
use Rattle.sg_parse.specs.declared.token.Token.{Token}
use Rattle.sg_parse.specs.declared.token.Token.TheVariants.{Long, Bad}
use Rattle.sg_parse.specs.declared.token.TokenAt.{TokenAt}
use Rattle.sg_parse.specs.declared.fault.ParseFault.{ParseFault}
use Rattle.sg_parse.specs.declared.fault.ParseFault.TheVariants.{BadByte, Unexpected, UnknownName, Twice, TooMany}

-- ---- readers

-- what was read, and the tokens that are left
pub record Parsed (A : Type 0) : Type 0 where
  pub value : A
  pub rest : List TokenAt

-- reads tokens, or gives the fault at the first wrong one
abbrev pub Parser : Type 0 → Type 0
Parser A = List TokenAt → Result (Parsed A) ParseFault

-- the fault at a token that the grammar doesn't have at its position
abbrev pub refusal_of : Token → ℕ → ParseFault
refusal_of Bad at = BadByte at
refusal_of Long at = TooMany at
refusal_of t at = Unexpected at

-- nothing is read
abbrev pub give : {A : Type 0} → A → Parser A
give x ps = Ok (record { value = x; rest = ps })

-- the fault, whichever token is next
abbrev pub fail : {A : Type 0} → ParseFault → Parser A
fail e ps = Err e

-- what is known already, or a fault
abbrev pub known : {A : Type 0} → Result A ParseFault → Parser A
known (Ok x) = give x
known (Err e) = fail e

-- what comes after depends on what was read
abbrev pub on : {A B : Type 0} → Result (Parsed A) ParseFault → (A → Parser B) → Result (Parsed B) ParseFault
on (Err e) next = Err e
on (Ok r) next = next r.value r.rest

-- one reading after another
abbrev pub after : {A B : Type 0} → Parser A → (A → Parser B) → Parser B
after first next ps = on (first ps) next

-- the next token passes the test; a text has no token after its end
abbrev pub is_next : (Token → Bool) → List TokenAt → Bool
is_next test [] = false
is_next test (p ∷ ps) = test p.token

-- the offset of the next token
abbrev pub offset_of : List TokenAt → ℕ
offset_of [] = 0
offset_of (p ∷ ps) = p.at

-- the fault at the next token, which the grammar doesn't have at its position
abbrev pub refusal : List TokenAt → ParseFault
refusal [] = Unexpected 0
refusal (p ∷ ps) = refusal_of p.token p.at

-- the grammar has no token for this position
abbrev pub refused : {A : Type 0} → Parser A
refused ps = Err (refusal ps)

-- the next token begins a statement too many
abbrev pub crowded : {A : Type 0} → Parser A
crowded ps = Err (TooMany (offset_of ps))

-- one reading if the next token passes the test, otherwise the other
abbrev pub branch : {A : Type 0} → (Token → Bool) → Parser A → Parser A → Parser A
branch test first second ps = if is_next test ps then first ps else second ps

-- the next token, whichever it is
abbrev pub skip : Parser (Unit {0})
skip [] = Err (Unexpected 0)
skip (p ∷ ps) = Ok (record { value = tt; rest = ps })

-- a token that passes the test
abbrev pub token : (Token → Bool) → Parser (Unit {0})
token test = branch test skip refused

-- ---- names

-- the bytes and the offset of the next token
abbrev pub word : Parser (Name × ℕ)
word [] = Err (Unexpected 0)
word (p ∷ ps) = Ok (record { value = (text_of p.token, p.at); rest = ps })

-- a name and its offset
abbrev pub name : Parser (Name × ℕ)
name = branch is_named word refused

-- a name that is none of these
abbrev pub new_name : List Name → Parser Name
new_name names = after name λ n. if has_text n.0 names then fail (Twice n.1) else give n.0

-- the index of a name among names
abbrev pub index_of : Name → List Name → ℕ
index_of n [] = 0
index_of n (m ∷ ms) = if bytes_eq n m then 0 else suc (index_of n ms)

-- a name that is one of these, by its index
abbrev pub known_name : List Name → Parser ℕ
known_name names = after name λ n. if has_text n.0 names then give (index_of n.0 names) else fail (UnknownName n.1)

-- the set with the index of a name, which is one of the names and not in the set yet, or the fault at its offset
abbrev pub joined : ℕ → List Name → List ℕ → Name × ℕ → Result (List ℕ) ParseFault
joined width names set n =
    if has_text n.0 names then (if is_in (index_of n.0 names) set then Err (Twice n.1) else Ok (with_member width set (index_of n.0 names)))
    else Err (UnknownName n.1)

-- a name that joins the set
abbrev pub one_more : ℕ → List Name → List ℕ → Parser (List ℕ)
one_more width names set = after name λ n. known (joined width names set n)

-- the set, with the indices of all names that follow
abbrev pub more_names : ℕ → List Name → List ℕ → Parser (List ℕ)
more_names width names set [] = give set []
more_names width names set (p ∷ ps) =
    if is_named p.token then on (known (joined width names set (text_of p.token, p.at)) ps) (λ next _. more_names width names next ps)
    else give set (p ∷ ps)

-- one or more of these names, each once: the set of their indices
abbrev pub some_names : ℕ → List Name → Parser (List ℕ)
some_names width names = branch is_named (more_names width names []) refused

-- ---- statements, each after its first word

-- a role
abbrev pub read_role : Graph → Parser Graph
read_role g =
    after (new_name g.roles) λ n.
    after (token is_semicolon) λ _.
    give (with_role g n)

-- a type
abbrev pub read_kind : Parser VariableKind
read_kind = branch (is_word (codes "int")) (after skip λ _. give Int) (after (token (is_word (codes "text"))) λ _. give Text)

-- a variable
abbrev pub read_variable : Graph → Parser Graph
read_variable g =
    after (new_name (variable_names g)) λ n.
    after (token is_colon) λ _.
    after read_kind λ kind.
    after (token (is_word (codes "by"))) λ _.
    after (some_names most_roles g.roles) λ writers.
    after (token is_semicolon) λ _.
    give (with_variable g (record { name = n; kind = kind; writers = writers }))

-- a node
abbrev pub read_node : Graph → Parser Graph
read_node g =
    after (new_name (node_names g)) λ n.
    after (token is_colon) λ _.
    after (known_name g.roles) λ role.
    after (token is_semicolon) λ _.
    give (with_node g (record { name = n; role = role }))

-- the variables of an edge after this word, or none if the word isn't there
abbrev pub read_clause : List ℕ → List Name → Parser (List ℕ)
read_clause first names = branch (is_word first) (after skip λ _. some_names most_variables names) (give [])

-- an edge
abbrev pub read_edge : Graph → Parser Graph
read_edge g =
    after (new_name (edge_names g)) λ n.
    after (token is_colon) λ _.
    after (known_name (node_names g)) λ source.
    after (token is_arrow) λ _.
    after (known_name (node_names g)) λ target.
    after (read_clause (codes "writes") (variable_names g)) λ writes.
    after (read_clause (codes "reads") (variable_names g)) λ reads.
    after (token is_semicolon) λ _.
    give (with_edge g (record { name = n; source = source; target = target; writes = writes; reads = reads }))

-- ---- the text

-- a statement that begins with this word
abbrev pub statement : List ℕ → (Graph → Parser Graph) → Graph → Parser Graph
statement first reader g = after (token (is_word first)) λ _. reader g

-- this word isn't next: it would begin a statement too many
abbrev pub no_more : List ℕ → Parser (Unit {0})
no_more first = branch (is_word first) crowded (give tt)

-- statements that begin with this word, up to n of them, and then no such word
unfoldable pub up_to : ℕ → List ℕ → (Graph → Parser Graph) → Graph → Parser Graph
up_to zero first reader g = after (no_more first) λ _. give g
up_to (suc n) first reader g = branch (is_word first) (after (statement first reader g) (up_to n first reader)) (give g)

-- two roles and up to sixteen
abbrev pub read_roles : Graph → Parser Graph
read_roles g =
    after (statement (codes "role") read_role g) λ g.
    after (statement (codes "role") read_role g) λ g.
    up_to 14 (codes "role") read_role g

-- up to 32 variables
abbrev pub read_variables : Graph → Parser Graph
read_variables g = up_to most_variables (codes "var") read_variable g

-- a node and up to 256
abbrev pub read_nodes : Graph → Parser Graph
read_nodes g = after (statement (codes "node") read_node g) λ g. up_to 255 (codes "node") read_node g

-- up to 512 edges
abbrev pub read_edges : Graph → Parser Graph
read_edges g = up_to most_edges (codes "edge") read_edge g

-- the graph's name
abbrev pub read_head : Parser Graph
read_head =
    after (token (is_word (codes "graph"))) λ _.
    after name λ n.
    after (token is_semicolon) λ _.
    give (no_parts n.0)

-- the graph's name and its first role
abbrev pub read_beginning : Parser Graph
read_beginning = after read_head λ g. statement (codes "role") read_role g

-- the end of the text
abbrev pub read_end : Parser (Unit {0})
read_end = branch is_end (give tt) refused

-- the statements after the graph's name
abbrev pub read_statements : Graph → Parser Graph
read_statements g =
    after (read_roles g) λ g.
    after (read_variables g) λ g.
    after (read_nodes g) λ g.
    read_edges g

-- all statements, and the end
abbrev pub read_text : Parser Graph
read_text =
    after read_head λ g.
    after (read_statements g) λ g.
    after read_end λ _.
    give g

-- what was read of all the tokens
abbrev pub whole : {A : Type 0} → Result (Parsed A) ParseFault → Result A ParseFault
whole (Err e) = Err e
whole (Ok r) = Ok r.value

-- the graph that the bytes spell, or the fault at the first wrong token
abbrev pub read : List ℕ → Result Graph ParseFault
read bs = whole (read_text (tokens bs))
