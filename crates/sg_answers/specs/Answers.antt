-- The answers to a line of input that are no step's line. Each ends with a line feed.
use Rattle.std.specs.Prelude.{ℕ, ◌/◌, ◌%◌, false, List, [], ◌∷◌, ◌++◌, map, flat_map, codes}
use Rattle.std.specs.Fmt.{decimal, digit_glyph}
use Rattle.sg_model.specs.Names.{Name}
use Rattle.sg_protocol.specs.Graph.{Graph, kind_of, kind_text, node_name, variable_name, writes}
use Rattle.sg_graph.specs.Edges.{leaving_from}
use Rattle.sg_graph.specs.Parts.{edge_name}
use Rattle.sg_text.specs.Sessions.{numbered}
use Rattle.sg_text.specs.Walks.{with_commas}
use Rattle.sg_answers.specs.declared.line.Wrong.{Wrong}
use Rattle.sg_answers.specs.declared.line.Wrong.TheVariants.{Form, Unknown, Twice}

-- ---- lines that nothing is done for

-- the session of this number has had no line
abbrev pub unknown_text : (n : ℕ) → List ℕ
unknown_text n = codes "unknown " ++ numbered 115 n ++ 10 ∷ []

-- what is wrong with a line
abbrev pub wrong_text : Wrong → List ℕ
wrong_text Form = codes "wrong line: form" ++ 10 ∷ []
wrong_text Unknown = codes "wrong line: unknown" ++ 10 ∷ []
wrong_text Twice = codes "wrong line: twice" ++ 10 ∷ []

-- ---- the link

-- no delivery came in time
abbrev pub quiet_text : List ℕ
quiet_text = codes "quiet" ++ 10 ∷ []

-- the link could not give a delivery
abbrev pub failed_text : List ℕ
failed_text = codes "link failed" ++ 10 ∷ []

-- the frame of this number went to this principal once more
abbrev pub again_text : (frame : ℕ) → (to : Name) → List ℕ
again_text frame to = codes "again f" ++ decimal frame ++ codes " to " ++ to ++ 10 ∷ []

-- no frame of the session is kept
abbrev pub nothing_text : (n : ℕ) → List ℕ
nothing_text n = codes "nothing to send again in " ++ numbered 115 n ++ 10 ∷ []

-- an answer whose frame the link did not take
abbrev pub unsent_text : (answer : List ℕ) → List ℕ
unsent_text answer = codes "unsent " ++ answer

-- ---- what can be done in a session

-- a variable and its type
abbrev pub variable_text : Graph → ℕ → List ℕ
variable_text g x = variable_name g x ++ 58 ∷ kind_text (kind_of g x)

-- variables, the first after a bracket and the others after commas
abbrev pub opened : Graph → List ℕ → List ℕ
opened g [] = []
opened g (x ∷ xs) = 40 ∷ with_commas (map (variable_text g) (x ∷ xs))

-- variables between brackets, if there are some
abbrev pub bracketed : Graph → List ℕ → List ℕ
bracketed g [] = []
bracketed g (x ∷ xs) = opened g (x ∷ xs) ++ 41 ∷ []

-- a label and the variables that go with it, as its edge writes them
abbrev pub label_text : Graph → ℕ → List ℕ
label_text g e = edge_name g e ++ bracketed g (writes g e)

-- the role is at its turn at this node: the labels that leave it, each after a space
abbrev pub turn_text : (n : ℕ) → Graph → (node : ℕ) → List ℕ
turn_text n g node = codes "turn " ++ numbered 115 n ++ codes " at " ++ node_name g node ++ 58 ∷ flat_map (λ e. 32 ∷ label_text g e) (leaving_from g node) ++ 10 ∷ []

-- another role is at its turn
abbrev pub waits_text : (n : ℕ) → List ℕ
waits_text n = codes "waits " ++ numbered 115 n ++ 10 ∷ []

-- the session lives no more
abbrev pub over_text : (n : ℕ) → List ℕ
over_text n = codes "over " ++ numbered 115 n ++ 10 ∷ []

-- ---- identifiers

-- two hexadecimal digits for each byte, in small letters
abbrev pub hex_text : List ℕ → List ℕ
hex_text bytes = flat_map (λ b. digit_glyph false (b / 16) ∷ digit_glyph false (b % 16) ∷ []) bytes

-- the session's identifier
abbrev pub id_text : (n : ℕ) → (sid : List ℕ) → List ℕ
id_text n sid = codes "id " ++ numbered 115 n ++ 32 ∷ hex_text sid ++ 10 ∷ []
