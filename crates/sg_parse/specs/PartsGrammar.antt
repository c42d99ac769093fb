-- The grammar of a text of parts, as a relation between the bytes and the parts.
use Rattle.std.specs.Prelude.{◌≡◌, ℕ, List, [], ◌∷◌, ◌++◌, map, get_or, flat_map}
use Rattle.sg_protocol.specs.Graph.{Graph, Name, node_name}
use Rattle.sg_parse.specs.Grammar.{named, InTurn, SpellsStatements}
use Rattle.sg_parse.specs.Parts.{Part, Use as Used, AreParts, part_names}
use Rattle.sg_parse.specs.Tokens.{part_tokens}
use Rattle.sg_parse.specs.declared.token.Token.{Token}
use Rattle.sg_parse.specs.declared.token.Token.TheVariants.{Word, Colon, Semicolon, Arrow, Use, As, End}

-- the statement of a use, if the parts have these names
abbrev pub use_tokens : List Name → Graph → Used → List Token
use_tokens names g u = Use ∷ Word u.name ∷ Colon ∷ Word (get_or names u.part []) ∷ Word (node_name g u.from) ∷ Arrow ∷ Word (node_name g u.to)
    ∷ As ∷ named g.roles u.roles ++ Semicolon ∷ []

-- the statements of a part: those of its graph, then its uses
pub record SpellsPart (names : List Name) (p : Part) (ts : List Token) : Type 0 where
  pub of_graph : List Token
  pub graph : SpellsStatements p.graph of_graph
  pub spelled : ts ≡ of_graph ++ flat_map (use_tokens names p.graph) p.uses

-- the bytes are a text of the parts: their tokens are the statements of each part in turn, and the end
pub record SpellsParts (bs : List ℕ) (ps : List Part) : Type 0 where
  pub parts : AreParts ps
  pub of_parts : List Token
  pub spells : InTurn (SpellsPart (part_names ps)) ps of_parts
  pub spelled : map (λ p. p.token) (part_tokens bs) ≡ of_parts ++ End ∷ []
