-- Rows: the text of a label, and digits.
use Rattle.std.specs.Prelude.{◌≡◌, [], ◌∷◌, codes, refl}
use Rattle.sg_protocol.specs.Graph.{Graph, Int, Text}
use Rattle.sg_answers.specs.Answers.{hex_text, label_text}

-- a shop whose customer gives an article and a price, or leaves
shop : Graph
shop = record {
  name = codes "shop";
  roles = codes "c" ∷ codes "p" ∷ [];
  variables = record { name = codes "article"; kind = Text; writers = 0 ∷ [] } ∷ record { name = codes "price"; kind = Int; writers = 0 ∷ [] } ∷ [];
  nodes = record { name = codes "n0"; role = 0 } ∷ record { name = codes "n1"; role = 1 } ∷ [];
  edges = record { name = codes "Order"; source = 0; target = 1; writes = 0 ∷ 1 ∷ []; reads = 0 ∷ [] }
      ∷ record { name = codes "Leave"; source = 0; target = 1; writes = []; reads = [] } ∷ [];
}

two_variables : label_text shop 0 ≡ codes "Order(article:text,price:int)"
unfolding shop
two_variables = refl

no_variable : label_text shop 1 ≡ codes "Leave"
unfolding shop
no_variable = refl

digits : hex_text (0 ∷ 171 ∷ []) ≡ codes "00ab"
digits = refl
