use Rattle.std.proofs.Common.{◌≡◌, Bool, true, false, ◌||◌, List, ℕ, [], ◌∷◌, sym, ap, ◌∙◌}
use Rattle.std.specs.Prelude.{bytes_eq, codes}
use Rattle.std.proofs.lemmas.List.Folds.{list_any-append}
use Rattle.sg_model.specs.Lists.{has_text}
use Rattle.sg_model.specs.Names.{reserved}
use Rattle.sg_base.proofs.name.Name.reserved.Goals as goal

-- a reserved word begins a statement or stands within one
either : (w : List ℕ) (first : Bool) (b : Bool) → first ≡ has_text w (codes "graph" ∷ codes "role" ∷ codes "var" ∷ codes "node" ∷ codes "edge" ∷ []) → first ≡ b
    → (b || has_text w (codes "int" ∷ codes "text" ∷ codes "by" ∷ codes "writes" ∷ codes "reads" ∷ [])) ≡ has_text w reserved
either w first b is e =
    ap (λ (f : Bool). f || has_text w (codes "int" ∷ codes "text" ∷ codes "by" ∷ codes "writes" ∷ codes "reads" ∷ [])) (sym e ∙ is)
    ∙ sym (list_any-append (bytes_eq w) (codes "graph" ∷ codes "role" ∷ codes "var" ∷ codes "node" ∷ codes "edge" ∷ [])
    (codes "int" ∷ codes "text" ∷ codes "by" ∷ codes "writes" ∷ codes "reads" ∷ []))

pub returns-then-begins_statement : goal.returns-then-begins_statement
returns-then-begins_statement c =
    c.if-begins_statement.true ∙ either c.as_bytes-word.result.now c.begins_statement.result true c.begins_statement.ensures c.if-begins_statement.true
    ∙ ap (λ (w : List ℕ). has_text w reserved) c.as_bytes-word.ensures.bytes

pub returns-else-begins_statement : goal.returns-else-begins_statement
returns-else-begins_statement c =
    c.stands_within.ensures ∙ either c.as_bytes-word.result.now c.begins_statement.result false c.begins_statement.ensures c.if-begins_statement.false
    ∙ ap (λ (w : List ℕ). has_text w reserved) c.as_bytes-word.ensures.bytes
