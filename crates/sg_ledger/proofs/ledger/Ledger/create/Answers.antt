use Rattle.std.proofs.Common.{◌≡◌, [], List, ℕ, length, sym, ◌∙◌, ap, subst, arith}
use Rattle.sg_ledger.specs.Format.{IsBlank, Represents}
use Rattle.sg_ledger.proofs.Blank.{blank_represents, over_nothing}
use Rattle.sg_ledger.proofs.ledger.Ledger.create.Goals as goal

pub returns-in-Ok-write_through-clause-made : goal.returns-in-Ok-write_through-clause-made
returns-in-Ok-write_through-clause-made g c = λ image left.
    let from = c.in-Ok-write_through.ensures.durable image left in
    let size = c.in-Ok.ensures.length from.0 (sym c.size.ensures.kept ∙ from.1) in
    let empty : length from.0 ≡ 0 = omega (arith, size, c.if-size-ne0.false) in
    subst (λ (f : List ℕ). Represents f []) (sym (from.2 ∙ over_nothing from.0 _ empty ∙ c.deref.ensures.value)) (blank_represents _ c.in-Ok-empty_file.ensures)
