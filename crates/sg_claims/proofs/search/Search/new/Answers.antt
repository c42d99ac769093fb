use Rattle.std.proofs.Common.{◌≡◌, ◌∷◌, [], ◌++◌, List, true, false, set, replicate, refl, sym, ◌∙◌, ap, subst}
use Rattle.sg_claims.specs.Search.{Any, IsSearch}
use Rattle.sg_claims.specs.declared.search.Entry.{Entry}
use Rattle.sg_claims.proofs.Searching.{search_begins}
use Rattle.sg_claims.proofs.search.Search.new.Goals as goal

pub returns : goal.returns
returns c = λ g claim.
    let first : Entry = record { node = 0; bit = false; from = 0; last = 0 } in
    let items : c.push.new.self.items ≡ first ∷ [] = c.in_ok-push.ensures.items ∙ ap (λ (es : List Entry). es ++ first ∷ []) c.new-entries.ensures.items in
    subst (λ (es : List Entry). IsSearch g claim 0 Any es (set (replicate 512 false) 0 true)) (sym items) (search_begins g claim first refl refl)
