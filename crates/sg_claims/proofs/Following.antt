-- One more edge is followed.
use Rattle.std.proofs.Common.{◌≡◌, ℕ, ◌<◌, Bool, true, false, ◌⊎◌, List, [], ◌∷◌, ◌++◌, length, get_or, set, sym, ◌∙◌, ap, subst, inl, inr, arith}
use Rattle.std.proofs.lemmas.Bool.{cases_Bool}
use Rattle.std.proofs.lemmas.List.{get_or_append_left}
use Rattle.sg_model.specs.Shape.{Shape, source, target}
use Rattle.sg_model.specs.Claims.{Claim, bit_after}
use Rattle.sg_model.proofs.Small.{length-more}
use Rattle.sg_claims.specs.Index.{index_of}
use Rattle.sg_claims.specs.Search.{entry_at, IsEntered, IsSearch}
use Rattle.sg_claims.specs.declared.search.Entry.{Entry}
use Rattle.sg_claims.proofs.Searching.{search_with, known, entered}

-- where a label leads that is left was found or is entered, and it is left no more
pub followed : (g : Shape) (c : Claim) (at : ℕ) (left left' : ℕ → Type 0) (entries entries' : List Entry) (seen seen' : List Bool) (new : Entry) → IsSearch g c at left entries seen → at < length entries
    → new.node ≡ target g new.last → new.bit ≡ bit_after c (entry_at entries at).bit new.last → new.from ≡ at → left new.last → new.last < length g.edges → source g new.last ≡ (entry_at entries at).node → new.node < 256
    → ((e : ℕ) → left e → (e ≡ new.last) ⊎ left' e) → ((e : ℕ) → left' e → left e) → ((e : ℕ) → left' e → new.last < e)
    → (get_or seen (index_of new.node new.bit) false ≡ true → (entries' ≡ entries) × (seen' ≡ seen))
    → (get_or seen (index_of new.node new.bit) false ≡ false → (entries' ≡ entries ++ new ∷ []) × (seen' ≡ set seen (index_of new.node new.bit) true))
    → IsSearch g c at left' entries' seen' × (at < length entries') × (entry_at entries' at ≡ entry_at entries at)
followed g c at left left' entries entries' seen seen' new x there node bit from is_left is_edge leaves small rest back greater stays grows =
    elim (cases_Bool (get_or seen (index_of new.node new.bit) false)) [
      | inl y ↦
          (let same = stays y in
          let index : get_or seen (index_of (target g new.last) (bit_after c (entry_at entries at).bit new.last)) false ≡ true =
          ap (λ n. get_or seen (index_of n (bit_after c (entry_at entries at).bit new.last)) false) (sym node) ∙ ap (λ b. get_or seen (index_of new.node b) false) (sym bit) ∙ y in
          let t = known g c at left entries seen new.last x is_left index in
          let done = search_with g c at left left' entries seen x (λ e l s k. elim (rest e k) [ inl is ↦ inl (subst (λ j. IsEntered g c entries at j) (sym is) t) | inr more ↦ inr more ]) back in
          (subst (λ b. IsSearch g c at left' entries' b) (sym same.1) (subst (λ es. IsSearch g c at left' es seen) (sym same.0) done), subst (λ (es : List Entry). at < length es) (sym same.0) there, ap (λ es. entry_at es at) same.0))
      | inr n ↦
          (let more = grows n in
          let done = entered g c at left left' entries seen new x there node bit from is_left is_edge leaves small n rest back greater in
          let longer : at < length (entries ++ new ∷ []) = (let m = length-more entries new in omega (arith, m, there)) in (
            subst (λ b. IsSearch g c at left' entries' b) (sym more.1) (subst (λ es. IsSearch g c at left' es (set seen (index_of new.node new.bit) true)) (sym more.0) done),
            subst (λ (es : List Entry). at < length es) (sym more.0) longer,
            ap (λ es. entry_at es at) more.0 ∙ get_or_append_left entries (new ∷ []) (record { node = 0; bit = false; from = 0; last = 0 }) at there,
          ))
    ]
