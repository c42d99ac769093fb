-- Labels that are read are those that the tokens spell.
use Rattle.std.proofs.Common.{◌≡◌, ℕ, ◌<◌, ◌≤◌, true, false, not, ◌⊎◌, inl, inr, List, [], ◌∷◌, length, get_or, Ok, refl, sym, ap, subst, ◌∙◌, arith}
use Rattle.std.proofs.lemmas.Bool.{not-true, and_parts}
use Rattle.sg_claims_text.specs.Grammar.{between, AreLabels, since_tokens}
use Rattle.sg_claims_text.specs.Reading.{is_between, is_label, some_labels, read_since}
use Rattle.sg_model.specs.Lists.{has_text}
use Rattle.sg_model.specs.Names.{Name}
use Rattle.sg_parse.specs.Grammar.{named}
use Rattle.sg_parse.specs.Tokens.{is_word, is_named, text_of}
use Rattle.sg_parse.specs.Reading.{Parsed, on, after, give, is_next, skip, index_of}
use Rattle.sg_parse.specs.declared.token.TokenAt.{TokenAt}
use Rattle.sg_parse.specs.declared.token.Token.{Token}
use Rattle.sg_parse.specs.declared.token.Token.TheVariants.{Word}
use Rattle.sg_parse.proofs.Sound.{IsSpelled, Sound}
use Rattle.sg_parse.proofs.Took.{Took, bare, branch-inv, took-give, named-word, index_has, only-word}
use Rattle.sg_parse.proofs.TookIndices.{took-indices}

-- a label of these names that isn't spelled like a word between lists
abbrev IsLabel : List Name → ℕ → Type 0
IsLabel names n = (n < length names) × (has_text (get_or names n []) between ≡ false)

-- a label's token is a word that is none of those between lists
label-word : (t : Token) → t ≡ Word (text_of t) → is_between t ≡ false → has_text (text_of t) between ≡ false
label-word t w h = subst (λ u. is_between u ≡ false) w h

-- a token that may stand in a list of labels is a word, and the label that it names is none of the words between lists
label-fits : (names : List Name) (t : Token) → IsSpelled t → is_label t ≡ true → (t ≡ Word (text_of t)) × (has_text (text_of t) names ≡ true → IsLabel names (index_of (text_of t) names))
label-fits names t s h =
    let parts = and_parts (is_named t) (not (is_between t)) h in
    let w = (named-word t s parts.0).0 in
    (w, (λ has. let there = index_has (text_of t) names has in (there.0, subst (λ m. has_text m between ≡ false) (sym there.1) (label-word t w (not-true (is_between t) parts.1)))))

module _ (names : List Name) where
  -- one or more labels
  pub took-labels : (ps : List TokenAt) (o : Parsed (List ℕ)) → Sound ps → some_labels names ps ≡ Ok o → Took ps o (named names o.value) × AreLabels names o.value
  took-labels ps o s h =
      let t = took-indices is_label names (IsLabel names) (label-fits names) ps o s h in
      (t.0, record { some = t.1; there = λ k d l. (t.2 k d l).0; differ = t.3; spelled = λ k d l. (t.2 k d l).1 })

  -- a word and labels after it
  since-some : (first : Name) (labels : List ℕ) → 1 ≤ length labels → Word first ∷ named names labels ≡ since_tokens names first labels
  since-some first [] l = absurd (omega (arith, l))
  since-some first (x ∷ xs) l = refl

  -- the labels after a word, or none
  pub took-since : (first : Name) (ps : List TokenAt) (o : Parsed (List ℕ)) → Sound ps → read_since first names ps ≡ Ok o
      → Took ps o (since_tokens names first o.value) × ((o.value ≡ []) ⊎ AreLabels names o.value)
  took-since first ps o s h = pick (branch-inv (is_word first) (after skip λ _. some_labels names) (give []) ps o h)
    where
      there : (ps : List TokenAt) → Sound ps → is_next (is_word first) ps ≡ true → on (skip ps) (λ _. some_labels names) ≡ Ok o
          → Took ps o (since_tokens names first o.value) × ((o.value ≡ []) ⊎ AreLabels names o.value)
      there [] s e k = absurd (cc)
      there (p ∷ ps) s e k =
          let t = took-labels ps o s.2 k in
          let took : Took (p ∷ ps) o (Word first ∷ named names o.value) =
          record { begins = ap (λ u. u ∷ bare ps) (only-word first p.token e) ∙ ap (λ l. Word first ∷ l) (t.0).begins; sound = (t.0).sound } in
          (subst (Took (p ∷ ps) o) (since-some first o.value (t.1).some) took, inr t.1)

      pick : ((is_next (is_word first) ps ≡ true) × (on (skip ps) (λ _. some_labels names) ≡ Ok o)) ⊎ ((is_next (is_word first) ps ≡ false) × (give [] ps ≡ Ok o))
          → Took ps o (since_tokens names first o.value) × ((o.value ≡ []) ⊎ AreLabels names o.value)
      pick (inl (e, k)) = there ps s e k
      pick (inr (e, k)) =
          let g = took-give [] ps o s k in
          (subst (λ l. Took ps o (since_tokens names first l)) g.0 g.1, inl (sym g.0))
