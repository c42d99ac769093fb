-- Labels that the tokens spell are read.
use Rattle.std.proofs.Common.{◌≡◌, ℕ, ◌<◌, not, true, false, ◌&&◌, ◌⊎◌, inl, inr, List, [], ◌∷◌, ◌++◌, length, get_or, refl}
use Rattle.std.specs.List.{list_all}
use Rattle.std.proofs.lemmas.Bool.{and_parts}
use Rattle.sg_claims_text.specs.Grammar.{between, AreLabels, since_tokens}
use Rattle.sg_claims_text.specs.Reading.{is_label, some_labels, read_since}
use Rattle.sg_model.specs.Lists.{has_text, all_differ}
use Rattle.sg_model.specs.Names.{Name, is_name, reserved}
use Rattle.sg_parse.specs.Grammar.{named}
use Rattle.sg_parse.specs.Tokens.{is_word}
use Rattle.sg_parse.specs.Reading.{give, skip}
use Rattle.sg_parse.specs.declared.token.Token.{Token}
use Rattle.sg_parse.specs.declared.token.Token.TheVariants.{Word}
use Rattle.sg_parse.proofs.Gives.{Gives, gives-give, gives-after, gives-skip, gives-first, gives-second, head_is, word-is}
use Rattle.sg_parse.proofs.GivesIndices.{gives-indices}
use Rattle.sg_parse.proofs.Middle.{name-at}
use Rattle.sg_protocol.specs.Graph.{AreNames}

-- a name that is free and none of the words between lists may stand in a list
label-is : (n : Name) → has_text n reserved ≡ false → has_text n between ≡ false → is_label (Word n) ≡ true
label-is n free out = rw (free, out) refl

module _ (names : List Name) (are : AreNames names) where
  -- the name of a label stands in a list
  label-at : (l : ℕ) → l < length names → has_text (get_or names l []) between ≡ false → is_label (Word (get_or names l [])) ≡ true
  label-at l below out =
      let parts = and_parts (list_all (λ n. is_name n && not (has_text n reserved)) names) (all_differ names) are in
      label-is (get_or names l []) (name-at names l below parts.0) out

  -- one or more labels
  pub gives-labels : (labels : List ℕ) (us : List Token) → AreLabels names labels → head_is is_label us ≡ false → Gives (some_labels names) (named names labels) us labels
  gives-labels labels us are' h =
      gives-indices is_label names are labels us are'.some are'.there (λ k d l. label-at (get_or labels k d) (are'.there k d l) (are'.spelled k d l)) are'.differ h

  -- the labels after a word, or none
  pub gives-since : (first : Name) (labels : List ℕ) (us : List Token) → (labels ≡ []) ⊎ AreLabels names labels → head_is is_label us ≡ false → head_is (is_word first) us ≡ false
      → Gives (read_since first names) (since_tokens names first labels) us labels
  gives-since first [] us are' h away = gives-second (is_word first) _ (give []) [] us [] away (gives-give [] us)
  gives-since first (x ∷ xs) us (inl e) h away = absurd (cc)
  gives-since first (x ∷ xs) us (inr are') h away =
      gives-first (is_word first) _ (give []) (Word first ∷ named names (x ∷ xs)) us (x ∷ xs) (word-is first)
      (gives-after skip (λ _. some_labels names) (Word first ∷ []) (named names (x ∷ xs)) us tt (x ∷ xs) (gives-skip (Word first) (named names (x ∷ xs) ++ us)) (gives-labels (x ∷ xs) us are' h))
