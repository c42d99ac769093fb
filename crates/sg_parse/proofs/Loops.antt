-- Statements one after the other, as a loop reads them.
use Rattle.std.proofs.Common.{◌≡◌, ℕ, zero, suc, ◌+◌, ◌-◌, ◌<◌, ◌≤◌, true, false, List, Result, Ok, Err, refl, sym, ap, subst, ◌∙◌, arith}
use Rattle.sg_protocol.specs.Graph.{Graph}
use Rattle.sg_parse.specs.Owed.{Refuses, ReadsInto, Reads}
use Rattle.sg_parse.specs.Tokens.{is_word}
use Rattle.sg_parse.specs.Reading.{Parsed, Parser, on, give, is_next, token, statement, up_to, no_more}
use Rattle.sg_parse.specs.declared.token.TokenAt.{TokenAt}
use Rattle.sg_parse.specs.declared.fault.ParseFault.{ParseFault}
use Rattle.sg_parse.specs.declared.fault.ParseFault.TheVariants.{BadByte, Unexpected, UnknownName, Twice, TooMany, OutOfMemory}

-- a fault of one reading that is the fault of another
pub refuses : {A B : Type 0} (r : Result A ParseFault) (s : Result B ParseFault) (e : ParseFault) → (r ≡ Err e → s ≡ Err e) → Refuses r e → Refuses s e
refuses r s OutOfMemory k h = tt
refuses r s (BadByte at) k h = k h
refuses r s (Unexpected at) k h = k h
refuses r s (UnknownName at) k h = k h
refuses r s (Twice at) k h = k h
refuses r s (TooMany at) k h = k h

module _ (first : List ℕ) (reader : Graph → Parser Graph) where
  -- a statement's first word, and what is read after it
  pub statement_read : {X : Type 0} (w : List ℕ) (g h : Graph) (ps qs rs : List TokenAt) (result : Result X ParseFault) → w ≡ first → token (is_word w) ps ≡ Ok (record { value = tt; rest = qs })
      → ReadsInto (reader g) qs rs h result → ReadsInto (statement first reader g) ps rs h result
  statement_read {X = X} w g h ps qs rs result same word read = go result read
    where
      goes_on : statement first reader g ps ≡ reader g qs
      goes_on = ap (λ r. on r (λ _. reader g)) (subst (λ w. token (is_word w) ps ≡ Ok (record { value = tt; rest = qs })) same word)

      go : (result : Result X ParseFault) → ReadsInto (reader g) qs rs h result → ReadsInto (statement first reader g) ps rs h result
      go (Ok x) read = goes_on ∙ read
      go (Err e) read = refuses (reader g qs) (statement first reader g ps) e (λ k. goes_on ∙ k) read

  -- the word is there, so a statement is read
  pub up_to-there : (n : ℕ) (g : Graph) (ps : List TokenAt) → is_next (is_word first) ps ≡ true → up_to (suc n) first reader g ps ≡ on (statement first reader g ps) (up_to n first reader)
  unfolding up_to
  up_to-there n g ps h = rw h refl

  -- the word isn't there, so no more are read
  pub up_to-away : (n : ℕ) (g : Graph) (ps : List TokenAt) → is_next (is_word first) ps ≡ false → up_to n first reader g ps ≡ Ok (record { value = g; rest = ps })
  unfolding up_to
  up_to-away zero g ps h = rw h refl
  up_to-away (suc n) g ps h = rw h refl

  -- no more may be read
  pub up_to-none : (g : Graph) (ps : List TokenAt) → up_to 0 first reader g ps ≡ on (no_more first ps) (λ _. give g)
  unfolding up_to
  up_to-none g ps = refl

  -- one more statement
  pub up_to_more : (count i : ℕ) (g h : Graph) (ps qs : List TokenAt) (total : Result (Parsed Graph) ParseFault) → i < count → is_next (is_word first) ps ≡ true
      → statement first reader g ps ≡ Ok (record { value = h; rest = qs }) → up_to (count - i) first reader g ps ≡ total → up_to (count - (i + 1)) first reader h qs ≡ total
  up_to_more count i g h ps qs total lt there read so_far =
      let k : count - i ≡ suc (count - (i + 1)) = omega arith in
      let one : up_to (count - i) first reader g ps ≡ up_to (count - (i + 1)) first reader h qs =
      rw k (up_to-there (count - (i + 1)) g ps there ∙ ap (λ r. on r (up_to (count - (i + 1)) first reader)) read) in
      sym one ∙ so_far

  -- a statement that stops
  pub up_to_stop : (e : ParseFault) (count i : ℕ) (g : Graph) (ps : List TokenAt) (total : Result (Parsed Graph) ParseFault) → i < count → is_next (is_word first) ps ≡ true
      → Refuses (statement first reader g ps) e → up_to (count - i) first reader g ps ≡ total → Refuses total e
  up_to_stop e count i g ps total lt there stop so_far =
      let k : count - i ≡ suc (count - (i + 1)) = omega arith in
      refuses (statement first reader g ps) total e
      (λ h. sym so_far ∙ rw k (up_to-there (count - (i + 1)) g ps there ∙ ap (λ r. on r (up_to (count - (i + 1)) first reader)) h)) stop

  -- no more statements are there
  pub up_to_done : (n : ℕ) (g : Graph) (ps : List TokenAt) (total : Result (Parsed Graph) ParseFault) → is_next (is_word first) ps ≡ false
      → up_to n first reader g ps ≡ total → total ≡ Ok (record { value = g; rest = ps })
  up_to_done n g ps total away so_far = sym so_far ∙ up_to-away n g ps away

  -- as many as may be were read
  pub up_to_full : (count i : ℕ) (g : Graph) (start ps : List TokenAt) (whole : Parser Graph) (result : Result (Unit {0}) ParseFault) → count ≤ i
      → Reads (no_more first) ps ps result → up_to (count - i) first reader g ps ≡ whole start → ReadsInto whole start ps g result
  up_to_full count i g start ps whole (Ok x) le read so_far =
      let k : count - i ≡ 0 = omega arith in
      sym so_far ∙ rw k (up_to-none g ps ∙ ap (λ r. on r (λ _. give g)) read)
  up_to_full count i g start ps whole (Err e) le read so_far =
      let k : count - i ≡ 0 = omega arith in
      refuses (no_more first ps) (whole start) e (λ h. sym so_far ∙ rw k (up_to-none g ps ∙ ap (λ r. on r (λ _. give g)) h)) read
