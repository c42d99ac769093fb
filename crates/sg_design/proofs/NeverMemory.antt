-- The first fault of a text of claims isn't want of memory.
use Rattle.std.proofs.Common.{◌≡◌, ◌≢◌, ℕ, zero, suc, inl, inr, Bool, if◌then◌else◌, List, [], ◌∷◌, ◌++◌, codes, bytes_eq, Result, Ok, Err, ◌∙◌}
use Rattle.std.proofs.lemmas.Bool.{cases_Bool}
use Rattle.sg_claims.specs.declared.claim.NamedClaim.{NamedClaim}
use Rattle.sg_claims_text.specs.Grammar.{claim_names, most_claims}
use Rattle.sg_claims_text.specs.Reading.{in_text, is_label, more_labels, read, read_named, read_bars, read_claim, read_claims, read_kind, read_name, read_needs, read_since, some_labels}
use Rattle.sg_claims_text.specs.declared.fault.ClaimsFault.{ClaimsFault}
use Rattle.sg_claims_text.specs.declared.fault.ClaimsFault.TheVariants.{OtherGraph, Text}
use Rattle.sg_graph.specs.Parts.{edge_names}
use Rattle.sg_model.specs.Claims.{Claim, Needs, Bars}
use Rattle.sg_model.specs.Lists.{has_text, is_in}
use Rattle.sg_parse.specs.PartsReading.{repeat, with_index}
use Rattle.sg_parse.specs.Reading.{Parsed, Parser, after, branch, crowded, fail, give, index_of, is_next, known, name, new_name, no_more, on, read_end, refusal_of, refused, skip, token, whole, word}
use Rattle.sg_parse.specs.Tokens.{is_colon, is_end, is_named, is_semicolon, is_word, text_of, tokens}
use Rattle.sg_parse.specs.declared.token.Token.{Token}
use Rattle.sg_parse.specs.declared.token.Token.TheVariants.{Bad, Long}
use Rattle.sg_parse.specs.declared.token.TokenAt.{TokenAt}
use Rattle.sg_parse.specs.declared.fault.ParseFault.{ParseFault}
use Rattle.sg_parse.specs.declared.fault.ParseFault.TheVariants.{OutOfMemory, Twice}
use Rattle.sg_protocol.specs.Graph.{Graph, Name}

-- what is read, or a fault that isn't want of memory
abbrev IsDone : {A : Type 0} → Result A ParseFault → Type 0
IsDone (Ok x) = Unit {0}
IsDone (Err f) = f ≢ OutOfMemory

-- the parser gives no other
abbrev Done : {A : Type 0} → Parser A → Type 0
Done p = (ps : List TokenAt) → IsDone (p ps)

done_on : {A B : Type 0} (r : Result (Parsed A) ParseFault) (next : A → Parser B) → IsDone r → ((x : A) → Done (next x)) → IsDone (on r next)
done_on (Err e) next h k = h
done_on (Ok r) next h k = k r.value r.rest

done_after : {A B : Type 0} (p : Parser A) (next : A → Parser B) → Done p → ((x : A) → Done (next x)) → Done (after p next)
done_after p next h k ps = done_on (p ps) next (h ps) k

done_branch : {A : Type 0} (test : Token → Bool) (p q : Parser A) → Done p → Done q → Done (branch test p q)
done_branch test p q h k ps = elim (cases_Bool (is_next test ps)) [ inl y ↦ rw y (h ps) | inr n ↦ rw n (k ps) ]

not_memory : (t : Token) (at : ℕ) → refusal_of t at ≢ OutOfMemory
not_memory Bad at = λ e. cc
not_memory Long at = λ e. cc
not_memory _ at = λ e. cc

done_refused : (A : Type 0) → Done (refused {A = A})
done_refused A [] = λ e. cc
done_refused A (p ∷ ps) = not_memory p.token p.at

done_skip : Done skip
done_skip [] = λ e. cc
done_skip (p ∷ ps) = tt

done_token : (test : Token → Bool) → Done (token test)
done_token test = done_branch {A = Unit {0}} test skip (refused {A = Unit {0}}) done_skip (done_refused (Unit {0}))

done_word : Done word
done_word [] = λ e. cc
done_word (p ∷ ps) = tt

done_name : Done name
done_name = done_branch {A = Name × ℕ} is_named word (refused {A = Name × ℕ}) done_word (done_refused (Name × ℕ))

done_give : {A : Type 0} (x : A) → Done (give x)
done_give x ps = tt

done_new : (names : List Name) → Done (new_name names)
done_new names = done_after {A = Name × ℕ} {B = Name} name (λ n. if has_text n.0 names then fail (Twice n.1) else give n.0) done_name each
  where
    each : (n : Name × ℕ) (ps : List TokenAt) → IsDone {A = Parsed Name} ((if has_text n.0 names then fail {A = Name} (Twice n.1) else give n.0) ps)
    each n ps = elim (cases_Bool (has_text n.0 names)) [ inl y ↦ rw y (λ e. cc) | inr m ↦ rw m tt ]

done_index : (names : List Name) (labels : List ℕ) (n : Name × ℕ) → IsDone (with_index names labels n)
done_index names labels n =
    elim (cases_Bool (has_text n.0 names)) [
      | inr m ↦ rw m (λ e. cc)
      | inl y ↦ elim (cases_Bool (is_in (index_of n.0 names) labels)) [ inl z ↦ rw (y, z) (λ e. cc) | inr m ↦ rw (y, m) tt ]
    ]

done_no_more : (first : List ℕ) → Done (no_more first)
done_no_more first =
    done_branch {A = Unit {0}} (is_word first) (crowded {A = Unit {0}}) (give {A = Unit {0}} tt) (λ ps e. cc) (done_give {A = Unit {0}} tt)

done_end : Done read_end
done_end = done_branch {A = Unit {0}} is_end (give {A = Unit {0}} tt) (refused {A = Unit {0}}) (done_give {A = Unit {0}} tt) (done_refused (Unit {0}))

-- ---- claims

done_labels : (names : List Name) (ps : List TokenAt) (labels : List ℕ) → IsDone (more_labels names labels ps)
done_labels names [] labels = tt
done_labels names (p ∷ ps) labels =
    elim (cases_Bool (is_label p.token)) [
      | inr n ↦ rw n tt
      | inl y ↦
          rw y (by (λ next. done_labels names ps next) (with_index names labels (text_of p.token, p.at)) (done_index names labels (text_of p.token, p.at)))
    ]
  where
    by : ((next : List ℕ) → IsDone (more_labels names next ps)) → (r : Result (List ℕ) ParseFault) → IsDone r → IsDone (on (known r ps) (λ next _. more_labels names next ps))
    by later (Ok next) h = later next
    by later (Err e) h = h

done_some_labels : (names : List Name) → Done (some_labels names)
done_some_labels names =
    done_branch {A = List ℕ} is_label (more_labels names []) (refused {A = List ℕ}) (λ ps. done_labels names ps []) (done_refused (List ℕ))

done_since : (first : Name) (names : List Name) → Done (read_since first names)
done_since first names =
    done_branch {A = List ℕ} (is_word first) (after skip (λ _. some_labels names)) (give [])
    (done_after {A = Unit {0}} {B = List ℕ} skip (λ _. some_labels names) done_skip (λ _. done_some_labels names)) (done_give {A = List ℕ} [])

module _ (names : List Name) (first : List ℕ) where
  -- a claim of labels, and of those behind this word
  done_two : (behind : List ℕ) (claim : (labels since : List ℕ) → Claim) → Done (after {A = List ℕ} {B = Claim} (some_labels names) (λ labels. after (read_since behind names) (λ since. give (claim labels since))))
  done_two behind claim =
      done_after {A = List ℕ} {B = Claim} (some_labels names) (λ labels. after (read_since behind names) (λ since. give (claim labels since))) (done_some_labels names)
      (λ labels. done_after {A = List ℕ} {B = Claim} (read_since behind names) (λ since. give (claim labels since)) (done_since behind names)
      (λ since. done_give {A = Claim} (claim labels since)))

  done_needs : Done (read_needs names first)
  done_needs = done_two (codes "since") (λ earlier since. record { kind = Needs; later = first; earlier = earlier; since = since })

  done_bars : Done (read_bars names first)
  done_bars = done_two (codes "until") (λ later since. record { kind = Bars; later = later; earlier = first; since = since })

  -- what a claim says behind its first labels
  abbrev read_rest : Parser Claim
  read_rest = branch (is_word (codes "needs")) (after skip (λ _. read_needs names first)) (after (token (is_word (codes "bars"))) (λ _. read_bars names first))

  done_rest : Done read_rest
  done_rest =
      done_branch {A = Claim} (is_word (codes "needs")) (after skip (λ _. read_needs names first)) (after (token (is_word (codes "bars"))) (λ _. read_bars names first))
      (done_after {A = Unit {0}} {B = Claim} skip (λ _. read_needs names first) done_skip (λ _. done_needs))
      (done_after {A = Unit {0}} {B = Claim} (token (is_word (codes "bars"))) (λ _. read_bars names first) (done_token (is_word (codes "bars"))) (λ _. done_bars))

done_kind : (names : List Name) → Done (read_kind names)
done_kind names = done_after {A = List ℕ} {B = Claim} (some_labels names) (read_rest names) (done_some_labels names) (done_rest names)

-- one more claim, part after part
module _ (names : List Name) (claims : List NamedClaim) where
  abbrev read_last : Name → Claim → Parser (List NamedClaim)
  read_last n claim = after (token is_semicolon) (λ _. give (claims ++ record { name = n; claim = claim } ∷ []))

  done_last : (n : Name) (claim : Claim) → Done (read_last n claim)
  done_last n claim =
      done_after {A = Unit {0}} {B = List NamedClaim} (token is_semicolon) (λ _. give (claims ++ record { name = n; claim = claim } ∷ [])) (done_token is_semicolon)
      (λ _. done_give {A = List NamedClaim} (claims ++ record { name = n; claim = claim } ∷ []))

  abbrev read_said : Name → Parser (List NamedClaim)
  read_said n = after (token is_colon) (λ _. after (read_kind names) (read_last n))

  done_said : (n : Name) → Done (read_said n)
  done_said n =
      done_after {A = Unit {0}} {B = List NamedClaim} (token is_colon) (λ _. after (read_kind names) (read_last n)) (done_token is_colon)
      (λ _. done_after {A = Claim} {B = List NamedClaim} (read_kind names) (read_last n) (done_kind names) (done_last n))

  done_claim : Done (read_claim names claims)
  done_claim =
      done_after {A = Unit {0}} {B = List NamedClaim} (token (is_word (codes "claim"))) (λ _. after (new_name (claim_names claims)) read_said) (done_token (is_word (codes "claim")))
      (λ _. done_after {A = Name} {B = List NamedClaim} (new_name (claim_names claims)) read_said (done_new (claim_names claims)) done_said)

done_repeat : {A : Type 0} (n : ℕ) (test : Token → Bool) (reader : A → Parser A) → ((x : A) → Done (reader x)) → (x : A) → Done (repeat n test reader x)
unfolding repeat
done_repeat {A} zero test reader h x = done_give {A = A} x
done_repeat {A} (suc n) test reader h x =
    done_branch {A = A} test (after (reader x) (repeat n test reader)) (give x)
    (done_after {A = A} {B = A} (reader x) (repeat n test reader) (h x) (done_repeat {A = A} n test reader h)) (done_give {A = A} x)

module _ (names : List Name) where
  abbrev read_behind : List NamedClaim → Parser (List NamedClaim)
  read_behind claims = after (no_more (codes "claim")) (λ _. after read_end (λ _. give claims))

  done_behind : (claims : List NamedClaim) → Done (read_behind claims)
  done_behind claims =
      done_after {A = Unit {0}} {B = List NamedClaim} (no_more (codes "claim")) (λ _. after read_end (λ _. give claims)) (done_no_more (codes "claim"))
      (λ _. done_after {A = Unit {0}} {B = List NamedClaim} read_end (λ _. give claims) done_end (λ _. done_give {A = List NamedClaim} claims))

  abbrev read_all : Parser (List NamedClaim)
  read_all = repeat most_claims (is_word (codes "claim")) (read_claim names) []

  done_claims : Done (read_claims names)
  done_claims =
      done_after {A = Unit {0}} {B = List NamedClaim} (token is_semicolon) (λ _. after read_all read_behind) (done_token is_semicolon)
      (λ _. done_after {A = List NamedClaim} {B = List NamedClaim} read_all read_behind
      (done_repeat {A = List NamedClaim} most_claims (is_word (codes "claim")) (read_claim names) (done_claim names) []) done_behind)

done_head : Done read_name
done_head =
    done_after {A = Unit {0}} {B = Name × ℕ} (token (is_word (codes "claims"))) (λ _. name) (done_token (is_word (codes "claims"))) (λ _. done_name)

pub claims_fault : (g : Graph) (bytes : List ℕ) (f : ClaimsFault) → read g bytes ≡ Err f → f ≢ Text OutOfMemory
claims_fault g bytes f h e = of_name (read_name (tokens bytes)) (done_head (tokens bytes)) h
  where
    of_claims : (r : Result (Parsed (List NamedClaim)) ParseFault) → IsDone r → in_text (whole r) ≡ Err f → ⊥
    of_claims (Ok r) d h = absurd (cc)
    of_claims (Err x) d h = d (let same : Text x ≡ Text OutOfMemory = (let one : Text x ≡ f = cc in one ∙ e) in cc)

    of_name : (r : Result (Parsed (Name × ℕ)) ParseFault) → IsDone r → read_named g r ≡ Err f → ⊥
    of_name (Err x) d h = d (let same : Text x ≡ Text OutOfMemory = (let one : Text x ≡ f = cc in one ∙ e) in cc)
    of_name (Ok r) d h =
        elim (cases_Bool (bytes_eq r.value.0 g.name)) [
          | inl y ↦ of_claims (read_claims (edge_names g) r.rest) (done_claims (edge_names g) r.rest) (rw y at h)
          | inr n ↦ (let other = rw n at h in let same : OtherGraph r.value.1 ≡ f = cc in cc)
        ]
