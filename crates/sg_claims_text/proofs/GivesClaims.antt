-- Claims that the text spells are read.
use Rattle.std.proofs.Common.{◌≡◌, ℕ, zero, suc, ◌≤◌, Bool, true, false, ◌⊎◌, List, [], ◌∷◌, ◌++◌, length, codes, bytes_eq, Result, Ok, Err, refl, sym, ap, subst, ◌∙◌, arith, append_assoc, append-nil, flat_map, if◌then◌else◌}
use Rattle.std.specs.Prelude.{All}
use Rattle.std.proofs.lemmas.List.{map-append}
use Rattle.sg_claims.specs.declared.claim.NamedClaim.{NamedClaim}
use Rattle.sg_claims_text.specs.Grammar.{AreLabels, IsClaim, claim_names, claim_tokens, most_claims, claim_kind_tokens, since_tokens, SpellsClaims}
use Rattle.sg_claims_text.specs.Reading.{in_text, is_label, read, read_bars, read_claim, read_claims, read_name, read_named, read_needs, read_kind, read_rest, read_since, since_word, claim_of, some_labels}
use Rattle.sg_claims_text.specs.declared.fault.ClaimsFault.{ClaimsFault}
use Rattle.sg_claims_text.specs.declared.fault.ClaimsFault.TheVariants.{OtherGraph}
use Rattle.sg_claims_text.proofs.GivesLabels.{gives-labels, gives-since}
use Rattle.sg_claims_text.proofs.TookClaims.{kind_of}
use Rattle.sg_graph.specs.Parts.{edge_names}
use Rattle.sg_model.specs.Claims.{Claim, ClaimKind, Needs, Bars}
use Rattle.sg_model.specs.Lists.{has_text}
use Rattle.sg_model.specs.Names.{Name, reserved}
use Rattle.sg_parse.specs.Grammar.{named}
use Rattle.sg_parse.specs.PartsReading.{repeat}
use Rattle.sg_parse.specs.Tokens.{tokens, is_word, is_colon, is_semicolon, is_end}
use Rattle.sg_parse.specs.Reading.{Parsed, Parser, after, give, is_next, name, new_name, no_more, read_end, skip, token, whole}
use Rattle.sg_parse.specs.declared.token.Token.{Token}
use Rattle.sg_parse.specs.declared.token.Token.TheVariants.{Word, Colon, Semicolon, End}
use Rattle.sg_parse.specs.declared.fault.ParseFault.{ParseFault}
use Rattle.sg_parse.proofs.Gives.{Gives, gives-give, gives-after, gives-first, gives-second, gives-skip, gives-token, gives-word, gives-new, head_is, head-next, name-there, word-is}
use Rattle.sg_parse.proofs.Middle.{name-middle}
use Rattle.sg_parse.proofs.Indices.{repeat-there, repeat-away}
use Rattle.sg_parse.proofs.Readings.{onward}
use Rattle.sg_parse.proofs.Took.{bare}
use Rattle.sg_protocol.specs.Graph.{Graph, IsGraph, AreNames}

-- what was read last is put into a value
gives-then : {A B : Type 0} (r : Parser A) (f : A → B) (ts us : List Token) (x : A) → Gives r ts us x → Gives (after r (λ x. give (f x))) ts us (f x)
gives-then r f ts us x a = record {
  go = λ ps e.
      let g = a.go ps e in
      (g.0, g.1, onward r (λ x. give (f x)) ps (record { value = x; rest = g.0 }) g.2);
}

-- behind a list stands a word between lists, or the end of the statement
since-ahead : (names : List Name) (first : Name) (labels : List ℕ) (us : List Token) → is_label (Word first) ≡ false → head_is is_label (since_tokens names first labels ++ Semicolon ∷ us) ≡ false
since-ahead names first [] us h = refl
since-ahead names first (x ∷ xs) us h = h

module _ (names : List Name) (are : AreNames names) where
  gives-rest : (kind : ClaimKind) (first second since : List ℕ) (us : List Token) → AreLabels names second → (since ≡ []) ⊎ AreLabels names since
      → Gives (read_rest kind names first) (named names second ++ since_tokens names (since_word kind) since) (Semicolon ∷ us) (claim_of kind first second since)
  gives-rest kind first second since us e s =
      let word : Name = since_word kind in
      gives-after (some_labels names) _ (named names second) (since_tokens names word since) (Semicolon ∷ us) second (claim_of kind first second since)
      (gives-labels names are second (since_tokens names word since ++ Semicolon ∷ us) e (since-ahead names word since us (between kind)))
      (gives-then (read_since word names) (claim_of kind first second) (since_tokens names word since) (Semicolon ∷ us) since
      (gives-since names are word since (Semicolon ∷ us) s refl refl))
    where
      between : (kind : ClaimKind) → is_label (Word (since_word kind)) ≡ false
      between Needs = refl
      between Bars = refl

  -- what a claim says
  gives-claim_kind_tokens : (kind : ClaimKind) (later earlier since : List ℕ) (us : List Token) → AreLabels names later → AreLabels names earlier → (since ≡ []) ⊎ AreLabels names since
      → Gives (read_kind names) (claim_kind_tokens names kind later earlier since) (Semicolon ∷ us) (record { kind = kind; later = later; earlier = earlier; since = since })
  gives-claim_kind_tokens Needs later earlier since us l e s =
      let end : Claim = record { kind = Needs; later = later; earlier = earlier; since = since } in
      let back : List Token = named names earlier ++ since_tokens names (codes "since") since in
      gives-after (some_labels names) _ (named names later) (Word (codes "needs") ∷ back) (Semicolon ∷ us) later end (gives-labels names are later (Word (codes "needs") ∷ (back ++ Semicolon ∷ us)) l refl)
      (gives-first (is_word (codes "needs")) _ _ (Word (codes "needs") ∷ back) (Semicolon ∷ us) end (word-is (codes "needs"))
      (gives-after skip (λ _. read_needs names later) (Word (codes "needs") ∷ []) back (Semicolon ∷ us) tt end (gives-skip (Word (codes "needs")) _) (gives-rest Needs later earlier since us e s)))
  gives-claim_kind_tokens Bars later earlier since us l e s =
      let end : Claim = record { kind = Bars; later = later; earlier = earlier; since = since } in
      let back : List Token = named names later ++ since_tokens names (codes "until") since in
      gives-after (some_labels names) _ (named names earlier) (Word (codes "bars") ∷ back) (Semicolon ∷ us) earlier end (gives-labels names are earlier (Word (codes "bars") ∷ (back ++ Semicolon ∷ us)) e refl)
      (gives-second (is_word (codes "needs")) _ _ (Word (codes "bars") ∷ back) (Semicolon ∷ us) end refl
      (gives-after (token (is_word (codes "bars"))) (λ _. read_bars names earlier) (Word (codes "bars") ∷ []) back (Semicolon ∷ us) tt end (gives-word (codes "bars") _) (gives-rest Bars earlier later since us l s)))

  -- one more claim
  gives-claim : (claims : List NamedClaim) (c : NamedClaim) (us : List Token) → has_text c.name reserved ≡ false → has_text c.name (claim_names claims) ≡ false → IsClaim names c.claim
      → Gives (read_claim names claims) (claim_tokens names c) us (claims ++ c ∷ [])
  gives-claim claims c us free new is =
      let end : List NamedClaim = claims ++ c ∷ [] in
      let back : List Token = kind_of names c.claim ++ Semicolon ∷ [] in
      gives-after (token (is_word (codes "claim"))) _ (Word (codes "claim") ∷ []) (Word c.name ∷ Colon ∷ back) us tt end (gives-word (codes "claim") _)
      (gives-after (new_name (claim_names claims)) _ (Word c.name ∷ []) (Colon ∷ back) us c.name end (gives-new (claim_names claims) c.name _ free new)
      (gives-after (token is_colon) _ (Colon ∷ []) back us tt end (gives-token is_colon Colon _ refl)
      (gives-after (read_kind names) _ (kind_of names c.claim) (Semicolon ∷ []) us c.claim end
      (gives-claim_kind_tokens c.claim.kind c.claim.later c.claim.earlier c.claim.since us is.later is.earlier is.since)
      (gives-then (token is_semicolon) (λ _. end) (Semicolon ∷ []) us tt (gives-token is_semicolon Semicolon us refl)))))

  -- as many statements as claims
  gives-claims : (n : ℕ) (xs ys : List NamedClaim) (us : List Token) → length ys ≤ n → All (λ c. IsClaim names c.claim) ys → AreNames (claim_names (xs ++ ys)) → head_is (is_word (codes "claim")) us ≡ false
      → Gives (repeat n (is_word (codes "claim")) (read_claim names) xs) (flat_map (claim_tokens names) ys) us (xs ++ ys)
  gives-claims n xs [] us l all named' h = record {
    go = λ ps e. (
      ps,
      e,
      repeat-away (is_word (codes "claim")) (read_claim names) n xs ps (head-next (is_word (codes "claim")) ps ∙ ap (head_is (is_word (codes "claim"))) e ∙ h)
          ∙ ap (λ l. Ok (record { value = l; rest = ps })) (sym (append-nil xs)),
    );
  }
  gives-claims zero xs (y ∷ ys) us l all named' h = absurd (omega (arith, l))
  gives-claims (suc n) xs (y ∷ ys) us l all named' h =
      let split : claim_names (xs ++ y ∷ ys) ≡ claim_names xs ++ y.name ∷ claim_names ys = map-append (λ (c : NamedClaim). c.name) xs (y ∷ ys) in
      let middle = name-middle (claim_names xs) y.name (claim_names ys) (subst AreNames split named') in
      let one = gives-claim xs y (flat_map (claim_tokens names) ys ++ us) middle.0 middle.1 (all 0 y (omega arith)) in
      let again : (xs ++ y ∷ []) ++ ys ≡ xs ++ y ∷ ys = append_assoc xs (y ∷ []) ys in
      let more : Gives (repeat n (is_word (codes "claim")) (read_claim names) (xs ++ y ∷ [])) (flat_map (claim_tokens names) ys) us (xs ++ y ∷ ys) =
      subst (Gives (repeat n (is_word (codes "claim")) (read_claim names) (xs ++ y ∷ [])) (flat_map (claim_tokens names) ys) us) again
      (gives-claims n (xs ++ y ∷ []) ys us (omega (arith, l)) (λ k d l. all (suc k) d (omega (arith, l))) (subst (λ l. AreNames (claim_names l)) (sym again) named') h) in
      let both' = gives-after (read_claim names xs) (repeat n (is_word (codes "claim")) (read_claim names)) (claim_tokens names y) (flat_map (claim_tokens names) ys) us (xs ++ y ∷ []) (xs ++ y ∷ ys) one more in
      record {
        go = λ ps e.
            let there : is_next (is_word (codes "claim")) ps ≡ true = head-next (is_word (codes "claim")) ps ∙ ap (head_is (is_word (codes "claim"))) e in
            let r = both'.go ps e in
            (r.0, r.1, repeat-there (is_word (codes "claim")) (read_claim names) n xs ps there ∙ r.2);
      }

  -- all claims, and the end
  gives-all : (cs : List NamedClaim) → length cs ≤ most_claims → AreNames (claim_names cs) → All (λ c. IsClaim names c.claim) cs
      → Gives (read_claims names) (Semicolon ∷ (flat_map (claim_tokens names) cs ++ [])) (End ∷ []) cs
  gives-all cs few named' all =
      let end : List Token = End ∷ [] in
      let last : Gives (after read_end (λ _. give cs)) [] end cs = gives-then read_end (λ _. cs) [] end tt (gives-first is_end (give tt) _ [] end tt refl (gives-give tt end)) in
      let none : Gives (after (no_more (codes "claim")) (λ _. after read_end λ _. give cs)) [] end cs =
      gives-after (no_more (codes "claim")) (λ _. after read_end λ _. give cs) [] [] end tt cs (gives-second (is_word (codes "claim")) _ (give tt) [] end tt refl (gives-give tt end)) last in
      gives-after (token is_semicolon) _ (Semicolon ∷ []) (flat_map (claim_tokens names) cs ++ []) end tt cs (gives-token is_semicolon Semicolon _ refl)
      (gives-after (repeat most_claims (is_word (codes "claim")) (read_claim names) []) (λ claims. after (no_more (codes "claim")) λ _. after read_end λ _. give claims) (flat_map (claim_tokens names) cs) [] end cs cs
      (gives-claims most_claims [] cs end few all named' refl) none)

-- claims that are spelled are read
pub spells-read : (g : Graph) (bs : List ℕ) (cs : List NamedClaim) → IsGraph g → SpellsClaims g bs cs → read g bs ≡ Ok cs
spells-read g bs cs is s =
    let names : List Name = edge_names g in
    let body : List Token = flat_map (claim_tokens names) cs in
    let first = (gives-word (codes "claims") (Word g.name ∷ Semicolon ∷ (body ++ End ∷ []))).go (tokens bs) s.spelled in
    let free = name-middle [] g.name [] is.named in
    let second = name-there first.0 g.name (Semicolon ∷ (body ++ End ∷ [])) free.0 first.1 in
    let head : read_name (tokens bs) ≡ Ok (record { value = (g.name, second.0); rest = second.1 }) =
    onward (token (is_word (codes "claims"))) (λ _. name) (tokens bs) (record { value = tt; rest = first.0 }) first.2 ∙ second.3 in
    let rest : bare second.1 ≡ (Semicolon ∷ (body ++ [])) ++ End ∷ [] = second.2 ∙ ap (λ l. Semicolon ∷ (l ++ End ∷ [])) (sym (append-nil body)) in
    let all = (gives-all names is.edge_names cs s.few s.names s.claims).go second.1 rest in
    let same : bytes_eq g.name g.name ≡ true = word-is g.name in
    let on_name : Bool → Result (List NamedClaim) ClaimsFault = λ b. if b then in_text (whole (read_claims names second.1)) else Err (OtherGraph second.0) in
    ap (read_named g) head
    ∙ ap on_name same
    ∙ ap (λ (r : Result (Parsed (List NamedClaim)) ParseFault). in_text (whole r)) all.2
