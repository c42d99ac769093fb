-- Claims that are read are those that the text spells.
use Rattle.std.proofs.Common.{◌≡◌, ℕ, zero, suc, ◌≤◌, Bool, true, false, ◌⊎◌, inl, inr, List, [], ◌∷◌, ◌++◌, length, codes, bytes_eq, Result, Ok, Err, refl, sym, ap, subst, ◌∙◌, arith, if◌then◌else◌, append_assoc, append-nil, flat_map}
use Rattle.std.specs.Prelude.{All}
use Rattle.std.proofs.lemmas.List.{map-append}
use Rattle.std.proofs.lemmas.Slice.Eq.{bytes_eq-Decides}
use Rattle.sg_claims.specs.declared.claim.NamedClaim.{NamedClaim}
use Rattle.sg_claims_text.specs.Grammar.{AreLabels, IsClaim, claim_names, claim_tokens, head_tokens, most_claims, claim_kind_tokens, since_tokens, SpellsClaims}
use Rattle.sg_claims_text.specs.Reading.{in_text, read, read_bars, read_claim, read_claims, read_name, read_named, read_needs, read_kind, read_rest, read_since, since_word, claim_of, some_labels}
use Rattle.sg_claims_text.specs.declared.fault.ClaimsFault.TheVariants.{OtherGraph}
use Rattle.sg_claims_text.proofs.TookLabels.{took-labels, took-since}
use Rattle.sg_graph.specs.Parts.{edge_names}
use Rattle.sg_model.specs.Claims.{Claim, ClaimKind, Needs, Bars}
use Rattle.sg_model.specs.Names.{Name}
use Rattle.sg_protocol.specs.Graph.{Graph, AreNames}
use Rattle.sg_parse.specs.Grammar.{named}
use Rattle.sg_parse.specs.PartsReading.{repeat}
use Rattle.sg_parse.specs.Tokens.{tokens, is_word, is_colon, is_semicolon}
use Rattle.sg_parse.specs.Reading as Reading
use Rattle.sg_parse.specs.Reading.{Parsed, on, after, branch, give, is_next, token, name, new_name, no_more, read_end, skip, whole}
use Rattle.sg_parse.specs.declared.token.TokenAt.{TokenAt}
use Rattle.sg_parse.specs.declared.token.Token.{Token}
use Rattle.sg_parse.specs.declared.token.Token.TheVariants.{Word, Colon, Semicolon, End}
use Rattle.sg_parse.specs.declared.fault.ParseFault.{ParseFault}
use Rattle.sg_parse.specs.declared.fault.ParseFault.TheVariants.{TooMany}
use Rattle.sg_parse.proofs.Sound.{Sound, sound-tokens}
use Rattle.sg_parse.proofs.Took.{Took, IsFresh, bare, ok_same, err_ok, on-inv, branch-inv, took-both, took-give, took-token, took-mark, took-name, took-new, only-word}
use Rattle.sg_parse.proofs.TookGraph.{took-end, whole-inv}
use Rattle.sg_parse.proofs.TookParts.{names-one_more}
use Rattle.sg_parse.proofs.Indices.{repeat-there, repeat-away, repeat-none}

-- what the claim says
abbrev pub kind_of : List Name → Claim → List Token
kind_of names c = claim_kind_tokens names c.kind c.later c.earlier c.since

-- the rest of a claim was taken, behind its first labels
abbrev Rest : List Name → List ℕ → List TokenAt → Parsed Claim → Type 0
Rest names first ps o = (ts : List Token) × Took ps o ts × (named names first ++ ts ≡ kind_of names o.value) × IsClaim names o.value

-- the word of a kind
abbrev verb : ClaimKind → Name
verb Needs = codes "needs"
verb Bars = codes "bars"

took-after_verb : (kind : ClaimKind) (names : List Name) (first : List ℕ) (ps : List TokenAt) (o : Parsed Claim) → Sound ps → AreLabels names first → read_rest kind names first ps ≡ Ok o
    → (ts : List Token) × Took ps o ts × (named names first ++ Word (verb kind) ∷ ts ≡ kind_of names o.value) × IsClaim names o.value
took-after_verb kind names first ps o s are h =
    let a = on-inv (some_labels names ps) _ o h in
    let e = took-labels names ps a.0 s a.1 in
    let b = on-inv (read_since (since_word kind) names (a.0).rest) _ o a.2 in
    let f = took-since names (since_word kind) (a.0).rest b.0 (e.0).sound b.1 in
    let end = took-give (claim_of kind first (a.0).value (b.0).value) (b.0).rest o (f.0).sound b.2 in
    let back : List Token = since_tokens names (since_word kind) (b.0).value in (
      named names (a.0).value ++ (back ++ []),
      took-both ps a.0 o (named names (a.0).value) (back ++ []) e.0 (took-both (a.0).rest b.0 o back [] f.0 end.1),
      ap (λ l. named names first ++ Word (verb kind) ∷ (named names (a.0).value ++ l)) (append-nil back) ∙ spelled kind (a.0).value (b.0).value ∙ ap (kind_of names) end.0,
      subst (IsClaim names) end.0 (is kind (a.0).value (b.0).value e.1 f.1),
    )
  where
    spelled : (kind : ClaimKind) (second since : List ℕ) → named names first ++ Word (verb kind) ∷ (named names second ++ since_tokens names (since_word kind) since) ≡ kind_of names (claim_of kind first second since)
    spelled Needs second since = refl
    spelled Bars second since = refl

    is : (kind : ClaimKind) (second since : List ℕ) → AreLabels names second → (since ≡ []) ⊎ AreLabels names since → IsClaim names (claim_of kind first second since)
    is Needs second since e f = record { later = are; earlier = e; since = f }
    is Bars second since e f = record { later = e; earlier = are; since = f }

took-rest : (names : List Name) (first : List ℕ) (ps : List TokenAt) (o : Parsed Claim) → Sound ps → AreLabels names first
    → branch (is_word (codes "needs")) (after skip λ _. read_needs names first) (after (token (is_word (codes "bars"))) λ _. read_bars names first) ps ≡ Ok o → Rest names first ps o
took-rest names first ps o s are h = pick (branch-inv (is_word (codes "needs")) (after skip λ _. read_needs names first) (after (token (is_word (codes "bars"))) λ _. read_bars names first) ps o h)
  where
    pick : ((is_next (is_word (codes "needs")) ps ≡ true) × (on (skip ps) (λ _. read_needs names first) ≡ Ok o))
        ⊎ ((is_next (is_word (codes "needs")) ps ≡ false) × (on (token (is_word (codes "bars")) ps) (λ _. read_bars names first) ≡ Ok o)) → Rest names first ps o
    pick (inl (e, k)) =
        let a = on-inv (skip ps) _ o k in
        let is : token (is_word (codes "needs")) ps ≡ Ok a.0 = ap (λ b. if b then skip ps else Reading.refused ps) e ∙ a.1 in
        let t = took-token (is_word (codes "needs")) (Word (codes "needs")) ps a.0 (only-word (codes "needs")) s is in
        let r = took-after_verb Needs names first (a.0).rest o t.sound are a.2 in
        (Word (codes "needs") ∷ r.0, took-both ps a.0 o (Word (codes "needs") ∷ []) r.0 t r.1, r.2, r.3)
    pick (inr (e, k)) =
        let a = on-inv (token (is_word (codes "bars")) ps) _ o k in
        let t = took-token (is_word (codes "bars")) (Word (codes "bars")) ps a.0 (only-word (codes "bars")) s a.1 in
        let r = took-after_verb Bars names first (a.0).rest o t.sound are a.2 in
        (Word (codes "bars") ∷ r.0, took-both ps a.0 o (Word (codes "bars") ∷ []) r.0 t r.1, r.2, r.3)

-- what a claim says
took-claim_kind_tokens : (names : List Name) (ps : List TokenAt) (o : Parsed Claim) → Sound ps → read_kind names ps ≡ Ok o → Took ps o (kind_of names o.value) × IsClaim names o.value
took-claim_kind_tokens names ps o s h =
    let a = on-inv (some_labels names ps) _ o h in
    let first = took-labels names ps a.0 s a.1 in
    let r = took-rest names (a.0).value (a.0).rest o (first.0).sound first.1 a.2 in
    (subst (Took ps o) r.2 (took-both ps a.0 o (named names (a.0).value) r.0 first.0 r.1), r.3)

-- one more claim
took-claim : (names : List Name) (claims : List NamedClaim) (ps : List TokenAt) (o : Parsed (List NamedClaim)) → Sound ps → read_claim names claims ps ≡ Ok o
    → (c : NamedClaim) × (claims ++ c ∷ [] ≡ o.value) × IsClaim names c.claim × IsFresh (claim_names claims) c.name × Took ps o (claim_tokens names c)
took-claim names claims ps o s h =
    let a = on-inv (token (is_word (codes "claim")) ps) _ o h in
    let first = took-token (is_word (codes "claim")) (Word (codes "claim")) ps a.0 (only-word (codes "claim")) s a.1 in
    let b = on-inv (new_name (claim_names claims) (a.0).rest) _ o a.2 in
    let n = took-new (claim_names claims) (a.0).rest b.0 first.sound b.1 in
    let c = on-inv (token is_colon (b.0).rest) _ o b.2 in
    let colon = took-mark Colon (b.0).rest c.0 (n.0).sound c.1 in
    let d = on-inv (read_kind names (c.0).rest) _ o c.2 in
    let said' = took-claim_kind_tokens names (c.0).rest d.0 colon.sound d.1 in
    let e = on-inv (token is_semicolon (d.0).rest) _ o d.2 in
    let last = took-mark Semicolon (d.0).rest e.0 (said'.0).sound e.1 in
    let claim : NamedClaim = record { name = (b.0).value; claim = (d.0).value } in
    let end = took-give (claims ++ claim ∷ []) (e.0).rest o last.sound e.2 in (
      claim,
      end.0,
      said'.1,
      n.1,
      took-both ps a.0 o (Word (codes "claim") ∷ []) _ first
          (took-both (a.0).rest b.0 o (Word (b.0).value ∷ []) _ n.0
          (took-both (b.0).rest c.0 o (Colon ∷ []) _ colon
          (took-both (c.0).rest d.0 o (kind_of names (d.0).value) _ said'.0 (took-both (d.0).rest e.0 o (Semicolon ∷ []) [] last end.1)))),
    )

-- claims were read behind others
record TookClaims (names : List Name) (n : ℕ) (xs : List NamedClaim) (ps : List TokenAt) (o : Parsed (List NamedClaim)) : Type 0 where
  claims : List NamedClaim
  value : xs ++ claims ≡ o.value
  few : length claims ≤ n
  are : AreNames (claim_names (xs ++ claims))
  all : All (λ c. IsClaim names c.claim) claims
  took : Took ps o (flat_map (claim_tokens names) claims)

no_more_claims : (names : List Name) (n : ℕ) (xs : List NamedClaim) (ps : List TokenAt) (o : Parsed (List NamedClaim)) → Sound ps → AreNames (claim_names xs) → give xs ps ≡ Ok o → TookClaims names n xs ps o
no_more_claims names n xs ps o s are h =
    let g = took-give xs ps o s h in
    record {
      claims = [];
      value = append-nil xs ∙ g.0;
      few = omega arith;
      are = subst (λ l. AreNames (claim_names l)) (sym (append-nil xs)) are;
      all = λ k d l. absurd (omega arith);
      took = g.1;
    }

took-claims : (names : List Name) (n : ℕ) (xs : List NamedClaim) (ps : List TokenAt) (o : Parsed (List NamedClaim)) → Sound ps → AreNames (claim_names xs)
    → repeat n (is_word (codes "claim")) (read_claim names) xs ps ≡ Ok o → TookClaims names n xs ps o
took-claims names zero xs ps o s are h = no_more_claims names 0 xs ps o s are (sym (repeat-none (is_word (codes "claim")) (read_claim names) xs ps) ∙ h)
took-claims names (suc n) xs ps o s are h = pick (is_next (is_word (codes "claim")) ps) refl (λ xs ps s are h. took-claims names n xs ps o s are h)
  where
    first : (c : NamedClaim) (cs : List NamedClaim) → IsClaim names c.claim → All (λ c. IsClaim names c.claim) cs → All (λ c. IsClaim names c.claim) (c ∷ cs)
    first c cs f rest zero d l = f
    first c cs f rest (suc k) d l = rest k d (omega (arith, l))

    grown : (c : NamedClaim) (cs all : List NamedClaim) → (xs ++ c ∷ []) ++ cs ≡ all → xs ++ c ∷ cs ≡ all
    grown c cs all e = sym (append_assoc xs (c ∷ []) cs) ∙ e

    pick : (b : Bool) → is_next (is_word (codes "claim")) ps ≡ b
        → ((xs : List NamedClaim) (ps : List TokenAt) → Sound ps → AreNames (claim_names xs) → repeat n (is_word (codes "claim")) (read_claim names) xs ps ≡ Ok o → TookClaims names n xs ps o)
        → TookClaims names (suc n) xs ps o
    pick false e more = no_more_claims names (suc n) xs ps o s are (sym (repeat-away (is_word (codes "claim")) (read_claim names) (suc n) xs ps e) ∙ h)
    pick true e more =
        let a = on-inv (read_claim names xs ps) (repeat n (is_word (codes "claim")) (read_claim names)) o (sym (repeat-there (is_word (codes "claim")) (read_claim names) n xs ps e) ∙ h) in
        let one = took-claim names xs ps a.0 s a.1 in
        let c : NamedClaim = one.0 in
        let are' : AreNames (claim_names (xs ++ c ∷ [])) = subst AreNames (sym (map-append (λ (c : NamedClaim). c.name) xs (c ∷ []))) (names-one_more (claim_names xs) c.name are one.3) in
        let rest = more (xs ++ c ∷ []) (a.0).rest (one.4).sound are' (subst (λ l. repeat n (is_word (codes "claim")) (read_claim names) l (a.0).rest ≡ Ok o) (sym one.1) a.2) in
        let again : (xs ++ c ∷ []) ++ rest.claims ≡ xs ++ c ∷ rest.claims = append_assoc xs (c ∷ []) rest.claims in
        record {
          claims = c ∷ rest.claims;
          value = grown c rest.claims o.value rest.value;
          few = omega (arith, rest.few);
          are = subst (λ l. AreNames (claim_names l)) again rest.are;
          all = first c rest.claims one.2 rest.all;
          took = took-both ps a.0 o (claim_tokens names c) (flat_map (claim_tokens names) rest.claims) one.4 rest.took;
        }

-- ---- the whole text

-- the word that would begin a claim too many isn't there
took-no_more : (ps : List TokenAt) (o : Parsed (Unit {0})) → no_more (codes "claim") ps ≡ Ok o → ps ≡ o.rest
took-no_more ps o h = pick (branch-inv (is_word (codes "claim")) Reading.crowded (give tt) ps o h)
  where
    pick : ((is_next (is_word (codes "claim")) ps ≡ true) × (Reading.crowded ps ≡ Ok o)) ⊎ ((is_next (is_word (codes "claim")) ps ≡ false) × (give tt ps ≡ Ok o)) → ps ≡ o.rest
    pick (inl (e, k)) = err_ok (TooMany (Reading.offset_of ps)) o k
    pick (inr (e, k)) = ap (λ (r : Parsed (Unit {0})). r.rest) (ok_same (record { value = tt; rest = ps }) o k)

-- all claims, and the end
record TookAll (names : List Name) (ps : List TokenAt) (cs : List NamedClaim) : Type 0 where
  few : length cs ≤ most_claims
  are : AreNames (claim_names cs)
  all : All (λ c. IsClaim names c.claim) cs
  begins : bare ps ≡ Semicolon ∷ (flat_map (claim_tokens names) cs ++ End ∷ [])

took-all : (names : List Name) (ps : List TokenAt) (o : Parsed (List NamedClaim)) → Sound ps → read_claims names ps ≡ Ok o → TookAll names ps o.value
took-all names ps o s h =
    let a = on-inv (token is_semicolon ps) _ o h in
    let first = took-mark Semicolon ps a.0 s a.1 in
    let b = on-inv (repeat most_claims (is_word (codes "claim")) (read_claim names) [] (a.0).rest) _ o a.2 in
    let t = took-claims names most_claims [] (a.0).rest b.0 first.sound refl b.1 in
    let c = on-inv (no_more (codes "claim") (b.0).rest) _ o b.2 in
    let none = took-no_more (b.0).rest c.0 c.1 in
    let d = on-inv (read_end (c.0).rest) _ o c.2 in
    let sound : Sound (c.0).rest = subst Sound none t.took.sound in
    let end = took-end (c.0).rest d.0 sound d.1 in
    let same : t.claims ≡ o.value = t.value ∙ ap (λ (r : Parsed (List NamedClaim)). r.value) (ok_same (record { value = (b.0).value; rest = (d.0).rest }) o d.2) in
    subst (TookAll names ps) same (record {
      few = t.few;
      are = t.are;
      all = t.all;
      begins = first.begins ∙ ap (λ l. Semicolon ∷ l) (t.took.begins ∙ ap (λ l. flat_map (claim_tokens names) t.claims ++ bare l) none ∙ ap (λ l. flat_map (claim_tokens names) t.claims ++ l) end);
    })

-- what was read, without its offset
in_text-inv : (r : Result (List NamedClaim) ParseFault) (cs : List NamedClaim) → in_text r ≡ Ok cs → r ≡ Ok cs
in_text-inv (Ok x) cs h = (let same : x ≡ cs = cc in ap Ok same)
in_text-inv (Err e) cs h = absurd (cc)

-- the head of a text
took-head : (ps : List TokenAt) (o : Parsed (Name × ℕ)) → Sound ps → read_name ps ≡ Ok o → Took ps o (Word (codes "claims") ∷ Word o.value.0 ∷ [])
took-head ps o s h =
    let a = on-inv (token (is_word (codes "claims")) ps) _ o h in
    let first = took-token (is_word (codes "claims")) (Word (codes "claims")) ps a.0 (only-word (codes "claims")) s a.1 in
    let n = took-name (a.0).rest o first.sound a.2 in
    took-both ps a.0 o (Word (codes "claims") ∷ []) (Word o.value.0 ∷ []) first n.0

-- claims that are read are spelled
pub read-spells : (g : Graph) (bs : List ℕ) (cs : List NamedClaim) → read g bs ≡ Ok cs → SpellsClaims g bs cs
read-spells g bs cs h = first (read_name (tokens bs)) refl h
  where
    second : (o : Parsed (Name × ℕ)) (b : Bool) → read_name (tokens bs) ≡ Ok o → bytes_eq o.value.0 g.name ≡ b
        → (if b then in_text (whole (read_claims (edge_names g) o.rest)) else Err (OtherGraph o.value.1)) ≡ Ok cs → SpellsClaims g bs cs
    second o false r e k = absurd (cc)
    second o true r e k =
        let head = took-head (tokens bs) o (sound-tokens bs) r in
        let same : o.value.0 ≡ g.name = (bytes_eq-Decides o.value.0 g.name).0 e in
        let w = whole-inv (read_claims (edge_names g) o.rest) cs (in_text-inv (whole (read_claims (edge_names g) o.rest)) cs k) in
        let t : TookAll (edge_names g) o.rest cs = subst (TookAll (edge_names g) o.rest) w.2 (took-all (edge_names g) o.rest w.0 head.sound w.1) in
        record {
          few = t.few;
          names = t.are;
          claims = t.all;
          spelled = head.begins ∙ ap (λ l. Word (codes "claims") ∷ Word o.value.0 ∷ l) t.begins
              ∙ ap (λ n. head_tokens n ++ (flat_map (claim_tokens (edge_names g)) cs ++ End ∷ [])) same;
        }

    first : (r : Result (Parsed (Name × ℕ)) ParseFault) → read_name (tokens bs) ≡ r → read_named g r ≡ Ok cs → SpellsClaims g bs cs
    first (Err e) r k = absurd (cc)
    first (Ok o) r k = second o (bytes_eq o.value.0 g.name) r refl k
