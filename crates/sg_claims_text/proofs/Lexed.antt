-- The text of claims that is written spells them.
use Rattle.std.proofs.Common.{◌≡◌, ℕ, zero, suc, ◌<◌, ◌≤◌, not, true, ◌&&◌, ◌⊎◌, inl, inr, List, [], ◌∷◌, ◌++◌, length, get_or, codes, refl, sym, ap, subst, arith, append_assoc, flat_map}
use Rattle.std.specs.Prelude.{All}
use Rattle.std.specs.List.{list_all}
use Rattle.std.proofs.lemmas.Bool.{and_parts}
use Rattle.std.proofs.lemmas.List.{length-map, get_or-map}
use Rattle.sg_claims.specs.declared.claim.NamedClaim.{NamedClaim}
use Rattle.sg_claims_text.specs.Grammar.{AreLabels, IsClaim, claim_names, claim_tokens, head_tokens, most_claims, claim_kind_tokens, since_tokens, SpellsClaims}
use Rattle.sg_claims_text.specs.Written.{claim_line, kind_text, since_text, written}
use Rattle.sg_claims_text.proofs.TookClaims.{kind_of}
use Rattle.sg_graph.specs.NamesOfGraph.{walk_text}
use Rattle.sg_graph.specs.Parts.{edge_name, edge_names}
use Rattle.sg_model.specs.Claims.{ClaimKind, Needs, Bars}
use Rattle.sg_model.specs.Lists.{has_text, all_differ}
use Rattle.sg_model.specs.Names.{Name, is_name, reserved}
use Rattle.sg_parse.specs.Grammar.{named}
use Rattle.sg_parse.specs.declared.token.Token.{Token}
use Rattle.sg_parse.specs.declared.token.Token.TheVariants.{Word, Colon, Semicolon, End}
use Rattle.sg_parse.proofs.Lexing.{Lexes, IsSeparate, lex-end, lex-space, lex-line, lex-colon, lex-semicolon, lex-word}
use Rattle.sg_protocol.specs.Graph.{Graph, IsGraph, Edge, AreNames}

-- lists that are equal have the same tokens
lexes-as : (cs bs : List ℕ) (ts : List Token) → cs ≡ bs → Lexes bs ts → Lexes cs ts
lexes-as cs bs ts e h = subst (λ l. Lexes l ts) (sym e) h

-- the end of a statement
lex-ended : (rest : List ℕ) (ts : List Token) → Lexes rest ts → Lexes (59 ∷ 10 ∷ rest) (Semicolon ∷ ts)
lex-ended rest ts h = lex-semicolon (10 ∷ rest) ts (lex-line rest ts h)

-- the name at an index is a name
name-is : (ns : List Name) (r : ℕ) → r < length ns → list_all (λ n. is_name n && not (has_text n reserved)) ns ≡ true → is_name (get_or ns r []) ≡ true
name-is [] r l h = absurd (omega arith)
name-is (n ∷ ns) zero l h = (and_parts (is_name n) (not (has_text n reserved)) (and_parts (is_name n && not (has_text n reserved)) (list_all (λ n. is_name n && not (has_text n reserved)) ns) h).0).0
name-is (n ∷ ns) (suc r) l h = name-is ns r (omega arith) (and_parts (is_name n && not (has_text n reserved)) (list_all (λ n. is_name n && not (has_text n reserved)) ns) h).1

-- so for names
is-name : (ns : List Name) (r : ℕ) → AreNames ns → r < length ns → is_name (get_or ns r []) ≡ true
is-name ns r are l = name-is ns r l (and_parts (list_all (λ n. is_name n && not (has_text n reserved)) ns) (all_differ ns) are).0

-- the bytes have these tokens, and don't go on with a word before them
abbrev Apart : List ℕ → List Token → Type 0
Apart bs ts = Lexes bs ts × IsSeparate bs

module _ (g : Graph) (is : IsGraph g) where
  -- the name of a label
  label_is : (l : ℕ) → l < length (edge_names g) → (edge_name g l ≡ get_or (edge_names g) l []) × (is_name (edge_name g l) ≡ true)
  label_is l below =
      let few : l < length g.edges = (let same : length (edge_names g) ≡ length g.edges = length-map g.edges (λ (d : Edge). d.name) in omega (arith, same, below)) in
      let same : get_or (edge_names g) l [] ≡ edge_name g l = get_or-map (λ (d : Edge). d.name) g.edges l _ [] few in
      (sym same, subst (λ n. is_name n ≡ true) same (is-name (edge_names g) l is.edge_names below))

  -- labels, each after a space
  lex-labels : (ls : List ℕ) (rest : List ℕ) (ts : List Token) → All (λ l. l < length (edge_names g)) ls → Apart rest ts → Apart (walk_text g ls ++ rest) (named (edge_names g) ls ++ ts)
  lex-labels [] rest ts below h = h
  lex-labels (l ∷ ls) rest ts below h =
      let here = label_is l (below 0 l (omega arith)) in
      let more = lex-labels ls rest ts (λ k d i. below (suc k) d (omega (arith, i))) h in
      let word : Lexes (edge_name g l ++ (walk_text g ls ++ rest)) (Word (edge_name g l) ∷ (named (edge_names g) ls ++ ts)) = lex-word (edge_name g l) (walk_text g ls ++ rest) (named (edge_names g) ls ++ ts) here.1 more.1 more.0 in
      let word' : Lexes (edge_name g l ++ (walk_text g ls ++ rest)) (Word (get_or (edge_names g) l []) ∷ (named (edge_names g) ls ++ ts)) =
      subst (λ n. Lexes (edge_name g l ++ (walk_text g ls ++ rest)) (Word n ∷ (named (edge_names g) ls ++ ts))) here.0 word in
      (lexes-as _ (32 ∷ (edge_name g l ++ (walk_text g ls ++ rest))) _ (ap (λ k. 32 ∷ k) (append_assoc (edge_name g l) (walk_text g ls) rest)) (lex-space _ _ word'), refl)

  -- a word after a space
  lex-next : (w rest : List ℕ) (ts : List Token) → is_name w ≡ true → Apart rest ts → Apart (32 ∷ (w ++ rest)) (Word w ∷ ts)
  lex-next w rest ts n h = (lex-space _ _ (lex-word w rest ts n h.1 h.0), refl)

  -- a word and labels, or nothing
  lex-since : (w : List ℕ) (ls : List ℕ) (rest : List ℕ) (ts : List Token) → is_name w ≡ true → (ls ≡ []) ⊎ AreLabels (edge_names g) ls → Apart rest ts
      → Apart (since_text g (32 ∷ w) ls ++ rest) (since_tokens (edge_names g) w ls ++ ts)
  lex-since w [] rest ts n are h = h
  lex-since w (l ∷ ls) rest ts n (inl e) h = absurd (cc)
  lex-since w (l ∷ ls) rest ts n (inr are) h =
      let labels = lex-labels (l ∷ ls) rest ts are.there h in
      let all = lex-next w (walk_text g (l ∷ ls) ++ rest) _ n labels in
      (lexes-as _ (32 ∷ (w ++ (walk_text g (l ∷ ls) ++ rest))) _ (ap (λ k. 32 ∷ k) (append_assoc w (walk_text g (l ∷ ls)) rest)) all.0, refl)

  -- labels, a word and labels, and another word and labels, or nothing
  lex-lists : (verb word : List ℕ) (first second since rest : List ℕ) (ts : List Token) → is_name verb ≡ true → is_name word ≡ true → AreLabels (edge_names g) first → AreLabels (edge_names g) second
      → (since ≡ []) ⊎ AreLabels (edge_names g) since → Apart rest ts
      → Lexes (walk_text g first ++ 32 ∷ (verb ++ (walk_text g second ++ (since_text g (32 ∷ word) since ++ rest))))
      (named (edge_names g) first ++ Word verb ∷ (named (edge_names g) second ++ (since_tokens (edge_names g) word since ++ ts)))
  lex-lists verb word first second since rest ts v w a b c h = (lex-labels first _ _ a.there (lex-next verb _ _ v (lex-labels second _ _ b.there (lex-since word since rest ts w c h)))).0

  -- what a claim says
  lex-claim_kind_tokens : (kind : ClaimKind) (later earlier since : List ℕ) (rest : List ℕ) (ts : List Token) → AreLabels (edge_names g) later → AreLabels (edge_names g) earlier
      → (since ≡ []) ⊎ AreLabels (edge_names g) since → Apart rest ts → Lexes (kind_text g kind later earlier since ++ rest) (claim_kind_tokens (edge_names g) kind later earlier since ++ ts)
  lex-claim_kind_tokens Needs later earlier since rest ts a b c h =
      lexes-as _ _ _ (simp append_assoc) (subst (Lexes _) (simp append_assoc) (lex-lists (codes "needs") (codes "since") later earlier since rest ts refl refl a b c h))
  lex-claim_kind_tokens Bars later earlier since rest ts a b c h =
      lexes-as _ _ _ (simp append_assoc) (subst (Lexes _) (simp append_assoc) (lex-lists (codes "bars") (codes "until") earlier later since rest ts refl refl b a c h))

  -- the line of a claim
  lex-claim : (c : NamedClaim) (rest : List ℕ) (ts : List Token) → is_name c.name ≡ true → IsClaim (edge_names g) c.claim → Lexes rest ts → Lexes (claim_line g c ++ rest) (claim_tokens (edge_names g) c ++ ts)
  lex-claim c rest ts n k h =
      let back : List ℕ = kind_text g c.claim.kind c.claim.later c.claim.earlier c.claim.since in
      let said' : Lexes (back ++ 59 ∷ 10 ∷ rest) (kind_of (edge_names g) c.claim ++ Semicolon ∷ ts) =
      lex-claim_kind_tokens c.claim.kind c.claim.later c.claim.earlier c.claim.since (59 ∷ 10 ∷ rest) (Semicolon ∷ ts) k.later k.earlier k.since (lex-ended rest ts h, refl) in
      let name : Lexes (c.name ++ 58 ∷ (back ++ 59 ∷ 10 ∷ rest)) (Word c.name ∷ Colon ∷ (kind_of (edge_names g) c.claim ++ Semicolon ∷ ts)) = lex-word c.name _ _ n refl (lex-colon _ _ said') in
      let all : Lexes (codes "claim" ++ 32 ∷ (c.name ++ 58 ∷ (back ++ 59 ∷ 10 ∷ rest))) (Word (codes "claim") ∷ Word c.name ∷ Colon ∷ (kind_of (edge_names g) c.claim ++ Semicolon ∷ ts)) = lex-word (codes "claim") _ _ refl refl (lex-space _ _ name) in
      lexes-as _ _ _ (simp append_assoc) (subst (Lexes _) (ap (λ l. Word (codes "claim") ∷ Word c.name ∷ Colon ∷ l) (sym (append_assoc (kind_of (edge_names g) c.claim) (Semicolon ∷ []) ts))) all)

  -- the lines of claims
  lex-claims : (cs : List NamedClaim) → list_all (λ n. is_name n && not (has_text n reserved)) (claim_names cs) ≡ true → All (λ c. IsClaim (edge_names g) c.claim) cs
      → Lexes (flat_map (claim_line g) cs) (flat_map (claim_tokens (edge_names g)) cs ++ End ∷ [])
  lex-claims [] n k = lex-end
  lex-claims (c ∷ cs) n k =
      let parts = and_parts (is_name c.name && not (has_text c.name reserved)) (list_all (λ n. is_name n && not (has_text n reserved)) (claim_names cs)) n in
      let name = (and_parts (is_name c.name) (not (has_text c.name reserved)) parts.0).0 in
      let more = lex-claims cs parts.1 (λ i d l. k (suc i) d (omega (arith, l))) in
      subst (Lexes _) (sym (append_assoc (claim_tokens (edge_names g) c) (flat_map (claim_tokens (edge_names g)) cs) (End ∷ []))) (lex-claim c _ _ name (k 0 c (omega arith)) more)

  -- the text spells the claims
  pub written-spells : (cs : List NamedClaim) → length cs ≤ most_claims → AreNames (claim_names cs) → All (λ c. IsClaim (edge_names g) c.claim) cs → SpellsClaims g (written g cs) cs
  written-spells cs few are all =
      let lines = lex-claims cs (and_parts (list_all (λ n. is_name n && not (has_text n reserved)) (claim_names cs)) (all_differ (claim_names cs)) are).0 all in
      let body : List Token = flat_map (claim_tokens (edge_names g)) cs ++ End ∷ [] in
      let name : is_name g.name ≡ true = is-name (g.name ∷ []) 0 is.named (omega arith) in
      let first : Lexes (g.name ++ 59 ∷ 10 ∷ flat_map (claim_line g) cs) (Word g.name ∷ Semicolon ∷ body) = lex-word g.name _ _ name refl (lex-ended _ _ lines) in
      let head : Lexes (codes "claims" ++ 32 ∷ (g.name ++ 59 ∷ 10 ∷ flat_map (claim_line g) cs)) (Word (codes "claims") ∷ Word g.name ∷ Semicolon ∷ body) = lex-word (codes "claims") _ _ refl refl (lex-space _ _ first) in
      let text : Lexes (written g cs) (head_tokens g.name ++ body) = lexes-as _ _ _ (simp append_assoc) head in
      record { few = few; names = are; claims = all; spelled = text.go 0 }
