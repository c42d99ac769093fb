-- What tokens are read to, whatever follows them.
use Rattle.std.proofs.Common.{◌≡◌, ℕ, ◌<◌, not, Bool, true, false, ◌&&◌, List, [], ◌∷◌, ◌++◌, length, get_or, codes, Result, Ok, refl, ap, ◌∙◌, append_assoc, if◌then◌else◌}
use Rattle.std.specs.List.{list_all}
use Rattle.std.proofs.lemmas.Slice.Eq.{bytes_eq-Decides}
use Rattle.std.proofs.lemmas.Bool.{and_parts}
use Rattle.sg_model.specs.Lists.{has_text, all_differ}
use Rattle.sg_model.specs.Names.{Name, is_name, reserved}
use Rattle.sg_protocol.specs.Graph.{VariableKind, Int, Text, kind_text, AreNames}
use Rattle.sg_parse.specs.Tokens.{is_word}
use Rattle.sg_parse.specs.Reading.{Parsed, Parser, after, give, is_next, branch, token, skip, name, new_name, known_name, read_kind, fail}
use Rattle.sg_parse.specs.declared.token.TokenAt.{TokenAt}
use Rattle.sg_parse.specs.declared.token.Token.{Token}
use Rattle.sg_parse.specs.declared.token.Token.TheVariants.{Word}
use Rattle.sg_parse.specs.declared.fault.ParseFault.{ParseFault}
use Rattle.sg_parse.specs.declared.fault.ParseFault.TheVariants.{Twice}
use Rattle.sg_parse.proofs.Took.{bare}
use Rattle.sg_parse.proofs.Names.{named_there, index_there}
use Rattle.sg_parse.proofs.Middle.{name-at}
use Rattle.sg_parse.proofs.Readings.{onward, known_read}

-- from tokens ts before us the reader reads x
pub record Gives {A : Type 0} (r : Parser A) (ts us : List Token) (x : A) : Type 0 where
  pub go : (ps : List TokenAt) → bare ps ≡ ts ++ us → (rest : List TokenAt) × (bare rest ≡ us) × (r ps ≡ Ok (record { value = x; rest = rest }))

pub gives-give : {A : Type 0} (x : A) (us : List Token) → Gives (give x) [] us x
gives-give x us = record { go = λ ps e. (ps, e, refl) }

pub gives-after : {A B : Type 0} (r : Parser A) (k : A → Parser B) (ts us vs : List Token) (x : A) (y : B) → Gives r ts (us ++ vs) x → Gives (k x) us vs y → Gives (after r k) (ts ++ us) vs y
gives-after r k ts us vs x y a b = record {
  go = λ ps e.
      let first = a.go ps (e ∙ append_assoc ts us vs) in
      let second = b.go first.0 first.1 in
      (second.0, second.1, onward r k ps (record { value = x; rest = first.0 }) first.2 ∙ second.2);
}

-- the first of the tokens passes the test
abbrev pub head_is : (Token → Bool) → List Token → Bool
head_is test [] = false
head_is test (t ∷ ts) = test t

pub head-next : (test : Token → Bool) (ps : List TokenAt) → is_next test ps ≡ head_is test (bare ps)
head-next test [] = refl
head-next test (p ∷ ps) = refl

-- a branch reads what the one that is taken reads
gives-branch : {A : Type 0} (b : Bool) (test : Token → Bool) (first second : Parser A) (ts us : List Token) (x : A) → head_is test (ts ++ us) ≡ b → Gives (if b then first else second) ts us x
    → Gives (branch test first second) ts us x
gives-branch {A = A} b test first second ts us x h a = record {
  go = λ ps e.
      let is : is_next test ps ≡ b = head-next test ps ∙ ap (head_is test) e ∙ h in
      let g = a.go ps e in
      (g.0, g.1, rw is (taken b ps (Ok (record { value = x; rest = g.0 })) g.2));
}
  where
    taken : (b : Bool) (ps : List TokenAt) (o : Result (Parsed A) ParseFault) → (if b then first else second) ps ≡ o → (if b then first ps else second ps) ≡ o
    taken true ps o e = e
    taken false ps o e = e

pub gives-first : {A : Type 0} (test : Token → Bool) (first second : Parser A) (ts us : List Token) (x : A) → head_is test (ts ++ us) ≡ true → Gives first ts us x → Gives (branch test first second) ts us x
gives-first test first second ts us x h a = gives-branch true test first second ts us x h a

pub gives-second : {A : Type 0} (test : Token → Bool) (first second : Parser A) (ts us : List Token) (x : A) → head_is test (ts ++ us) ≡ false → Gives second ts us x → Gives (branch test first second) ts us x
gives-second test first second ts us x h a = gives-branch false test first second ts us x h a

pub gives-skip : (t : Token) (us : List Token) → Gives skip (t ∷ []) us tt
gives-skip t us = record { go = go }
  where
    go : (ps : List TokenAt) → bare ps ≡ t ∷ us → (rest : List TokenAt) × (bare rest ≡ us) × (skip ps ≡ Ok (record { value = tt; rest = rest }))
    go [] e = absurd (cc)
    go (p ∷ ps) e = (ps, cc, refl)

pub gives-token : (test : Token → Bool) (t : Token) (us : List Token) → test t ≡ true → Gives (token test) (t ∷ []) us tt
gives-token test t us h = gives-first test skip _ (t ∷ []) us tt h (gives-skip t us)

pub word-is : (w : List ℕ) → is_word w (Word w) ≡ true
word-is w = (bytes_eq-Decides w w).1 refl

pub gives-word : (w : List ℕ) (us : List Token) → Gives (token (is_word w)) (Word w ∷ []) us tt
gives-word w us = gives-token (is_word w) (Word w) us (word-is w)

-- ---- names

pub name-there : (ps : List TokenAt) (n : Name) (us : List Token) → has_text n reserved ≡ false → bare ps ≡ Word n ∷ us
    → (at : ℕ) × (rest : List TokenAt) × (bare rest ≡ us) × (name ps ≡ Ok (record { value = (n, at); rest = rest }))
name-there [] n us h e = absurd (cc)
name-there (p ∷ ps) n us h e =
    let t : p.token ≡ Word n = cc in
    let r : bare ps ≡ us = cc in
    (p.at, ps, r, rw (t, h) refl)

pub gives-new : (names : List Name) (n : Name) (us : List Token) → has_text n reserved ≡ false → has_text n names ≡ false → Gives (new_name names) (Word n ∷ []) us n
gives-new names n us free new = record {
  go = λ ps e.
      let f = name-there ps n us free e in
      (f.1, f.2, onward name (λ (n : Name × ℕ). if has_text n.0 names then fail (Twice n.1) else give n.0) ps (record { value = (n, f.0); rest = f.1 }) f.3 ∙ rw new refl);
}

pub gives-known : (names : List Name) (r : ℕ) (us : List Token) → AreNames names → r < length names → Gives (known_name names) (Word (get_or names r []) ∷ []) us r
gives-known names r us are l = record {
  go = λ ps e.
      let parts = and_parts (list_all (λ n. is_name n && not (has_text n reserved)) names) (all_differ names) are in
      let f = name-there ps (get_or names r []) us (name-at names r l parts.0) e in
      (f.1, f.2, known_read names ps f.1 (get_or names r []) f.0 r f.3 (named_there names r l) (index_there names r parts.1 l));
}

pub gives-kind : (k : VariableKind) (us : List Token) → Gives read_kind (Word (kind_text k) ∷ []) us k
gives-kind Int us = gives-first (is_word (codes "int")) _ _ (Word (codes "int") ∷ []) us Int refl (gives-after skip _ (Word (codes "int") ∷ []) [] us tt Int (gives-skip (Word (codes "int")) us) (gives-give Int us))
gives-kind Text us = gives-second (is_word (codes "int")) _ _ (Word (codes "text") ∷ []) us Text refl (gives-after (token (is_word (codes "text"))) _ (Word (codes "text") ∷ []) [] us tt Text (gives-word (codes "text") us) (gives-give Text us))
