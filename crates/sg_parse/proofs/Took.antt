-- Tokens that are read are those of what is read.
use Rattle.std.proofs.Common.{◌≡◌, ℕ, ◌<◌, Bool, true, false, ◌⊎◌, inl, inr, List, [], ◌∷◌, ◌++◌, map, length, get_or, bytes_eq, Result, Ok, Err, refl, sym, ap, subst, ◌∙◌, arith, if◌then◌else◌, append_assoc}
use Rattle.std.proofs.lemmas.Slice.Eq.{bytes_eq-Decides}
use Rattle.std.proofs.lemmas.Bool.{cases_Bool, not-true}
use Rattle.sg_model.specs.Lists.{has_text}
use Rattle.sg_model.specs.Names.{Name, is_name, reserved}
use Rattle.sg_parse.specs.Tokens.{is_word, is_named, is_colon, is_semicolon, is_arrow, is_use, is_as, is_end, text_of}
use Rattle.sg_parse.specs.Reading as Reading
use Rattle.sg_parse.specs.Reading.{Parsed, Parser, on, after, give, is_next, branch, token, skip, word, name, new_name, known_name, index_of}
use Rattle.sg_parse.specs.declared.token.TokenAt.{TokenAt}
use Rattle.sg_parse.specs.declared.token.Token.{Token}
use Rattle.sg_parse.specs.declared.token.Token.TheVariants.{Word, Colon, Semicolon, Arrow, Use, As, End}
use Rattle.sg_parse.specs.declared.fault.ParseFault.{ParseFault}
use Rattle.sg_parse.specs.declared.fault.ParseFault.TheVariants.{Twice, UnknownName}
use Rattle.sg_parse.proofs.Sound.{IsSpelled, Sound}

-- the tokens without their offsets
abbrev pub bare : List TokenAt → List Token
bare ps = map (λ p. p.token) ps

-- what a reading took: its tokens, and sound ones are left
pub record Took {A : Type 0} (ps : List TokenAt) (o : Parsed A) (ts : List Token) : Type 0 where
  pub begins : bare ps ≡ ts ++ bare o.rest
  pub sound : Sound o.rest

pub ok_same : {A : Type 0} (x y : A) → (let r : Result A ParseFault = Ok x in r ≡ Ok y) → x ≡ y
ok_same x y e = cc

pub err_ok : {A C : Type 0} (e : ParseFault) (x : A) → (let r : Result A ParseFault = Err e in r ≡ Ok x) → C
err_ok e x h = cc

pub on-inv : {A B : Type 0} (res : Result (Parsed A) ParseFault) (next : A → Parser B) (o : Parsed B) → on res next ≡ Ok o → (r : Parsed A) × (res ≡ Ok r) × (next r.value r.rest ≡ Ok o)
on-inv (Err e) next o h = err_ok e o h
on-inv (Ok r) next o h = (r, refl, h)

-- both readings, one after the other
pub took-both : {A B : Type 0} (ps : List TokenAt) (r : Parsed A) (o : Parsed B) (ts us : List Token) → Took ps r ts → Took r.rest o us → Took ps o (ts ++ us)
took-both ps r o ts us t u = record {
  begins = t.begins ∙ ap (λ l. ts ++ l) u.begins ∙ sym (append_assoc ts us (bare o.rest));
  sound = u.sound;
}

-- nothing is taken
pub took-give : {A : Type 0} (x : A) (ps : List TokenAt) (o : Parsed A) → Sound ps → give x ps ≡ Ok o → (x ≡ o.value) × Took ps o []
took-give {A} x ps o s h =
    let same : record { value = x; rest = ps } ≡ o = ok_same (record { value = x; rest = ps }) o h in
    subst (λ (o : Parsed A). (x ≡ o.value) × Took ps o []) same (refl, record { begins = refl; sound = s })

-- a branch is one of both
pub branch-inv : {A : Type 0} (test : Token → Bool) (first second : Parser A) (ps : List TokenAt) (o : Parsed A) → branch test first second ps ≡ Ok o
    → ((is_next test ps ≡ true) × (first ps ≡ Ok o)) ⊎ ((is_next test ps ≡ false) × (second ps ≡ Ok o))
branch-inv test first second ps o h = pick (is_next test ps) refl h
  where
    pick : (b : Bool) → is_next test ps ≡ b → (if b then first ps else second ps) ≡ Ok o → ((is_next test ps ≡ true) × (first ps ≡ Ok o)) ⊎ ((is_next test ps ≡ false) × (second ps ≡ Ok o))
    pick true e h = inl (e, h)
    pick false e h = inr (e, h)

-- a token that is taken is the one that passes
pub took-token : (test : Token → Bool) (t : Token) (ps : List TokenAt) (o : Parsed (Unit {0})) → ((u : Token) → test u ≡ true → u ≡ t) → Sound ps → token test ps ≡ Ok o → Took ps o (t ∷ [])
took-token test t [] o only s h = absurd (cc)
took-token test t (p ∷ ps) o only s h = pick (test p.token) refl h
  where
    pick : (b : Bool) → test p.token ≡ b → (if b then Ok (record { value = tt; rest = ps }) else Err (Reading.refusal (p ∷ ps))) ≡ Ok o → Took (p ∷ ps) o (t ∷ [])
    pick true e h =
        let same : record { value = tt; rest = ps } ≡ o = ok_same (record { value = tt; rest = ps }) o h in
        subst (λ (o : Parsed (Unit {0})). Took (p ∷ ps) o (t ∷ [])) same (record { begins = ap (λ u. u ∷ bare ps) (only p.token e); sound = s.2 })
    pick false e h = err_ok (Reading.refusal (p ∷ ps)) o h

pub only-word : (w : List ℕ) (u : Token) → is_word w u ≡ true → u ≡ Word w
only-word w (Word v) h = ap Word ((bytes_eq-Decides v w).0 h)
only-word w u h = absurd (cc)

-- the test that this token alone passes, if it is no word
abbrev pub test_of : Token → Token → Bool
test_of Colon = is_colon
test_of Semicolon = is_semicolon
test_of Arrow = is_arrow
test_of Use = is_use
test_of As = is_as
test_of End = is_end
test_of t = λ u. false

pub only-mark : (t u : Token) → test_of t u ≡ true → u ≡ t
only-mark Colon Colon h = refl
only-mark Semicolon Semicolon h = refl
only-mark Arrow Arrow h = refl
only-mark Use Use h = refl
only-mark As As h = refl
only-mark End End h = refl
only-mark t u h = absurd (cc)

-- so for each of them
pub took-mark : (t : Token) (ps : List TokenAt) (o : Parsed (Unit {0})) → Sound ps → token (test_of t) ps ≡ Ok o → Took ps o (t ∷ [])
took-mark t ps o s h = took-token (test_of t) t ps o (only-mark t) s h

-- ---- names

-- a token that is a name, as its bytes
pub named-word : (t : Token) → IsSpelled t → is_named t ≡ true → (t ≡ Word (text_of t)) × (is_name (text_of t) ≡ true) × (has_text (text_of t) reserved ≡ false)
named-word (Word v) s h = (refl, s, not-true (has_text v reserved) h)
named-word t s h = absurd (cc)

-- a name
pub took-name : (ps : List TokenAt) (o : Parsed (Name × ℕ)) → Sound ps → name ps ≡ Ok o → Took ps o (Word o.value.0 ∷ []) × (is_name o.value.0 ≡ true) × (has_text o.value.0 reserved ≡ false)
took-name [] o s h = absurd (cc)
took-name (p ∷ ps) o s h = pick (is_named p.token) refl h
  where
    pick : (b : Bool) → is_named p.token ≡ b → (if b then Ok (record { value = (text_of p.token, p.at); rest = ps }) else Err (Reading.refusal (p ∷ ps))) ≡ Ok o
        → Took (p ∷ ps) o (Word o.value.0 ∷ []) × (is_name o.value.0 ≡ true) × (has_text o.value.0 reserved ≡ false)
    pick true e h =
        let w = named-word p.token s.0 e in
        let same : record { value = (text_of p.token, p.at); rest = ps } ≡ o = ok_same (record { value = (text_of p.token, p.at); rest = ps }) o h in
        subst (λ (o : Parsed (Name × ℕ)). Took (p ∷ ps) o (Word o.value.0 ∷ []) × (is_name o.value.0 ≡ true) × (has_text o.value.0 reserved ≡ false)) same
        (record { begins = ap (λ u. u ∷ bare ps) w.0; sound = s.2 }, w.1, w.2)
    pick false e h = err_ok (Reading.refusal (p ∷ ps)) o h

-- what was read is a name that was not there
pub record IsFresh (names : List Name) (n : Name) : Type 0 where
  pub name : is_name n ≡ true
  pub free : has_text n reserved ≡ false
  pub new : has_text n names ≡ false

-- a new name
pub took-new : (names : List Name) (ps : List TokenAt) (o : Parsed Name) → Sound ps → new_name names ps ≡ Ok o → Took ps o (Word o.value ∷ []) × IsFresh names o.value
took-new names ps o s h =
    let i = on-inv (name ps) (λ (n : Name × ℕ). if has_text n.0 names then Reading.fail (Twice n.1) else give n.0) o h in
    let n = took-name ps i.0 s i.1 in
    pick (i.0) n (has_text (i.0).value.0 names) refl i.2
  where
    pick : (r : Parsed (Name × ℕ)) → Took ps r (Word r.value.0 ∷ []) × (is_name r.value.0 ≡ true) × (has_text r.value.0 reserved ≡ false) → (b : Bool) → has_text r.value.0 names ≡ b
        → (if b then Reading.fail (Twice r.value.1) else give r.value.0) r.rest ≡ Ok o → Took ps o (Word o.value ∷ []) × IsFresh names o.value
    pick r n true e h = err_ok (Twice r.value.1) o h
    pick r n false e h =
        let same : record { value = r.value.0; rest = r.rest } ≡ o = ok_same (record { value = r.value.0; rest = r.rest }) o h in
        subst (λ (o : Parsed Name). Took ps o (Word o.value ∷ []) × IsFresh names o.value) same
        (record { begins = (n.0).begins; sound = (n.0).sound }, record { name = n.1; free = n.2; new = e })

-- the index of a name that is there
pub index_has : (n : Name) (names : List Name) → has_text n names ≡ true → (index_of n names < length names) × (get_or names (index_of n names) [] ≡ n)
index_has n [] h = absurd (cc)
index_has n (m ∷ ms) h = elim (cases_Bool (bytes_eq n m)) [
  | inl y ↦ (let e : n ≡ m = (bytes_eq-Decides n m).0 y in rw y (omega arith, sym e))
  | inr z ↦ (let rest = index_has n ms (rw z at h) in rw z (omega (arith, rest.0), rest.1))
]

-- a known name
pub took-known : (names : List Name) (ps : List TokenAt) (o : Parsed ℕ) → Sound ps → known_name names ps ≡ Ok o → Took ps o (Word (get_or names o.value []) ∷ []) × (o.value < length names)
took-known names ps o s h =
    let i = on-inv (name ps) (λ (n : Name × ℕ). if has_text n.0 names then give (index_of n.0 names) else Reading.fail (UnknownName n.1)) o h in
    let n = took-name ps i.0 s i.1 in
    pick (i.0) n.0 (has_text (i.0).value.0 names) refl i.2
  where
    pick : (r : Parsed (Name × ℕ)) → Took ps r (Word r.value.0 ∷ []) → (b : Bool) → has_text r.value.0 names ≡ b
        → (if b then give (index_of r.value.0 names) else Reading.fail (UnknownName r.value.1)) r.rest ≡ Ok o → Took ps o (Word (get_or names o.value []) ∷ []) × (o.value < length names)
    pick r n false e h = err_ok (UnknownName r.value.1) o h
    pick r n true e h =
        let index = index_has r.value.0 names e in
        let same : record { value = index_of r.value.0 names; rest = r.rest } ≡ o = ok_same (record { value = index_of r.value.0 names; rest = r.rest }) o h in
        subst (λ (o : Parsed ℕ). Took ps o (Word (get_or names o.value []) ∷ []) × (o.value < length names)) same
        (rw index.1 (record { begins = n.begins; sound = n.sound }), index.0)
