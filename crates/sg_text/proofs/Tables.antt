-- What the calls of a table of names leave.
use Rattle.std.proofs.Common.{Option, Some, None, if◌then◌else◌, ◌≡◌, ℕ, ◌+◌, ◌-◌, true, false, Bool, sym, ap, ◌∙◌, refl, List, [], ◌∷◌, ◌++◌, length, length-append, arith}
use Rattle.std.specs.Map.{keys_of, lookup}
use Rattle.std.specs.Prelude.{MatchOption}
use Rattle.sg_model.specs.Lists.{has_text}
use Rattle.sg_model.specs.Names.{Name}
use Rattle.sg_text.specs.Sessions.{KnownSessions, all_sids, undeclared, numbered, session_name, Naming, naming, with_declared, with_event}
use Rattle.sg_text.proofs.SameSid.{Entry, same, keys_of-map, lookup-map}
use Rattle.sg_text.proofs.Naming.{naming-declared_new, naming-known_new, length-undeclared, undeclared-none, session_name-none}

-- whether the table has a sid says whether there is such a session
pub asked : (letter : ℕ) (m : KnownSessions) (sid : List ℕ) (es : List Entry) (r b : Bool) → es ≡ (naming letter m).names → r ≡ has_text sid (keys_of es) → r ≡ b → has_text sid (all_sids m) ≡ b
asked letter m sid es r b same is at =
    ap (has_text sid) (sym (keys_of-map (session_name letter m) (all_sids m)) ∙ sym (ap keys_of same)) ∙ sym is ∙ at

-- a new session that is declared
pub declared_more : (letter : ℕ) (m : KnownSessions) (name : Name) (sid : List ℕ) (l count : ℕ) (old new : List Entry) → m.events ≡ [] → l ≡ letter → old ≡ (naming letter m).names → has_text sid (all_sids m) ≡ false
    → new ≡ old ++ (sid, name) ∷ [] → count ≡ length new → (let t : Naming = record { letter = l; declared = count; names = new } in t ≡ naming letter (with_declared m name sid))
declared_more letter m name sid l count old new none is same miss more counted =
    let names : new ≡ (naming letter m).names ++ (sid, name) ∷ [] = more ∙ ap (λ es. es ++ (sid, name) ∷ []) same in
    let others : length (undeclared m) ≡ 0 = ap length (undeclared-none m none) in
    let number : count ≡ (naming letter m).declared + 1 = counted ∙ ap length names ∙ length-append (naming letter m).names ((sid, name) ∷ []) ∙ ap (λ n. n + 1) (length-undeclared letter m ∙ ap (λ n. (naming letter m).declared + n) others) ∙ omega arith in
    (λ i. record { letter = is i; declared = number i; names = names i }) ∙ sym (naming-declared_new letter m name sid none miss)

-- a new session that is met
pub known_more : (letter : ℕ) (m : KnownSessions) (sid : List ℕ) (name : Name) (l d n : ℕ) (old new : List Entry) → l ≡ letter → d ≡ (naming letter m).declared → old ≡ (naming letter m).names → has_text sid (all_sids m) ≡ false
    → name ≡ numbered l n → n ≡ length old - d + 1 → new ≡ old ++ (sid, name) ∷ [] → (let t : Naming = record { letter = l; declared = d; names = new } in t ≡ naming letter (with_event m sid))
known_more letter m sid name l d n old new is counted same miss named number more =
    let others : n ≡ length (undeclared m) + 1 = number ∙ ap (λ k. k - d + 1) (ap length same ∙ length-undeclared letter m) ∙ ap (λ k. (naming letter m).declared + length (undeclared m) - k + 1) counted ∙ omega arith in
    let called : name ≡ numbered letter (length (undeclared m) + 1) = named ∙ (λ i. numbered (is i) (others i)) in
    let names : new ≡ (naming letter m).names ++ (sid, numbered letter (length (undeclared m) + 1)) ∷ [] = more ∙ (λ i. same i ++ (sid, called i) ∷ []) in
    (λ i. record { letter = is i; declared = counted i; names = names i }) ∙ sym (naming-known_new letter m sid miss)

-- what the table finds for a sid
pub name_found : (letter : ℕ) (m : KnownSessions) (sid : List ℕ) (r : Option Name) → r ≡ lookup (same sid) (naming letter m).names
    → MatchOption r ((has_text sid (all_sids m) ≡ false) × (session_name letter m sid ≡ [])) (λ n. (has_text sid (all_sids m) ≡ true) × (n ≡ session_name letter m sid))
name_found letter m sid r is = by (has_text sid (all_sids m)) refl r (is ∙ lookup-map (session_name letter m) sid (all_sids m))
  where
    by : (b : Bool) → has_text sid (all_sids m) ≡ b → (r : Option Name) → r ≡ (if has_text sid (all_sids m) then Some (session_name letter m sid) else None)
        → MatchOption r ((has_text sid (all_sids m) ≡ false) × (session_name letter m sid ≡ [])) (λ n. (has_text sid (all_sids m) ≡ true) × (n ≡ session_name letter m sid))
    by true e (Some n) h = let same_name : Some n ≡ Some (session_name letter m sid) = h ∙ ap (λ b. if b then Some (session_name letter m sid) else None) e in (e, cc)
    by true e None h = let same_name : None ≡ Some (session_name letter m sid) = h ∙ ap (λ b. if b then Some (session_name letter m sid) else None) e in absurd cc
    by false e (Some n) h = let same_name : Some n ≡ None = h ∙ ap (λ b. if b then Some (session_name letter m sid) else None) e in absurd cc
    by false e None h = (e, session_name-none letter m sid e)
