-- What the table of peers finds, in terms of the keyring.
use Rattle.std.proofs.Common.{◌≡◌, ℕ, Bool, true, false, ◌||◌, sym, ap, ◌∙◌, refl, List, [], ◌∷◌, ◌++◌, map, cond, if◌then◌else◌, Option, Some, None, IfSome, is_some, option_map, bytes_eq, true≢false}
use Rattle.std.specs.List.{AllByRecursion, find}
use Rattle.std.specs.Map.{lookup}
use Rattle.sg_crypt.specs.Model.{pair_of}
use Rattle.sg_protocol.specs.Keyring.{Peer}
use Rattle.sg_model.specs.Lists.{has_text}
use Rattle.sg_keys.specs.declared.keyring.Contact.{Contact}
use Rattle.sg_keys.specs.Model.{peer_of, names_in}
use Rattle.sg_base.proofs.SameName.{same, same-Decides, same-bytes_eq, same-bytes_eq_back}

-- an entry of the table
abbrev pub Entry : Type 0
Entry = List ℕ × Contact

module _ {B : Type 0} (f : Peer → B) (g : Contact → B) (agree : (n : List ℕ) (c : Contact) → f (peer_of (n, c)) ≡ g c) where
  by : (b : Bool) (e : Entry) (found : Option Contact) (first : Option Peer) → option_map g found ≡ option_map f first → option_map g (cond b (Some e.1) found) ≡ option_map f (if b then Some (peer_of e) else first)
  by true e found first h = ap Some (sym (agree e.0 e.1))
  by false e found first h = h

  -- what the table has for a name is what the first peer of this name has
  pub lookup-find : (n : List ℕ) (es : List Entry) → option_map g (lookup (same n) es) ≡ option_map f (find (λ p. bytes_eq p.name n) (map peer_of es))
  lookup-find n [] = refl
  lookup-find n (e ∷ es) = rw (same-bytes_eq_back n e.0) (by (bytes_eq e.0 n) e _ _ (lookup-find n es))

some_by : (b : Bool) (c : Contact) (found : Option Contact) (there : Bool) → is_some found ≡ there → is_some (cond b (Some c) found) ≡ b || there
some_by true c found there h = refl
some_by false c found there h = h

-- the table has a name that stands in it
pub is_some-lookup : (n : List ℕ) (es : List Entry) → is_some (lookup (same n) es) ≡ has_text n (names_in es)
is_some-lookup n [] = refl
is_some-lookup n (e ∷ es) = rw (same-bytes_eq n e.0) (some_by (bytes_eq n e.0) e.1 _ _ (is_some-lookup n es))

none_from : (found : Option Contact) → is_some found ≡ false → found ≡ None
none_from None h = refl
none_from (Some c) h = absurd (true≢false h)

-- the table has nothing for a name that does not stand in it
pub lookup-absent : (n : List ℕ) (es : List Entry) → has_text n (names_in es) ≡ false → lookup (same n) es ≡ None
lookup-absent n es h = none_from _ (is_some-lookup n es ∙ h)

-- the names of a table with one more entry
pub names_in-append : (es : List Entry) (n : List ℕ) (c : Contact) → names_in (es ++ (n, c) ∷ []) ≡ names_in es ++ n ∷ []
names_in-append [] n c = refl
names_in-append (e ∷ es) n c = ap (λ ns. e.0 ∷ ns) (names_in-append es n c)

-- ---- each peer stands with the two that share its key

module _ (me : List ℕ) where
  abbrev pub Paired : Entry → Type 0
  Paired e = (e.1).pair ≡ pair_of me e.0

  found_by : (n : List ℕ) (b : Bool) (e : Entry) (found : Option Contact) → same n e.0 ≡ b → Paired e → IfSome found (λ c. c.pair ≡ pair_of me n) → IfSome (cond b (Some e.1) found) (λ c. c.pair ≡ pair_of me n)
  found_by n true e found s p h = p ∙ ap (pair_of me) (sym ((same-Decides n e.0).0 s))
  found_by n false e found s p h = h

  -- what is found for a name stands with this name
  pub lookup-paired : (n : List ℕ) (es : List Entry) → AllByRecursion Paired es → IfSome (lookup (same n) es) (λ c. c.pair ≡ pair_of me n)
  lookup-paired n [] h = tt
  lookup-paired n (e ∷ es) h = found_by n (same n e.0) e _ refl h.0 (lookup-paired n es h.1)

  pub paired-append : (es : List Entry) (e : Entry) → AllByRecursion Paired es → Paired e → AllByRecursion Paired (es ++ e ∷ [])
  paired-append [] e h p = (p, tt)
  paired-append (f ∷ es) e h p = (h.0, paired-append es e h.1 p)
