-- Look-ups in the tables of names, of pairs and of keys, by tests of their parts.
use Rattle.std.proofs.Common.{◌≡◌, ℕ, ◌==◌, true, false, ◌&&◌, List, [], ◌∷◌, ◌++◌, bytes_eq, Option, Some, None, is_some, cond, if◌then◌else◌, refl, sym, ap, ◌∙◌, true≢false, Result, Ok, Err, OnOk, IsOk}
use Rattle.std.specs.List.{list_any}
use Rattle.std.specs.Map.{lookup}
use Rattle.std.specs.Option.{option_or}
use Rattle.std.proofs.lemmas.Slice.Eq.{bytes_eq-Decides}
use Rattle.std.proofs.lemmas.Bool.Decides.{Decides-eqb}
use Rattle.std.proofs.lemmas.Bool.{and_parts}
use Rattle.indexmap.specs.IndexSet.{insert_key}
use Rattle.sg_model.proofs.Small.{bytes_eq-swap, eqb-swap}
use Rattle.sg_program.specs.declared.programs.ProgramKey.{ProgramKey}
use Rattle.sg_program.specs.Together.{is_key, is_pair}
use Rattle.sg_base.proofs.SameName.{same, same_is, same-bytes_eq}
use Rattle.sg_program.proofs.Indices.{first_put, first_kept}

none_from : (o : Option ℕ) → is_some o ≡ false → o ≡ None
none_from None h = refl
none_from (Some n) h = absurd (true≢false h)

not_none : (o : Option ℕ) → is_some o ≡ true → o ≡ None → ⊥
not_none None h e = true≢false (sym h)
not_none (Some n) h e = cc

-- what holds on Ok holds
pub on_ok : {T E : Type 0} (r : Result T E) (P : Type 0) → OnOk r P → IsOk r → P
on_ok (Ok v) P h ok = h
on_ok (Err e) P h ok = absurd (true≢false (sym ok))

-- ---- names

-- an index for a name that has none
pub name_put : (name : List ℕ) (index : ℕ) (old new : List (List ℕ × ℕ)) → is_some (lookup (same name) old) ≡ false
    → ((n : List ℕ) → lookup (same n) new ≡ cond (same name n) (Some index) (lookup (same n) old))
    → (n : List ℕ) → lookup (bytes_eq n) new ≡ option_or (lookup (bytes_eq n) old) (if bytes_eq n name then Some index else None)
name_put name index old new gone update n =
    first_put (same name n) (bytes_eq n name) (lookup (bytes_eq n) old) (lookup (bytes_eq n) new) index (same-bytes_eq name n ∙ bytes_eq-swap name n)
    (rw (← same_is n) (update n))
    (λ e. (λ i. lookup (bytes_eq ((bytes_eq-Decides n name).0 e i)) old) ∙ rw (← same_is name) (none_from _ gone))

-- a name that has an index keeps it
pub name_kept : (name : List ℕ) (index : ℕ) (old : List (List ℕ × ℕ)) → is_some (lookup (same name) old) ≡ true
    → (n : List ℕ) → lookup (bytes_eq n) old ≡ option_or (lookup (bytes_eq n) old) (if bytes_eq n name then Some index else None)
name_kept name index old there n =
    first_kept (bytes_eq n name) (lookup (bytes_eq n) old) index
    (λ e none. not_none (lookup (same name) old) there (ap (λ test. lookup test old) (same_is name) ∙ sym (λ i. lookup (bytes_eq ((bytes_eq-Decides n name).0 e i)) old) ∙ none))

-- ---- keys

key_swap : (d : List ℕ) (r : ℕ) (key : ProgramKey) → is_key key.digest key.role (record { digest = d; role = r }) ≡ is_key d r key
key_swap d r key = λ i. bytes_eq-swap key.digest d i && eqb-swap key.role r i

key_same : (d : List ℕ) (r : ℕ) (key : ProgramKey) → is_key d r key ≡ true → is_key d r ≡ is_key key.digest key.role
key_same d r key e =
    let parts = and_parts _ _ e in
    λ i. is_key ((bytes_eq-Decides d key.digest).0 parts.0 i) ((Decides-eqb r key.role).0 parts.1 i)

-- an index for a key that has none
pub key_put : (key : ProgramKey) (index : ℕ) (old new : List (ProgramKey × ℕ)) → is_some (lookup (is_key key.digest key.role) old) ≡ false
    → ((k : ProgramKey) → lookup (is_key k.digest k.role) new ≡ cond (is_key key.digest key.role k) (Some index) (lookup (is_key k.digest k.role) old))
    → (d : List ℕ) (r : ℕ) → lookup (is_key d r) new ≡ option_or (lookup (is_key d r) old) (if is_key d r key then Some index else None)
key_put key index old new gone update d r =
    first_put (is_key key.digest key.role (record { digest = d; role = r })) (is_key d r key) (lookup (is_key d r) old) (lookup (is_key d r) new) index (key_swap d r key)
    (update (record { digest = d; role = r }))
    (λ e. ap (λ test. lookup test old) (key_same d r key e) ∙ none_from _ gone)

-- ---- pairs

-- the derived `==` of pairs compares their parts
pub same_pair_is : (n : List ℕ) (r : ℕ) → (λ (k : List ℕ × ℕ). same n k.0 && (r == k.1)) ≡ is_pair n r
same_pair_is n r = λ i k. same_is n i k.0 && (r == k.1)

-- a pair that isn't there goes last
pub pair_put : (pairs : List (List ℕ × ℕ)) (n : List ℕ) (r : ℕ) → list_any (is_pair n r) pairs ≡ false
    → insert_key (λ (a b : List ℕ × ℕ). same a.0 b.0 && (a.1 == b.1)) pairs (n, r) ≡ pairs ++ (n, r) ∷ []
pair_put pairs n r absent =
    let e : list_any (λ (k : List ℕ × ℕ). same n k.0 && (r == k.1)) pairs ≡ false = ap (λ test. list_any test pairs) (same_pair_is n r) ∙ absent in
    ap (λ b. if b then pairs else pairs ++ (n, r) ∷ []) e
