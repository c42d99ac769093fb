-- Sessions by their names, and by what makes two of them alike.
use Rattle.std.proofs.Common.{◌≡◌, ℕ, zero, suc, ◌==◌, Bool, true, false, ◌&&◌, ◌||◌, List, [], ◌∷◌, ◌++◌, map, length, refl, sym, ap, ◌∙◌, arith, if◌then◌else◌}
use Rattle.std.specs.Prelude.{Some, slice_get}
use Rattle.std.specs.List.{list_any}
use Rattle.std.specs.Cmp.Lexicographic.{pointwise}
use Rattle.indexmap.specs.IndexSet.{insert_key}
use Rattle.sg_model.specs.Names.{Name}
use Rattle.sg_sched.specs.Format.Faults.{same_names, is_like}
use Rattle.sg_base.proofs.SameName.{same, same-bytes_eq}
use Rattle.sg_sched_text.specs.Sessions.{session_of, sessions_of}
use Rattle.sg_sched_text.specs.declared.sessions.Like.{Like}
use Rattle.sg_sched_text.specs.contracts.sessions.LikePartialEq.TheImpl.{eq-value}

-- ---- lists

no_suc : {n : ℕ} → 0 ≡ suc n → ⊥
no_suc h = absurd (omega (arith, h))

pub names_are : (ns : List Name) (ls : List Like) → length ns ≡ length ls → map (λ s. s.name) (sessions_of ns ls) ≡ ns
names_are [] [] h = refl
names_are [] (l ∷ ls) h = refl
names_are (n ∷ ns) [] h = absurd (no_suc (sym h))
names_are (n ∷ ns) (l ∷ ls) h = ap (λ ms. n ∷ ms) (names_are ns ls (omega (arith, h)))

pub count : (ns : List Name) (ls : List Like) → length ns ≡ length ls → length (sessions_of ns ls) ≡ length ns
count [] [] h = refl
count [] (l ∷ ls) h = refl
count (n ∷ ns) [] h = absurd (no_suc (sym h))
count (n ∷ ns) (l ∷ ls) h = ap suc (count ns ls (omega (arith, h)))

pub one_more : (ns : List Name) (ls : List Like) (n : Name) (l : Like) → length ns ≡ length ls → sessions_of (ns ++ n ∷ []) (ls ++ l ∷ []) ≡ sessions_of ns ls ++ session_of n l ∷ []
one_more [] [] n l h = refl
one_more [] (k ∷ ls) n l h = absurd (no_suc h)
one_more (m ∷ ns) [] n l h = absurd (no_suc (sym h))
one_more (m ∷ ns) (k ∷ ls) n l h = ap (λ ss. session_of m k ∷ ss) (one_more ns ls n l (omega (arith, h)))

pub at_index : (ns : List Name) (ls : List Like) (i : ℕ) (n : Name) (l : Like) → slice_get ns i ≡ Some n → slice_get ls i ≡ Some l → slice_get (sessions_of ns ls) i ≡ Some (session_of n l)
at_index [] ls i n l p q = absurd (cc)
at_index (m ∷ ns) [] i n l p q = absurd (cc)
at_index (m ∷ ns) (k ∷ ls) zero n l p q = let a : m ≡ n = cc in let b : k ≡ l = cc in λ i. Some (session_of (a i) (b i))
at_index (m ∷ ns) (k ∷ ls) (suc i) n l p q = at_index ns ls i n l p q

-- ---- alike

abbrev pub same_like : Like → Like → Bool
same_like a b = eq-value.it a b

pub names_same : (xs ys : List Name) → pointwise same xs ys ≡ same_names xs ys
names_same [] [] = refl
names_same [] (y ∷ ys) = refl
names_same (x ∷ xs) [] = refl
names_same (x ∷ xs) (y ∷ ys) = λ i. same-bytes_eq x y i && names_same xs ys i

regroup : (p q r s : Bool) → p && (q && (r && s)) ≡ p && q && r && s
regroup true true r s = refl
regroup true false r s = refl
regroup false q r s = refl

pub like_is : (a b : Like) (n : Name) → same_like a b ≡ is_like a.graph a.nonce a.names.items a.version (session_of n b)
like_is a b n =
    ap (λ x. (a.graph == b.graph) && ((a.nonce == b.nonce) && (x && (a.version == b.version)))) (names_same a.names.items b.names.items)
    ∙ regroup (a.graph == b.graph) (a.nonce == b.nonce) (same_names a.names.items b.names.items) (a.version == b.version)

pub any_like : (a : Like) (ns : List Name) (ls : List Like) → length ns ≡ length ls
    → list_any (same_like a) ls ≡ list_any (is_like a.graph a.nonce a.names.items a.version) (sessions_of ns ls)
any_like a [] [] h = refl
any_like a [] (l ∷ ls) h = absurd (no_suc h)
any_like a (n ∷ ns) [] h = absurd (no_suc (sym h))
any_like a (n ∷ ns) (l ∷ ls) h = λ i. like_is a l n i || any_like a ns ls (omega (arith, h)) i

-- what is like no other goes last
pub like_new : (a : Like) (ns : List Name) (ls : List Like) → length ns ≡ length ls
    → list_any (is_like a.graph a.nonce a.names.items a.version) (sessions_of ns ls) ≡ false → insert_key same_like ls a ≡ ls ++ a ∷ []
like_new a ns ls h absent =
    let e : list_any (same_like a) ls ≡ false = any_like a ns ls h ∙ absent in
    ap (λ b. if b then ls else ls ++ a ∷ []) e
