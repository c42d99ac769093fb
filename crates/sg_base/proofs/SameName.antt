-- The `==` of names is equality.
use Rattle.std.proofs.Common.{◌≡◌, ℕ, Bool, sym, ap, ◌∙◌, refl, List, ◌++◌, length, take, bytes_eq}
use Rattle.std.specs.Bool.{Decides}
use Rattle.std.specs.List.{list_any}
use Rattle.std.proofs.lemmas.Slice.Eq.{slice_eq-Decides, bytes_eq-Decides}
use Rattle.std.proofs.lemmas.Bool.Decides.{Decides-eqb, Decides-and, Decides-like, same_from_decides}
use Rattle.std.proofs.Math.Seq.{take-append_seam}
use Rattle.sg_model.specs.Lists.{has_text}
use Rattle.sg_base.specs.Fields.{fields_of}
use Rattle.sg_base.specs.contracts.name.NamePartialEq.TheImpl.{eq-value}

-- the `==` of names
abbrev pub same : List ℕ → List ℕ → Bool
same a b = eq-value.it a b

-- texts of one length that are equal with what follows them are equal
prefix_equal : (a b x y : List ℕ) → (a ++ x ≡ b ++ y) × (length a ≡ length b) → a ≡ b
prefix_equal a b x y h = sym (take-append_seam a x) ∙ (λ i. take (h.1 i) (h.0 i)) ∙ take-append_seam b y

-- it is equality
pub same-Decides : (a b : List ℕ) → Decides (same a b) (a ≡ b)
same-Decides a b = Decides-like _ (prefix_equal a b _ _) (λ e. (ap (λ n. (fields_of n).bytes) e, ap length e)) (Decides-and _ _ (slice_eq-Decides Decides-eqb (fields_of a).bytes (fields_of b).bytes _ refl) (Decides-eqb (length a) (length b)))

-- as the equality of texts is
pub same-bytes_eq : (a b : List ℕ) → same a b ≡ bytes_eq a b
same-bytes_eq a b = same_from_decides _ _ (same-Decides a b) (bytes_eq-Decides a b)

-- either way round
pub same-bytes_eq_back : (a b : List ℕ) → same a b ≡ bytes_eq b a
same-bytes_eq_back a b = same_from_decides _ _ (same-Decides a b) (Decides-like _ sym sym (bytes_eq-Decides b a))

-- as tests
pub same_is : (a : List ℕ) → same a ≡ bytes_eq a
same_is a = λ i b. same-bytes_eq a b i

-- a name is among others, as `contains` looks for it, if the text is
pub any_same : (a : List ℕ) (names : List (List ℕ)) → list_any (same a) names ≡ has_text a names
any_same a names = ap (λ test. list_any test names) (same_is a)
