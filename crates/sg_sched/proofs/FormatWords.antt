-- What single words can say: numbers, names with commas, VAR=VALUE, and frames.
use Rattle.std.specs.Prelude.{◌≡◌, ℕ, ◌<◌, ◌^◌, ◌==◌, nat_le, Bool, true, false, not, ◌&&◌, List, [], ◌∷◌, ◌++◌, length, bytes_eq, refl}
use Rattle.std.specs.List.{list_all, slice_split, onto_first}
use Rattle.std.proofs.Common.{sym, ◌∙◌, ap, subst, cond}
use Rattle.std.proofs.lemmas.Bool.{ltb-true, eqb-true}
use Rattle.std.proofs.lemmas.Slice.Eq.{bytes_eq-Decides}
use Rattle.sg_model.specs.Names.{Name, is_letter, is_name, is_name_byte}
use Rattle.sg_model.proofs.Small.{and_left, and_right}
use Rattle.sg_protocol.proofs.GraphText.{letter_byte}
use Rattle.sg_sched.specs.Format.LineContents.{Word, joined_names}
use Rattle.sg_sched.specs.Format.Forms.{is_wide}

-- ---- tests

pub both : {a b : Bool} → a ≡ true → b ≡ true → (a && b) ≡ true
both {a = true} p q = q
both {a = false} p q = p

pub same_self : (w : Word) → bytes_eq w w ≡ true
same_self w = (bytes_eq-Decides w w).1 refl

-- ---- bytes that names and numbers don't have

-- no byte is x
abbrev pub lacks : ℕ → Word → Bool
lacks x w = list_all (λ b. not (b == x)) w

-- a byte that passes a test that x doesn't pass is not x
other_byte : (test : ℕ → Bool) (x c : ℕ) → test x ≡ false → test c ≡ true → (not (c == x)) ≡ true
other_byte test x c lack pass = by (c == x) refl
  where
    clash : {b : Bool} → b ≡ false → b ≡ true → ⊥
    clash p q = false_true (sym p ∙ q)
      where
        false_true : false ≡ true → ⊥
        false_true e = cc

    by : (b : Bool) → (c == x) ≡ b → not b ≡ true
    by false e = refl
    by true e = absurd (clash lack (subst (λ y. test y ≡ true) (eqb-true c x e) pass))

pub lacks_other : (test : ℕ → Bool) (x : ℕ) (cs : Word) → test x ≡ false → list_all test cs ≡ true → lacks x cs ≡ true
lacks_other test x [] lack h = refl
lacks_other test x (c ∷ cs) lack h = both (other_byte test x c lack (and_left (test c) (list_all test cs) h)) (lacks_other test x cs lack (and_right (test c) (list_all test cs) h))

pub name_bytes : (n : Name) → is_name n ≡ true → list_all is_name_byte n ≡ true
name_bytes [] h = refl
name_bytes (c ∷ cs) h = let prefix = and_left (is_letter c && list_all is_name_byte cs) (nat_le (length cs) 31) h in
    both (letter_byte (nat_le 48 c && nat_le c 57) (nat_le 95 c && nat_le c 95) (is_letter c) (and_left (is_letter c) (list_all is_name_byte cs) prefix))
    (and_right (is_letter c) (list_all is_name_byte cs) prefix)

pub name_lacks : (x : ℕ) (n : Name) → is_name_byte x ≡ false → is_name n ≡ true → lacks x n ≡ true
name_lacks x n lack h = lacks_other is_name_byte x n lack (name_bytes n h)

-- ---- names with commas

-- the parts between commas
abbrev pub name_list : Word → List Name
name_list w = slice_split (λ b. b == 44) w

one_part : (n : Word) → lacks 44 n ≡ true → name_list n ≡ n ∷ []
one_part [] h = refl
one_part (c ∷ cs) h = by (c == 44) (one_part cs (and_right (not (c == 44)) (lacks 44 cs) h)) (and_left (not (c == 44)) (lacks 44 cs) h)
  where
    by : (b : Bool) → name_list cs ≡ cs ∷ [] → not b ≡ true → cond b ([] ∷ name_list cs) (onto_first c (name_list cs)) ≡ (c ∷ cs) ∷ []
    by false ih l = rw ih
    by true ih l = absurd (cc)

first_part : (n r : Word) → lacks 44 n ≡ true → name_list (n ++ 44 ∷ r) ≡ n ∷ name_list r
first_part [] r h = refl
first_part (c ∷ cs) r h = by (c == 44) (first_part cs r (and_right (not (c == 44)) (lacks 44 cs) h)) (and_left (not (c == 44)) (lacks 44 cs) h)
  where
    by : (b : Bool) → name_list (cs ++ 44 ∷ r) ≡ cs ∷ name_list r → not b ≡ true → cond b ([] ∷ name_list (cs ++ 44 ∷ r)) (onto_first c (name_list (cs ++ 44 ∷ r))) ≡ (c ∷ cs) ∷ name_list r
    by false ih l = rw ih
    by true ih l = absurd (cc)

pub name_list-joined : (n : Name) (ns : List Name) → list_all is_name (n ∷ ns) ≡ true → name_list (joined_names (n ∷ ns)) ≡ n ∷ ns
name_list-joined n [] h = one_part n (name_lacks 44 n refl (and_left (is_name n) true h))
name_list-joined n (m ∷ ms) h = first_part n (joined_names (m ∷ ms)) (name_lacks 44 n refl (and_left (is_name n) _ h))
    ∙ ap (λ (r : List Name). n ∷ r) (name_list-joined m ms (and_right (is_name n) _ h))

-- ---- bounds

pub wide : (n : ℕ) → is_wide n ≡ true → n < 2 ^ 64
wide n h = ltb-true n 18446744073709551616 h
