-- Parts between commas, one after the other.
use Rattle.std.proofs.Common.{◌≡◌, suc, ◌-◌, ◌≤◌, ◌==◌, Bool, true, false, not, List, [], ◌∷◌, take, drop, length, refl, sym, ap, arith, inl, inr}
use Rattle.std.specs.Prelude.{if◌then◌else◌}
use Rattle.std.specs.List.{onto_first}
use Rattle.std.proofs.lemmas.List.{take_all}
use Rattle.std.proofs.lemmas.Bool.{cases_Bool}
use Rattle.sg_sched.specs.Format.LineContents.{Word}
use Rattle.sg_audit.specs.Reading.{parts, part_end}

-- the parts behind a comma
abbrev pub behind : Word → List Word
behind [] = []
behind (c ∷ cs) = parts false cs

-- the first part and those behind it
pub first_part : (q : Bool) (bs : Word) → parts q bs ≡ take (part_end q bs) bs ∷ behind (drop (part_end q bs) bs)
first_part q [] = refl
first_part q (c ∷ cs) = elim (cases_Bool (c == 34)) [
  | inl y ↦ rw y (ap (onto_first c) (first_part (not q) cs))
  | inr z ↦ rw z (inside q (λ p. ap (onto_first c) (first_part p cs)))
]
  where
    inside : (q : Bool) → ((p : Bool) → onto_first c (parts p cs) ≡ take (suc (part_end p cs)) (c ∷ cs) ∷ behind (drop (suc (part_end p cs)) (c ∷ cs)))
        → (if q then onto_first c (parts q cs) else if c == 44 then [] ∷ parts q cs else onto_first c (parts q cs))
        ≡ take (if q then suc (part_end q cs) else if c == 44 then 0 else suc (part_end q cs)) (c ∷ cs) ∷ behind (drop (if q then suc (part_end q cs) else if c == 44 then 0 else suc (part_end q cs)) (c ∷ cs))
    inside true more = more true
    inside false more = elim (cases_Bool (c == 44)) [ inl y ↦ rw y refl | inr z ↦ rw z (more false) ]

pub behind_none : (bs : Word) → length bs ≤ 0 → behind bs ≡ []
behind_none [] h = refl
behind_none (c ∷ cs) h = absurd (omega arith)

pub behind_some : (bs : Word) → 1 ≤ length bs → behind bs ≡ parts false (take (length bs - 1) (drop 1 bs))
behind_some [] h = absurd (omega arith)
behind_some (c ∷ cs) h = ap (parts false) (sym (take_all (length (c ∷ cs) - 1) cs (omega arith)))
