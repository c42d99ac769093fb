-- Variables in their order, seen from behind.
use Rattle.std.proofs.Common.{◌≡◌, ℕ, zero, suc, ◌+◌, ◌<◌, ◌==◌, nat_lt, Bool, true, false, not, List, [], ◌∷◌, drop, map, length, get_or, get_or-set_same, get_or-set_other, replicate, refl, sym, ap, ◌∙◌, subst, inl, inr, arith}
use Rattle.std.specs.Prelude.{Option, slice_set}
use Rattle.std.proofs.lemmas.Bool.Decides.{nat_tests}
use Rattle.std.proofs.lemmas.List.{get_or-replicate}
use Rattle.sg_base.specs.declared.value.Value.{Value as Held}
use Rattle.sg_model.specs.Lists.{is_in, keys_of, rises_from}
use Rattle.sg_model.proofs.Small.{same_or_not, drop_from, and_false}
use Rattle.sg_walk.specs.Model.{values_of, writes_of}
use Rattle.sg_audit.specs.LineContents.{differ}

-- the variables of pairs
abbrev pub vars : {A : Type 0} → List (ℕ × A) → List ℕ
vars {A} ps = map (λ (p : ℕ × A). p.0) ps

pub values_vars : (ps : List (ℕ × Held)) → keys_of (values_of ps) ≡ vars ps
values_vars [] = refl
values_vars (p ∷ ps) = ap (λ ns. p.0 ∷ ns) (values_vars ps)

pub writes_vars : (ps : List (ℕ × Option Held)) → keys_of (writes_of ps) ≡ vars ps
writes_vars [] = refl
writes_vars (p ∷ ps) = ap (λ ns. p.0 ∷ ns) (writes_vars ps)

-- ---- rising

pub rise_on : {A : Type 0} (ps : List (ℕ × A)) (i least : ℕ) (p : ℕ × A) → i < length ps → p ≡ get_or ps i p → nat_lt p.0 least ≡ false → rises_from least (vars (drop i ps)) ≡ rises_from (p.0 + 1) (vars (drop (i + 1) ps))
rise_on ps i least p l e h =
    let up : i + 1 ≡ suc i = omega arith in
    let one : p.0 + 1 ≡ suc p.0 = omega arith in
    ap (λ qs. rises_from least (vars qs)) (drop_from ps i p l e) ∙ rw (h, up, one) refl

pub rise_off : {A : Type 0} (ps : List (ℕ × A)) (i least : ℕ) (p : ℕ × A) → i < length ps → p ≡ get_or ps i p → nat_lt p.0 least ≡ true → rises_from least (vars (drop i ps)) ≡ false
rise_off ps i least p l e h = ap (λ qs. rises_from least (vars qs)) (drop_from ps i p l e) ∙ rw h refl

-- ---- twice

drop_whole : {A : Type 0} (ps : List A) → drop (length ps) ps ≡ []
drop_whole [] = refl
drop_whole (p ∷ ps) = drop_whole ps

pub seen_none : {A : Type 0} (ps : List (ℕ × A)) → differ (vars (drop (length ps) ps)) ≡ true
seen_none ps = ap (λ qs. differ (vars qs)) (drop_whole ps)

pub seen_first : {A : Type 0} (ps : List (ℕ × A)) (x : ℕ) → x < 256 → get_or (replicate 256 false) x false ≡ is_in x (vars (drop (length ps) ps))
seen_first ps x b = get_or-replicate 256 x false false b ∙ ap (λ qs. is_in x (vars qs)) (sym (drop_whole ps))

differ_drop : {A : Type 0} (n : ℕ) (ps : List (ℕ × A)) → differ (vars (drop n ps)) ≡ false → differ (vars ps) ≡ false
differ_drop zero ps h = h
differ_drop (suc n) [] h = h
differ_drop (suc n) (p ∷ ps) h = let r = differ_drop n ps h in rw r (and_false (not (is_in p.0 (vars ps))))

pub seen_twice : {A : Type 0} (ps : List (ℕ × A)) (seen : List Bool) (left : ℕ) (p : ℕ × A) → left < length ps → p ≡ get_or ps left p → p.0 < 256
    → ((x : ℕ) → x < 256 → get_or seen x false ≡ is_in x (vars (drop (left + 1) ps))) → get_or seen p.0 false ≡ true → differ (vars ps) ≡ false
seen_twice ps seen left p l e b same t =
    let up : left + 1 ≡ suc left = omega arith in
    let i : is_in p.0 (vars (drop (suc left) ps)) ≡ true = subst (λ n. is_in p.0 (vars (drop n ps)) ≡ true) up (sym (same p.0 b) ∙ t) in
    differ_drop left ps (ap (λ qs. differ (vars qs)) (drop_from ps left p l e) ∙ rw i refl)

pub seen_more : {A : Type 0} (ps : List (ℕ × A)) (seen : List Bool) (left : ℕ) (p : ℕ × A) → left < length ps → p ≡ get_or ps left p → p.0 < 256 → length seen ≡ 256
    → differ (vars (drop (left + 1) ps)) ≡ true → ((x : ℕ) → x < 256 → get_or seen x false ≡ is_in x (vars (drop (left + 1) ps))) → get_or seen p.0 false ≡ false
    → (differ (vars (drop left ps)) ≡ true) × ((x : ℕ) → x < 256 → get_or (slice_set seen p.0 true) x false ≡ is_in x (vars (drop left ps)))
seen_more {A} ps seen left p l e b wide d same t =
    let up : left + 1 ≡ suc left = omega arith in
    let cut = drop_from ps left p l e in
    let i : is_in p.0 (vars (drop (suc left) ps)) ≡ false = subst (λ n. is_in p.0 (vars (drop n ps)) ≡ false) up (sym (same p.0 b) ∙ t) in
    let d' : differ (vars (drop (suc left) ps)) ≡ true = subst (λ n. differ (vars (drop n ps)) ≡ true) up d in (
      ap (λ qs. differ (vars qs)) cut ∙ rw (i, d') refl,
      λ x w. elim (same_or_not x p.0) [
        | inl q ↦ (let y : (p.0 == x) ≡ true = grind (arith, nat_tests, q) in let h : is_in x (vars (drop left ps)) ≡ true = ap (λ qs. is_in x (vars qs)) cut ∙ rw y refl in let k : get_or (slice_set seen p.0 true) x false ≡ true = rw q (get_or-set_same seen p.0 true false (omega (arith, wide, b))) in k ∙ sym h)
        | inr q ↦ (let z : (p.0 == x) ≡ false = grind (arith, nat_tests, q) in
            let h : is_in x (vars (drop left ps)) ≡ is_in x (vars (drop (suc left) ps)) = ap (λ qs. is_in x (vars qs)) cut ∙ rw z refl in
            get_or-set_other seen p.0 x true false q ∙ subst (λ n. get_or seen x false ≡ is_in x (vars (drop n ps))) up (same x w) ∙ sym h)
      ],
    )
