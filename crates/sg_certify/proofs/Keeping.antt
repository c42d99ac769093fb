-- What is kept, while a list of values is gone through.
use Rattle.std.proofs.Common.{◌≡◌, ℕ, ◌+◌, nat_lt, true, false, List, [], ◌∷◌, ◌++◌, map, filter, append-nil, refl, ap, sym, ◌∙◌}
use Rattle.std.specs.Prelude.{Option}
use Rattle.std.specs.List.{list_all}
use Rattle.std.proofs.lemmas.List.{map-append}
use Rattle.std.proofs.lemmas.Bool.{and_parts}
use Rattle.sg_base.specs.declared.value.Value.{Value as Held}
use Rattle.sg_graph.proofs.Rising.{below_more, below_all, below_zero, one_if}
use Rattle.sg_model.specs.Lists.{is_in, rises_from}
use Rattle.sg_model.specs.Values.{Value}
use Rattle.sg_protocol.specs.Graph.{AreNumbers}
use Rattle.sg_walk.specs.Model.{writes_of}

-- ---- the variables of a set, with what is kept

-- a variable, with what is found for it
abbrev pub with_found : (ℕ → Option Value) → ℕ → ℕ × Option Value
with_found f x = (x, f x)

pub kept_none : (f : ℕ → Option Value) (vars : List ℕ) (ws : List (ℕ × Option Held)) → ws ≡ [] → writes_of ws ≡ map (with_found f) (filter (λ x. nat_lt x 0) vars)
kept_none f vars ws e = rw (e, below_zero vars) refl

pub kept_more : (f : ℕ → Option Value) (vars : List ℕ) (i : ℕ) (v : Option Held) (old new : List (ℕ × Option Held)) → AreNumbers 32 vars → is_in i vars ≡ true
    → writes_of old ≡ map (with_found f) (filter (λ x. nat_lt x i) vars) → new ≡ old ++ (i, v) ∷ [] → writes_of ((i, v) ∷ []) ≡ (i, f i) ∷ []
    → writes_of new ≡ map (with_found f) (filter (λ x. nat_lt x (i + 1)) vars)
kept_more f vars i v old new h there before more one =
    let parts = and_parts (rises_from 0 vars) (list_all (λ x. nat_lt x 32) vars) h in
    let up : filter (λ x. nat_lt x (i + 1)) vars ≡ filter (λ x. nat_lt x i) vars ++ i ∷ [] = below_more 0 i vars parts.0 ∙ ap (λ b. filter (λ x. nat_lt x i) vars ++ one_if b i) there in
    ap writes_of more ∙ map-append _ old ((i, v) ∷ []) ∙ (λ j. before j ++ one j) ∙ sym (map-append (with_found f) (filter (λ x. nat_lt x i) vars) (i ∷ [])) ∙ ap (map (with_found f)) (sym up)

pub kept_same : (f : ℕ → Option Value) (vars : List ℕ) (i : ℕ) (ws : List (ℕ × Option Held)) → AreNumbers 32 vars → is_in i vars ≡ false
    → writes_of ws ≡ map (with_found f) (filter (λ x. nat_lt x i) vars) → writes_of ws ≡ map (with_found f) (filter (λ x. nat_lt x (i + 1)) vars)
kept_same f vars i ws h away before =
    let parts = and_parts (rises_from 0 vars) (list_all (λ x. nat_lt x 32) vars) h in
    let up : filter (λ x. nat_lt x (i + 1)) vars ≡ filter (λ x. nat_lt x i) vars =
    below_more 0 i vars parts.0 ∙ ap (λ b. filter (λ x. nat_lt x i) vars ++ one_if b i) away ∙ append-nil (filter (λ x. nat_lt x i) vars) in
    before ∙ ap (map (with_found f)) (sym up)

pub kept_all : (f : ℕ → Option Value) (vars : List ℕ) (i : ℕ) (ws : List (ℕ × Option Held)) → AreNumbers 32 vars → i ≡ 32 → writes_of ws ≡ map (with_found f) (filter (λ x. nat_lt x i) vars) → writes_of ws ≡ map (with_found f) vars
kept_all f vars i ws h e before =
    let parts = and_parts (rises_from 0 vars) (list_all (λ x. nat_lt x 32) vars) h in
    before ∙ ap (λ n. map (with_found f) (filter (λ x. nat_lt x n) vars)) e ∙ ap (map (with_found f)) (below_all 32 vars parts.1)
