use Rattle.std.proofs.Common.{◌≡◌, ◌∙◌, ◌+◌, ◌++◌, ◌∷◌, [], ℕ, List, ap, sym, map, refl, length, append_assoc, Some}
use Rattle.std.specs.Prelude.{option_map, slice_get}
use Rattle.std.proofs.lemmas.List.{map_push}
use Rattle.std.proofs.lemmas.Option.{slice_get_read}
use Rattle.sg_base.specs.declared.value.Value.{Value}
use Rattle.sg_base.specs.Model.{value_of}
use Rattle.sg_model.specs.Lists.{value_at}
use Rattle.sg_model.specs.Values.{Value as AValue}
use Rattle.sg_sched.specs.Format.LineContents.{Assignment}
use Rattle.sg_sched.specs.Format.Values.{value_of as spelled}
use Rattle.sg_sched_text.specs.Numbers.{numbered, from_number}
use Rattle.sg_sched_text.proofs.ValueLaws.{next_some}
use Rattle.sg_sched_text.proofs.values.put_value.Goals as goal

abbrev pair_of : ℕ × Value → ℕ × AValue
pair_of w = (w.0, value_of w.1)

pub returns : goal.returns
returns c =
    let vs = c.args.values.now in
    let x = c.args.number in
    let m = numbered c.args.numbers.now vs in
    let rest : List (ℕ × AValue) = from_number (x + 1) m in
    let old : List (ℕ × Value) = c.args.found.now in
    let v : Value = c.in_ok-value.value in
    let g : Assignment = c.index-values-at.result in
    let there : slice_get vs c.in-Some.at ≡ Some g = slice_get_read vs (length vs) c.in-Some.at g refl c.in-Some.ensures.0 c.index-values-at.is in
    let same : value_of v ≡ spelled g.value = c.in_ok-value.ensures ∙ ap (λ (h : Assignment). spelled h.value) c.given.view_is in
    let at : value_at m x ≡ Some (value_of v) = c.in-Some.ensures.1 ∙ ap (option_map (λ (h : Assignment). spelled h.value)) there ∙ ap (λ (u : AValue). Some u) (sym same) in
    ap (λ (ws : List (ℕ × AValue)). map pair_of old ++ ws) (next_some m x (value_of v) c.requires.few at)
    ∙ sym (append_assoc (map pair_of old) ((x, value_of v) ∷ []) rest)
    ∙ ap (λ (ws : List (ℕ × AValue)). ws ++ rest) (sym (map_push pair_of old (x, v)))
    ∙ ap (λ (ws : List (ℕ × Value)). map pair_of ws ++ rest) (sym c.in_ok-push.ensures.ok)
