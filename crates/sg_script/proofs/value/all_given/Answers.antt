use Rattle.std.proofs.Common.{◌≡◌, ℕ, ◌<◌, [], ◌∷◌, length, None, Some, sym, arith}
use Rattle.std.proofs.lemmas.List.{length-map, map-append}
use Rattle.toml.specs.View.{table_view}
use Rattle.sg_base.specs.Model.{value_of}
use Rattle.sg_base.specs.declared.value.Value.{Value as Held}
use Rattle.sg_model.specs.Values.{Value}
use Rattle.sg_graph.specs.Parts.{variable_names}
use Rattle.sg_walk.specs.Model.{values_of}
use Rattle.sg_script.specs.Format.{given}
use Rattle.sg_script.proofs.ListLaws.{numbers-found, numbers-missing, numbers-skipped}
use Rattle.sg_script.proofs.value.all_given.Goals as goal
use Rattle.sg_script.proofs.value.all_given.Goals.{in-Some-Some+in_ok-push-in-Some-Some, in-None}

pub returns-in-Some-None : goal.returns-in-Some-None
returns-in-Some-None c =
    let names = variable_names c.args.graph.now in
    let of = given names (table_view c.args.table.now) in
    let within : c.loop-number.number < length names = rw length-map (omega arith) in
    let none : of c.loop-number.number ≡ Some None = sym (rw (c.in-Some-None.is, c.in-Some-None.field-0-is) at c.in_ok-value.ensures) in
    sym (numbers-missing of c.loop-number.number (length names) (values_of c.loop-number.values) _ within c.loop-number.invariant none)

pub loop-number-preserved : goal.loop-number-preserved
loop-number-preserved c =
    let names = variable_names c.args.graph.now in
    let of = given names (table_view c.args.table.now) in
    let within : c.loop-number.number < length names = rw length-map (omega arith) in
    elim c.match-branch-2.branch [
      | in-Some-Some+in_ok-push-in-Some-Some w ↦
          (let one : of c.loop-number.number ≡ Some (Some (c.loop-number.number, value_of w.in-Some-Some.value)) =
          sym (rw (w.in-Some-Some.is, w.in-Some-Some.field-0-is) at c.in_ok-value.ensures) in
          let pushed = w.in_ok-push-in-Some-Some.ensures.ok in
          let own : ℕ × Held → ℕ × Value = λ p. (p.0, value_of p.1) in
          rw (w.values-is, pushed, map-append {B = ℕ × Value} own c.loop-number.values ((c.loop-number.number, w.in-Some-Some.value) ∷ []))
          (numbers-found of c.loop-number.number (length names) (values_of c.loop-number.values) _ within c.loop-number.invariant (c.loop-number.number, value_of w.in-Some-Some.value) one))
      | in-None w ↦
          (let none : of c.loop-number.number ≡ None = sym (rw w.in-None.is at c.in_ok-value.ensures) in
          rw w.values-is (numbers-skipped of c.loop-number.number (length names) (values_of c.loop-number.values) _ within c.loop-number.invariant none))
    ]
