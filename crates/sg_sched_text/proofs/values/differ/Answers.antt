use Rattle.std.proofs.Common.{◌≡◌, ◌∙◌, ℕ, ◌<◌, ◌+◌, List, get_or, ap, sym, arith, map, drop, length, [], ◌∷◌, ◌++◌, append_assoc}
use Rattle.sg_model.specs.Names.{Name}
use Rattle.sg_model.specs.Lists.{all_differ}
use Rattle.sg_model.proofs.Small.{drop_at}
use Rattle.sg_sched.specs.Format.LineContents.{Assignment}
use Rattle.sg_sched.proofs.NamesLaws.{differ_twice, differ_push}
use Rattle.sg_sched_text.proofs.values.differ.Goals as goal

abbrev variable_of : Assignment → Name
variable_of v = v.variable

-- the variables from an index on
variables_at : (vs : List Assignment) (i : ℕ) (v : Assignment) (t : Name) → i < length vs → v ≡ get_or vs i v → v.variable ≡ t → map variable_of (drop i vs) ≡ t ∷ map variable_of (drop (i + 1) vs)
variables_at vs i v t within at is = ap (map variable_of) (drop_at vs i v within at) ∙ ap (λ t. t ∷ map variable_of (drop (i + 1) vs)) is

pub returns-then-has : goal.returns-then-has
returns-then-has c =
    let names = c.loop-given.names in
    let t = c.given.inside.variable in
    let at = variables_at c.args.values.now c.loop-given.given-index c.given-item.result t (omega arith) c.given-item.is (ap variable_of (sym c.given.view_is)) in
    sym (c.loop-given.invariant.same ∙ ap (λ ns. all_differ (names ++ ns)) at ∙ differ_twice t names (map variable_of (drop (c.loop-given.given-index + 1) c.args.values.now)) (sym c.if-has.ensures))

pub loop-given-preserved : goal.loop-given-preserved
loop-given-preserved c =
    let names = c.loop-given.names in
    let t = c.given.inside.variable in
    let at = variables_at c.args.values.now c.loop-given.given-index c.given-item.result t (omega arith) c.given-item.is (ap variable_of (sym c.given.view_is)) in
    let more = map variable_of (drop (c.loop-given.given-index + 1) c.args.values.now) in
    record {
      same = c.loop-given.invariant.same ∙ ap (λ ns. all_differ (names ++ ns)) at ∙ ap all_differ (sym (append_assoc names (t ∷ []) more)) ∙ ap (λ ns. all_differ (ns ++ more)) (sym c.in_ok-add.ensures.ok);
      differ = ap all_differ c.in_ok-add.ensures.ok ∙ differ_push t names (sym c.if-has.ensures) c.loop-given.invariant.differ;
    }
