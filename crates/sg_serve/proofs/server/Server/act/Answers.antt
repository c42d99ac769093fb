use Rattle.std.proofs.Common.{◌≡◌, ◌∙◌, ℕ, List, Some, sym, ap}
use Rattle.sg_base.specs.declared.value.Value.{Value}
use Rattle.std.specs.Prelude.{option_map}
use Rattle.std.specs.Option.{option_copied}
use Rattle.sg_serve.specs.Serving.{Serving, acts, acts_by, graph_at, of_session}
use Rattle.sg_serve.specs.Representation.{RepresentsServing}
use Rattle.sg_walk.specs.Model.{values_of}
use Rattle.sg_serve.proofs.Calling.{acts_is, graph_is, not_twice, replied_by, random_by}
use Rattle.sg_serve.proofs.server.Server.act.Goals as goal

pub returns-in-Ok-true : goal.returns-in-Ok-true
returns-in-Ok-true g c =
    let n = c.args.number in
    let sv = c.args.self.now in
    let name = c.args.label.now in
    let given = c.args.values.now in
    let sid = c.in-Some.sid in
    let label = c.in-Some-label_index.label in
    let vs = values_of c.as_slice.result.now in
    let same : (s : Serving) → RepresentsServing sv s → acts s sid label vs ≡ of_session s n (λ x. acts_by s x (graph_at s n) name given) = λ s st.
    acts_is s n sid c.in-Some-graph.graph.now name given label vs (sym c.in-Some.is ∙ c.sid.ensures s.play st.player) (sym (ap option_copied c.in-Some-graph.is) ∙ c.graph.ensures ∙ graph_is sv s n st)
    (sym c.in-Some-label_index.is ∙ c.label_index.ensures) (ap (λ (ws : List (ℕ × Value)). Some (values_of ws)) c.as_slice.ensures ∙ sym (ap (option_map values_of) c.in-Ok-Some.field-0-is) ∙ c.in-Ok-Some.ensures) (not_twice _ (sym c.in-Ok-true.field-0-test ∙ c.in-Ok-true.ensures)) in
    let asked = λ (s : Serving). acts s sid label vs in
    let told = λ (s : Serving). of_session s n (λ x. acts_by s x (graph_at s n) name given) in
    let random = g.R.Fresh.random c.args.fresh.now in
    record {
      joins = c.act_with.ensures.joins;
      ledger = c.act_with.ensures.ledger;
      replied = replied_by sv c.act_with.new.self random asked told c.act_with.result same c.act_with.ensures.replied;
      random = random_by sv random (g.R.Fresh.random c.act_with.new.fresh) asked told c.act_with.result same c.act_with.ensures.random;
      memory = c.act_with.ensures.memory;
    }
