use Rattle.std.proofs.Common.{◌≡◌, ◌<◌, ◌-◌, List, length, map, get_or, ap, sym, ◌∙◌, subst, true, arith, rules}
use Rattle.std.specs.Prelude.{Some}
use Rattle.std.specs.Option.{option_map_or}
use Rattle.std.specs.List.{AllByRecursion}
use Rattle.sg_model.specs.Last.{last}
use Rattle.sg_model.specs.Lists.{is_in}
use Rattle.sg_model.specs.Shape.{sender, receiver}
use Rattle.sg_protocol.specs.Graph.{Graph, shape}
use Rattle.sg_explain.specs.Matching.{IsNamed}
use Rattle.sg_walk.specs.Model.{step_of, steps_of}
use Rattle.sg_walk.specs.declared.stored.StoredStep.{StoredStep as Step}
use Rattle.sg_explain.proofs.Steps.{last_at, named_at}
use Rattle.sg_explain.proofs.part.last_ends.Goals as goal

-- the label of the last step is one of the graph's
label_there : (g : Graph) (steps given : List Step) (x : Step) → steps ≡ given → AllByRecursion (IsNamed g) (map step_of given) → 0 < length steps → (is : x ≡ get_or steps (length steps - 1) x) → (get_or steps (length steps - 1) x).label < length g.edges
label_there g steps given x e named some is = subst (λ s. s.label < length g.edges) is (named_at g steps given (length steps - 1) x e named (omega (arith, some)) is).0

pub sender-requires : goal.sender-requires
sender-requires c = label_there c.args.graph.now c.as_slice-steps.result.now c.args.walk.now.steps c.index-steps-steps.result c.as_slice-steps.ensures c.requires (search rules) c.index-steps-steps.is

pub receiver-requires : goal.receiver-requires
receiver-requires c = label_there c.args.graph.now c.as_slice-steps.result.now c.args.walk.now.steps c.index-steps-steps.result c.as_slice-steps.ensures c.requires (search rules) c.index-steps-steps.is

pub returns : goal.returns
returns c =
    let some : 0 < length c.as_slice-steps.result.now = search rules in
    let found = last_at step_of c.as_slice-steps.result.now c.index-steps-steps.result some c.index-steps-steps.is in
    let whole : last (steps_of c.args.walk.now) ≡ Some (step_of c.index-steps-steps.result) = subst (λ xs. last (map step_of xs) ≡ Some (step_of c.index-steps-steps.result)) c.as_slice-steps.ensures found in
    record {
      sent = c.has.ensures ∙ ap (λ r. is_in r c.args.honest) (c.sender.ensures.role ∙ ap (λ s. sender (shape c.args.graph.now) s.label) (sym c.index-steps-steps.is))
          ∙ sym (ap (λ o. option_map_or (λ s. is_in (sender (shape c.args.graph.now) s.label) c.args.honest) o true) whole);
      received = c.has-2.ensures ∙ ap (λ r. is_in r c.args.honest) (c.receiver.ensures.role ∙ ap (λ s. receiver (shape c.args.graph.now) s.label) (sym c.index-steps-steps.is))
          ∙ sym (ap (λ o. option_map_or (λ s. is_in (receiver (shape c.args.graph.now) s.label) c.args.honest) o true) whole);
    }
