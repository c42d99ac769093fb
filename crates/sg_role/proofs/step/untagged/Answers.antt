use Rattle.std.proofs.Common.{◌≡◌, ℕ, None, Some, if◌then◌else◌, replicate, ap, ◌∙◌}
use Rattle.sg_model.specs.Last.{has, after_last}
use Rattle.sg_model.specs.Shape.{receiver}
use Rattle.sg_protocol.specs.Frame.{Item}
use Rattle.sg_protocol.specs.Graph.{Graph, shape}
use Rattle.sg_protocol.specs.Sending.{tags_left}
use Rattle.sg_role.proofs.step.untagged.Goals as goal

pub returns-clause-frame : goal.returns-clause-frame
returns-clause-frame c =
    let k = c.args.kept.now in
    let to : c.receiver-to.result ≡ receiver (shape k.program.now.graph) c.args.label = c.receiver-to.ensures.role ∙ ap (λ (g : Graph). receiver (shape g) c.args.label) c.graph.ensures.graph in
    λ j. record {
      version = c.version.ensures.value j;
      sid = k.sid;
      sender = c.role.ensures.role j;
      receiver = to j;
      join = (c.in_ok-join.ensures ∙ ap (λ (t : ℕ). if has (λ (i : Item). i.role) t k.items.items then None else Some k.cast) to) j;
      items = (c.in_ok-shown.ensures ∙ ap (λ (t : ℕ). tags_left (after_last (λ (i : Item). i.role) t c.args.items.now)) to) j;
      openings = c.in_ok-openings.ensures j;
      tag = replicate 32 0;
    }
