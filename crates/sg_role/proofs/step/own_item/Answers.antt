use Rattle.std.proofs.Common.{◌≡◌, ◌++◌, map, length, ap, ◌∙◌}
use Rattle.sg_protocol.specs.Graph.{Graph}
use Rattle.sg_protocol.specs.Keyring.{targets_of}
use Rattle.sg_protocol.specs.Notes.{note_of}
use Rattle.sg_protocol.specs.Sending.{tag_for}
use Rattle.sg_protocol.specs.Session.{principal}
use Rattle.sg_protocol.specs.Texts.{real}
use Rattle.sg_role.specs.Model.{state_of}
use Rattle.sg_role.specs.Stepping.{delta_of, commitments_after, own_text, step_commitments}
use Rattle.sg_role.proofs.Walked.{extends_more}
use Rattle.sg_role.proofs.step.own_item.Goals as goal

pub returns : goal.returns
returns c =
    let p = c.args.kept.now.program.now in
    let k = (state_of c.args.kept.now).held in
    let ds : c.in_ok-delta.delta.items ≡ delta_of k.sid c.args.written.now = c.in_ok-delta.ensures.value in
    let ms : c.in_ok-commitments.commitments.items ≡ step_commitments p k c.args.written.now = c.in_ok-commitments.ensures
    ∙ (λ j. commitments_after ((c.vars-count.ensures.count ∙ ap (λ (g : Graph). length g.variables) c.graph.ensures.graph) j) (c.as_slice.ensures.value j) ((c.as_slice-2.ensures.value ∙ ds) j)) in
    let cs : c.as_slice-3.result.now ≡ step_commitments p k c.args.written.now = c.as_slice-3.ensures.value ∙ ms in
    record {
      item = λ j. record {
        role = c.role.ensures.role j;
        label = c.args.label;
        time = c.next_time.ensures j;
        delta = (c.from_vec.ensures ∙ ds) j;
        tags = (c.from_vec-2.ensures ∙ c.in_ok-tags.ensures.value ∙ (λ i. map (λ t. (t, tag_for real c.args.keys.now k.cast t (own_text k c.args.label (cs i) t))) (targets_of p c.args.label))) j;
      };
      commitments = ms;
      noted = c.in_ok-tags.ensures.noted ∙ (λ i. record {
        made = (c.in_ok-delta.ensures.noted i).made ++ map (λ t. note_of c.args.keys.now.me (principal k.cast t) (own_text k c.args.label (cs i) t)) (targets_of p c.args.label);
        found = (c.in_ok-delta.ensures.noted i).found;
        hashed = (c.in_ok-delta.ensures.noted i).hashed;
      });
      keeps = extends_more _ _ _ c.in_ok-delta.ensures.keeps c.in_ok-tags.ensures.keeps;
    }
