use Rattle.std.proofs.Common.{◌++◌, [], ◌∷◌, ℕ, List, sym, ap, subst, ◌∙◌}
use Rattle.sg_protocol.specs.Notes.{Note, Notes, note_of}
use Rattle.sg_protocol.specs.Sending.{tag_for}
use Rattle.sg_protocol.specs.Session.{principal}
use Rattle.sg_protocol.specs.Texts.{real}
use Rattle.sg_role.specs.Model.{state_of}
use Rattle.sg_role.specs.Stepping.{Extends, own_text}
use Rattle.sg_role.proofs.Walked.{extends_made, extends_more, made_more, put_more}
use Rattle.sg_role.proofs.own.tags_for.Goals as goal

pub returns-in_err-made-clause-keeps : goal.returns-in_err-made-clause-keeps
returns-in_err-made-clause-keeps c = subst (Extends c.args.notes.now) (sym c.in_err-made.ensures.same) (extends_made c.args.notes.now c.loop-at.notes _ c.loop-at.invariant.1)

pub returns-in_err-push-clause-keeps : goal.returns-in_err-push-clause-keeps
returns-in_err-push-clause-keeps c = extends_more c.args.notes.now c.loop-at.notes c.tag_target.new.notes (extends_made c.args.notes.now c.loop-at.notes _ c.loop-at.invariant.1) (extends_made c.loop-at.notes c.tag_target.new.notes _ c.in_ok-made.ensures.noted)

pub loop-at-preserved : goal.loop-at-preserved
loop-at-preserved c =
    let k = (state_of c.args.kept.now).held in
    let keys = c.args.keys.now in
    let old = c.args.notes.now in
    let ts = c.args.targets.now in
    let at = c.loop-at.at in
    let t = c.index-targets-at.result in
    let text : ℕ → List ℕ = λ t. own_text k c.args.label c.args.commitments.now t in
    let note : ℕ → Note = λ t. note_of keys.me (principal k.cast t) (text t) in (
      made_more (λ (t : ℕ). (t, tag_for real keys k.cast t (text t))) ts at t (t, c.in_ok-made.made) c.loop-at.tags.items _ c.loop-at-test.true c.index-targets-at.is (ap (λ w. (t, w)) c.in_ok-made.ensures.value) c.loop-at.invariant.0 c.in_ok-push.ensures.items,
      c.in_ok-made.ensures.noted ∙ ap (λ (n : Notes). record n { made = n.made ++ note t ∷ [] }) c.loop-at.invariant.1
          ∙ ap (λ l. record old { made = l }) (put_more note old.made ts at t c.loop-at-test.true c.index-targets-at.is),
    )

pub returns-clause-keeps : goal.returns-clause-keeps
returns-clause-keeps c = extends_made c.args.notes.now c.loop-at.notes _ c.loop-at.invariant.1
