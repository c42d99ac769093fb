use Rattle.std.proofs.Common.{◌++◌, [], ◌∷◌, sym, ap, subst, ◌∙◌}
use Rattle.sg_model.specs.Values.{Opening}
use Rattle.sg_protocol.specs.Notes.{Notes}
use Rattle.sg_protocol.specs.Texts.{real, commitment, commitment_text_of}
use Rattle.sg_role.specs.Stepping.{Extends}
use Rattle.sg_role.proofs.Walked.{extends_hashed, extends_more, made_more, put_more}
use Rattle.sg_role.proofs.own.commit_each.Goals as goal

pub returns-in_err-made-clause-keeps : goal.returns-in_err-made-clause-keeps
returns-in_err-made-clause-keeps c = subst (Extends c.args.notes.now) (sym c.in_err-made.ensures.same) (extends_hashed c.args.notes.now c.loop-at.notes _ c.loop-at.invariant.1)

pub returns-in_err-push-clause-keeps : goal.returns-in_err-push-clause-keeps
returns-in_err-push-clause-keeps c = extends_more c.args.notes.now c.loop-at.notes c.commit_one.new.notes (extends_hashed c.args.notes.now c.loop-at.notes _ c.loop-at.invariant.1) (extends_hashed c.loop-at.notes c.commit_one.new.notes _ c.in_ok-made.ensures.noted)

pub loop-at-preserved : goal.loop-at-preserved
loop-at-preserved c =
    let sid = c.args.sid.now in
    let xs = c.args.written.now in
    let o = c.index-written-at.result in (
      made_more (λ (o : Opening). (o.variable, commitment real sid o)) xs c.loop-at.at o c.in_ok-made.made c.loop-at.delta.items _ c.loop-at-test.true c.index-written-at.is c.in_ok-made.ensures.value c.loop-at.invariant.0 c.in_ok-push.ensures.items,
      c.in_ok-made.ensures.noted ∙ ap (λ (n : Notes). record n { hashed = n.hashed ++ commitment_text_of sid o ∷ [] }) c.loop-at.invariant.1
          ∙ ap (λ l. record (c.args.notes.now) { hashed = l }) (put_more (commitment_text_of sid) c.args.notes.now.hashed xs c.loop-at.at o c.loop-at-test.true c.index-written-at.is),
    )

pub returns-clause-keeps : goal.returns-clause-keeps
returns-clause-keeps c = extends_hashed c.args.notes.now c.loop-at.notes _ c.loop-at.invariant.1
