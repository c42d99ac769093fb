use Rattle.std.proofs.Common.{◌≡◌, true, false, ◌++◌, ◌+◌, ◌<◌, Some, None, ◌∷◌, [], map, get_or, length, take, drop, refl, sym, ap, ◌∙◌, arith, append_assoc}
use Rattle.sg_model.specs.Lists.{same_text}
use Rattle.sg_model.specs.Values.{Opening}
use Rattle.sg_protocol.specs.Calls.{BadOpening}
use Rattle.sg_protocol.specs.Notes.{Notes}
use Rattle.sg_protocol.specs.Texts.{commitment_text_of}
use Rattle.sg_role.specs.Looking.{opens, hashed_from}
use Rattle.sg_role.proofs.Lists.{take_keep}
use Rattle.sg_role.proofs.Looked.{opening_wrong, opening_right, hashed_wrong, hashed_right}
use Rattle.sg_role.proofs.openings.check_openings.Goals as goal

pub returns-then-not-is_current-clause-wrong : goal.returns-then-not-is_current-clause-wrong
returns-then-not-is_current-clause-wrong c =
    let current = c.if-not-is_current.ensures ∙ ap (same_text (get_or c.args.commitments.now c.index-openings-at.result.variable None)) c.in_ok-commitment.ensures.value in
    let wrong : opens c.args.graph.now c.args.sid.now c.args.commitments.now c.index-openings-at.result ≡ false = rw (sym c.if-not-has_kind.ensures, sym current) refl in
    c.loop-at.invariant.0 ∙ opening_wrong c.args.graph.now c.args.sid.now c.args.commitments.now c.args.openings.now c.loop-at.at c.index-openings-at.result (omega (arith, c.loop-at-test.true)) c.index-openings-at.is wrong
    ∙ ap (λ (o : Opening). Some (BadOpening o.variable)) (sym c.opening.view_is)

pub returns-then-not-is_current-clause-noted : goal.returns-then-not-is_current-clause-noted
returns-then-not-is_current-clause-noted c = λ _.
    let current = c.if-not-is_current.ensures ∙ ap (same_text (get_or c.args.commitments.now c.index-openings-at.result.variable None)) c.in_ok-commitment.ensures.value in
    let wrong : opens c.args.graph.now c.args.sid.now c.args.commitments.now c.index-openings-at.result ≡ false = rw (sym c.if-not-has_kind.ensures, sym current) refl in
    let hashed = hashed_wrong c.args.graph.now c.args.sid.now c.args.commitments.now c.args.openings.now c.loop-at.at c.index-openings-at.result (omega (arith, c.loop-at-test.true)) c.index-openings-at.is wrong (sym c.if-not-has_kind.ensures) in
    c.in_ok-commitment.ensures.noted
    ∙ (λ i. record {
      made = c.loop-at.invariant.2 i;
      found = c.loop-at.invariant.3 i;
      hashed = (ap (λ l. c.loop-at.notes.hashed ++ map (commitment_text_of c.args.sid.now) l) (sym hashed) ∙ c.loop-at.invariant.1) i;
    })

pub loop-at-preserved : goal.loop-at-preserved
loop-at-preserved c =
    let current = c.if-not-is_current.ensures ∙ ap (same_text (get_or c.args.commitments.now c.index-openings-at.result.variable None)) c.in_ok-commitment.ensures.value in
    let right : opens c.args.graph.now c.args.sid.now c.args.commitments.now c.index-openings-at.result ≡ true = rw (sym c.if-not-has_kind.ensures, sym current) refl in
    let l : c.loop-at.at < length c.args.openings.now = omega (arith, c.loop-at-test.true) in
    let row = opening_right c.args.graph.now c.args.sid.now c.args.commitments.now c.args.openings.now c.loop-at.at c.index-openings-at.result l c.index-openings-at.is right in
    let hashed = hashed_right c.args.graph.now c.args.sid.now c.args.commitments.now c.args.openings.now c.loop-at.at c.index-openings-at.result l c.index-openings-at.is right in
    let new = c.in_ok-commitment.ensures.noted in
    let text = commitment_text_of c.args.sid.now c.index-openings-at.result in
    let rest = map (commitment_text_of c.args.sid.now) (hashed_from c.args.graph.now c.args.sid.now c.args.commitments.now (drop (c.loop-at.at + 1) c.args.openings.now)) in
    let made = ap (λ (n : Notes). n.made) new in
    let found = ap (λ (n : Notes). n.found) new in
    let its_hashed = ap (λ (n : Notes). n.hashed) new in (
      c.loop-at.invariant.0 ∙ row,
      ap (λ h. h ++ rest) its_hashed ∙ append_assoc c.loop-at.notes.hashed (text ∷ []) rest
          ∙ ap (λ os. c.loop-at.notes.hashed ++ map (commitment_text_of c.args.sid.now) os) (sym hashed) ∙ c.loop-at.invariant.1,
      made ∙ c.loop-at.invariant.2,
      found ∙ c.loop-at.invariant.3,
      (
        ap (take (length c.args.notes.now.made)) made ∙ c.loop-at.invariant.4.0,
        ap (take (length c.args.notes.now.found)) found ∙ c.loop-at.invariant.4.1,
        ap (take (length c.args.notes.now.hashed)) its_hashed ∙ take_keep c.args.notes.now.hashed c.loop-at.notes.hashed (text ∷ []) c.loop-at.invariant.4.2,
      ),
    )
