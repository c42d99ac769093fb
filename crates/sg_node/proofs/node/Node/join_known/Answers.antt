use Rattle.std.proofs.Common.{◌∙◌, refl, ap}
use Rattle.sg_crypt.specs.declared.note.Counts.{Counts}
use Rattle.sg_protocol.specs.Texts.{session_text_of}
use Rattle.sg_node.proofs.Receipts.{restored}
use Rattle.sg_node.proofs.Takings.{more_noted, out_of_memory, taken_back}
use Rattle.sg_node.proofs.node.Node.join_known.Goals as goal

-- the session's text isn't noted
pub returns-in_err-note_session : goal.returns-in_err-note_session
returns-in_err-note_session c = record { takes = out_of_memory _ c.from_residual.result c.from_residual.ensures.1 refl c.in_err-note_session.ensures.err }

-- it was received or refused: the notes are those after the session's text
pub returns-else-is_err : goal.returns-else-is_err
returns-else-is_err c = record { takes = more_noted c.join_in-result.result (c.join_in-result.ensures.takes c.args.notes.now c.in_ok-note_session.ensures.ok) c.if-is_err.ensures.negation }

-- memory ran out: the session's text is taken back
pub returns-then-is_err : goal.returns-then-is_err
returns-then-is_err c = record {
  takes = taken_back c.join_in-result.result (c.join_in-result.ensures.takes c.args.notes.now c.in_ok-note_session.ensures.ok) c.if-is_err.ensures.negation (λ same.
      c.keep.ensures
      ∙ restored c.args.notes.now c.join_in-result.new.notes c.counts-counts.result.made c.counts-counts.result.found c.counts-counts.result.hashed (session_text_of c.args.cast)
      (ap (λ (k : Counts). k.made) c.counts-counts.ensures) (ap (λ (k : Counts). k.found) c.counts-counts.ensures) (ap (λ (k : Counts). k.hashed) c.counts-counts.ensures)
      (same ∙ c.in_ok-note_session.ensures.ok));
}
