use Rattle.std.proofs.Common.{◌<◌, ◌∙◌, ap, sym, length, arith, Some}
use Rattle.sg_protocol.specs.Notes.{Note}
use Rattle.sg_certify.specs.Forged.{is_unmade}
use Rattle.sg_certify.proofs.FindLaws.{find_at, find_past}
use Rattle.sg_certify.proofs.forged.first_unmade.Goals as goal

pub returns-then-is_unmade : goal.returns-then-is_unmade
returns-then-is_unmade g c =
    let lt : c.loop-note.note-index < length c.args.found.now = omega arith in
    let d : Note = c.note-item.result in
    let p = is_unmade (g.H.Honest.names c.args.honest.now) c.args.made.now in
    ap Some c.note-item.is ∙ sym (find_at p c.args.found.now c.loop-note.note-index d lt c.loop-note.invariant (ap p (sym c.note-item.is) ∙ sym c.is_unmade.ensures ∙ c.if-is_unmade.true))

pub loop-note-preserved : goal.loop-note-preserved
loop-note-preserved g c =
    let lt : c.loop-note.note-index < length c.args.found.now = omega arith in
    let d : Note = c.note-item.result in
    let p = is_unmade (g.H.Honest.names c.args.honest.now) c.args.made.now in
    find_past p c.args.found.now c.loop-note.note-index d lt c.loop-note.invariant (ap p (sym c.note-item.is) ∙ sym c.is_unmade.ensures ∙ c.if-is_unmade.false)
