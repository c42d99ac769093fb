use Rattle.std.proofs.Common.{◌<◌, ◌≤◌, ◌++◌, ◌∙◌, ap, length, find, arith}
use Rattle.std.specs.List.{list_any}
use Rattle.sg_protocol.specs.Broken.{same_note}
use Rattle.sg_protocol.specs.Notes.{Note, Notes}
use Rattle.sg_certify.specs.Forged.{is_unmade}
use Rattle.sg_certify.proofs.ForgedLaws.{through_here, through_next, through_all, through_none}
use Rattle.sg_certify.proofs.forged.find_forged.Goals as goal

pub loop-index-init : goal.loop-index-init
loop-index-init g c = rw c.new-tagged.ensures (through_none (g.H.Honest.names c.args.honest.now) c.args.notes.now)

pub returns-in-Some : goal.returns-in-Some
returns-in-Some g c =
    let lt : c.loop-index.index < length c.args.notes.now = omega arith in
    let d : Notes = c.index-notes-index.result in
    through_here (g.H.Honest.names c.args.honest.now) c.args.notes.now c.loop-index.index c.loop-index.tagged d c.in-Some.note.now c.loop-index.invariant lt
    (c.in-Some.ensures ∙ ap (find (is_unmade (g.H.Honest.names c.args.honest.now) c.loop-index.tagged)) (c.found.ensures ∙ ap (λ (s : Notes). s.found) c.index-notes-index.is))

pub loop-index-preserved : goal.loop-index-preserved
loop-index-preserved g c =
    let lt : c.loop-index.index < length c.args.notes.now = omega arith in
    let d : Notes = c.index-notes-index.result in
    through_next (g.H.Honest.names c.args.honest.now) c.args.notes.now c.loop-index.index c.loop-index.tagged c.add_all.new.made d c.loop-index.invariant lt
    (c.in_default.ensures ∙ ap (find (is_unmade (g.H.Honest.names c.args.honest.now) c.loop-index.tagged)) (c.found.ensures ∙ ap (λ (s : Notes). s.found) c.index-notes-index.is))
    (λ (n : Note). c.in_ok-add_all.ensures n ∙ ap (λ m. list_any (same_note n) (c.loop-index.tagged ++ m)) (c.made.ensures ∙ ap (λ (s : Notes). s.made) c.index-notes-index.is))

pub returns : goal.returns
returns g c = (let le : length c.args.notes.now ≤ c.loop-index.index = omega arith in through_all (g.H.Honest.names c.args.honest.now) c.args.notes.now c.loop-index.index c.loop-index.tagged c.loop-index.invariant le)
