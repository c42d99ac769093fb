use Rattle.std.proofs.Common.{◌≡◌, ◌∙◌, ◌++◌, ap, sym, flat_map}
use Rattle.sg_protocol.specs.Broken.{first_collision}
use Rattle.sg_protocol.specs.Notes.{Notes}
use Rattle.sg_protocol.specs.Premises.{hashed}
use Rattle.sg_protocol.specs.Texts.{real}
use Rattle.sg_certify.proofs.CollisionLaws.{hashed_notes}
use Rattle.sg_certify.proofs.collision.first_collision.Goals as goal

pub returns-clause-in_runs : goal.returns-clause-in_runs
returns-clause-in_runs c = λ s w p q.
    let e : first_collision real (hashed s w) ≡ first_collision real (c.args.texts.now ++ flat_map (λ (n : Notes). n.hashed) c.args.notes.now) =
    ap (first_collision real) (λ i. p i ++ (sym (hashed_notes w.log) ∙ ap (flat_map (λ (n : Notes). n.hashed)) q) i) in
    rw e c.find_collision.ensures
