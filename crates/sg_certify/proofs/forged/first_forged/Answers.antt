use Rattle.std.proofs.Common.{◌≡◌, ◌∙◌, ap, ℕ, List, []}
use Rattle.sg_protocol.specs.Broken.{first_forged}
use Rattle.sg_certify.specs.Forged.{forged_from}
use Rattle.sg_certify.proofs.ForgedLaws.{forged_runs}
use Rattle.sg_certify.proofs.forged.first_forged.Goals as goal

pub returns-clause-in_runs : goal.returns-clause-in_runs
returns-clause-in_runs g c = λ s w h r.
    let e : first_forged s w ≡ forged_from (g.H.Honest.names c.args.honest.now) 1 [] c.args.notes.now = forged_runs s w c.args.notes.now r ∙ ap (λ (names : List (List ℕ)). forged_from names 1 [] c.args.notes.now) h in
    rw e c.find_forged.ensures
