use Rattle.std.proofs.Common.{◌∙◌, ap, map}
use Rattle.sg_certify.proofs.FirstsLaws.{seen, seen_added}
use Rattle.sg_certify.proofs.firsts.Firsts.put.Goals as goal
use Rattle.sg_certify.proofs.firsts.Firsts.put.Goals.{in-Ok, in-Err}

pub returns : goal.returns
returns c = elim c.match-insert.branch [
  | in-Ok w ↦ rw w.result-is (ap (map seen) w.in-Ok.ensures.entries ∙ seen_added c.args.digest c.args.text c.self.inside.table.entries c.args.self.now c.self.view_is c.requires)
  | in-Err w ↦ rw w.result-is tt
]
