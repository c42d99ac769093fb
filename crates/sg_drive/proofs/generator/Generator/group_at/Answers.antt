use Rattle.std.proofs.Common.{◌≡◌, ◌-◌, ◌*◌, min, ap, ◌∙◌, arith}
use Rattle.sg_drive.proofs.WholeRun.{of_size, stops_size}
use Rattle.sg_drive.specs.Machine.{Machine}
use Rattle.sg_drive.proofs.generator.Generator.group_at.Goals as goal

pub group-requires-clause-few : goal.group-requires-clause-few
group-requires-clause-few c =
    let same : c.self.inside.sessions ≡ c.args.self.now.sessions = ap (λ (m : Machine). m.sessions) c.self.view_is in
    let size = c.size_of_group-count.ensures in
    let some = c.requires.some in
    (omega (arith, same, size, some), omega (arith, size))

pub returns-clause-group : goal.returns-clause-group
returns-clause-group c =
    of_size c.args.self.now c.group.new.self (16 * c.args.group) c.size_of_group-count.result c.group.result
    (c.size_of_group-count.ensures ∙ ap (λ (m : Machine). min 16 (m.sessions - 16 * c.args.group)) c.self.view_is) c.group.ensures.group

pub returns-clause-stopped : goal.returns-clause-stopped
returns-clause-stopped c =
    stops_size c.args.self.now (16 * c.args.group) c.size_of_group-count.result c.group.result (c.size_of_group-count.ensures ∙ ap (λ (m : Machine). min 16 (m.sessions - 16 * c.args.group)) c.self.view_is) c.group.ensures.stopped
