use Rattle.std.proofs.Common.{◌≡◌, ℕ, List, subst, if◌then◌else◌}
use Rattle.sg_script.specs.Script.{Choice}
use Rattle.sg_play.specs.Choosing.{used}
use Rattle.sg_play.specs.Queues.{HoldsChoices, is_spot, queue_at, used_first, Spot}
use Rattle.sg_play.proofs.Queues.{holds_used, Table}
use Rattle.sg_play.proofs.choices.Choices.use_first.Goals as goal

pub returns : goal.returns
returns c = λ cs h.
    let new = c.use_at.new.table.entries in
    let u = subst (λ (s : Spot). (g : List ℕ) (n : ℕ) → queue_at new g n ≡ (if is_spot g n s then used_first (queue_at c.self.inside.table.entries g n) else queue_at c.self.inside.table.entries g n)) c.spot.ensures c.use_at.ensures in
    let after : List Choice = used c.args.graph.now c.args.node cs in
    subst (λ (t : Table). HoldsChoices t cs → HoldsChoices new after) c.self.view_is (holds_used c.self.inside.table.entries new c.args.graph.now c.args.node cs u) h
