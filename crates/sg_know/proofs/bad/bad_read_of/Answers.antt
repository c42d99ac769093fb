use Rattle.std.proofs.Common.{◌∙◌}
use Rattle.sg_know.proofs.First.{bad_unknown, first_bad}
use Rattle.sg_know.proofs.bad.bad_read_of.Goals as goal

pub returns-in_default : goal.returns-in_default
returns-in_default c e y b =
    let u = bad_unknown c.args.graph.now c.args.role c.args.var c.in_ok-states.states c.in_ok-states.ensures e y b in
    c.in_default.ensures e u.0 u.1

pub returns : goal.returns
returns c =
    first_bad c.args.graph.now c.args.role c.args.var c.in_ok-states.states c.in-Some.unknown.label c.in-Some.unknown.index c.in_ok-walk.walk.items c.from_vec.result
    c.in_ok-states.ensures c.in-Some.ensures.0 c.in-Some.ensures.1 c.in_ok-walk.ensures (c.from_vec.ensures ∙ c.in_ok-push.ensures.items)
