use Rattle.std.proofs.Common.{◌≡◌, ◌∙◌, ap, subst, arith}
use Rattle.std.proofs.lemmas.Bool.Decides.{nat_tests}
use Rattle.sg_node.specs.Slots.{Table, first_index, is_of}
use Rattle.sg_node.proofs.Keys.{is_below, all_below}
use Rattle.sg_node.proofs.sessions.Sessions.first.Goals as goal

pub returns : goal.returns
returns c =
    let all : c.loop-role.role ≡ c.self.inside.bound = grind (arith, nat_tests, c.loop-role-test.false, c.loop-role.auto.role-end) in
    c.loop-role.invariant ∙ ap (λ n. first_index (is_below c.args.only_turns c.args.sid.now n) c.args.self.now.slots) all
    ∙ subst (λ (t : Table). first_index (is_below c.args.only_turns c.args.sid.now c.self.inside.bound) t.slots ≡ first_index (is_of c.args.only_turns c.args.sid.now) t.slots) c.self.view_is
    (all_below c.args.only_turns c.args.sid.now c.self.inside.bound c.self.inside.slots.entries c.self.invariant.roles)
