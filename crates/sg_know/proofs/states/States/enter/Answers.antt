use Rattle.std.proofs.Common.{◌≡◌, ◌<◌, List, length, sym, ◌∙◌, subst, arith, rules}
use Rattle.std.specs.Prelude.{IfSome}
use Rattle.sg_know.specs.declared.states.Arrival.{Arrival}
use Rattle.sg_know.specs.declared.states.ReachedState.{ReachedState}
use Rattle.sg_know.proofs.Table.{IsTable-more, AreInOrder-more, is_free}
use Rattle.sg_know.proofs.states.States.enter.Goals as goal

pub invariant_of-self-2 : goal.invariant_of-self-2
invariant_of-self-2 c =
    let within : c.key_of_state-key.result < length c.self.inside.indices.items = omega (arith, c.self.invariant.table.size) in
    let free = is_free c.self.inside.indices.items c.key_of_state-key.result c.index.result.now within c.index.ensures (sym c.is_some.ensures ∙ c.if-is_some.false) in
    let end : c.len-index.result ≡ length c.self.inside.list.items = search rules in
    let from = subst (λ (l : List ReachedState). IfSome c.args.reached.by (λ (s : Arrival). s.from < length l)) (sym c.self.view_is) c.requires.order in
    record {
      table = rw (c.in_ok-push.ensures.items) (IsTable-more c.self.inside.list.items c.self.inside.indices.items c.args.reached c.key_of_state-key.result c.len-index.result c.self.invariant.table c.requires.node c.key_of_state-key.ensures.key end free);
      order = rw (c.in_ok-push.ensures.items) (AreInOrder-more c.self.inside.list.items c.args.reached c.self.invariant.order from);
    }
