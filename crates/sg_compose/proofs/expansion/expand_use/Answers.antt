use Rattle.std.proofs.Common.{◌≡◌, ◌≢◌, true, sym, ap, subst, ◌∙◌, arith}
use Rattle.sg_protocol.specs.Graph.{is_name}
use Rattle.sg_parse.specs.Parts.{Use}
use Rattle.sg_compose.proofs.Ends.{ends-at}
use Rattle.sg_compose.proofs.WithUse.{with_use-is}
use Rattle.sg_compose.proofs.expansion.expand_use.Goals as goal

pub too_large-requires-clause-there : goal.too_large-requires-clause-there
too_large-requires-clause-there c = (ends-at c.args.inner.now c.in_ok-end.end c.in_ok-end.ensures.end).there

pub add_use-requires-clause-late : goal.add_use-requires-clause-late
add_use-requires-clause-late c = (let late : c.in_ok-end.end ≢ 0 = (ends-at c.args.inner.now c.in_ok-end.end c.in_ok-end.ensures.end).late in omega (arith, late))

pub add_use-requires-clause-there : goal.add_use-requires-clause-there
add_use-requires-clause-there c = (ends-at c.args.inner.now c.in_ok-end.end c.in_ok-end.ensures.end).there

pub add_use-requires-clause-graph : goal.add_use-requires-clause-graph
add_use-requires-clause-graph c =
    let named : is_name c.args.used.now.name ≡ true = subst (λ n. is_name n ≡ true) (ap (λ (u : Use). u.name) c.used.view_is) c.as_bytes-bytes.ensures.name in
    with_use-is c.args.graph.now c.args.inner.now c.args.used.now c.in_ok-end.end c.roles-count.ensures.graph c.roles-others.ensures.graph named c.requires.from c.requires.to c.requires.players (record {
      end = c.in_ok-end.ensures.end;
      short = c.in_ok-end.ensures.names;
      new = sym c.in_ok-clashes.ensures.answer ∙ c.if-branch.false;
      room = sym c.too_large.ensures ∙ c.if-too_large.false;
    })
