use Rattle.std.proofs.Common.{refl, sym, ◌∙◌, ◌<◌, arith}
use Rattle.sg_graph.proofs.Sets.{AreNumbers-with_member, with_member-some}
use Rattle.sg_parse.proofs.Names.{role_index}
use Rattle.sg_parse.proofs.Readings.{joins, occurs_twice}
use Rattle.sg_parse.proofs.name.one_more_role.Goals as goal

pub returns-then-has-clause-reads : goal.returns-then-has-clause-reads
returns-then-has-clause-reads c =
    let g = c.args.graph.now in
    let index = role_index g c.in_ok-name.name c.in-Some.role c.roles-count.ensures.graph c.in-Some.ensures.index.0 c.in-Some.ensures.index.1 in
    occurs_twice 16 g.roles c.args.roles c.args.scanner.now c.name.new.self c.in_ok-name.name c.in_ok-name.at c.in-Some.role
    c.in_ok-name.ensures.reads (c.in-Some.ensures.found.0 refl) index (sym c.has.ensures ∙ c.if-has.true)

pub returns-clause-reads : goal.returns-clause-reads
returns-clause-reads c =
    let g = c.args.graph.now in
    let index = role_index g c.in_ok-name.name c.in-Some.role c.roles-count.ensures.graph c.in-Some.ensures.index.0 c.in-Some.ensures.index.1 in
    rw c.with.ensures (joins 16 g.roles c.args.roles c.args.scanner.now c.name.new.self c.in_ok-name.name c.in_ok-name.at c.in-Some.role
    c.in_ok-name.ensures.reads (c.in-Some.ensures.found.0 refl) index (sym c.has.ensures ∙ c.if-has.false))

pub returns-clause-there : goal.returns-clause-there
returns-clause-there c = rw c.with.ensures (AreNumbers-with_member 16 _ c.in-Some.role c.args.roles c.requires c.in-Some.ensures.index.0)

pub returns-clause-some : goal.returns-clause-some
returns-clause-some c =
    let few : c.in-Some.role < 16 = omega (arith, c.in-Some.ensures.index.0, c.roles-count.ensures.graph.sizes.0) in
    rw c.with.ensures (with_member-some 16 c.in-Some.role c.args.roles few)
