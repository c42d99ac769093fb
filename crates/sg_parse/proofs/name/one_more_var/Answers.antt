use Rattle.std.proofs.Common.{refl, sym, ◌∙◌}
use Rattle.sg_graph.specs.Parts.{variable_names}
use Rattle.sg_graph.proofs.Sets.{AreNumbers-with_member}
use Rattle.sg_parse.proofs.Names.{variable_index}
use Rattle.sg_parse.proofs.Readings.{joins, occurs_twice}
use Rattle.sg_parse.proofs.name.one_more_var.Goals as goal

pub returns-then-has-clause-reads : goal.returns-then-has-clause-reads
returns-then-has-clause-reads c =
    let g = c.args.graph.now in
    let index = variable_index g c.in_ok-name.name c.in-Some.var c.vars-count.ensures.graph c.in-Some.ensures.index.0 c.in-Some.ensures.index.1 in
    occurs_twice 32 (variable_names g) c.args.vars c.args.scanner.now c.name.new.self c.in_ok-name.name c.in_ok-name.at c.in-Some.var
    c.in_ok-name.ensures.reads (c.in-Some.ensures.found.0 refl) index (sym c.has.ensures ∙ c.if-has.true)

pub returns-clause-reads : goal.returns-clause-reads
returns-clause-reads c =
    let g = c.args.graph.now in
    let index = variable_index g c.in_ok-name.name c.in-Some.var c.vars-count.ensures.graph c.in-Some.ensures.index.0 c.in-Some.ensures.index.1 in
    rw c.with.ensures (joins 32 (variable_names g) c.args.vars c.args.scanner.now c.name.new.self c.in_ok-name.name c.in_ok-name.at c.in-Some.var
    c.in_ok-name.ensures.reads (c.in-Some.ensures.found.0 refl) index (sym c.has.ensures ∙ c.if-has.false))

pub returns-clause-there : goal.returns-clause-there
returns-clause-there c = rw c.with.ensures (AreNumbers-with_member 32 _ c.in-Some.var c.args.vars c.requires c.in-Some.ensures.index.0)
