use Rattle.std.proofs.Common.{refl}
use Rattle.sg_parse.proofs.Names.{role_index}
use Rattle.sg_parse.proofs.Readings.{known_read}
use Rattle.sg_parse.proofs.name.known_role.Goals as goal

pub returns-in-Some-clause-reads : goal.returns-in-Some-clause-reads
returns-in-Some-clause-reads c =
    let g = c.args.graph.now in
    let index = role_index g c.in_ok-name.name c.in-Some.role c.roles-count.ensures.graph c.in-Some.ensures.index.0 c.in-Some.ensures.index.1 in
    known_read g.roles c.args.scanner.now c.name.new.self c.in_ok-name.name c.in_ok-name.at c.in-Some.role c.in_ok-name.ensures.reads (c.in-Some.ensures.found.0 refl) index
