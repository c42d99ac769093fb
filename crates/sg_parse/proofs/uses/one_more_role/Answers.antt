use Rattle.std.proofs.Common.{◌==◌, refl, sym, ap, ◌∙◌}
use Rattle.std.specs.List.{list_any}
use Rattle.sg_parse.proofs.Names.{role_index}
use Rattle.sg_parse.proofs.Indices.{any-is_in, index_joins, index_twice}
use Rattle.sg_parse.proofs.uses.one_more_role.Goals as goal

pub returns-then-has_role : goal.returns-then-has_role
returns-then-has_role c =
    let g = c.args.graph.now in
    let index = role_index g c.in_ok-name.name c.in-Some.role c.roles-count.ensures.graph c.in-Some.ensures.index.0 c.in-Some.ensures.index.1 in
    index_twice g.roles c.args.roles.now c.args.scanner.now c.name.new.self c.in_ok-name.name c.in_ok-name.at c.in-Some.role
    c.in_ok-name.ensures.reads (c.in-Some.ensures.found.0 refl) index (sym (any-is_in c.in-Some.role c.args.roles.now) ∙ ap (list_any (λ one. one == c.in-Some.role)) (sym c.as_slice.ensures) ∙ sym c.has_role.ensures ∙ c.if-has_role.true)

pub returns-in-Ok : goal.returns-in-Ok
returns-in-Ok c =
    let g = c.args.graph.now in
    let index = role_index g c.in_ok-name.name c.in-Some.role c.roles-count.ensures.graph c.in-Some.ensures.index.0 c.in-Some.ensures.index.1 in
    rw c.in-Ok.ensures.ok (index_joins g.roles c.args.roles.now c.args.scanner.now c.name.new.self c.in_ok-name.name c.in_ok-name.at c.in-Some.role
    c.in_ok-name.ensures.reads (c.in-Some.ensures.found.0 refl) index (sym (any-is_in c.in-Some.role c.args.roles.now) ∙ ap (list_any (λ one. one == c.in-Some.role)) (sym c.as_slice.ensures) ∙ sym c.has_role.ensures ∙ c.if-has_role.false))
