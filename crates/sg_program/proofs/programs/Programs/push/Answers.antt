use Rattle.std.proofs.Common.{◌≡◌, ◌==◌, ◌&&◌, ◌++◌, [], ◌∷◌, false, length, map, bytes_eq, sym, ap, ◌∙◌, arith}
use Rattle.std.specs.List.{list_any}
use Rattle.std.proofs.lemmas.List.{map_push}
use Rattle.sg_program.specs.Together.{clashes, is_for, is_key, is_named, is_pair, part_of}
use Rattle.sg_program.proofs.Alike.{alike_more, any_part, no_part}
use Rattle.sg_program.proofs.Indices.{index_put}
use Rattle.sg_program.proofs.programs.Programs.push.Goals as goal

pub invariant_of-self : goal.invariant_of-self
invariant_of-self c =
    record {
      names = λ n. rw (c.reserve_one.ensures.names, c.reserve_one.ensures.list) (c.self.invariant.names n);
      parts = rw (c.reserve_one.ensures.parts, c.reserve_one.ensures.list) c.self.invariant.parts;
      digests = λ d r. rw (c.reserve_one.ensures.digests, c.reserve_one.ensures.list) (c.self.invariant.digests d r);
      alike = λ n. rw c.reserve_one.ensures.list (c.self.invariant.alike n);
    }

pub put_part-requires-clause-absent : goal.put_part-requires-clause-absent
put_part-requires-clause-absent c =
    let name = c.name-name.ensures.name ∙ ap (λ g. g.name) c.graph.ensures.graph in
    let alone : list_any (clashes c.args.program) c.self.inside.list.items ≡ false = rw (← c.self.view_is) at c.requires in
    (λ i. list_any (is_pair (name i) (c.role-role.ensures.role i)) ((c.reserve_one.ensures.parts ∙ c.self.invariant.parts) i))
    ∙ any_part c.args.program.graph.name c.args.program.role c.self.inside.list.items ∙ no_part c.args.program c.self.inside.list.items alone

pub invariant_of-self-2 : goal.invariant_of-self-2
invariant_of-self-2 c =
    let name = c.name-name.ensures.name ∙ ap (λ g. g.name) c.graph.ensures.graph in
    let alone : list_any (clashes c.args.program) c.self.inside.list.items ≡ false = rw (← c.self.view_is) at c.requires in
    let more : c.put_last.new.list.items ≡ c.self.inside.list.items ++ c.args.program ∷ [] = c.put_last.ensures ∙ ap (λ xs. xs ++ c.args.program ∷ []) c.reserve_one.ensures.list in
    let end : c.len-index.result ≡ length c.self.inside.list.items = omega (arith, c.len-index.ensures, ap length c.reserve_one.ensures.list) in
    record {
      names = λ n. index_put (is_named n) c.self.inside.list.items c.put_last.new.list.items c.args.program (bytes_eq n c.name-name.result) c.len-index.result _ _
          (c.put_name.ensures n) (rw c.reserve_one.ensures.names (c.self.invariant.names n)) (ap (bytes_eq n) name) end more;
      parts = c.put_part.ensures ∙ (λ i. (c.reserve_one.ensures.parts ∙ c.self.invariant.parts) i ++ (name i, c.role-role.ensures.role i) ∷ [])
          ∙ sym (map_push part_of c.self.inside.list.items c.args.program) ∙ ap (λ ps. map part_of ps) (sym more);
      digests = λ d r. index_put (is_for d r) c.self.inside.list.items c.put_last.new.list.items c.args.program (is_key d r (record { digest = c.digest.result.now; role = c.role-role.result })) c.len-index.result _ _
          (c.put_key.ensures d r) (rw c.reserve_one.ensures.digests (c.self.invariant.digests d r)) (λ i. bytes_eq d (c.digest.ensures.digest i) && (r == c.role-role.ensures.role i)) end more;
      alike = λ n. rw more (alike_more c.args.program c.self.inside.list.items alone c.self.invariant.alike n);
    }
