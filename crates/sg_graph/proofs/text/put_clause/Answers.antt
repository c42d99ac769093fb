use Rattle.std.proofs.Common.{◌≡◌, ◌++◌, map, ◌∙◌, append_assoc, rules}
use Rattle.std.proofs.lemmas.Result.{on_ok_weaker}
use Rattle.sg_protocol.specs.Graph.{variable_name, clause, spaced}
use Rattle.sg_graph.proofs.Lines.{clause_some}
use Rattle.sg_graph.proofs.text.put_clause.Goals as goal

pub returns : goal.returns
returns c =
    let names = map (variable_name c.args.graph.now) c.args.vars in
    let whole : clause c.args.word.now names ≡ c.args.word.now ++ spaced names =
    clause_some c.args.word.now (variable_name c.args.graph.now) c.args.vars c.is_empty.result c.is_empty.ensures.1 c.if-is_empty.false in
    let put : c.bytes.new.self ≡ c.args.out.now ++ c.args.word.now = search rules in
    let joined : c.bytes.new.self ++ spaced names ≡ c.args.out.now ++ clause c.args.word.now names = rw (put, append_assoc, whole) in
    on_ok_weaker c.put_vars_of.result (λ e. e ∙ joined) c.put_vars_of.ensures
