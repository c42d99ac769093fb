use Rattle.std.proofs.lemmas.Option.{slice_get-get_or}
use Rattle.std.proofs.Common.{sym, ap, ◌∙◌, Some}
use Rattle.sg_compile.proofs.Apart.{others_compiled}
use Rattle.sg_compile.proofs.all.add_all.Goals as goal

pub add_roles-requires-clause-new : goal.add_roles-requires-clause-new
add_roles-requires-clause-new c =
    others_compiled c.args.graphs.now c.loop-index.index c.index-graphs-index.result c.loop-index.programs c.requires.names
    (slice_get-get_or c.args.graphs.now c.loop-index.index c.index-graphs-index.result c.loop-index-test.true ∙ ap Some (sym c.index-graphs-index.is)) c.loop-index.invariant.all
