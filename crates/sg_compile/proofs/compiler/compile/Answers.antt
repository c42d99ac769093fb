use Rattle.sg_compile.proofs.Only.{compiled_or_memory}
use Rattle.sg_compile.proofs.compiler.compile.Goals as goal

pub returns-clause-compiles : goal.returns-clause-compiles
returns-clause-compiles c =
    λ p compiled. compiled_or_memory c.args.graph.now c.args.role p compiled c.compile_accepted.result c.compile_accepted.ensures.compiled c.compile_accepted.ensures.refused
