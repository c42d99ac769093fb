use Rattle.std.proofs.Common.{arith}
use Rattle.sg_graph.proofs.Sets.{numbers_within}
use Rattle.sg_compose.specs.Expansion.{player}
use Rattle.sg_compose.proofs.Renaming.{set_of-numbers, set_of-some}
use Rattle.sg_compose.proofs.add.add_var.Goals as goal

pub players-writers-requires-clause-roles : goal.players-writers-requires-clause-roles
players-writers-requires-clause-roles c = numbers_within _ 16 c.writers.result c.roles-others.ensures.graph.sizes.0 c.writers.ensures.there.0

pub add_var-requires-clause-writers : goal.add_var-requires-clause-writers
add_var-requires-clause-writers c = rw c.players-writers.ensures (set_of-numbers 16 _ (player c.args.used.now) c.writers.result (λ x i. c.requires.players x))

pub add_var-requires-clause-some : goal.add_var-requires-clause-some
add_var-requires-clause-some c =
    rw c.players-writers.ensures (set_of-some 16 (player c.args.used.now) c.writers.result c.writers.ensures.there.1 (λ x. (let few = c.requires.players x in omega (arith, few, c.roles-count.ensures.graph.sizes.0))))
