use Rattle.std.proofs.Common.{length, refl}
use Rattle.sg_parse.proofs.Room.{head_none}
use Rattle.sg_parse.proofs.text.read_text.Goals as goal

pub read_statements-requires : goal.read_statements-requires
read_statements-requires c = record {
  roles = head_none (λ g. length g.roles) (λ n. refl) c.args.scanner.now _ c.in_ok-graph.ensures.reads;
  variables = head_none (λ g. length g.variables) (λ n. refl) c.args.scanner.now _ c.in_ok-graph.ensures.reads;
  nodes = head_none (λ g. length g.nodes) (λ n. refl) c.args.scanner.now _ c.in_ok-graph.ensures.reads;
  edges = head_none (λ g. length g.edges) (λ n. refl) c.args.scanner.now _ c.in_ok-graph.ensures.reads;
}
