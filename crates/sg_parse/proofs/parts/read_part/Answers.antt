use Rattle.std.proofs.Common.{◌≡◌, false, sym, subst}
use Rattle.sg_model.specs.Lists.{has_text}
use Rattle.sg_parse.specs.Parts.{part_names}
use Rattle.sg_parse.proofs.Room.{statements_keep_name}
use Rattle.sg_parse.proofs.parts.read_part.Goals as goal

pub push-requires : goal.push-requires
push-requires c =
    subst (λ n. has_text n (part_names c.args.parts.now) ≡ false)
    (sym (statements_keep_name c.in_ok-graph.graph c.read_head.new.scanner _ c.in_ok-read_statements.ensures.reads)) c.in_ok-graph.ensures.new
