use Rattle.std.proofs.Common.{ℕ, Bool, codes, map, ap, ◌∙◌}
use Rattle.sg_model.specs.Lists.{is_in}
use Rattle.sg_walk.specs.Model.{steps_of}
use Rattle.sg_text.specs.Walks.{walk_line}
use Rattle.sg_text.proofs.Steps.{HasSteps-IsStoredWalk, walk_line-same}
use Rattle.sg_audit.specs.Model.{log_of}
use Rattle.sg_audit.specs.Merged.{roles_of}
use Rattle.sg_audit.specs.TakingLines.{session_of}
use Rattle.sg_replay.specs.Audited.{has_log, reply_text}
use Rattle.sg_replay.proofs.Answered.{reply_and_walk}
use Rattle.sg_replay.proofs.answer.put_yes.Goals as goal

pub put_walk-requires : goal.put_walk-requires
put_walk-requires c = HasSteps-IsStoredWalk c.args.graph.now (steps_of c.args.walk.now) c.requires.walk

pub returns : goal.returns
returns c =
    let name = c.args.session.now.name in
    let steps = steps_of c.args.walk.now in
    let honest : ℕ → Bool = λ r. is_in r c.roles_of-honest.result in
    reply_and_walk c.put_walk.result c.args.out.now c.put_reply.new.out c.put_walk.new.out (reply_text name (codes " yes\n")) (walk_line c.as_bytes.result.now c.args.graph.now honest steps)
    (walk_line name c.args.graph.now (has_log (session_of c.args.session.now)) steps) c.in_ok-put_reply.ensures
    (ap (λ n. walk_line n c.args.graph.now honest steps) c.as_bytes.ensures.bytes
    ∙ walk_line-same name c.args.graph.now honest (has_log (session_of c.args.session.now)) (λ r. c.roles_of-honest.ensures r ∙ ap (λ ls. is_in r (roles_of (map log_of ls))) c.as_slice.ensures) steps)
    c.put_walk.ensures.ok
