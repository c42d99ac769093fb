use Rattle.std.proofs.Common.{◌++◌, ap, ◌∙◌}
use Rattle.std.specs.Option.{option_map}
use Rattle.std.proofs.lemmas.Result.{on_ok_weaker, on_err_weaker}
use Rattle.sg_stream.specs.Traffic.{after_give}
use Rattle.sg_stream.proofs.Giving.{traffic-more}
use Rattle.sg_stream.proofs.Posting.{prefix_first, prefix_more}
use Rattle.sg_stream.proofs.sending.give_message.Goals as goal

pub returns-in-Ok-clause-whole : goal.returns-in-Ok-clause-whole
returns-in-Ok-clause-whole g c =
    on_ok_weaker c.give_all-in-Ok.result (λ h.
    h
    ∙ (ap (option_map (after_give c.args.conn c.args.frame.now)) c.in-Ok.ensures.whole
    ∙ (traffic-more c.args.conn c.to_be_bytes-len.result c.args.frame.now (g.C.Conns.held c.args.conns.now)
    ∙ ap (λ b. option_map (after_give c.args.conn (b ++ c.args.frame.now)) (g.C.Conns.held c.args.conns.now)) c.to_be_bytes-len.ensures))) c.give_all-in-Ok.ensures.whole

pub returns-in-Ok-clause-prefix : goal.returns-in-Ok-clause-prefix
returns-in-Ok-clause-prefix g c =
    on_err_weaker c.give_all-in-Ok.result (λ h.
    rw c.to_be_bytes-len.ensures at (prefix_more c.args.conn c.to_be_bytes-len.result c.args.frame.now (g.C.Conns.held c.args.conns.now) (g.C.Conns.held c.give_all.new.conns) (g.C.Conns.held c.give_all-in-Ok.new.conns) c.in-Ok.ensures.whole h)) c.give_all-in-Ok.ensures.prefix

pub returns-in-Err-clause-prefix : goal.returns-in-Err-clause-prefix
returns-in-Err-clause-prefix g c =
    rw c.to_be_bytes-len.ensures at (prefix_first c.args.conn c.to_be_bytes-len.result c.args.frame.now (g.C.Conns.held c.args.conns.now) (g.C.Conns.held c.give_all.new.conns) c.in-Err.ensures.prefix)
