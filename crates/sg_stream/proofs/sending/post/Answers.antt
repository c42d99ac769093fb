use Rattle.std.proofs.Common.{◌≡◌, take, ap, ◌∙◌, inr}
use Rattle.std.specs.Option.{option_map}
use Rattle.std.proofs.lemmas.Result.{on_ok_weaker, on_err_weaker}
use Rattle.sg_stream.specs.Framed.{message}
use Rattle.sg_stream.specs.Traffic.{after_give, after_close}
use Rattle.sg_stream.specs.Link.{to_come, sent_of}
use Rattle.sg_stream.proofs.Posting.{ended, ended-wrote, ended-come, ended-sent, ended-kept, some_bytes}
use Rattle.sg_stream.proofs.sending.post.Goals as goal

pub returns-clause-kept : goal.returns-clause-kept
returns-clause-kept g c = λ u.
    let some = some_bytes c.give_message-given.result c.in_ok-conn.conn (message c.args.frame.now) _ _ c.give_message-given.ensures.whole c.give_message-given.ensures.prefix in
    ap (to_come u) (c.close.ensures.closed ∙ ap (option_map (after_close c.in_ok-conn.conn)) (some.1 ∙ ap (option_map (after_give c.in_ok-conn.conn some.0)) c.in_ok-conn.ensures.made))
    ∙ ended-come c.in_ok-conn.conn c.args.to some.0 (g.C.Conns.held c.args.conns.now) c.in_ok-conn.ensures.apart u

pub returns-clause-wrote : goal.returns-clause-wrote
returns-clause-wrote g c =
    on_ok_weaker c.give_message-given.result (λ h.
    let is : g.C.Conns.held c.close.new.self ≡ ended c.in_ok-conn.conn c.args.to (message c.args.frame.now) (g.C.Conns.held c.args.conns.now) =
    c.close.ensures.closed ∙ ap (option_map (after_close c.in_ok-conn.conn)) (h ∙ ap (option_map (after_give c.in_ok-conn.conn (message c.args.frame.now))) c.in_ok-conn.ensures.made) in
    rw is (ended-wrote c.in_ok-conn.conn c.args.to (message c.args.frame.now) (g.C.Conns.held c.args.conns.now) c.in_ok-conn.ensures.apart)) c.give_message-given.ensures.whole

pub returns-clause-prefix : goal.returns-clause-prefix
returns-clause-prefix g c =
    on_err_weaker c.give_message-given.result (λ (count, less, h).
    let is : g.C.Conns.held c.close.new.self ≡ ended c.in_ok-conn.conn c.args.to (take count (message c.args.frame.now)) (g.C.Conns.held c.args.conns.now) =
    c.close.ensures.closed ∙ ap (option_map (after_close c.in_ok-conn.conn)) (h ∙ ap (option_map (after_give c.in_ok-conn.conn (take count (message c.args.frame.now)))) c.in_ok-conn.ensures.made) in
    inr (count, less, rw is (ended-wrote c.in_ok-conn.conn c.args.to (take count (message c.args.frame.now)) (g.C.Conns.held c.args.conns.now) c.in_ok-conn.ensures.apart))) c.give_message-given.ensures.prefix

pub returns-clause-posted : goal.returns-clause-posted
returns-clause-posted g c =
    on_ok_weaker c.give_message-given.result (λ h.
    let is : g.C.Conns.held c.close.new.self ≡ ended c.in_ok-conn.conn c.args.to (message c.args.frame.now) (g.C.Conns.held c.args.conns.now) =
    c.close.ensures.closed ∙ ap (option_map (after_close c.in_ok-conn.conn)) (h ∙ ap (option_map (after_give c.in_ok-conn.conn (message c.args.frame.now))) c.in_ok-conn.ensures.made) in
    rw is (ended-sent c.in_ok-conn.conn c.args.to c.args.frame.now (g.C.Conns.held c.args.conns.now) c.in_ok-conn.ensures.apart c.requires)) c.give_message-given.ensures.whole

pub returns-clause-kept_sent : goal.returns-clause-kept_sent
returns-clause-kept_sent g c =
    on_err_weaker c.give_message-given.result (λ (count, less, h).
    ap sent_of (c.close.ensures.closed ∙ ap (option_map (after_close c.in_ok-conn.conn)) (h ∙ ap (option_map (after_give c.in_ok-conn.conn (take count (message c.args.frame.now)))) c.in_ok-conn.ensures.made))
    ∙ ended-kept c.in_ok-conn.conn c.args.to c.args.frame.now count (g.C.Conns.held c.args.conns.now) c.in_ok-conn.ensures.apart c.requires less) c.give_message-given.ensures.prefix
