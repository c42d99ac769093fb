use Rattle.std.proofs.Common.{◌++◌, [], ◌∷◌, List, map, reverse, if◌then◌else◌, ap, sym, ◌∙◌}
use Rattle.std.specs.Prelude.{None}
use Rattle.std.proofs.lemmas.Result.{on_ok_weaker}
use Rattle.std.specs.Option.{option_or}
use Rattle.sg_law.specs.Explaining.{after_honest}
use Rattle.sg_model.specs.Last.{after_last}
use Rattle.sg_model.specs.Lists.{is_in, value_at}
use Rattle.sg_model.specs.Shape.{sender}
use Rattle.sg_protocol.specs.Graph.{shape}
use Rattle.sg_protocol.specs.Walk.{shown}
use Rattle.sg_walk.specs.Model.{step_of, values_of}
use Rattle.sg_certify.specs.Filling.{value_in}
use Rattle.sg_certify.proofs.Unknown.{still_shown, kept_sent, filled_received}
use Rattle.sg_certify.proofs.pass.add_event.Goals as goal

pub returns-in-Sent-clause-steps : goal.returns-in-Sent-clause-steps
returns-in-Sent-clause-steps c =
    rw (c.in-Sent.is) (on_ok_weaker c.add_sent.result (λ e. e ∙ ap (λ vs. map step_of c.args.steps.now.items ++ record { label = c.in-Sent.label; writes = shown (values_of vs) } ∷ []) c.as_slice.ensures
    ∙ ap (λ ss. map step_of c.args.steps.now.items ++ reverse ss) (sym (still_shown (value_in c.args.kept.now) c.in-Sent.label (values_of c.in-Sent.values)))) c.add_sent.ensures.step)

pub returns-in-Sent-clause-kept : goal.returns-in-Sent-clause-kept
returns-in-Sent-clause-kept c =
    rw (c.in-Sent.is) (on_ok_weaker c.add_sent.result (λ h. kept_sent c.args.graph.now (λ r. is_in r c.args.honest) (value_in c.args.kept.now) (value_in c.add_sent.new.kept) c.in-Sent.sid c.in-Sent.role c.in-Sent.label c.in-Sent.time c.in-Sent.values c.args.shown.now.walk.now
    (λ x b. h x b ∙ ap (λ (vs : List _). if is_in x (map (λ w. w.0) vs) then None else value_in c.args.kept.now x) c.as_slice.ensures)) c.add_sent.ensures.kept)

pub returns-in-Received-clause-steps : goal.returns-in-Received-clause-steps
returns-in-Received-clause-steps c =
    rw (c.in-Received.is) (on_ok_weaker c.add_hidden.result (λ e. e ∙ ap (λ ss. map step_of c.args.steps.now.items ++ reverse ss)
    (filled_received c.args.graph.now c.requires.graph (value_in c.args.kept.now) (value_in c.learn.new.kept) (values_of c.in-Received.values) (after_honest (shape c.args.graph.now) (λ r. is_in r c.args.honest) (after_last (sender (shape c.args.graph.now)) c.in-Received.role c.args.shown.now.walk.now))
    c.new_labels-labels.result.now (λ x b. c.learn.ensures x b ∙ ap (λ vs. option_or (value_at (values_of vs) x) (value_in c.args.kept.now x)) c.as_slice-in-Received.ensures) c.new_labels-labels.ensures.labels)) c.add_hidden.ensures.steps)
