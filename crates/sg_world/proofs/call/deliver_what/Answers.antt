use Rattle.std.proofs.Common.{◌∙◌, ap, option_map, sym}
use Rattle.std.specs.Option.{option_copied}
use Rattle.sg_protocol.specs.Calls.{Deliver}
use Rattle.sg_protocol.specs.Schedule as Core
use Rattle.sg_protocol.specs.World.{bytes_of}
use Rattle.sg_sched.specs.Format.StepsHeld.{what_of}
use Rattle.sg_certify.proofs.Taking.{on_ok}
use Rattle.sg_world.specs.StepResults.{IsResult, IsResultOfCall, changed_to}
use Rattle.sg_world.proofs.Delivered.{what_bytes, what_none, what_some}
use Rattle.sg_world.proofs.call.deliver_what.Goals as goal

pub returns-in-Bytes-clause-is_result : goal.returns-in-Bytes-clause-is_result
returns-in-Bytes-clause-is_result c = λ number w past are represents.
    on_ok (IsResultOfCall number c.args.node.now c.deliver.new.node past (Deliver c.as_slice.result.now) c.deliver.new.step_result) (IsResult number c.args.node.now c.deliver.new.node past (option_map Deliver (bytes_of w (what_of c.args.what.now))) c.deliver.new.step_result) c.deliver.result
    (what_bytes number c.args.node.now c.deliver.new.node past w (what_of c.args.what.now) c.as_slice.result.now c.deliver.new.step_result (ap what_of c.in-Bytes.is ∙ ap Core.Bytes (sym c.as_slice.ensures.value))) (c.deliver.ensures.is_result number past represents)

pub returns-in-None-clause-is_result : goal.returns-in-None-clause-is_result
returns-in-None-clause-is_result c = λ number w past are represents.
    what_none number c.args.node.now past w (what_of c.args.what.now) c.in-Frame.number c.in-Frame.change c.args.step_result.now (ap what_of c.in-Frame.is) (sym (c.frame_at.ensures w are) ∙ ap option_copied c.in-None.is) c.requires.blank

pub returns-in-Some-clause-is_result : goal.returns-in-Some-clause-is_result
returns-in-Some-clause-is_result c = λ number w past are represents.
    on_ok (IsResultOfCall number c.args.node.now c.deliver_frame.new.node past (Deliver (changed_to c.in-Frame.change c.in-Some.frame.now)) c.deliver_frame.new.step_result) (IsResult number c.args.node.now c.deliver_frame.new.node past (option_map Deliver (bytes_of w (what_of c.args.what.now))) c.deliver_frame.new.step_result) c.deliver_frame.result
    (what_some number c.args.node.now c.deliver_frame.new.node past w (what_of c.args.what.now) c.in-Frame.number c.in-Frame.change c.in-Some.frame.now c.deliver_frame.new.step_result (ap what_of c.in-Frame.is) (sym (c.frame_at.ensures w are) ∙ ap option_copied c.in-Some.is)) (c.deliver_frame.ensures.is_result number past represents)
