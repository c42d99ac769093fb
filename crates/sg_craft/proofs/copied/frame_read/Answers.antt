use Rattle.std.proofs.Common.{◌∙◌, sym, ap, option_and_then}
use Rattle.std.specs.Result.{result_ok}
use Rattle.sg_protocol.specs.Reading.{read}
use Rattle.sg_craft.specs.Means.{with_frames}
use Rattle.sg_craft.proofs.MeansLaws.{frames_of_with}
use Rattle.sg_craft.proofs.copied.frame_read.Goals as goal

pub returns-in_default : goal.returns-in_default
returns-in_default c = ap (option_and_then (λ bs. result_ok (read bs))) (c.in_default.ensures (with_frames c.args.frames.now) (frames_of_with c.args.frames.now))

pub returns-in-Ok : goal.returns-in-Ok
returns-in-Ok c = ap result_ok (sym c.in-Ok.ensures.exact) ∙ ap (option_and_then (λ bs. result_ok (read bs))) (c.in-Some.ensures (with_frames c.args.frames.now) (frames_of_with c.args.frames.now))

pub returns-in-Err-Malformed : goal.returns-in-Err-Malformed
returns-in-Err-Malformed c =
    let h = rw c.in-Err-Malformed.field-0-is at c.in-Err-Malformed.ensures.exact in
    ap result_ok (sym h) ∙ ap (option_and_then (λ bs. result_ok (read bs))) (c.in-Some.ensures (with_frames c.args.frames.now) (frames_of_with c.args.frames.now))
