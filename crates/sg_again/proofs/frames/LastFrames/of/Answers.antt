use Rattle.std.proofs.Common.{◌∙◌, sym, ap, Option, Some}
use Rattle.std.specs.Option.{option_map}
use Rattle.sg_again.specs.LastFrames.{KeptFrame, LastFrames, SentFrame, frame_of}
use Rattle.sg_again.proofs.Kept.{got}
use Rattle.sg_again.proofs.frames.LastFrames.of.Goals as goal

pub returns-in-Some : goal.returns-in-Some
returns-in-Some c =
    ap (λ (f : SentFrame). Some f) c.frame.ensures
    ∙ ap (λ (o : Option KeptFrame). option_map (λ k. k.frame) o) (c.in-Some.ensures.value ∙ sym (got c.self.inside.frames.entries c.args.sid.now))
    ∙ ap (λ (l : LastFrames). frame_of l c.args.sid.now) c.self.view_is

pub returns-in-None : goal.returns-in-None
returns-in-None c =
    ap (λ (o : Option KeptFrame). option_map (λ k. k.frame) o) (c.in-None.ensures.value ∙ sym (got c.self.inside.frames.entries c.args.sid.now))
    ∙ ap (λ (l : LastFrames). frame_of l c.args.sid.now) c.self.view_is
