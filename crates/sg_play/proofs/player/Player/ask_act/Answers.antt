use Rattle.std.proofs.Common.{◌≡◌, ◌∙◌, ap, sym}
use Rattle.sg_protocol.specs.Calls.{Act}
use Rattle.sg_protocol.specs.Keyring.{Keyring}
use Rattle.sg_protocol.specs.NodeStates.{RepresentsPast}
use Rattle.sg_protocol.specs.Past.{Past}
use Rattle.sg_walk.specs.Model.{values_of}
use Rattle.sg_play.specs.Asking.{IsAskedWithFrames, addressed, sealed_in}
use Rattle.sg_play.specs.Played.{Play, answer_in}
use Rattle.sg_play.specs.Posting.{frames_made}
use Rattle.sg_play.specs.Representation.{HasAsked, KeepsJoins, RepresentsPlay}
use Rattle.sg_play.proofs.Keeping.{keeps_by_act}
use Rattle.sg_play.proofs.Results.{each_ok, then_ok}
use Rattle.sg_play.proofs.Reporting.{asked_made}
use Rattle.sg_play.proofs.player.Player.ask_act.Goals as goal

pub returns : goal.returns
returns c =
    let old = c.args.self.now in
    let node = c.ask_act.new.node in
    let frames = c.ask_act.new.frames in
    let values = values_of c.args.values.now in
    let act = Act c.args.sid c.args.label values c.args.confounders.now in
    record {
      asked =
          each_ok c.ask_act.result (λ (p : Play). RepresentsPlay old p) (λ (p : Play) r. IsAskedWithFrames old.keys.now old.frames frames old.node node p.past act r.0 r.1)
          (λ (p : Play) r. HasAsked (record old { node = node; frames = frames }) p act r.0 (frames_made r.1)) (λ p r s h. asked_made old node frames p act r.0 r.1 s h) (λ p s. c.ask_act.ensures.is_asked p.past s.node);
      frame =
          each_ok c.ask_act.result (λ (p : Play). RepresentsPlay old p) (λ (p : Play) r. IsAskedWithFrames old.keys.now old.frames frames old.node node p.past act r.0 r.1)
          (λ (p : Play) r. r.1 ≡ addressed p.past.keys (sealed_in (answer_in p act))) (λ p r s h. h.is_frame ∙ ap (λ (k : Keyring). addressed k (sealed_in (answer_in p act))) (sym s.keys)) (λ p s. c.ask_act.ensures.is_asked p.past s.node);
      joins =
          then_ok c.ask_act.result (λ (past : Past). RepresentsPast old.node past) (λ (past : Past) r. IsAskedWithFrames old.keys.now old.frames frames old.node node past act r.0 r.1) (KeepsJoins old.node node)
          (λ r h. keeps_by_act old.keys.now old.frames frames old.node node c.args.sid c.args.label values c.args.confounders.now r.0 r.1 h) c.ask_act.ensures.is_asked;
      memory = c.ask_act.ensures.memory;
    }
