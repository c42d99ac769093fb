use Rattle.std.proofs.Common.{◌≡◌, ◌≤◌, ◌++◌, ◌-◌, [], ◌∷◌, take, length, sym, ap, ◌∙◌, subst}
use Rattle.sg_protocol.specs.Frame.{Frame, tag_len}
use Rattle.sg_protocol.specs.Notes.{note_of}
use Rattle.sg_protocol.specs.Sending.{tag_for, text_of}
use Rattle.sg_protocol.specs.Session.{principal}
use Rattle.sg_protocol.specs.Spelling.{spelling, body}
use Rattle.sg_protocol.specs.Texts.{real, frame_text_of}
use Rattle.sg_role.proofs.Sealing.{tag_put, tag_fits}
use Rattle.sg_role.proofs.step.seal.Goals as goal

pub returns : goal.returns
returns c =
    let f = c.args.frame.now in
    let cast = c.args.kept.now.cast in
    let old = c.args.notes.now in
    let bytes = c.in_ok-bytes.bytes.items in
    let len = c.body_len-len.result in
    let v : c.version-version.result ≡ f.version = c.version-version.ensures.value ∙ sym c.requires.version in
    let b : bytes ≡ spelling f = c.in_ok-bytes.ensures in
    let s : c.as_slice.result.now ≡ bytes = c.as_slice.ensures.value in
    let prefix : take len bytes ≡ body f = ap (take len) (sym s) ∙ c.body_len-len.ensures.body f (record { is_frame = c.requires.spelled; spelled = sym (s ∙ b) }) (sym v) in
    let l : len ≡ length bytes - tag_len f.version = c.body_len-len.ensures.value ∙ (λ j. length (s j) - tag_len (v j)) in
    let fits : tag_len f.version ≤ length bytes = subst (λ z. tag_len f.version ≤ length z) (sym b) (tag_fits f c.requires.spelled).0 in
    let t : c.in_ok-text.text.items ≡ text_of f = c.in_ok-text.ensures ∙ (λ j. frame_text_of (v j) ((ap (take len) c.as_slice-2.ensures.value ∙ prefix) j)) in
    let to : c.frame.inside.receiver ≡ f.receiver = ap (λ (f : Frame). f.receiver) c.frame.view_is in
    let made : c.in_ok-made.made ≡ tag_for real c.args.keys.now cast f.receiver (text_of f) = c.in_ok-made.ensures.value ∙ (λ j. tag_for real c.args.keys.now cast (to j) (t j)) in
    let put = c.with_tag.ensures.bytes ∙ ap (λ tag. take len bytes ++ take (length bytes - len) tag) made ∙ tag_put f bytes (tag_for real c.args.keys.now cast f.receiver (text_of f)) len fits l prefix in
    record {
      sealed = c.seal.ensures ∙ (λ j. ((c.name_of-peer.ensures ∙ ap (principal cast) to) j, put j));
      noted = c.in_ok-made.ensures.noted ∙ (λ j. record old { made = old.made ++ note_of c.args.keys.now.me (principal cast (to j)) (t j) ∷ [] });
      same = tt;
    }
