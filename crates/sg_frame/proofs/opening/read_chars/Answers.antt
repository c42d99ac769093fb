use Rattle.std.proofs.Common.{refl}
use Rattle.std.specs.Str.{is_utf8}
use Rattle.std.proofs.lemmas.Str.{is_utf8-from_IsUtf8}
use Rattle.sg_frame.proofs.Fields.{field_found, text_refused}
use Rattle.sg_frame.proofs.opening.read_chars.Goals as goal

pub returns-in-Ok : goal.returns-in-Ok
returns-in-Ok c =
    let moves = c.in_ok-bytes.ensures.moves in
    let text = is_utf8-from_IsUtf8 c.in_ok-bytes.bytes.now c.in-Ok.ensures.text.0 in
    rw (moves.moved, c.in-Ok.ensures.value, c.in_ok-bytes.ensures.value)
    (field_found c.args.count is_utf8 c.args.input.now (moves.found.0 refl) (rw c.in_ok-bytes.ensures.value at text))

pub returns-in-Err-NotText : goal.returns-in-Err-NotText
returns-in-Err-NotText c =
    rw c.at-at.ensures (text_refused c.args.count c.args.input.now c.in_ok-bytes.bytes.now c.requires.fits (c.in_ok-bytes.ensures.moves.found.0 refl) c.in_ok-bytes.ensures.value
    (λ text short. let memory = c.in-Err-NotText.ensures.memory text short in let other = c.in-Err-NotText.field-0-is in cc))

pub returns-in-Err-TooLong : goal.returns-in-Err-TooLong
returns-in-Err-TooLong c =
    rw c.at-at.ensures (text_refused c.args.count c.args.input.now c.in_ok-bytes.bytes.now c.requires.fits (c.in_ok-bytes.ensures.moves.found.0 refl) c.in_ok-bytes.ensures.value
    (λ text short. let memory = c.in-Err-TooLong.ensures.memory text short in let other = c.in-Err-TooLong.field-0-is in cc))
