use Rattle.std.proofs.Common.{◌≡◌, ap, sym, true, None}
use Rattle.std.specs.Prelude.{is_some}
use Rattle.std.specs.Result.{result_ok}
use Rattle.hex.specs.Hex.{decode_sized}
use Rattle.sg_base.specs.Words.{hex_bytes}
use Rattle.sg_sched_text.proofs.Keys.{key_bytes}
use Rattle.sg_sched_text.proofs.declare.key_of.Goals as goal

pub unreachable-requires : goal.unreachable-requires
unfolding hex_bytes
unreachable-requires c =
    let no : result_ok (decode_sized c.args.digits.now 32) ≡ None = sym c.in-None.ensures in
    let yes : is_some (result_ok (decode_sized c.args.digits.now 32)) ≡ true = c.requires in
    let e = ap is_some no in
    absurd (cc)

pub returns : goal.returns
unfolding hex_bytes
returns c = key_bytes c.args.digits.now c.in-Some.key (sym c.in-Some.ensures)
