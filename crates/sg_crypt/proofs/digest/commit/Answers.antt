use Rattle.std.proofs.Common.{◌≡◌, ◌++◌, codes, ap, ◌∙◌}
use Rattle.sha2.specs.Sha256.{sha256}
use Rattle.sg_protocol.specs.Spelling.{opening_bytes}
use Rattle.sg_crypt.proofs.Joined.{three_joined}
use Rattle.sg_crypt.proofs.digest.commit.Goals as goal

pub returns : goal.returns
returns c =
    let pieces : c.finalize.result ≡ sha256 ((codes "sg-commit-1" ++ c.sid.inside.0) ++ opening_bytes c.args.opening.now) =
    c.finalize.ensures _ (c.take_opening.ensures _ (c.update-2.ensures _ (c.update.ensures _ c.new-hasher.ensures))) in
    let pieces_of : c.finalize.result ≡ sha256 ((codes "sg-commit-1" ++ c.args.sid.now) ++ opening_bytes c.args.opening.now) =
    rw (← c.sid.view_is) pieces in
    pieces_of ∙ ap sha256 (three_joined (codes "sg-commit-1") c.args.sid.now (opening_bytes c.args.opening.now))
