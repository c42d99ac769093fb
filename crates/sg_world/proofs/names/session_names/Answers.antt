use Rattle.std.proofs.Common.{[], ap, ◌∙◌}
use Rattle.sg_text.specs.Sessions.{naming}
use Rattle.sg_world.specs.KeptLines.{known_in}
use Rattle.sg_world.proofs.names.session_names.Goals as goal

pub returns : goal.returns
returns c =
    c.in_ok-meet_all.ensures (known_in c.sessions.result.now []) (c.in_ok-declare_all.ensures c.new-names.ensures)
    ∙ ap (λ ss. naming 120 (known_in ss c.args.entries.now)) c.sessions.ensures
