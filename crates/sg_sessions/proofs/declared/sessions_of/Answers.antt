use Rattle.std.proofs.Common.{◌≡◌, List, ℕ, ◌+◌, ◌++◌, ◌∷◌, [], length, ap, sym, ◌∙◌, arith}
use Rattle.std.specs.Fmt.{decimal}
use Rattle.sg_protocol.specs.Crafted.{nonce_of}
use Rattle.sg_protocol.specs.Frame.{Cast}
use Rattle.sg_protocol.specs.Schedule.{NamedSession}
use Rattle.sg_sessions.proofs.Players.{length-players}
use Rattle.sg_sessions.proofs.Setups.{sessions_more}
use Rattle.sg_sessions.proofs.declared.sessions_of.Goals as goal

pub session-requires-clause-names : goal.session-requires-clause-names
session-requires-clause-names c =
    let many : length c.args.names.now ≡ length c.args.graph.now.roles = ap (λ (z : List (List ℕ)). length z) c.requires.names ∙ length-players (length c.args.graph.now.roles) in
    let two = c.requires.two in
    let most = c.requires.many in
    (omega (arith, many, two), omega (arith, many, most))

pub loop-index-preserved : goal.loop-index-preserved
loop-index-preserved c =
    let made : c.in_ok-session.field-0 ≡ _ = c.in_ok-session.ensures ∙ (λ i. let cast : Cast = record { version = 1; graph = c.in_ok-digest.ensures i; nonce = nonce_of (c.loop-index.index + 1); names = c.requires.names i } in let d : NamedSession = record { name = 115 ∷ decimal (c.loop-index.index + 1); cast = cast } in d) in
    c.in_ok-push.ensures.ok ∙ (λ i. c.loop-index.invariant i ++ made i ∷ []) ∙ sym (sessions_more c.args.graph.now c.loop-index.index)
