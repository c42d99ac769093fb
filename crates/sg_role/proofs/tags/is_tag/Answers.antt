use Rattle.std.proofs.Common.{◌≡◌, [], unwrap_or, subst, IsTrue, ◌↔◌}
use Rattle.sg_protocol.specs.Texts.{real, cut, hmac}
use Rattle.sg_role.proofs.Right.{by_bytes, by_turned}
use Rattle.sg_role.proofs.tags.is_tag.Goals as goal

pub returns-in-None-clause-same : goal.returns-in-None-clause-same
returns-in-None-clause-same c = by_bytes _ _ _ (subst (λ k. IsTrue c.cut_matches-in-None.result ↔ (cut c.args.version (hmac real (unwrap_or k []) c.args.text.now) ≡ c.args.tag.now)) c.in-None.ensures.key c.cut_matches-in-None.ensures)

pub returns-in-None-clause-turned : goal.returns-in-None-clause-turned
returns-in-None-clause-turned c = by_turned _ _ _ (subst (λ k. IsTrue c.cut_matches-in-None.result ↔ (cut c.args.version (hmac real (unwrap_or k []) c.args.text.now) ≡ c.args.tag.now)) c.in-None.ensures.key c.cut_matches-in-None.ensures)

pub returns-in-Some-clause-same : goal.returns-in-Some-clause-same
returns-in-Some-clause-same c = by_bytes _ _ _ (subst (λ k. IsTrue c.cut_matches.result ↔ (cut c.args.version (hmac real (unwrap_or k []) c.args.text.now) ≡ c.args.tag.now)) c.in-Some.ensures.key c.cut_matches.ensures)

pub returns-in-Some-clause-turned : goal.returns-in-Some-clause-turned
returns-in-Some-clause-turned c = by_turned _ _ _ (subst (λ k. IsTrue c.cut_matches.result ↔ (cut c.args.version (hmac real (unwrap_or k []) c.args.text.now) ≡ c.args.tag.now)) c.in-Some.ensures.key c.cut_matches.ensures)
