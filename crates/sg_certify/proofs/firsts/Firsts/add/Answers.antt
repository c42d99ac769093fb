use Rattle.std.proofs.Common.{◌∙◌, ap, bytes_eq, if◌then◌else◌, Some, None}
use Rattle.std.specs.Option.{option_or}
use Rattle.sg_certify.specs.Collisions.{text_under}
use Rattle.sg_certify.proofs.FirstsLaws.{under_more}
use Rattle.sg_certify.proofs.firsts.Firsts.add.Goals as goal

pub returns-clause-kept : goal.returns-clause-kept
returns-clause-kept c = λ h.
    ap (text_under h) c.in_ok-put.ensures
    ∙ under_more h c.args.digest.now c.args.text.now c.args.self.now
    ∙ ap (λ d. option_or (text_under h c.args.self.now) (if bytes_eq d h then Some c.args.text.now else None)) c.requires
