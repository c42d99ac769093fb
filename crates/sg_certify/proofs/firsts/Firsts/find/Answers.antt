use Rattle.std.proofs.Common.{◌∙◌, sym, ap, option_map}
use Rattle.sg_certify.specs.Collisions.{text_under}
use Rattle.sg_certify.proofs.FirstsLaws.{under-lookup}
use Rattle.sg_certify.proofs.firsts.Firsts.find.Goals as goal

pub returns-in-Some : goal.returns-in-Some
returns-in-Some c = ap (option_map (λ t. t.now)) c.in-Some.ensures.value ∙ sym (under-lookup c.args.digest.now c.self.inside.table.entries) ∙ ap (text_under c.args.digest.now) c.self.view_is

pub returns-in-None : goal.returns-in-None
returns-in-None c = ap (option_map (λ t. t.now)) c.in-None.ensures.value ∙ sym (under-lookup c.args.digest.now c.self.inside.table.entries) ∙ ap (text_under c.args.digest.now) c.self.view_is
