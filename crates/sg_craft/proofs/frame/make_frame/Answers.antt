use Rattle.std.proofs.Common.{ap}
use Rattle.sg_protocol.specs.Schedule.{Craft}
use Rattle.sg_craft.proofs.FrameLaws.{if_ok, sealed_spells, spelled_in_run}
use Rattle.sg_craft.proofs.frame.make_frame.Goals as goal

pub returns-clause-spells : goal.returns-clause-spells
returns-clause-spells c = if_ok c.sealed.result
    (λ b bytes range. sealed_spells c.args.means.now c.args.craft.now c.in_ok-frame.frame _ b.items c.in_ok-frame.ensures.value (ap (λ (x : Craft). x.seal) c.craft.view_is) c.in_ok-frame.ensures.range bytes range)
    c.sealed.ensures.bytes c.sealed.ensures.range

pub returns-clause-crafted : goal.returns-clause-crafted
returns-clause-crafted c = λ s w a. if_ok c.sealed.result
    (λ b bytes range. spelled_in_run c.args.means.now c.args.craft.now s w b.items a
    (sealed_spells c.args.means.now c.args.craft.now c.in_ok-frame.frame _ b.items c.in_ok-frame.ensures.value (ap (λ (x : Craft). x.seal) c.craft.view_is) c.in_ok-frame.ensures.range bytes range))
    c.sealed.ensures.bytes c.sealed.ensures.range
