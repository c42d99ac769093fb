use Rattle.std.proofs.Common.{◌∙◌, ap, sym}
use Rattle.sg_sched.specs.Format.Values.{text_bytes}
use Rattle.sg_sched.proofs.ValueLaws.{with_prefix, prefix_step}
use Rattle.sg_sched.proofs.value.text_bytes.Goals as goal

pub bytes-preserved : goal.bytes-preserved
bytes-preserved c =
    c.bytes.invariant
    ∙ ap (with_prefix c.bytes.bytes.items) c.in-Some.ensures.next
    ∙ prefix_step c.bytes.bytes.items c.in-Some.byte (text_bytes c.in-Some.rest.now)
    ∙ ap (λ b. with_prefix b (text_bytes c.in-Some.rest.now)) (sym c.in_ok-push.ensures.items)
