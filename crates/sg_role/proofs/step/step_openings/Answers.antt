use Rattle.std.proofs.Common.{None, filter_map, get_or, ◌∙◌}
use Rattle.std.specs.Option.{option_or}
use Rattle.sg_protocol.specs.Session.{opening_in}
use Rattle.sg_role.proofs.step.step_openings.Goals as goal

pub returns : goal.returns
returns c = c.in_ok-openings.ensures
    ∙ (λ i. filter_map (λ x. option_or (opening_in c.args.written.now x) (get_or (c.as_slice-2.ensures.value i) x None)) ((c.as_slice.ensures.value ∙ c.in_ok-reads.ensures) i))
