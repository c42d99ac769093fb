use Rattle.std.proofs.Common.{◌≡◌, ◌-◌, map, reverse, drop, length, ap, sym, ◌∙◌, arith}
use Rattle.std.proofs.lemmas.List.{reverse-reverse}
use Rattle.sg_model.specs.Lists.{is_in}
use Rattle.sg_walk.specs.Model.{step_of}
use Rattle.sg_certify.specs.Events.{pair_of}
use Rattle.sg_certify.specs.Filling.{added_by, value_in}
use Rattle.sg_certify.proofs.Backwards.{map-reverse}
use Rattle.sg_certify.proofs.Filled.{from_end}
use Rattle.sg_certify.proofs.Unknown.{event_back}
use Rattle.sg_certify.proofs.pass.explain.Goals as goal

pub loop-back-preserved : goal.loop-back-preserved
loop-back-preserved c =
    let both = event_back c.args.graph.now (λ r. is_in r c.args.honest) (value_in c.loop-back.kept) (value_in c.add_event.new.kept) (map step_of c.loop-back.steps.items) (map step_of c.add_event.new.steps.items)
    c.args.events.now c.loop-back.back c.index-events-events.result c.vars-count.ensures.graph (omega arith) c.index-events-events.is c.loop-back.invariant.added c.loop-back.invariant.left c.in_ok-add_event.ensures.steps c.in_ok-add_event.ensures.kept in
    record { added = both.0; left = both.1 }

pub returns : goal.returns
returns c =
    let done : length c.args.events.now - c.loop-back.back ≡ 0 = omega arith in
    ap (map step_of) (c.from_vec.ensures ∙ c.reverse.ensures.items) ∙ map-reverse step_of c.loop-back.steps.items ∙ ap reverse c.loop-back.invariant.added
    ∙ reverse-reverse (added_by c.args.graph.now (λ r. is_in r c.args.honest) (map pair_of (drop (length c.args.events.now - c.loop-back.back) c.args.events.now)))
    ∙ ap (λ n. added_by c.args.graph.now (λ r. is_in r c.args.honest) (map pair_of (drop n c.args.events.now))) done
    ∙ sym (from_end c.args.graph.now (λ r. is_in r c.args.honest) (map pair_of c.args.events.now))
