use Rattle.std.proofs.Common.{◌≡◌, ◌<◌, ℕ, ap, subst, arith}
use Rattle.std.specs.List.{AllByRecursion}
use Rattle.sg_base.specs.declared.value.Value.{Value as Held}
use Rattle.sg_model.specs.Last.{Map}
use Rattle.sg_model.specs.Values.{Value}
use Rattle.sg_protocol.specs.Frame.{IsValue}
use Rattle.sg_walk.specs.Model.{values_of}
use Rattle.sg_drive.specs.Machine.{Machine}
use Rattle.sg_drive.proofs.Taking.{is_honest_player, is_there}
use Rattle.sg_drive.proofs.generator.Generator.play_along.Goals as goal

pub take-requires-clause-step : goal.take-requires-clause-step
take-requires-clause-step c =
    let same : c.draw_values.new.self.sessions ≡ c.args.self.now.sessions = ap (λ (m : Machine). m.sessions) c.in-Ok.ensures.going in
    let here = c.requires.there.0 in
    record {
      declared = is_there c.draw_values.new.self c.self.inside c.self.view_is c.self.invariant c.args.session (omega (arith, same, here));
      range = subst (λ (z : Map Held). AllByRecursion (λ (w : ℕ × Value). (w.0 < 256) × IsValue w.1) (values_of z)) c.as_slice.ensures c.facts_of_each.ensures;
    }

pub take-requires-clause-honest : goal.take-requires-clause-honest
take-requires-clause-honest c = is_honest_player c.draw_values.new.self c.self.inside c.self.view_is c.self.invariant c.player_at-who.result c.player_at-who.ensures.honest
