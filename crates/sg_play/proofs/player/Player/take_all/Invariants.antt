use Rattle.std.proofs.Common.{◌≡◌, ℕ, List, Some, Ok, take, drop}
use Rattle.sg_play.specs.Around.{counts_of, outside_of}
use Rattle.sg_play.specs.Faults.{CountsFaults}
use Rattle.sg_play.specs.Played.{all_deliveries}
use Rattle.sg_play.specs.Representation.{Progresses}
use Rattle.sg_play.proofs.player.Player.take_all.Given as goal

abbrev pub invariant-loop-taken : goal.invariant-loop-taken
invariant-loop-taken g l = record {
  link_bound : g.L.Link.bound l.link ≡ g.L.Link.bound l.initial.link;
  faults : CountsFaults {A = Unit {0}} (counts_of g.L.Link g.O.Sink l.initial.link l.initial.out) (counts_of g.L.Link g.O.Sink l.link l.out) (Ok tt);
  left : (deliveries : List (List ℕ)) → g.L.Link.deliveries l.initial.link ≡ Some deliveries → g.L.Link.deliveries l.link ≡ Some (drop l._taken deliveries);
  progress : (deliveries : List (List ℕ)) → g.L.Link.deliveries l.initial.link ≡ Some deliveries
      → Progresses (λ p. all_deliveries p (take l._taken deliveries)) l.initial.self l.self (g.R.Fresh.random l.initial.fresh) (g.R.Fresh.random l.fresh)
      (outside_of g.L.Link g.O.Sink l.initial.link l.initial.out) (outside_of g.L.Link g.O.Sink l.link l.out) (Ok tt);
}
