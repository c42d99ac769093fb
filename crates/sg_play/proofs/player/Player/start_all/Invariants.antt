use Rattle.std.proofs.Common.{◌≡◌, Ok, take}
use Rattle.sg_play.specs.Around.{KeepsLink, outside_of}
use Rattle.sg_play.specs.Played.{all_starts}
use Rattle.sg_play.specs.Representation.{Progresses}
use Rattle.sg_play.proofs.player.Player.start_all.Given as goal

abbrev pub invariant-loop-start : goal.invariant-loop-start
invariant-loop-start g l = record {
  kept : KeepsLink {A = Unit {0}} g.L.Link g.O.Sink l.initial.link l.link l.initial.out l.out (Ok tt);
  progress : Progresses (λ p. all_starts p (take l.start-index l.starts)) l.initial.self l.self (g.R.Fresh.random l.initial.fresh) (g.R.Fresh.random l.fresh)
      (outside_of g.L.Link g.O.Sink l.initial.link l.initial.out) (outside_of g.L.Link g.O.Sink l.link l.out) (Ok tt);
  programs : l.self.programs.now ≡ l.initial.self.programs.now;
}
