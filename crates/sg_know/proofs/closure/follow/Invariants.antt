use Rattle.std.proofs.Common.{◌≡◌, true, take, ℕ}
use Rattle.sg_model.specs.Lists.{is_in}
use Rattle.sg_know.specs.States.{AreReached, AreThere, Extends, Has, state_along, state_at}
use Rattle.sg_know.proofs.closure.follow.Given as goal

abbrev pub invariant-loop-label : goal.invariant-loop-label
invariant-loop-label l = record {
  reached : AreReached l.graph l.role l.var l.states;
  nodes : AreThere l.graph l.states;
  grows : Extends l.initial.states l.states;
  followed : (e : ℕ) → is_in e (take l.label-index l.label-items) ≡ true → Has l.states (state_along l.graph l.role l.var e (state_at l.initial.states l.at));
}
