use Rattle.std.proofs.Common.{◌≡◌, ◌∙◌, refl}
use Rattle.sg_play.specs.Around.{outside_of}
use Rattle.sg_play.specs.Representation.{KeepsJoins}
use Rattle.sg_play.specs.Turns.{acted}
use Rattle.sg_play.proofs.Acting.{act_none, acting_adds}
use Rattle.sg_play.proofs.Coming.{no_memory_by}
use Rattle.sg_play.proofs.Counting.{memory_kept, none_kept}
use Rattle.sg_play.proofs.Keeping.{keeps_same, keeps_then}
use Rattle.sg_play.proofs.Results.{mapped}
use Rattle.sg_play.proofs.player.Player.act.Goals as goal

pub returns-in-Err-clause-progress : goal.returns-in-Err-clause-progress
returns-in-Err-clause-progress g c = λ p start s w h.
    no_memory_by start (outside_of g.L.Link g.O.Sink c.args.link.now c.args.out.now) p (acted c.args.sid c.args.node p).0 c.in-Err.fault c.in-Err.ensures.memory (acting_adds c.args.sid c.args.node p) h

pub returns-in-Ok-Some-clause-progress : goal.returns-in-Ok-Some-clause-progress
returns-in-Ok-Some-clause-progress g c = λ p start s w h.
    c.give_act-given.ensures.progress p start (g.R.Fresh.random c.try_act.new.fresh) c.args.sid c.args.node (rw c.in-Ok-Some.field-0-is at (c.in-Ok-Some.ensures.acted p s w)) h

pub returns-in-Ok-None-clause-progress : goal.returns-in-Ok-None-clause-progress
returns-in-Ok-None-clause-progress g c = λ p start s w h.
    let none = rw c.in-Ok-None.field-0-is at (c.in-Ok-None.ensures.acted p s w) in
    act_none start (outside_of g.L.Link g.O.Sink c.args.link.now c.args.out.now) c.try_act.new.self (g.R.Fresh.random c.try_act.new.fresh) c.args.self.now (g.R.Fresh.random c.args.fresh.now)
    (acted c.args.sid c.args.node p) p none.0 none.1 none.2 s w h

pub returns-in-Ok-Some-clause-joins : goal.returns-in-Ok-Some-clause-joins
returns-in-Ok-Some-clause-joins g c =
    let old = c.args.self.now.node in
    let asked = c.try_act.new.self.node in
    let new = c.give_act-given.new.self.node in
    mapped c.give_act-given.result (new ≡ asked) (KeepsJoins old new) (λ e. keeps_then old asked new c.in-Ok-Some.ensures.joins (keeps_same asked new e)) c.give_act-given.ensures.node

pub returns-in-Ok-None-clause-joins : goal.returns-in-Ok-None-clause-joins
returns-in-Ok-None-clause-joins g c = c.in-Ok-None.ensures.joins

pub returns-in-Err-clause-kept : goal.returns-in-Err-clause-kept
returns-in-Err-clause-kept g c = memory_kept refl c.in-Err.ensures.memory

pub returns-in-Ok-Some-clause-kept : goal.returns-in-Ok-Some-clause-kept
returns-in-Ok-Some-clause-kept g c = c.give_act-given.ensures.kept

pub returns-in-Ok-None-clause-kept : goal.returns-in-Ok-None-clause-kept
returns-in-Ok-None-clause-kept g c = none_kept _

pub returns-in-Ok-Some-clause-programs : goal.returns-in-Ok-Some-clause-programs
returns-in-Ok-Some-clause-programs g c = mapped c.give_act-given.result _ _ (λ h. h ∙ c.in-Ok-Some.ensures.programs) c.give_act-given.ensures.programs
