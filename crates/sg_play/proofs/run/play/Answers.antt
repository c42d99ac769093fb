use Rattle.std.proofs.Common.{◌≡◌, List, take, refl, ap, ◌∙◌, subst}
use Rattle.sg_script.specs.Script.{Script, Start as ScriptStart}
use Rattle.sg_play.specs.Ends.{Ended, Outside}
use Rattle.sg_play.specs.Played.{beginning, played}
use Rattle.sg_play.proofs.Coming.{ended_so}
use Rattle.sg_play.proofs.Counting.{memory_counted}
use Rattle.sg_play.proofs.Endings.{whole_none}
use Rattle.sg_play.proofs.Running.{not_begun, starts_held}
use Rattle.sg_play.proofs.run.play.Goals as goal

pub returns-clause-played : goal.returns-clause-played
returns-clause-played g c = λ first deliveries random new reported drawn.
    let start : Outside = record { written = g.O.Sink.written c.args.out.now; sent = g.L.Link.sent c.args.link.now } in
    not_begun start c.args.keys.now c.args.programs.now first c.args.script (take c.args.most deliveries) random c.in-Err.fault c.in-Err.ensures.memory

pub returns-in-Ok-clause-played : goal.returns-in-Ok-clause-played
returns-in-Ok-clause-played g c = λ first deliveries random new reported drawn.
    let start : Outside = record { written = g.O.Sink.written c.args.out.now; sent = g.L.Link.sent c.args.link.now } in
    let now : Outside = record { written = g.O.Sink.written c.play_all-ended.new.out; sent = g.L.Link.sent c.play_all-ended.new.link } in
    let script : Script = record { starts = c.as_slice.result.now; choices = c.script.inside.choices } in
    let is : script ≡ c.args.script = ap (λ (ss : List ScriptStart). record { starts = ss; choices = c.script.inside.choices }) c.as_slice.ensures ∙ c.script.view_is in
    subst (λ (z : Script). Ended start now (played c.args.keys.now c.args.programs.now first z (take c.args.most deliveries) random).steps c.play_all-ended.result) is
    (ended_so start now c.play_all-ended.new.self (g.R.Fresh.random c.play_all-ended.new.fresh) (played c.args.keys.now c.args.programs.now first script (take c.args.most deliveries) random) c.play_all-ended.result
    (c.play_all-ended.ensures.progress deliveries reported (beginning c.args.keys.now c.args.programs.now first script.choices random) start (c.in-Ok.ensures.represents first random new) drawn (whole_none start)))

pub returns-clause-faults : goal.returns-clause-faults
returns-clause-faults g c = memory_counted refl c.in-Err.ensures.memory

pub returns-in-Ok-clause-faults : goal.returns-in-Ok-clause-faults
returns-in-Ok-clause-faults g c = c.play_all-ended.ensures.faults

pub play_all-ended-requires : goal.play_all-ended-requires
play_all-ended-requires g c =
    let starts = c.as_slice.result.now in
    let is : record { starts = starts; choices = c.script.inside.choices } ≡ c.args.script = ap (λ (ss : List ScriptStart). record { starts = ss; choices = c.script.inside.choices }) c.as_slice.ensures ∙ c.script.view_is in
    starts_held c.args.programs.now c.in-Ok.player.programs.now c.args.script starts c.script.inside.choices c.requires is c.in-Ok.ensures.programs
