use Rattle.std.proofs.Common.{◌≡◌, List, [], take, ap, ◌∙◌, subst}
use Rattle.sg_script.specs.Script.{Script, Start as ScriptStart}
use Rattle.sg_play.proofs.Endings.{whole_none}
use Rattle.sg_play.proofs.Running.{starts_held}
use Rattle.sg_play.specs.Ends.{Outside}
use Rattle.sg_play.specs.Played.{beginning, played}
use Rattle.sg_ledger.specs.Disk.{LeavesOnly}
use Rattle.sg_ledger.specs.Format.{Join, OpenLedger}
use Rattle.sg_keep.specs.KeptRuns.{HasKept, KeptThroughout, RepresentsMore}
use Rattle.sg_keep.proofs.Asking.{holds_first, not_begun}
use Rattle.sg_keep.proofs.AtMost.{not_begun_throughout}
use Rattle.sg_keep.proofs.Counting.{memory_counted}
use Rattle.sg_keep.proofs.Moments.{not_asked}
use Rattle.sg_keep.proofs.run.keep.Goals as goal

pub play-came-requires : goal.play-came-requires
play-came-requires g c =
    let first = c.args.ledger.joins in
    let choices = c.script.inside.choices in
    let starts = c.as_slice.result.now in
    let is : record { starts = starts; choices = choices } ≡ c.args.script = ap (λ (ss : List ScriptStart). record { starts = ss; choices = choices }) c.as_slice.ensures ∙ c.script.view_is in
    record {
      holds = holds_first c.in-Ok.keeper (g.D.Disk.may_leave c.args.disk.now) c.args.keys.now c.args.programs.now first choices
          (c.in-Ok.ensures.represents []).player (c.in-Ok.ensures.ledger ∙ (λ i. record { joins = first; failed = c.requires.working i })) c.requires.represents;
      starts = starts_held c.args.programs.now c.in-Ok.keeper.player.programs.now c.args.script starts choices c.requires.script is c.in-Ok.ensures.programs;
    }

pub returns-in-Ok-clause-any_moment : goal.returns-in-Ok-clause-any_moment
returns-in-Ok-clause-any_moment g c =
    subst (λ (js : List Join). LeavesOnly g.D.Disk.moment g.D.Disk.left_since c.args.disk.now c.play-came.new.disk (RepresentsMore js)) (ap (λ (l : OpenLedger). l.joins) c.in-Ok.ensures.ledger) c.play-came.ensures.any_moment

pub returns-in-Ok-clause-kept : goal.returns-in-Ok-clause-kept
returns-in-Ok-clause-kept g c = λ deliveries random reported drawn.
    let start : Outside = record { written = g.O.Sink.written c.args.out.now; sent = g.L.Link.sent c.args.link.now } in
    let now : Outside = record { written = g.O.Sink.written c.play-came.new.out; sent = g.L.Link.sent c.play-came.new.link } in
    let first = c.args.ledger.joins in
    let choices = c.script.inside.choices in
    let is : record { starts = c.as_slice.result.now; choices = choices } ≡ c.args.script = ap (λ (ss : List ScriptStart). record { starts = ss; choices = choices }) c.as_slice.ensures ∙ c.script.view_is in
    subst (λ (z : Script). HasKept start now (g.D.Disk.may_leave c.play-came.new.disk) (played c.args.keys.now c.args.programs.now first z (take c.args.most deliveries) random) c.play-came.result) is
    (c.play-came.ensures.kept (beginning c.args.keys.now c.args.programs.now first choices random) start deliveries reported (c.in-Ok.ensures.represents random) drawn (whole_none start))

pub returns-in-Ok-clause-throughout : goal.returns-in-Ok-clause-throughout
returns-in-Ok-clause-throughout g c = λ deliveries random reported drawn.
    let start : Outside = record { written = g.O.Sink.written c.args.out.now; sent = g.L.Link.sent c.args.link.now } in
    let first = c.args.ledger.joins in
    let choices = c.script.inside.choices in
    let is : record { starts = c.as_slice.result.now; choices = choices } ≡ c.args.script = ap (λ (ss : List ScriptStart). record { starts = ss; choices = choices }) c.as_slice.ensures ∙ c.script.view_is in
    subst (λ (z : Script). KeptThroughout g.D.Disk.moment g.D.Disk.left_since c.args.disk.now c.play-came.new.disk start.written (g.O.Sink.written c.play-came.new.out) (played c.args.keys.now c.args.programs.now first z (take c.args.most deliveries) random)) is
    (c.play-came.ensures.throughout (beginning c.args.keys.now c.args.programs.now first choices random) start deliveries reported (c.in-Ok.ensures.represents random) drawn (whole_none start))

pub returns-in-Err-clause-faults : goal.returns-in-Err-clause-faults
returns-in-Err-clause-faults g c = memory_counted c.in-Err.ensures.memory

pub returns-in-Err-clause-kept : goal.returns-in-Err-clause-kept
returns-in-Err-clause-kept g c = λ deliveries random reported drawn.
    not_begun (record { written = g.O.Sink.written c.args.out.now; sent = g.L.Link.sent c.args.link.now }) (g.D.Disk.may_leave c.args.disk.now) c.args.keys.now c.args.programs.now c.args.ledger.joins c.args.script (take c.args.most deliveries) random c.requires.represents c.in-Err.fault c.in-Err.ensures.memory

pub returns-in-Err-clause-any_moment : goal.returns-in-Err-clause-any_moment
returns-in-Err-clause-any_moment g c = not_asked g.D.Disk.moment g.D.Disk.left_since c.args.disk.now (g.D.Disk.may_leave c.args.disk.now) (g.met.D.Disk.only_now c.args.disk.now) c.args.ledger.joins c.requires.represents

pub returns-in-Err-clause-throughout : goal.returns-in-Err-clause-throughout
returns-in-Err-clause-throughout g c = λ deliveries random reported drawn.
    not_begun_throughout g.D.Disk.moment g.D.Disk.left_since c.args.disk.now (g.D.Disk.may_leave c.args.disk.now) (g.met.D.Disk.only_now c.args.disk.now) (g.O.Sink.written c.args.out.now)
    c.args.keys.now c.args.programs.now c.args.ledger.joins c.args.script (take c.args.most deliveries) random c.requires.represents
