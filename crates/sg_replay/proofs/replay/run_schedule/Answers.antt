use Rattle.std.proofs.Common.{sym, subst}
use Rattle.sg_ending.specs.Model.{ending_held}
use Rattle.sg_replay.specs.Replayed.{Reports}
use Rattle.sg_replay.proofs.Replaying.{is_replay, stopped}
use Rattle.sg_replay.proofs.replay.run_schedule.Goals as goal

pub returns-in-Ok-write_all : goal.returns-in-Ok-write_all
returns-in-Ok-write_all g c = (
  c.as_slice.result.now,
  is_replay c.args.programs.now c.args.schedule.now c.args.bytes.now c.requires.spelled c.requires.can c.requires.compiled c.requires.few c.as_slice.result.now
      (subst (Reports c.args.programs.now c.args.schedule.now) (sym c.as_slice.ensures.value) c.in-Ok.ensures.reports),
  (c.in-Ok-write_all.ensures.whole, c.in-Ok-write_all.ensures.no_fault),
)

pub returns-in-Ok : goal.returns-in-Ok
returns-in-Ok g c = (
  c.as_slice.result.now,
  is_replay c.args.programs.now c.args.schedule.now c.args.bytes.now c.requires.spelled c.requires.can c.requires.compiled c.requires.few c.as_slice.result.now
      (subst (Reports c.args.programs.now c.args.schedule.now) (sym c.as_slice.ensures.value) c.in-Ok.ensures.reports),
  (c.in-Err-write_all.ensures.prefix, c.in-Err-write_all.ensures.failed),
)

pub returns : goal.returns
returns g c = stopped c.args.programs.now c.args.schedule.now c.args.bytes.now c.requires.spelled c.requires.can c.requires.compiled c.requires.few _ (ending_held c.in-Err.ending) c.in-Err.ensures.stops
