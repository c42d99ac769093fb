use Rattle.std.proofs.Common.{◌∙◌, sym}
use Rattle.sg_world.proofs.NamesMore.{had_event, no_event}
use Rattle.sg_world.proofs.session_walk.had_event.Goals as goal

pub returns-then-is_of : goal.returns-then-is_of
returns-then-is_of c = sym (had_event c.args.sid.now c.args.entries.now c.loop-entry.entry-index c.entry-item.result c.loop-entry-test.true c.entry-item.is (sym c.is_of.ensures ∙ c.if-is_of.true))

pub loop-entry-preserved : goal.loop-entry-preserved
loop-entry-preserved c = no_event c.args.sid.now c.args.entries.now c.loop-entry.entry-index c.entry-item.result c.loop-entry-test.true c.entry-item.is c.loop-entry.invariant (sym c.is_of.ensures ∙ c.if-is_of.false)
