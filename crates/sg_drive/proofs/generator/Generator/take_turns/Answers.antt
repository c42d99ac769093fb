use Rattle.std.proofs.Common.{◌≡◌, Err, refl, arith, rules}
use Rattle.std.proofs.lemmas.List.Elements.{All-from_recursion}
use Rattle.sg_drive.proofs.Grouped.{can_turn, has_turned, none_of, some_of, stops_turns}
use Rattle.sg_drive.proofs.Extends.{err_is}
use Rattle.sg_drive.specs.Groups.{IsTurnFault}
use Rattle.sg_drive.specs.Machine.{IsThere}
use Rattle.sg_drive.specs.declared.fault.GenerateFault.{GenerateFault}
use Rattle.sg_drive.proofs.generator.Generator.take_turns.Goals as goal

pub loop-turn-init : goal.loop-turn-init
loop-turn-init c = (refl, omega arith, c.requires.budget)

pub turn-requires-clause-room : goal.turn-requires-clause-room
turn-requires-clause-room c = can_turn c.loop-turn.self c.loop-turn._turn c.args.begun c.loop-turn.invariant.2

pub turn-requires-clause-some : goal.turn-requires-clause-some
turn-requires-clause-some c = some_of c.loop-turn.self c.is_over.result c.is_over.ensures c.if-is_over.false

pub turn-requires-clause-there : goal.turn-requires-clause-there
turn-requires-clause-there c = All-from_recursion (IsThere c.loop-turn.self.graph c.loop-turn.self.sessions) c.loop-turn.self.going.pending c.loop-turn.invariant.2.has.frames.there

pub loop-turn-preserved : goal.loop-turn-preserved
loop-turn-preserved c =
    has_turned c.args.self.now c.loop-turn.self c.turn.new.self c.loop-turn._turn c.args.begun c.loop-turn.invariant.0 c.loop-turn.invariant.2 (some_of c.loop-turn.self c.is_over.result c.is_over.ensures c.if-is_over.false) c.in_ok-turn.ensures.going

pub returns-then-is_over-clause-over : goal.returns-then-is_over-clause-over
returns-then-is_over-clause-over c = record { count = c.loop-turn._turn; is = c.loop-turn.invariant.0; over = none_of c.loop-turn.self c.is_over.result c.is_over.ensures c.if-is_over.true }

pub returns-in_err-turn-clause-stopped : goal.returns-in_err-turn-clause-stopped
returns-in_err-turn-clause-stopped c =
    let e : GenerateFault = c.in_err-turn.field-0.0 in
    let same : c.from_residual.result ≡ Err e = search rules in
    err_is c.from_residual.result e (IsTurnFault c.args.self.now) same
    (stops_turns c.args.self.now c.loop-turn.self c.loop-turn._turn e c.loop-turn.invariant.0 (some_of c.loop-turn.self c.is_over.result c.is_over.ensures c.if-is_over.false) c.in_err-turn.ensures.stopped)

pub unreachable-requires : goal.unreachable-requires
unreachable-requires c = let few = c.loop-turn.invariant.1 in let last = c.loop-turn-test.false in omega (arith, few, last)
