use Rattle.sg_play.specs.Representation.{KeepsJoins}
use Rattle.sg_play.proofs.Results.{mapped}
use Rattle.sg_play.proofs.Keeping.{keeps_same, keeps_then}
use Rattle.std.proofs.Common.{rules, ◌≡◌, Err, Some, ap, sym, ◌∙◌, refl}
use Rattle.sg_protocol.specs.Calls.{Abandon}
use Rattle.sg_protocol.specs.Past.{node_of}
use Rattle.sg_protocol.specs.Turn.{turn_of}
use Rattle.sg_play.specs.declared.player.Player.{Player}
use Rattle.sg_play.specs.Around.{outside_of}
use Rattle.sg_play.specs.Played.{abandons}
use Rattle.sg_play.specs.Turns.{acted}
use Rattle.sg_play.proofs.Acting.{turn_failed, turn_left, turn_none, turn_sent}
use Rattle.sg_play.proofs.Coming.{with_random}
use Rattle.sg_play.proofs.Counting.{kept_on, kept_passed, kept_then, none_kept}
use Rattle.sg_play.proofs.player.Player.play_turn.Goals as goal

pub returns-in_default-clause-progress : goal.returns-in_default-clause-progress
returns-in_default-clause-progress g c = λ p start s w h.
    turn_none start (record { written = g.O.Sink.written c.args.out.now; sent = g.L.Link.sent c.args.link.now }) c.args.self.now (g.R.Fresh.random c.args.fresh.now) c.args.sid p (sym (c.turn.ensures p.past s.node) ∙ c.in_default.is) s w h

pub returns-in_err-act-clause-progress : goal.returns-in_err-act-clause-progress
returns-in_err-act-clause-progress g c = let same : c.from_residual.result ≡ Err c.in_err-act.field-0.0 = search rules in λ p start s w h.
    let turn : turn_of (node_of p.past) c.args.sid ≡ Some c.in-Some.node = sym (c.turn.ensures p.past s.node) ∙ c.in-Some.is in
    turn_failed start (record { written = g.O.Sink.written c.act.new.out; sent = g.L.Link.sent c.act.new.link }) c.act.new.self (g.R.Fresh.random c.act.new.fresh) c.args.sid p c.in-Some.node c.from_residual.result c.in_err-act.field-0.0 turn same
    (c.in_err-act.ensures.progress p start s w h)

pub returns-then-branch-clause-progress : goal.returns-then-branch-clause-progress
returns-then-branch-clause-progress g c = λ p start s w h.
    let turn : turn_of (node_of p.past) c.args.sid ≡ Some c.in-Some.node = sym (c.turn.ensures p.past s.node) ∙ c.in-Some.is in
    turn_sent start (record { written = g.O.Sink.written c.act.new.out; sent = g.L.Link.sent c.act.new.link }) c.act.new.self (g.R.Fresh.random c.act.new.fresh) c.args.sid p c.in-Some.node c.in_ok-act.field-0 turn c.if-branch.true
    (c.in_ok-act.ensures.progress p start s w h)

pub returns-clause-progress : goal.returns-clause-progress
returns-clause-progress g c = λ p start s w h.
    let turn : turn_of (node_of p.past) c.args.sid ≡ Some c.in-Some.node = sym (c.turn.ensures p.past s.node) ∙ c.in-Some.is in
    let after = (acted c.args.sid c.in-Some.node p).0 in
    let now = outside_of g.L.Link g.O.Sink c.give-given.new.link c.give-given.new.out in
    let left = g.R.Fresh.random c.act.new.fresh in
    let came = c.in_ok-act.ensures.progress p start s w h in
    turn_left start now c.give-given.new.self left c.args.sid p c.in-Some.node c.give-given.result turn (sym came.1 ∙ c.if-branch.false)
    (with_random start now c.give-given.new.self left (abandons c.args.sid after) c.give-given.result came.0.1
    (c.give-given.ensures.progress after (Abandon c.args.sid) start (c.ask_abandon-outcome.ensures.asked after came.0.0.0) refl came.0.0.1))

pub returns-in_default-clause-joins : goal.returns-in_default-clause-joins
returns-in_default-clause-joins g c = keeps_same c.args.self.now.node c.args.self.now.node refl

pub returns-then-branch-clause-joins : goal.returns-then-branch-clause-joins
returns-then-branch-clause-joins g c = c.in_ok-act.ensures.joins

pub returns-clause-joins : goal.returns-clause-joins
returns-clause-joins g c =
    let old = c.args.self.now.node in
    let acted = c.act.new.self.node in
    let left = c.ask_abandon-outcome.new.self.node in
    let new = c.give-given.new.self.node in
    mapped c.give-given.result (new ≡ left) (KeepsJoins old new) (λ e. keeps_then old acted new c.in_ok-act.ensures.joins (keeps_then acted left new c.ask_abandon-outcome.ensures.joins (keeps_same left new e))) c.give-given.ensures.node

pub returns-in_default-clause-kept : goal.returns-in_default-clause-kept
returns-in_default-clause-kept g c = none_kept _

pub returns-in_err-act-clause-kept : goal.returns-in_err-act-clause-kept
returns-in_err-act-clause-kept g c = let same : c.from_residual.result ≡ Err c.in_err-act.field-0.0 = search rules in
    kept_passed same c.in_err-act.ensures.kept

pub returns-then-branch-clause-kept : goal.returns-then-branch-clause-kept
returns-then-branch-clause-kept g c = kept_on _ c.in_ok-act.ensures.kept

pub returns-clause-kept : goal.returns-clause-kept
returns-clause-kept g c = kept_then c.in_ok-act.ensures.kept c.give-given.ensures.kept

pub returns-clause-programs : goal.returns-clause-programs
returns-clause-programs g c = mapped c.give-given.result _ _ (λ h. h ∙ ap (λ (pl : Player). pl.programs.now) c.ask_abandon-outcome.ensures.rest ∙ c.in_ok-act.ensures.programs) c.give-given.ensures.programs
