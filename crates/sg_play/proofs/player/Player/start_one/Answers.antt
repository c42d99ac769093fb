use Rattle.std.proofs.Common.{◌∙◌, ap, refl, subst}
use Rattle.sg_protocol.specs.Calls.{Start}
use Rattle.sg_play.specs.Around.{outside_of}
use Rattle.sg_play.specs.Played.{Play, cast_of_start, starts, without}
use Rattle.sg_play.specs.Representation.{Progressed}
use Rattle.sg_play.proofs.Coming.{no_memory_by}
use Rattle.sg_play.proofs.Counting.{memory_kept}
use Rattle.sg_play.proofs.Extends.{by_start}
use Rattle.sg_play.proofs.Reporting.{asked_by}
use Rattle.sg_play.proofs.Results.{mapped}
use Rattle.sg_play.specs.declared.player.Player.{Player}
use Rattle.sg_play.proofs.Running.{start_is, without_some}
use Rattle.sg_play.proofs.player.Player.start_one.Goals as goal

pub returns-in-Err-clause-progress : goal.returns-in-Err-clause-progress
returns-in-Err-clause-progress g c = λ p start s w h.
    no_memory_by start (outside_of g.L.Link g.O.Sink c.args.link.now c.args.out.now) p (starts p c.args.start_of.now) c.in-Err.fault c.in-Err.ensures.memory (by_start p c.args.start_of.now) h

pub returns-in-Ok-clause-progress : goal.returns-in-Ok-clause-progress
returns-in-Ok-clause-progress g c = λ p start s w h.
    let old = c.args.self.now in
    let q = without 1 p in
    let cast = cast_of_start old.programs.now c.args.start_of.now c.next-nonce.result in
    let represents = without_some 1 old p s in
    let asked = asked_by old c.ask_start.new.self q (Start cast) c.in-Ok.outcome represents c.in-Ok.ensures.rest (λ number. c.in-Ok.ensures.is_asked number q.past represents.node) in
    subst (λ (z : Play). Progressed start (outside_of g.L.Link g.O.Sink c.go_on-ended.new.link c.go_on-ended.new.out) c.go_on-ended.new.self (g.R.Fresh.random c.go_on-ended.new.fresh) z c.go_on-ended.result)
    (start_is p c.args.start_of.now old.programs.now c.next-nonce.result cast s.programs (c.next-nonce.ensures.drawn p.random w) refl)
    (c.go_on-ended.ensures.progress q (Start cast) start asked refl (c.next-nonce.ensures.taken p.random w) h)

pub returns-in-Err-clause-kept : goal.returns-in-Err-clause-kept
returns-in-Err-clause-kept g c = memory_kept refl c.in-Err.ensures.memory

pub returns-in-Ok-clause-kept : goal.returns-in-Ok-clause-kept
returns-in-Ok-clause-kept g c = c.go_on-ended.ensures.kept

pub returns-in-Ok-clause-programs : goal.returns-in-Ok-clause-programs
returns-in-Ok-clause-programs g c = mapped c.go_on-ended.result _ _ (λ h. h ∙ ap (λ (pl : Player). pl.programs.now) c.in-Ok.ensures.rest) c.go_on-ended.ensures.programs
