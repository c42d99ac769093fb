use Rattle.std.proofs.Common.{◌∙◌, ◌<◌, ◌≤◌, arith, Option, Some, None, length, ap, sym, subst, ℕ, IfSome, position, bytes_eq}
use Rattle.sg_sched_text.proofs.SessionLaws.{names_are, count}
use Rattle.sg_sched_text.proofs.sessions.Sessions.index.Goals as goal

pub returns-clause-index : goal.returns-clause-index
returns-clause-index c = rw (← c.self.view_is) (c.index.ensures.index ∙ ap (position (bytes_eq c.args.name.now)) (sym (names_are c.self.inside.names c.self.inside.likes.keys c.self.invariant.0)))

pub returns-clause-within : goal.returns-clause-within
returns-clause-within c =
    rw (← c.self.view_is) (subst (λ (n : ℕ). IfSome c.index.result (λ i. i < n)) (sym (count c.self.inside.names c.self.inside.likes.keys c.self.invariant.0)) c.index.ensures.within)

within_few : (o : Option ℕ) (n : ℕ) → n ≤ 100000 → IfSome o (λ i. i < n) → IfSome o (λ i. i < 100000)
within_few None n h w = tt
within_few (Some i) n h w = omega (arith, h, w)

pub returns-clause-few : goal.returns-clause-few
returns-clause-few c = within_few c.index.result (length c.self.inside.names) c.self.invariant.1 c.index.ensures.within
