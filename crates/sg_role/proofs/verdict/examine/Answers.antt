use Rattle.std.proofs.Common.{◌≡◌, false, nat_lt, length, None, Option, IfOk, IfErr, refl, sym, ap, subst, ◌∙◌}
use Rattle.sg_protocol.specs.Calls.{Refusal}
use Rattle.sg_protocol.specs.Session.{Took}
use Rattle.sg_protocol.specs.Representation.{held_after}
use Rattle.sg_role.specs.Faults.{Refuses}
use Rattle.sg_role.specs.Sending.{with_notes}
use Rattle.sg_role.specs.Model.{RoleState, state_of}
use Rattle.sg_role.proofs.NotedSame.{rows_before, notes_before}
use Rattle.sg_role.proofs.verdict.examine.Goals as goal

pub returns-else-is_memory-clause-refused : goal.returns-else-is_memory-clause-refused
returns-else-is_memory-clause-refused c = λ s b.
    subst (λ (o : Option Refusal). IfErr c.look-result.result (Refuses o))
    (rows_before c.args.keys.now (state_of c.as_ref.result.now) c.args.before.now (ap state_of c.as_ref.ensures ∙ c.before-2.view_is) c.look-result.ensures.is_program refl s b c.args.frame.now c.requires.spelled.is_frame)
    c.look-result.ensures.refused

pub returns-else-is_memory-clause-accepted : goal.returns-else-is_memory-clause-accepted
returns-else-is_memory-clause-accepted c = λ s b.
    subst (λ (o : Option Refusal). IfOk c.look-result.result (λ a. o ≡ None))
    (rows_before c.args.keys.now (state_of c.as_ref.result.now) c.args.before.now (ap state_of c.as_ref.ensures ∙ c.before-2.view_is) c.look-result.ensures.is_program refl s b c.args.frame.now c.requires.spelled.is_frame)
    c.look-result.ensures.accepted

pub returns-else-is_memory-clause-notes : goal.returns-else-is_memory-clause-notes
returns-else-is_memory-clause-notes c = λ s b n.
    c.look-result.ensures.noted n
    ∙ ap (with_notes c.args.notes.now)
    (notes_before c.args.keys.now (state_of c.as_ref.result.now) c.args.before.now (ap state_of c.as_ref.ensures ∙ c.before-2.view_is) c.look-result.ensures.is_program refl s b c.args.frame.now c.requires.spelled.is_frame)

pub returns-else-is_memory-clause-after : goal.returns-else-is_memory-clause-after
returns-else-is_memory-clause-after c =
    let e : state_of c.as_ref.result.now ≡ c.args.before.now = ap state_of c.as_ref.ensures ∙ c.before-2.view_is in
    subst (λ (z : RoleState). IfOk c.look-result.result (λ a. a.after ≡ held_after z.program.graph z.held (Took c.args.frame.now))) e c.look-result.ensures.after

pub returns-then-is_memory-clause-early : goal.returns-then-is_memory-clause-early
returns-then-is_memory-clause-early c = λ n.
    let e : state_of c.as_ref.result.now ≡ c.args.before.now = ap state_of c.as_ref.ensures ∙ c.before-2.view_is in
    c.look-result.ensures.early (subst (λ (z : RoleState). nat_lt c.args.frame.now.sender (length z.held.cast.names) ≡ false) (sym e) n)

pub returns-else-is_memory-clause-early : goal.returns-else-is_memory-clause-early
returns-else-is_memory-clause-early c = λ n.
    let e : state_of c.as_ref.result.now ≡ c.args.before.now = ap state_of c.as_ref.ensures ∙ c.before-2.view_is in
    c.look-result.ensures.early (subst (λ (z : RoleState). nat_lt c.args.frame.now.sender (length z.held.cast.names) ≡ false) (sym e) n)
