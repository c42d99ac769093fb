use Rattle.std.proofs.Common.{◌≡◌, ◌+◌, ℕ, true, false, sym, ◌∙◌, ap, subst, arith}
use Rattle.std.specs.Prelude.{Option}
use Rattle.sg_model.specs.Lists.{is_in}
use Rattle.sg_model.specs.Shape.{sender}
use Rattle.sg_protocol.specs.Graph.{reads, shape}
use Rattle.sg_know.specs.declared.bad.BadRead.{BadRead}
use Rattle.sg_know.specs.Parts.{IsBadOfVar, IsFirstBad}
use Rattle.sg_know.proofs.First.{IsBadBelow, IsFirstBad-same, more_roles, same_roles}
use Rattle.sg_know.proofs.bad.bad_read_of_var.Goals as goal
use Rattle.sg_know.proofs.bad.bad_read_of_var.Goals.{then-has+in_ok-found, else-has}

pub loop-number-preserved : goal.loop-number-preserved
loop-number-preserved c =
    let g = c.args.graph.now in
    let x = c.args.var in
    let n = c.loop-number.number in
    elim c.if-has.branch [
      | then-has+in_ok-found w ↦ more_roles g x n c.loop-number.first w.in_ok-found.found c.if-has.first (w.first-is ∙ w.earlier-first.ensures) c.loop-number.invariant w.in_ok-found.ensures
      | else-has w ↦
          (let away : (e : ℕ) → is_in x (reads g e) ≡ true → sender (shape g) e ≡ n → ⊥ = λ e read same.
          (let z : true ≡ false = sym (c.senders_of-senders.ensures e read).0 ∙ ap (λ (r : ℕ). is_in r c.senders_of-senders.result) same ∙ sym c.has.ensures ∙ w.if-has.false in absurd (cc)) in
          subst (λ (f : Option BadRead). IsFirstBad g (IsBadBelow g x (n + 1)) f) (sym w.first-is) (same_roles g x n c.loop-number.first away c.loop-number.invariant))
    ]

pub returns : goal.returns
returns c =
    let g = c.args.graph.now in
    let x = c.args.var in
    IsFirstBad-same g (IsBadBelow g x c.loop-number.number) (IsBadOfVar g x) c.loop-number.first (λ e y p. (p.0, p.1))
    (λ e y p. (let there = (c.senders_of-senders.ensures e (subst (λ (z : ℕ). is_in z (reads g e) ≡ true) p.1 p.0.1.is_read)).1 in (p.0, p.1, omega (arith, there))))
    c.loop-number.invariant
