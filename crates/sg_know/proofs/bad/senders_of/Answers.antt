use Rattle.std.proofs.Common.{◌≡◌, ◌<◌, ◌≤◌, ◌==◌, ◌+◌, ℕ, true, false, List, length, sym, ◌∙◌, ap, subst, inl, inr, arith}
use Rattle.std.proofs.lemmas.Bool.{cases_lt, eq-eqb, or_right, or_left}
use Rattle.sg_base.specs.Sets.{with_member}
use Rattle.sg_model.specs.Lists.{is_in}
use Rattle.sg_model.specs.Shape.{sender}
use Rattle.sg_protocol.specs.Graph.{Graph, reads, shape}
use Rattle.sg_graph.specs.declared.edge.Edge.{Edge}
use Rattle.sg_base.proofs.SetLaws.{is_in-with_member}
use Rattle.sg_know.proofs.bad.senders_of.Goals as goal
use Rattle.sg_know.proofs.bad.senders_of.Goals.{then-has, else-has}

-- the senders of the edges below n that read x are in the set
Holds : Graph → ℕ → ℕ → List ℕ → Type 0
Holds g x n set = (e : ℕ) → e < n → is_in x (reads g e) ≡ true → (is_in (sender (shape g) e) set ≡ true) × (sender (shape g) e < length g.roles)

with_sender : (g : Graph) (x n r : ℕ) (old new : List ℕ) → length g.roles ≤ 16 → r ≡ sender (shape g) n → r < length g.roles → new ≡ with_member 16 old r
    → ((e : ℕ) → e < n → is_in x (reads g e) ≡ true → (is_in (sender (shape g) e) old ≡ true) × (sender (shape g) e < length g.roles))
    → (e : ℕ) → e < n + 1 → is_in x (reads g e) ≡ true → (is_in (sender (shape g) e) new ≡ true) × (sender (shape g) e < length g.roles)
with_sender g x n r old new few is there more before e l i =
    elim (cases_lt e n) [
      | inl w ↦
          (let h = before e w i in
          (ap (is_in (sender (shape g) e)) more ∙ is_in-with_member 16 (sender (shape g) e) r old (omega (arith, h.1)) ∙ or_right (sender (shape g) e == r) (is_in (sender (shape g) e) old) h.0, h.1))
      | inr w ↦
          (let last : n ≡ e = omega arith in
          let same : sender (shape g) e ≡ r = sym (is ∙ ap (sender (shape g)) last) in
          let within : sender (shape g) e < length g.roles = rw same there in
          (ap (is_in (sender (shape g) e)) more ∙ is_in-with_member 16 (sender (shape g) e) r old (omega (arith, within)) ∙ or_left (sender (shape g) e == r) (is_in (sender (shape g) e) old) (eq-eqb (sender (shape g) e) r same), within))
    ]

without_sender : (g : Graph) (x n : ℕ) (set : List ℕ) → is_in x (reads g n) ≡ false
    → ((e : ℕ) → e < n → is_in x (reads g e) ≡ true → (is_in (sender (shape g) e) set ≡ true) × (sender (shape g) e < length g.roles))
    → (e : ℕ) → e < n + 1 → is_in x (reads g e) ≡ true → (is_in (sender (shape g) e) set ≡ true) × (sender (shape g) e < length g.roles)
without_sender g x n set free before e l i =
    elim (cases_lt e n) [
      | inl w ↦ before e w i
      | inr w ↦ (let last : n ≡ e = omega arith in let z : false ≡ true = sym free ∙ ap (λ (k : ℕ). is_in x (reads g k)) last ∙ i in absurd (cc))
    ]

pub loop-number-preserved : goal.loop-number-preserved
loop-number-preserved c =
    let g = c.args.graph.now in
    let x = c.args.var in
    let n = c.loop-number.number in
    let read : c.has.result ≡ is_in x (reads g n) = c.has.ensures ∙ ap (λ (e : Edge). is_in x e.reads) c.edge.ensures.edge in
    elim c.if-has.branch [
      | then-has w ↦ with_sender g x n w.sender.result c.loop-number.senders c.if-has.senders c.edges-number-end.ensures.graph.sizes.0 w.sender.ensures.role w.sender.ensures.there (w.senders-is ∙ w.with-senders.ensures) c.loop-number.invariant
      | else-has w ↦ without_sender g x n c.if-has.senders (sym read ∙ w.if-has.false)
          (subst (λ (s : List ℕ). (e : ℕ) → e < n → is_in x (reads g e) ≡ true → (is_in (sender (shape g) e) s ≡ true) × (sender (shape g) e < length g.roles)) (sym w.senders-is) c.loop-number.invariant)
    ]
