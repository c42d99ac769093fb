-- The run of the first calls apart is the beginning of the run.
use Rattle.std.specs.Prelude.{◌≡◌, ℕ, suc, ◌+◌, ◌≤◌, List, [], ◌∷◌, ◌++◌, length, take, refl, Option, Some, None}
use Rattle.std.specs.Option.{option_map_or}
use Rattle.std.proofs.Common.{◌∙◌, ap, inl, inr, arith}
use Rattle.sg_model.specs.Last.{last}
use Rattle.sg_protocol.specs.Texts.{Hash}
use Rattle.sg_protocol.specs.Past.{Past}
use Rattle.sg_protocol.specs.Schedule.{Schedule}
use Rattle.sg_protocol.specs.World.{World, Logged, past_of}
use Rattle.sg_protocol.specs.Run.{called}
use Rattle.sg_protocol.specs.Premises.{Premises}
use Rattle.sg_protocol.proofs.FirstSteps.{OneMore, begins_so, last_so, numbers_below, premises_earlier}
use Rattle.sg_protocol.proofs.Progressing.{Suffix}
use Rattle.sg_apart.specs.Apart.{CallAt, world_called, world_after_calls, run_apart}
use Rattle.sg_apart.proofs.Whole.{suffix_calls}
use Rattle.sg_model.proofs.Small.{take_most}
use Rattle.sg_model.proofs.Members.{In}

module _ (sha : Hash) where
  one_past : (w : World) (k : ℕ) (c : CallAt) (o : Option Past) → OneMore k w.log (option_map_or (called sha w k c.who c.call) o w).log
  one_past w k c None = inl refl
  one_past w k c (Some past) = inr (_, refl, refl)

  one_more : (w : World) (k : ℕ) (c : CallAt) → OneMore k w.log (world_called sha w k c).log
  one_more w k c = one_past w k c (past_of w c.who)

module _ (sha : Hash) (ps : List Past) (calls : List CallAt) (n : ℕ) where
  abbrev wf : World
  wf = run_apart sha ps calls

  abbrev wb : World
  wb = run_apart sha ps (take n calls)

  goes_on : Suffix (1 + n) (run_apart sha ps (take n calls)).log (run_apart sha ps calls).log
  goes_on = begins_so (world_called sha) (world_after_calls sha) (λ w k. refl) (λ w k x xs. refl) (one_more sha) (suffix_calls sha) n calls (record { pasts = ps; log = [] }) 1

  up_to : (l : Logged) → In (run_apart sha ps (take n calls)).log l → l.number ≤ n
  up_to l i =
      let h = numbers_below (world_called sha) (world_after_calls sha) (λ w k. refl) (λ w k x xs. refl) (one_more sha) (suffix_calls sha) (take n calls) (record { pasts = ps; log = [] }) 1 (λ l i. absurd i) l i in
      let k = take_most n calls in
      omega (arith, h, k)

  pub premises_before : (s : Schedule) → Premises sha s (run_apart sha ps calls) → Premises sha s (run_apart sha ps (take n calls))
  premises_before s = premises_earlier sha s (1 + n) wb wf goes_on (λ l i. let h = up_to l i in omega (arith, h))

-- a call that accepts is the last one of the run up to it
pub is_last : (sha : Hash) (ps : List Past) (calls : List CallAt) (l : Logged) → In (run_apart sha ps calls).log l → last (run_apart sha ps (take l.number calls)).log ≡ Some l
is_last sha ps calls l i = elim (last_so (world_called sha) (world_after_calls sha) (λ w k. refl) (λ w k x xs. refl) (one_more sha) (suffix_calls sha) calls (record { pasts = ps; log = [] }) 1 l i) [
  | inl j ↦ absurd j
  | inr h ↦ (let n : l.number ≡ suc h.0 = (let e = h.1 in omega (arith, e)) in ap (λ k. last (run_apart sha ps (take k calls)).log) n ∙ h.2)
]

-- one more call
pub one_later : (sha : Hash) (w : World) (k : ℕ) (cs : List CallAt) (c : CallAt) → world_after_calls sha w k (cs ++ c ∷ []) ≡ world_called sha (world_after_calls sha w k cs) (k + length cs) c
one_later sha w k [] c = ap (λ n. world_called sha w n c) (let e : k ≡ k + 0 = omega arith in e)
one_later sha w k (d ∷ cs) c = one_later sha (world_called sha w k d) (k + 1) cs c ∙ ap (λ n. world_called sha (world_after_calls sha (world_called sha w k d) (k + 1) cs) n c) (let e : k + 1 + length cs ≡ k + suc (length cs) = omega arith in e)
