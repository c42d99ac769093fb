-- What the entries have learnt doesn't change as steps are added.
use Rattle.std.proofs.Common.{◌≡◌, ℕ, ◌+◌, ◌-◌, ◌≤◌, List, [], ◌∷◌, length, All, Option, Some, option_and_then, sym, ◌∙◌, ap, subst, arith}
use Rattle.std.specs.List.{AllByRecursion, AllZip}
use Rattle.std.proofs.Math.Seq.{take-append_seam}
use Rattle.std.proofs.lemmas.List.{take-append-le}
use Rattle.std.proofs.lemmas.List.Elements.{recursion_from_All}
use Rattle.sg_model.specs.Names.{Name}
use Rattle.sg_protocol.proofs.FirstSteps.{runs_go_on}
use Rattle.sg_protocol.specs.Beginnings.{first_steps}
use Rattle.sg_protocol.specs.Calls.{Call}
use Rattle.sg_protocol.specs.Keyring.{Program}
use Rattle.sg_protocol.specs.Past.{Past, node_of}
use Rattle.sg_protocol.specs.Run.{run}
use Rattle.sg_protocol.specs.Schedule.{Schedule, Step}
use Rattle.sg_protocol.specs.Steps.{with_step}
use Rattle.sg_protocol.specs.Texts.{real}
use Rattle.sg_protocol.specs.Named.{graph_of_call}
use Rattle.sg_protocol.specs.World.{Logged, World, past_of}
use Rattle.sg_node.specs.Answers.{graph_named}
use Rattle.sg_world.specs.Entries.{answer_in, past_before}
use Rattle.sg_world.specs.RecordModel.{IsLearnt, TakenStep}

-- the first steps of a schedule with one more are its own
first_same : (s : Schedule) (x : Step) (n : ℕ) → n ≤ length s.steps → first_steps n (with_step s x) ≡ first_steps n s
first_same s x n h = ap (λ (xs : List Step). record s { steps = xs }) (take-append-le n s.steps (x ∷ []) h)

all_before : (s : Schedule) (x : Step) → first_steps (length s.steps) (with_step s x) ≡ s
all_before s x = ap (λ (xs : List Step). record s { steps = xs }) (take-append_seam s.steps (x ∷ []))

-- the past of an entry before its step is the same
pasts_same : (programs : List Program) (s : Schedule) (x : Step) (log : List Logged) → AllByRecursion (λ (l : Logged). l.number ≤ length s.steps) log → AllByRecursion (λ (l : Logged). past_before programs (with_step s x) l ≡ past_before programs s l) log
pasts_same programs s x [] a = tt
pasts_same programs s x (l ∷ ls) a = (one, pasts_same programs s x ls a.1)
  where
    one : past_before programs (with_step s x) l ≡ past_before programs s l
    one = ap (λ (z : Schedule). option_and_then (past_of (run real programs z)) l.who) (first_same s x (l.number - 1) (let h = a.0 in omega (arith, h)))

-- the world is the run before the step of number k, and the pasts before its entries stay as they are
pub record IsBefore (programs : List Program) (s : Schedule) (w : World) (k : ℕ) (x : Step) : Type 0 where
  pub run_is : run real programs (first_steps (k - 1) (with_step s x)) ≡ w
  pub pasts : AllByRecursion (λ (l : Logged). past_before programs (with_step s x) l ≡ past_before programs s l) w.log

pub is_before : (programs : List Program) (s : Schedule) (k : ℕ) (x : Step) → k ≡ length s.steps + 1 → IsBefore programs s (run real programs s) k x
is_before programs s k x e = record {
  run_is = ap (λ (z : Schedule). run real programs z) (ap (λ (n : ℕ). first_steps n (with_step s x)) last ∙ all_before s x);
  pasts = pasts_same programs s x (run real programs s).log (recursion_from_All (λ (l : Logged). l.number ≤ length s.steps) (run real programs s).log early);
}
  where
    last : k - 1 ≡ length s.steps
    last = omega (arith, e)

    early : All (λ (l : Logged). l.number ≤ length s.steps) (run real programs s).log
    early = subst (λ (z : Schedule). All (λ (l : Logged). l.number ≤ length s.steps) (run real programs z).log) (all_before s x) (runs_go_on real programs (with_step s x) (length s.steps)).before

-- what the entries have learnt stays as it is
pub learnt_same : (programs : List Program) (s : Schedule) (x : Step) (es : List TakenStep) (ls : List Logged) → AllByRecursion (λ (l : Logged). past_before programs (with_step s x) l ≡ past_before programs s l) ls → AllZip (IsLearnt programs s) es ls
    → AllZip (IsLearnt programs (with_step s x)) es ls
learnt_same programs s x [] [] a h = tt
learnt_same programs s x [] (l ∷ ls) a h = absurd h
learnt_same programs s x (e ∷ es) [] a h = absurd h
learnt_same programs s x (e ∷ es) (l ∷ ls) a h = (
  record {
    graph = h.0.graph ∙ ap (λ (before : Option Past). option_and_then (λ a. graph_named a (option_and_then (λ (c : Call). option_and_then (λ (past : Past). graph_of_call real (node_of past) c) before) l.call)) (answer_in l.outcome)) (sym a.0);
    shown = λ past bs f is. h.0.shown past bs f (sym a.0 ∙ is);
    honest = h.0.honest;
  },
  learnt_same programs s x es ls a.1 h.1,
)

-- the graph of a call at a principal's node
pub graph_of_called : (programs : List Program) (s : Schedule) (w : World) (k : ℕ) (x : Step) (who : Name) (call : Call) (past : Past) → IsBefore programs s w k x → past_of w who ≡ Some past
    → option_and_then (λ (p : Past). graph_of_call real (node_of p) call) (past_of (run real programs (first_steps (k - 1) (with_step s x))) who) ≡ graph_of_call real (node_of past) call
graph_of_called programs s w k x who call past b is =
    ap (λ (z : World). option_and_then (λ (p : Past). graph_of_call real (node_of p) call) (past_of z who)) b.run_is
    ∙ ap (option_and_then (λ (p : Past). graph_of_call real (node_of p) call)) is
