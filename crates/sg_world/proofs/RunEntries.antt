-- The entries of a run's log, each beside its step.
use Rattle.std.specs.Prelude.{◌≡◌, ℕ, ◌+◌, ⊤, true, List, [], ◌∷◌, ◌++◌, refl, Option, Some, None, option_map}
use Rattle.std.specs.List.{list_all, AllZip}
use Rattle.std.specs.Option.{option_map_or}
use Rattle.std.proofs.Common.{sym, ◌∙◌, ap, subst, append_assoc, append-nil}
use Rattle.std.proofs.lemmas.Bool.{and_parts}
use Rattle.sg_model.specs.Names.{Name}
use Rattle.sg_protocol.specs.Calls.{Call}
use Rattle.sg_protocol.specs.Keyring.{Program}
use Rattle.sg_protocol.specs.Past.{Past}
use Rattle.sg_protocol.specs.Run.{called_if, world_after, world_after_all, run}
use Rattle.sg_protocol.specs.Schedule.{Schedule, Step, StartStep, ActStep, AbandonStep, DeliverStep, CraftStep, who_of, is_honest}
use Rattle.sg_protocol.specs.Steps.{is_taken}
use Rattle.sg_protocol.specs.Texts.{real}
use Rattle.sg_protocol.specs.World.{World, Logged, Outcome, Answered, past_of, new_world, call_of}
use Rattle.sg_protocol.proofs.Progressing.{past_called, next_past}
use Rattle.sg_protocol.proofs.Steps.{begins}

-- nothing was answered
abbrev pub IsSilent : Outcome → Type 0
IsSilent (Answered a) = ⊥
IsSilent other = ⊤

-- the entry is the step's: it has its principal and its call, and an answer only to a call
pub record EntryOf (s : Schedule) (x : Step) (l : Logged) : Type 0 where
  pub who : l.who ≡ who_of x
  pub world : World
  pub number : ℕ
  pub call : l.call ≡ call_of real s world number x
  pub silent : l.call ≡ None → IsSilent l.outcome

-- each honest principal has a past
abbrev Peopled : Schedule → World → Type 0
Peopled s w = (who : Name) → is_honest s who ≡ true → (p : Past) × (past_of w who ≡ Some p)

record OneMore (s : Schedule) (w now : World) (x : Step) : Type 0 where
  entry : Logged
  is_of : EntryOf s x entry
  log : now.log ≡ w.log ++ entry ∷ []
  peopled : Peopled s now

record AllMore (s : Schedule) (log now : List Logged) (xs : List Step) : Type 0 where
  entries : List Logged
  are : AllZip (EntryOf s) xs entries
  parts : now ≡ log ++ entries

module _ (s : Schedule) where
  one_call : (w : World) (k : ℕ) (x : Step) (who : Name) (o : Option Call) (p : Past) → Peopled s w → who_of x ≡ Some who → call_of real s w k x ≡ o → OneMore s w (called_if real w k who o p) x
  one_call w k x who None p h n e = record { entry = _; is_of = record { who = sym n; world = w; number = k; call = sym e; silent = λ q. tt }; log = refl; peopled = h }
  one_call w k x who (Some c) p h n e = record {
    entry = _;
    is_of = record { who = sym n; world = w; number = k; call = sym e; silent = λ q. absurd (cc) };
    log = refl;
    peopled = λ me q. (next_past real who c (h me q).0, past_called real w k who c p me ∙ ap (option_map (next_past real who c)) (h me q).1);
  }

  one_who : (w : World) (k : ℕ) (x : Step) (who : Name) → Peopled s w → is_honest s who ≡ true → who_of x ≡ Some who → OneMore s w (option_map_or (called_if real w k who (call_of real s w k x)) (past_of w who) w) x
  one_who w k x who h e n = subst (λ z. OneMore s w (option_map_or (called_if real w k who (call_of real s w k x)) z w) x) (sym (h who e).1) (one_call w k x who (call_of real s w k x) (h who e).0 h n refl)

  one_step : (w : World) (k : ℕ) (x : Step) → Peopled s w → is_taken s x ≡ true → OneMore s w (world_after real s w k x) x
  one_step w k (CraftStep c) h e = record { entry = _; is_of = record { who = refl; world = w; number = k; call = refl; silent = λ q. tt }; log = refl; peopled = h }
  one_step w k (StartStep who n) h e = one_who w k (StartStep who n) who h e refl
  one_step w k (ActStep who n label values) h e = one_who w k (ActStep who n label values) who h e refl
  one_step w k (AbandonStep who n) h e = one_who w k (AbandonStep who n) who h e refl
  one_step w k (DeliverStep who what) h e = one_who w k (DeliverStep who what) who h e refl

  all_steps : (w : World) (k : ℕ) (xs : List Step) → Peopled s w → list_all (is_taken s) xs ≡ true → AllMore s w.log (world_after_all real s w k xs).log xs
  all_steps w k [] h e = record { entries = []; are = tt; parts = sym (append-nil w.log) }
  all_steps w k (x ∷ xs) h e =
      let a = and_parts (is_taken s x) (list_all (is_taken s) xs) e in
      let o : OneMore s w (world_after real s w k x) x = one_step w k x h a.0 in
      let r : AllMore s (world_after real s w k x).log (world_after_all real s (world_after real s w k x) (k + 1) xs).log xs = all_steps (world_after real s w k x) (k + 1) xs o.peopled a.1 in
      record {
        entries = o.entry ∷ r.entries;
        are = (o.is_of, r.are);
        parts = r.parts ∙ ap (λ (l : List Logged). l ++ r.entries) o.log ∙ append_assoc w.log (o.entry ∷ []) r.entries;
      }

-- if each step is a craft or an honest principal's, each has its entry
pub entries_of_steps : (programs : List Program) (s : Schedule) → list_all (is_taken s) s.steps ≡ true → AllZip (EntryOf s) s.steps (run real programs s).log
entries_of_steps programs s e =
    let r : AllMore s [] (run real programs s).log s.steps = all_steps s (new_world programs s) 1 s.steps (begins s.keys programs s.honest) e in
    subst (λ (l : List Logged). AllZip (EntryOf s) s.steps l) (sym r.parts) r.are
