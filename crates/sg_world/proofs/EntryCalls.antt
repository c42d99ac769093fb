-- The call of each entry of a log is that of its step, in the world of the entries before it.
use Rattle.std.proofs.Common.{◌≡◌, ℕ, suc, ◌+◌, true, List, [], ◌∷◌, ◌++◌, length, refl, sym, ◌∙◌, ap, subst, arith, append_assoc, append-nil}
use Rattle.std.specs.Prelude.{Option, Some, None, filter_map, option_map, slice_get}
use Rattle.std.specs.List.{list_all}
use Rattle.std.specs.Option.{option_map_or}
use Rattle.std.proofs.lemmas.Bool.{and_parts}
use Rattle.std.proofs.lemmas.List.Elements.{filter_map-append}
use Rattle.sg_model.specs.Names.{Name}
use Rattle.sg_protocol.specs.Calls.{Call}
use Rattle.sg_protocol.specs.Keyring.{Program}
use Rattle.sg_protocol.specs.Past.{Past}
use Rattle.sg_protocol.specs.Run.{run, events_of_outcome, called_if, world_after, world_after_all}
use Rattle.sg_protocol.specs.Schedule.{Schedule, Step, is_honest, StartStep, ActStep, AbandonStep, DeliverStep, CraftStep}
use Rattle.sg_protocol.specs.Steps.{is_taken}
use Rattle.sg_protocol.specs.Texts.{real}
use Rattle.sg_protocol.specs.World.{World, Logged, past_of, new_world, call_of, frames}
use Rattle.sg_protocol.proofs.Progressing.{past_called, next_past}
use Rattle.sg_protocol.proofs.Steps.{steps_add_entries, begins}

-- each honest principal has a past
abbrev Peopled : Schedule → World → Type 0
Peopled s w = (who : Name) → is_honest s who ≡ true → (p : Past) × (past_of w who ≡ Some p)

-- step k adds an entry with its call
record OneMore (s : Schedule) (w now : World) (o : Option Call) : Type 0 where
  entry : Logged
  call : entry.call ≡ o
  silent : o ≡ None → events_of_outcome entry.outcome ≡ []
  log : now.log ≡ w.log ++ entry ∷ []
  peopled : Peopled s now

module _ (s : Schedule) where
  one_call : (w : World) (k : ℕ) (who : Name) (o : Option Call) (p : Past) → Peopled s w → OneMore s w (called_if real w k who o p) o
  one_call w k who None p h = record { entry = _; call = refl; silent = λ e. refl; log = refl; peopled = h }
  one_call w k who (Some c) p h = record {
    entry = _;
    call = refl;
    silent = λ e. absurd (cc);
    log = refl;
    peopled = λ me e. (next_past real who c (h me e).0, past_called real w k who c p me ∙ ap (option_map (next_past real who c)) (h me e).1);
  }

  one_who : (w : World) (k : ℕ) (who : Name) (o : Option Call) → Peopled s w → is_honest s who ≡ true → OneMore s w (option_map_or (called_if real w k who o) (past_of w who) w) o
  one_who w k who o h e = subst (λ z. OneMore s w (option_map_or (called_if real w k who o) z w) o) (sym (h who e).1) (one_call w k who o (h who e).0 h)

  one_step : (w : World) (k : ℕ) (x : Step) → Peopled s w → is_taken s x ≡ true → OneMore s w (world_after real s w k x) (call_of real s w k x)
  one_step w k (CraftStep c) h e = record { entry = _; call = refl; silent = λ e. refl; log = refl; peopled = h }
  one_step w k (StartStep who n) h e = one_who w k who (call_of real s w k (StartStep who n)) h e
  one_step w k (ActStep who n label values) h e = one_who w k who (call_of real s w k (ActStep who n label values)) h e
  one_step w k (AbandonStep who n) h e = one_who w k who (call_of real s w k (AbandonStep who n)) h e
  one_step w k (DeliverStep who what) h e = one_who w k who (call_of real s w k (DeliverStep who what)) h e

  -- the log of a later world begins with that of the world
  extends : (w : World) (k : ℕ) (xs : List Step) → (rest : List Logged) × ((world_after_all real s w k xs).log ≡ w.log ++ rest)
  extends w k [] = ([], sym (append-nil w.log))
  extends w k (x ∷ xs) =
      let a = steps_add_entries real s w k x in
      let r = extends (world_after real s w k x) (k + 1) xs in
      (a.entries ++ r.0, r.1 ∙ ap (λ ls. ls ++ r.0) a.log ∙ append_assoc w.log a.entries r.0)

  cancelled : (xs ys zs : List Logged) → xs ++ ys ≡ xs ++ zs → ys ≡ zs
  cancelled [] ys zs e = e
  cancelled (x ∷ xs) ys zs e = cancelled xs ys zs (let both : x ∷ (xs ++ ys) ≡ x ∷ (xs ++ zs) = e in cc)

  -- the world before an entry, in which its step made its call
  record Before (w : World) (k : ℕ) (x : Step) (before : List Logged) (l : Logged) : Type 0 where
    world : World
    log : world.log ≡ w.log ++ before
    call : l.call ≡ call_of real s world (k + length before) x
    silent : l.call ≡ None → events_of_outcome l.outcome ≡ []

  found_from : (w : World) (k : ℕ) (xs : List Step) (before : List Logged) (l : Logged) (after : List Logged) (x : Step) → Peopled s w → list_all (is_taken s) xs ≡ true → (world_after_all real s w k xs).log ≡ w.log ++ (before ++ l ∷ after)
      → slice_get xs (length before) ≡ Some x → Before w k x before l
  found_from w k [] [] l after x h t e at = absurd (cc)
  found_from w k [] (b ∷ bs) l after x h t e at = absurd (cc)
  found_from w k (y ∷ ys) [] l after x h t e at =
      let o = one_step w k y h (and_parts (is_taken s y) (list_all (is_taken s) ys) t).0 in
      let r = extends (world_after real s w k y) (k + 1) ys in
      let both : o.entry ∷ r.0 ≡ l ∷ after = cancelled w.log (o.entry ∷ r.0) (l ∷ after) (sym (append_assoc w.log (o.entry ∷ []) r.0) ∙ ap (λ ls. ls ++ r.0) (sym o.log) ∙ sym r.1 ∙ e) in
      let is : o.entry ≡ l = cc in
      let same : y ≡ x = cc in
      record {
        world = w;
        log = sym (append-nil w.log);
        call = ap (λ (z : Logged). z.call) (sym is) ∙ o.call ∙ ap (call_of real s w k) same ∙ ap (λ n. call_of real s w n x) (let q : k ≡ k + 0 = omega arith in q);
        silent = λ none. ap (λ (z : Logged). events_of_outcome z.outcome) (sym is) ∙ o.silent (sym o.call ∙ ap (λ (z : Logged). z.call) is ∙ none);
      }
  found_from w k (y ∷ ys) (b ∷ bs) l after x h t e at =
      let ts = and_parts (is_taken s y) (list_all (is_taken s) ys) t in
      let o = one_step w k y h ts.0 in
      let r = extends (world_after real s w k y) (k + 1) ys in
      let both : o.entry ∷ r.0 ≡ b ∷ (bs ++ l ∷ after) = cancelled w.log (o.entry ∷ r.0) (b ∷ (bs ++ l ∷ after)) (sym (append_assoc w.log (o.entry ∷ []) r.0) ∙ ap (λ ls. ls ++ r.0) (sym o.log) ∙ sym r.1 ∙ e) in
      let is : o.entry ≡ b = cc in
      let log : (world_after real s w k y).log ≡ w.log ++ b ∷ [] = o.log ∙ ap (λ z. w.log ++ z ∷ []) is in
      let q = found_from (world_after real s w k y) (k + 1) ys bs l after x o.peopled ts.1 (e ∙ sym (append_assoc w.log (b ∷ []) (bs ++ l ∷ after)) ∙ ap (λ ls. ls ++ (bs ++ l ∷ after)) (sym log)) at in
      record {
        world = q.world;
        log = q.log ∙ ap (λ ls. ls ++ bs) log ∙ append_assoc w.log (b ∷ []) bs;
        call = q.call ∙ ap (λ n. call_of real s q.world n x) (let j : (k + 1) + length bs ≡ k + suc (length bs) = omega arith in j);
        silent = q.silent;
      }

-- the world in which an entry's step was taken: its log are the entries before, and the frames recorded so far are the first ones of the run
pub record WorldBefore (programs : List Program) (s : Schedule) (before : List Logged) (l : Logged) (x : Step) : Type 0 where
  pub world : World
  pub call : l.call ≡ call_of real s world (suc (length before)) x
  pub silent : l.call ≡ None → events_of_outcome l.outcome ≡ []
  pub later : List (List ℕ)
  pub frames : frames (run real programs s) ≡ frames world ++ later

pub entry_call : (programs : List Program) (s : Schedule) (before : List Logged) (l : Logged) (after : List Logged) (x : Step) → list_all (is_taken s) s.steps ≡ true → (run real programs s).log ≡ before ++ l ∷ after
    → slice_get s.steps (length before) ≡ Some x → WorldBefore programs s before l x
entry_call programs s before l after x taken parts at =
    let q = found_from s (new_world programs s) 1 s.steps before l after x (begins s.keys programs s.honest) taken parts at in
    record {
      world = q.world;
      call = q.call ∙ ap (λ n. call_of real s q.world n x) (let j : 1 + length before ≡ suc (length before) = omega arith in j);
      silent = q.silent;
      later = filter_map (λ (z : Logged). z.frame) (l ∷ after);
      frames = ap (filter_map (λ (z : Logged). z.frame)) parts ∙ filter_map-append (λ (z : Logged). z.frame) before (l ∷ after) ∙ ap (λ (ls : List Logged). filter_map (λ (z : Logged). z.frame) ls ++ filter_map (λ (z : Logged). z.frame) (l ∷ after)) (sym q.log);
    }
