-- What the run without restarts abandons besides is what restarts drop.
use Rattle.std.specs.Prelude.{◌≡◌, ℕ, ◌+◌, ◌⊎◌, List, [], ◌∷◌, ◌++◌, map, length, refl, Option, Some, None, option_map, slice_get, All}
use Rattle.std.specs.List.{AllByRecursion}
use Rattle.std.specs.Option.{option_map_or}
use Rattle.std.proofs.Common.{sym, ◌∙◌, ap, subst, inl, inr, arith, append_assoc}
use Rattle.sg_model.specs.Last.{last}
use Rattle.sg_model.specs.Names.{Name}
use Rattle.sg_model.proofs.Small.{length-more, length_map, some_same, at_length}
use Rattle.sg_model.proofs.Members.{In, in_from_Contains, contains_from_in, in_left, in_right, in_parts, in_map}
use Rattle.std.proofs.lemmas.List.{length-append}
use Rattle.sg_protocol.specs.Texts.{Hash, IsHash, session_id}
use Rattle.sg_protocol.specs.Keyring.{Program}
use Rattle.sg_protocol.specs.Session.{Session}
use Rattle.sg_protocol.specs.Calls.{Call, Abandon, Abandoned}
use Rattle.sg_protocol.specs.Past.{Past}
use Rattle.sg_protocol.specs.Schedule.{Schedule, NamedSession, Step, StartStep, ActStep, AbandonStep, DeliverStep, CraftStep, sid_at}
use Rattle.sg_protocol.specs.World.{Logged, World, past_of, new_world, call_of}
use Rattle.sg_protocol.specs.Run.{called_if, world_after, world_after_all, run}
use Rattle.sg_protocol.specs.Beginnings.{first_steps}
use Rattle.sg_protocol.specs.Restarts.{StepOrRestart, Stepped, Restarted, live_of, world_restarted, world_over_restarts, run_with_restarts, IsStepOrRestart, moved_step, declared, dropped, abandon_steps, plain_steps, without_restarts}
use Rattle.sg_protocol.proofs.Progressing.{suffix_step, in_after}
use Rattle.sg_protocol.proofs.FirstSteps.{is_last}
use Rattle.sg_protocol.proofs.Lives.{anew_if}
use Rattle.sg_protocol.proofs.Restarts.{Same, plain, same_runs}
use Rattle.sg_protocol.proofs.OverRestarts.{is_in_more}
use Rattle.sg_protocol.specs.IsSchedule.{AreCompiled, IsSchedule}
use Rattle.sg_protocol.specs.Completeness.{HadAnswer}
use Rattle.sg_restarts.specs.Dropped.{drops, WasDropped}
use Rattle.sg_restarts.proofs.Owns.{names, found_there, names_restarted, names_after, HasOwnSid, PastHasOwn, own_map, own_anew, own_step, own_new, own_live}

module _ (sha : Hash) where
  -- ---- a step in both runs

  -- a step that is a principal's adds an entry with its number
  ends : (w : World) (k : ℕ) (who : Name) (c : Option Call) (p : Past) → (n : Logged) × ((called_if sha w k who c p).log ≡ w.log ++ n ∷ []) × (n.number ≡ k)
  ends w k who None p = (_, refl, refl)
  ends w k who (Some c) p = (_, refl, refl)

  -- the first log has an entry with this number
  abbrev HasNumber : List Logged → ℕ → Type 0
  HasNumber log k = (n : Logged) × In log n × (n.number ≡ k)

  both_called : (w w' : World) (k : ℕ) (who : Name) (c c' : Option Call) → names w'.pasts ≡ names w.pasts → (l : Logged) → In (option_map_or (called_if sha w' k who c') (past_of w' who) w').log l
      → In w'.log l ⊎ HasNumber (option_map_or (called_if sha w k who c) (past_of w who) w).log l.number
  both_called w w' k who c c' e l i = go (past_of w' who) refl i
    where
      go : (o : Option Past) → past_of w' who ≡ o → In (option_map_or (called_if sha w' k who c') o w').log l → In w'.log l ⊎ HasNumber (option_map_or (called_if sha w k who c) (past_of w who) w).log l.number
      go None q i = inl i
      go (Some p') q i =
          let there : (p : Past) × (past_of w who ≡ Some p) = found_there who w'.pasts w.pasts e p' q in
          let one = ends w k who c there.0 in
          let other = ends w' k who c' p' in
          elim (in_parts w'.log (other.0 ∷ []) l (subst (λ z. In z l) other.1 i)) [
            | inl j ↦ inl j
            | inr j ↦ elim j [
              | inl m ↦ inr (one.0, subst (λ z. In (option_map_or (called_if sha w k who c) z w).log one.0) (sym there.1) (subst (λ z. In z one.0) (sym one.1) (in_right w.log (one.0 ∷ []) one.0 (inl refl))), one.2 ∙ sym (ap (λ (z : Logged). z.number) m ∙ other.2))
              | inr j ↦ absurd j
            ]
          ]

  module _ (s t : Schedule) where
    both_step : (m : ℕ) (w w' : World) (k : ℕ) (x : Step) → names w'.pasts ≡ names w.pasts → (l : Logged) → In (world_after sha t w' k (moved_step s.sessions m x)).log l → In w'.log l ⊎ HasNumber (world_after sha s w k x).log l.number
    both_step m w w' k (CraftStep c) e l i = elim (in_parts w'.log (_ ∷ []) l i) [
      | inl j ↦ inl j
      | inr j ↦ elim j [ inl q ↦ inr (_, in_right w.log (_ ∷ []) _ (inl refl), sym (ap (λ (z : Logged). z.number) q)) | inr j ↦ absurd j ]
    ]
    both_step m w w' k (StartStep who n) e l i = both_called w w' k who (call_of sha s w k (StartStep who n)) (call_of sha t w' k (moved_step s.sessions m (StartStep who n))) e l i
    both_step m w w' k (ActStep who n label values) e l i = both_called w w' k who (call_of sha s w k (ActStep who n label values)) (call_of sha t w' k (moved_step s.sessions m (ActStep who n label values))) e l i
    both_step m w w' k (AbandonStep who n) e l i = both_called w w' k who (call_of sha s w k (AbandonStep who n)) (call_of sha t w' k (moved_step s.sessions m (AbandonStep who n))) e l i
    both_step m w w' k (DeliverStep who what) e l i = both_called w w' k who (call_of sha s w k (DeliverStep who what)) (call_of sha t w' k (moved_step s.sessions m (DeliverStep who what))) e l i

    -- entries stay
    stays : (xs : List StepOrRestart) (w : World) (k : ℕ) (l : Logged) → In w.log l → In (world_over_restarts sha s w k xs).log l
    stays [] w k l i = i
    stays (Stepped x ∷ xs) w k l i = stays xs (world_after sha s w k x) (k + 1) l (in_after k w.log (world_after sha s w k x).log (suffix_step sha s w k x) l i)
    stays (Restarted who ∷ xs) w k l i = stays xs (world_restarted w who) (k + length (live_of w who)) l i

    -- ---- the abandonments of a restart

    -- the entry is an abandonment by the principal of one of the sessions
    abbrev IsLeaving : Name → List Session → Logged → Type 0
    IsLeaving who xs l = (x : Session) × In xs x × (l.who ≡ Some who) × (l.call ≡ Some (Abandon x.sid))

    left_one : (who : Name) (w : World) (k o : ℕ) (x : Session) → sid_at sha t o ≡ x.sid → (l : Logged) → In (world_after sha t w k (AbandonStep who o)).log l → In w.log l ⊎ ((l.who ≡ Some who) × (l.call ≡ Some (Abandon x.sid)))
    left_one who w k o x e l i = go (past_of w who) i
      where
        go : (q : Option Past) → In (option_map_or (called_if sha w k who (Some (Abandon (sid_at sha t o)))) q w).log l → In w.log l ⊎ ((l.who ≡ Some who) × (l.call ≡ Some (Abandon x.sid)))
        go None i = inl i
        go (Some p) i = elim (in_parts w.log (_ ∷ []) l i) [
          | inl j ↦ inl j
          | inr j ↦ elim j [ inl q ↦ inr (ap (λ (z : Logged). z.who) q, ap (λ (z : Logged). z.call) q ∙ ap (λ sid. Some (Abandon sid)) e) | inr j ↦ absurd j ]
        ]

    left_all : (who : Name) (xs : List Session) (w : World) (k o : ℕ) (pre post : List NamedSession) → t.sessions ≡ pre ++ (map declared xs ++ post) → o ≡ length pre → AllByRecursion (HasOwnSid sha) xs
        → (l : Logged) → In (world_after_all sha t w k (abandon_steps who o xs)).log l → In w.log l ⊎ IsLeaving who xs l
    left_all who [] w k o pre post e at own l i = inl i
    left_all who (x ∷ xs) w k o pre post e at own l i = elim
        (left_all who xs (world_after sha t w k (AbandonStep who o)) (k + 1) (o + 1) (pre ++ declared x ∷ []) post (e ∙ sym (append_assoc pre (declared x ∷ []) (map declared xs ++ post)))
        (let n : length (pre ++ declared x ∷ []) ≡ length pre + 1 = length-more pre (declared x) in omega (arith, at, n)) own.1 l i) [
          | inl j ↦ elim (left_one who w k o x sid_is l j) [ inl h ↦ inl h | inr h ↦ inr (x, inl refl, h.0, h.1) ]
          | inr h ↦ inr (h.0, inr h.1, h.2, h.3)
        ]
      where
        sid_is : sid_at sha t o ≡ x.sid
        sid_is = ap (λ z. option_map_or (session_id sha) (option_map (λ (d : NamedSession). d.cast) z) []) (ap (λ l. slice_get l o) e ∙ ap (slice_get (pre ++ (map declared (x ∷ xs) ++ post))) at ∙ at_length pre (declared x) (map declared xs ++ post)) ∙ own.0

    pub names_left : (who : Name) (xs : List Session) (w : World) (k o : ℕ) → names (world_after_all sha t w k (abandon_steps who o xs)).pasts ≡ names w.pasts
    names_left who [] w k o = refl
    names_left who (x ∷ xs) w k o = names_left who xs (world_after sha t w k (AbandonStep who o)) (k + 1) (o + 1) ∙ names_after sha t w k (AbandonStep who o)

    pub steps_append : (who : Name) (o : ℕ) (xs : List Session) (ys : List Step) (w : World) (k : ℕ) → world_after_all sha t w k (abandon_steps who o xs ++ ys) ≡ world_after_all sha t (world_after_all sha t w k (abandon_steps who o xs)) (k + length xs) ys
    steps_append who o [] ys w k = ap (λ n. world_after_all sha t w n ys) (let e : k ≡ k + 0 = omega arith in e)
    steps_append who o (x ∷ xs) ys w k =
        steps_append who (o + 1) xs ys (world_after sha t w k (AbandonStep who o)) (k + 1)
        ∙ ap (λ n. world_after_all sha t (world_after_all sha t w k (abandon_steps who o (x ∷ xs))) n ys) (let e : (k + 1) + length xs ≡ k + length (x ∷ xs) = omega arith in e)

    -- ---- the whole run

    -- the entry is an abandonment of what was dropped
    abbrev IsDrop : List (Name × List ℕ) → Logged → Type 0
    IsDrop ds l = (d : Name × List ℕ) × In ds d × (l.who ≡ Some d.0) × (l.call ≡ Some (Abandon d.1))

    of_sessions : (who : Name) (xs : List Session) (ds : List (Name × List ℕ)) (l : Logged) → IsLeaving who xs l → IsDrop (map (λ (x : Session). (who, x.sid)) xs ++ ds) l
    of_sessions who xs ds l h = ((who, (h.0).sid), in_left (map (λ (x : Session). (who, x.sid)) xs) ds (who, (h.0).sid) (in_map (λ (x : Session). (who, x.sid)) xs h.0 h.1), h.2, h.3)

    entries : (m : ℕ) (xs : List StepOrRestart) (w w' : World) (k o : ℕ) (pre : List NamedSession) → AllByRecursion (PastHasOwn sha) w.pasts → names w'.pasts ≡ names w.pasts → t.sessions ≡ pre ++ dropped sha s w k xs → o ≡ length pre
        → (l : Logged) → In (world_after_all sha t w' k (plain_steps sha s m o w k xs)).log l
        → In w'.log l ⊎ (HasNumber (world_over_restarts sha s w k xs).log l.number ⊎ IsDrop (drops sha s w k xs) l)
    entries m [] w w' k o pre own same e at l i = inl i
    entries m (Stepped x ∷ xs) w w' k o pre own same e at l i =
        let now : World = world_after sha s w k x in
        let now' : World = world_after sha t w' k (moved_step s.sessions m x) in
        elim (entries m xs now now' (k + 1) o pre (own_step sha s w k x own) (names_after sha t w' k (moved_step s.sessions m x) ∙ same ∙ sym (names_after sha s w k x)) e at l i) [
          | inl j ↦ elim (both_step m w w' k x same l j) [
            | inl h ↦ inl h
            | inr h ↦ inr (inl (h.0, stays xs now (k + 1) h.0 h.1, h.2))
          ]
          | inr h ↦ inr h
        ]
    entries m (Restarted who ∷ xs) w w' k o pre own same e at l i =
        let ls : List Session = live_of w who in
        let now : World = world_restarted w who in
        let now' : World = world_after_all sha t w' k (abandon_steps who o ls) in
        let n : ℕ = length ls in
        let rest : List (Name × List ℕ) = drops sha s now (k + n) xs in
        elim (entries m xs now now' (k + n) (o + n) (pre ++ map declared ls) (own_map sha (anew_if who) (own_anew sha who) w.pasts own) (names_left who ls w' k o ∙ same ∙ sym (names_restarted w who))
        (e ∙ sym (append_assoc pre (map declared ls) (dropped sha s now (k + n) xs)))
        (let q : length (pre ++ map declared ls) ≡ length pre + n = length-append pre (map declared ls) ∙ ap (λ z. length pre + z) (length_map declared ls) in omega (arith, at, q)) l
        (subst (λ (z : World). In z.log l) (steps_append who o ls (plain_steps sha s m (o + n) now (k + n) xs) w' k) i)) [
          | inl j ↦ elim (left_all who ls w' k o pre (dropped sha s now (k + n) xs) e at (own_live sha w who own) l j) [
            | inl h ↦ inl h
            | inr h ↦ inr (inr (of_sessions who ls rest l h))
          ]
          | inr h ↦ elim h [
            | inl h ↦ inr (inl h)
            | inr h ↦ inr (inr (h.0, in_right (map (λ (x : Session). (who, x.sid)) ls) rest h.0 h.1, h.2, h.3))
          ]
        ]

pub abandoned_or_dropped : (sha : Hash) → IsHash sha → (programs : List Program) (s : Schedule) (xs : List StepOrRestart) → AreCompiled sha s.graphs programs → IsSchedule sha s → All (IsStepOrRestart sha s) xs → (who : Name) (sid : List ℕ) → HadAnswer (run sha programs (without_restarts sha programs s xs)).log who (Abandon sid) Abandoned → HadAnswer (run_with_restarts sha programs s xs).log who (Abandon sid) Abandoned ⊎ WasDropped sha programs s xs who sid
abandoned_or_dropped sha hash programs s xs compiled sched good who sid h =
    let w : World = run_with_restarts sha programs s xs in
    let t : Schedule = plain sha hash programs s compiled sched xs good in
    let w' : World = run sha programs t in
    let same : Same w w' = same_runs sha hash programs s compiled sched xs good in
    let m : ℕ = length (dropped sha s (new_world programs s) 1 xs) in
    let (l, there, its, call, outcome) = h in
    let inside : In w'.log l = in_from_Contains w'.log l there in
    elim (entries sha s t m xs (new_world programs s) (new_world programs t) 1 (length s.sessions) s.sessions (own_new sha programs s) refl refl refl l inside) [
      | inl j ↦ absurd j
      | inr j ↦ elim j [
        | inl n ↦
            let one : n.0 ≡ l = some_same (sym (is_last sha programs t n.0 (is_in_more w'.log w.log same.log n.0 n.1)) ∙ ap (λ k. last (run sha programs (first_steps k t)).log) n.2 ∙ is_last sha programs t l inside) in
            inl (l, contains_from_in w.log l (subst (λ z. In w.log z) one n.1), its, call, outcome)
        | inr d ↦
            let me : (d.0).0 ≡ who = some_same (sym d.2 ∙ its) in
            let its_call : Abandon (d.0).1 ≡ Abandon sid = some_same (sym d.3 ∙ call) in
            let its_sid : (d.0).1 ≡ sid = cc in
            inr (contains_from_in (drops sha s (new_world programs s) 1 xs) (who, sid) (subst (λ z. In (drops sha s (new_world programs s) 1 xs) (z, sid)) me (subst (λ z. In (drops sha s (new_world programs s) 1 xs) ((d.0).0, z)) its_sid d.1)))
      ]
    ]
