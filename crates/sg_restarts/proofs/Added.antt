-- What restarts drop the run without them abandons.
use Rattle.std.specs.Prelude.{◌≡◌, ℕ, ◌+◌, ◌<◌, ◌≤◌, ◌⊎◌, List, [], ◌∷◌, ◌++◌, map, length, refl, Option, Some, None, option_map, slice_get, All}
use Rattle.std.specs.List.{AllByRecursion}
use Rattle.std.specs.Option.{option_map_or}
use Rattle.std.proofs.Common.{sym, ◌∙◌, ap, subst, inl, inr, arith, append_assoc}
use Rattle.sg_model.specs.Names.{Name}
use Rattle.sg_model.proofs.Small.{length-more, length_map, at_length}
use Rattle.sg_model.proofs.Members.{In, in_from_Contains, contains_from_in, in_right}
use Rattle.std.proofs.lemmas.List.{length-append}
use Rattle.sg_protocol.specs.Texts.{Hash, IsHash, session_id}
use Rattle.sg_protocol.specs.Keyring.{Program}
use Rattle.sg_protocol.specs.Session.{Session}
use Rattle.sg_protocol.specs.Calls.{Abandon, Abandoned}
use Rattle.sg_protocol.specs.Past.{Past, node_of}
use Rattle.sg_protocol.specs.Schedule.{Schedule, NamedSession, Step, AbandonStep, sid_at}
use Rattle.sg_protocol.specs.World.{Logged, World, past_of, new_world}
use Rattle.sg_protocol.specs.Run.{called_if, world_after, world_after_all, run}
use Rattle.sg_protocol.specs.Restarts.{StepOrRestart, Stepped, Restarted, live_of, world_restarted, world_over_restarts, run_with_restarts, IsStepOrRestart, moved_step, declared, dropped, abandon_steps, plain_steps, without_restarts}
use Rattle.sg_protocol.proofs.Progressing.{suffix_all, in_before, in_after}
use Rattle.sg_protocol.proofs.FirstSteps.{one_more, AreBelow, below_more}
use Rattle.sg_protocol.proofs.Lives.{anew_if}
use Rattle.sg_protocol.proofs.Restarts.{Same, plain, same_runs}
use Rattle.sg_protocol.proofs.OverRestarts.{was_there}
use Rattle.sg_protocol.proofs.LifeSteps.{over_suffix}
use Rattle.sg_protocol.specs.IsSchedule.{AreCompiled, IsSchedule}
use Rattle.sg_protocol.specs.Completeness.{HadAnswer}
use Rattle.sg_restarts.specs.Dropped.{drops, WasDropped, DropsAreAbandonments}
use Rattle.sg_restarts.proofs.Logs.{answer_there}
use Rattle.sg_restarts.proofs.Owns.{names, found_there, names_restarted, names_after, HasOwnSid, PastHasOwn, own_map, own_anew, own_step, own_new, own_live}
use Rattle.sg_restarts.proofs.Drops.{names_left, steps_append, abandoned_or_dropped}

module _ (sha : Hash) where
  module _ (s t : Schedule) where
    -- ---- each drop is abandoned

    abbrev HasPast : World → Name → Type 0
    HasPast w who = (p : Past) × (past_of w who ≡ Some p)

    past_after_step : (w : World) (k : ℕ) (x : Step) (who : Name) → HasPast w who → HasPast (world_after sha t w k x) who
    past_after_step w k x who h = found_there who w.pasts (world_after sha t w k x).pasts (sym (names_after sha t w k x)) h.0 h.1

    -- the entry is the abandonment of the session, and its number is one of these
    record IsMade (log : List Logged) (who : Name) (sid : List ℕ) (from count : ℕ) : Type 0 where
      entry : Logged
      there : In log entry
      is_who : entry.who ≡ Some who
      call : entry.call ≡ Some (Abandon sid)
      late : from ≤ entry.number
      early : entry.number < from + count

    made_first : (who : Name) (w : World) (k o : ℕ) (sid : List ℕ) (count : ℕ) → sid_at sha t o ≡ sid → 0 < count → HasPast w who → IsMade (world_after sha t w k (AbandonStep who o)).log who sid k count
    made_first who w k o sid count e few h = subst (λ z. IsMade (option_map_or (called_if sha w k who (Some (Abandon (sid_at sha t o)))) z w).log who sid k count) (sym h.1) record {
      entry = _;
      there = in_right w.log (_ ∷ []) _ (inl refl);
      is_who = refl;
      call = ap (λ z. Some (Abandon z)) e;
      late = omega arith;
      early = omega (arith, few);
    }

    made_all : (who : Name) (xs : List Session) (w : World) (k o : ℕ) (pre post : List NamedSession) → t.sessions ≡ pre ++ (map declared xs ++ post) → o ≡ length pre → AllByRecursion (HasOwnSid sha) xs → HasPast w who
        → (x : Session) → In xs x → IsMade (world_after_all sha t w k (abandon_steps who o xs)).log who x.sid k (length xs)
    made_all who [] w k o pre post e at own h x i = absurd i
    made_all who (y ∷ xs) w k o pre post e at own h x i = go
        (made_all who xs (world_after sha t w k (AbandonStep who o)) (k + 1) (o + 1) (pre ++ declared y ∷ []) post (e ∙ sym (append_assoc pre (declared y ∷ []) (map declared xs ++ post)))
        (let n : length (pre ++ declared y ∷ []) ≡ length pre + 1 = length-more pre (declared y) in omega (arith, at, n)) own.1 (past_after_step w k (AbandonStep who o) who h) x) i
      where
        sid_is : sid_at sha t o ≡ y.sid
        sid_is = ap (λ z. option_map_or (session_id sha) (option_map (λ (d : NamedSession). d.cast) z) []) (ap (λ l. slice_get l o) e ∙ ap (slice_get (pre ++ (map declared (y ∷ xs) ++ post))) at ∙ at_length pre (declared y) (map declared xs ++ post)) ∙ own.0

        go : (In xs x → IsMade (world_after_all sha t w k (abandon_steps who o (y ∷ xs))).log who x.sid (k + 1) (length xs)) → In (y ∷ xs) x → IsMade (world_after_all sha t w k (abandon_steps who o (y ∷ xs))).log who x.sid k (length (y ∷ xs))
        go later (inl q) =
            let f : IsMade (world_after sha t w k (AbandonStep who o)).log who y.sid k (length (y ∷ xs)) = made_first who w k o y.sid (length (y ∷ xs)) sid_is (omega arith) h in
            record {
              entry = f.entry;
              there = in_after (k + 1) (world_after sha t w k (AbandonStep who o)).log (world_after_all sha t w k (abandon_steps who o (y ∷ xs))).log (suffix_all sha t (world_after sha t w k (AbandonStep who o)) (k + 1) (abandon_steps who (o + 1) xs)) f.entry f.there;
              is_who = f.is_who;
              call = f.call ∙ ap (λ (z : Session). Some (Abandon z.sid)) (sym q);
              late = f.late;
              early = f.early;
            }
        go later (inr j) =
            let r : IsMade (world_after_all sha t w k (abandon_steps who o (y ∷ xs))).log who x.sid (k + 1) (length xs) = later j in
            record { entry = r.entry; there = r.there; is_who = r.is_who; call = r.call; late = (let l = r.late in omega (arith, l)); early = (let l = r.early in omega (arith, l)) }

    -- it is in the log of the run without restarts, and no entry of the other has its number
    record IsAdded (log log' : List Logged) (who : Name) (sid : List ℕ) : Type 0 where
      entry : Logged
      there : In log' entry
      is_who : entry.who ≡ Some who
      call : entry.call ≡ Some (Abandon sid)
      new : (n : Logged) → In log n → n.number ≡ entry.number → ⊥

    -- whose session it is
    of_live : (w : World) (me who : Name) (sid : List ℕ) (ds : List (Name × List ℕ)) → In (map (λ (x : Session). (me, x.sid)) (live_of w me) ++ ds) (who, sid) → In ds (who, sid) ⊎ ((x : Session) × In (live_of w me) x × (who ≡ me) × (sid ≡ x.sid) × HasPast w me)
    of_live w me who sid ds i = go (past_of w me) refl i
      where
        in_live : (xs : List Session) → In (map (λ (x : Session). (me, x.sid)) xs ++ ds) (who, sid) → In ds (who, sid) ⊎ ((x : Session) × In xs x × (who ≡ me) × (sid ≡ x.sid))
        in_live [] i = inl i
        in_live (x ∷ xs) (inl q) = inr (x, inl refl, ap (λ (z : Name × List ℕ). z.0) q, ap (λ (z : Name × List ℕ). z.1) q)
        in_live (x ∷ xs) (inr j) = elim (in_live xs j) [ inl h ↦ inl h | inr h ↦ inr (h.0, inr h.1, h.2, h.3) ]

        go : (o : Option Past) → past_of w me ≡ o → In (map (λ (x : Session). (me, x.sid)) (option_map_or (λ (p : Past). (node_of p).live) o []) ++ ds) (who, sid)
            → In ds (who, sid) ⊎ ((x : Session) × In (option_map_or (λ (p : Past). (node_of p).live) o []) x × (who ≡ me) × (sid ≡ x.sid) × HasPast w me)
        go None e i = inl i
        go (Some p) e i = elim (in_live (node_of p).live i) [ inl h ↦ inl h | inr h ↦ inr (h.0, h.1, h.2, h.3, (p, e)) ]

    added : (m : ℕ) (xs : List StepOrRestart) (w w' : World) (k o : ℕ) (pre : List NamedSession) → AllByRecursion (PastHasOwn sha) w.pasts → names w'.pasts ≡ names w.pasts → t.sessions ≡ pre ++ dropped sha s w k xs → o ≡ length pre → AreBelow k w.log
        → (who : Name) (sid : List ℕ) → In (drops sha s w k xs) (who, sid)
        → IsAdded (world_over_restarts sha s w k xs).log (world_after_all sha t w' k (plain_steps sha s m o w k xs)).log who sid
    added m [] w w' k o pre own same e at below who sid i = absurd i
    added m (Stepped x ∷ xs) w w' k o pre own same e at below who sid i =
        added m xs (world_after sha s w k x) (world_after sha t w' k (moved_step s.sessions m x)) (k + 1) o pre (own_step sha s w k x own) (names_after sha t w' k (moved_step s.sessions m x) ∙ same ∙ sym (names_after sha s w k x)) e at (below_more k w.log (world_after sha s w k x).log (one_more sha s w k x) below) who sid i
    added m (Restarted me ∷ xs) w w' k o pre own same e at below who sid i =
        let ls : List Session = live_of w me in
        let now : World = world_restarted w me in
        let n : ℕ = length ls in
        let now' : World = world_after_all sha t w' k (abandon_steps me o ls) in
        let rest : List Step = plain_steps sha s m (o + n) now (k + n) xs in
        let end : World = world_over_restarts sha s now (k + n) xs in
        let whole : world_after_all sha t w' k (abandon_steps me o ls ++ rest) ≡ world_after_all sha t now' (k + n) rest = steps_append sha s t me o ls rest w' k in
        subst (λ (z : World). IsAdded end.log z.log who sid) (sym whole) (elim (of_live w me who sid (drops sha s now (k + n) xs) i) [
          | inl j ↦ added m xs now now' (k + n) (o + n) (pre ++ map declared ls) (own_map sha (anew_if me) (own_anew sha me) w.pasts own) (names_left sha s t me ls w' k o ∙ same ∙ sym (names_restarted w me))
              (e ∙ sym (append_assoc pre (map declared ls) (dropped sha s now (k + n) xs)))
              (let q : length (pre ++ map declared ls) ≡ length pre + n = length-append pre (map declared ls) ∙ ap (λ z. length pre + z) (length_map declared ls) in omega (arith, at, q))
              (λ l h. let b = below l h in omega (arith, b)) who sid j
          | inr h ↦
              let r : IsMade now'.log me (h.0).sid k n = made_all me ls w' k o pre (dropped sha s now (k + n) xs) e at (own_live sha w me own) (found_there me w.pasts w'.pasts (sym same) (h.4).0 (h.4).1) h.0 h.1 in
              record {
                entry = r.entry;
                there = in_after (k + n) now'.log (world_after_all sha t now' (k + n) rest).log (suffix_all sha t now' (k + n) rest) r.entry r.there;
                is_who = r.is_who ∙ ap (λ z. Some z) (sym h.2);
                call = r.call ∙ ap (λ z. Some (Abandon z)) (sym h.3);
                new = λ z j q.
                    let early = r.early in
                    let late = r.late in
                    let inside : In w.log z = in_before (k + n) now.log end.log (over_suffix sha s xs now (k + n)) z j (omega (arith, early, q)) in
                    let b = below z inside in
                    absurd (omega (arith, b, late, q));
              }
        ])

dropped_is_abandoned : (sha : Hash) → IsHash sha → (programs : List Program) (s : Schedule) (xs : List StepOrRestart) → AreCompiled sha s.graphs programs → IsSchedule sha s → All (IsStepOrRestart sha s) xs → (who : Name) (sid : List ℕ) → WasDropped sha programs s xs who sid →
    HadAnswer (run sha programs (without_restarts sha programs s xs)).log who (Abandon sid) Abandoned
dropped_is_abandoned sha hash programs s xs compiled sched good who sid d =
    let w : World = run_with_restarts sha programs s xs in
    let t : Schedule = plain sha hash programs s compiled sched xs good in
    let w' : World = run sha programs t in
    let same : Same w w' = same_runs sha hash programs s compiled sched xs good in
    let ds : List (Name × List ℕ) = drops sha s (new_world programs s) 1 xs in
    let m : ℕ = length (dropped sha s (new_world programs s) 1 xs) in
    let a : IsAdded sha s t w.log w'.log who sid = added sha s t m xs (new_world programs s) (new_world programs t) 1 (length s.sessions) s.sessions (own_new sha programs s) refl refl refl (λ l i. absurd i) who sid (in_from_Contains ds (who, sid) d) in
    elim (was_there w'.log w.log same.log a.entry a.there) [
      | inl b ↦ (a.entry, contains_from_in w'.log a.entry a.there, a.is_who, a.call, b.outcome)
      | inr i ↦ absurd (a.new a.entry i refl)
    ]

pub drops_are_abandonments : (sha : Hash) → IsHash sha → DropsAreAbandonments sha
drops_are_abandonments sha hash programs s xs compiled sched good who sid = (
  abandoned_or_dropped sha hash programs s xs compiled sched good who sid,
  λ h. elim h [
    | inl a ↦ answer_there (run_with_restarts sha programs s xs) (run sha programs (plain sha hash programs s compiled sched xs good)) (same_runs sha hash programs s compiled sched xs good) who (Abandon sid) Abandoned a
    | inr d ↦ dropped_is_abandoned sha hash programs s xs compiled sched good who sid d
  ],
)
