-- What breaks an assumption of a replay's run, by what is kept.
use Rattle.std.proofs.Common.{◌≡◌, ℕ, suc, ◌+◌, ◌<◌, ◌≤◌, List, [], ◌∷◌, ◌++◌, map, flat_map, length, find, refl, Option, Some, None, option_map, IfOk, IfSome, MatchOption, Result, Ok, Err, false, is_some, slice_get, sym, ◌∙◌, ap, subst, arith}
use Rattle.std.specs.Option.{option_or}
use Rattle.std.proofs.lemmas.List.{length-map}
use Rattle.sg_model.specs.Limits.{most_steps}
use Rattle.sg_model.specs.Lists.{has_text, range_from}
use Rattle.sg_model.specs.Names.{Name}
use Rattle.sg_certify.specs.Forged.{IsRecord, is_unmade, forged_from}
use Rattle.sg_protocol.proofs.Broken.{forged_is_first, collision_is_first}
use Rattle.sg_protocol.proofs.Steps.{logs_are_numbered}
use Rattle.sg_protocol.specs.Broken.{found_notes, is_forged, first_forged, first_collision}
use Rattle.sg_protocol.specs.Graph.{Graph}
use Rattle.sg_protocol.specs.NodeStates.{NodeState}
use Rattle.sg_protocol.specs.Notes.{Note, Notes}
use Rattle.sg_protocol.specs.Premises.{Unforged, CollisionFree, hashed}
use Rattle.sg_protocol.specs.Calls.{sid_of}
use Rattle.sg_protocol.specs.Run.{events_of_outcome, run, world_after_all}
use Rattle.sg_protocol.specs.Schedule.{Step}
use Rattle.sg_protocol.specs.Texts.{real, graph_text_of}
use Rattle.sg_protocol.specs.World.{Logged, new_world}
use Rattle.sg_world.specs.Holds.{Holds, schedule_of}
use Rattle.sg_world.specs.RecordModel.{IsLearnt, Recorded, TakenStep}
use Rattle.sg_world.specs.PremiseFaults.{IsForgedAs, IsForgedFault, IsCollisionAs, IsCollisionFault}
use Rattle.sg_setting.specs.Replay.{Replay, run_of}
use Rattle.sg_setting.specs.Setting.{Setting}
use Rattle.sg_world.specs.Walked.{WalksAreMade}
use Rattle.sg_text.specs.Sessions.{firsts}
use Rattle.sg_world.specs.declared.premises.CollisionFault.{CollisionFault}
use Rattle.sg_world.specs.declared.premises.CollisionFault.TheVariants as collision
use Rattle.sg_world.specs.declared.premises.ForgedFault.{ForgedFault}
use Rattle.sg_world.specs.declared.premises.ForgedFault.TheVariants as forged
use Rattle.sg_world.proofs.Pasts.{Named, names, in_names}
use Rattle.sg_world.proofs.Zipped.{zip_length}

no_items : {A : Type 0} (xs : List A) → length xs ≡ 0 → xs ≡ []
no_items [] h = refl
no_items (x ∷ xs) h = absurd (cc)

-- ---- the first assumption

-- as many steps were taken as have notes
pub as_many : (d : Setting) (nodes : List Named) (r : Recorded) → Holds d nodes r → length r.notes ≡ length r.entries
as_many d nodes r h =
    let log = (run real d.programs (schedule_of d nodes r)).log in
    let a = ap (λ (z : List Notes). length z) h.run.notes in
    let b = zip_length (IsLearnt d.programs (schedule_of d nodes r)) r.entries log h.run.learnt in
    let c = length-map log (λ (l : Logged). l.notes) in
    omega (arith, a, b, c)

-- what was noted is the record of the run
pub is_record : (d : Setting) (nodes : List Named) (r : Recorded) (noted : List Notes) → Holds d nodes r → noted ≡ r.notes → IsRecord (run real d.programs (schedule_of d nodes r)) noted
is_record d nodes r noted h same = subst (IsRecord (run real d.programs (schedule_of d nodes r))) (sym same) (record {
  notes = sym h.run.notes;
  numbers = logs_are_numbered real d.programs (schedule_of d nodes r) h.taken ∙ ap (range_from 1) (length-map r.entries (λ (e : TakenStep). e.step) ∙ sym (as_many d nodes r h));
})

-- a forged note is found in one of these steps
pub forged_below : (honest : List (List ℕ)) (k : ℕ) (made : List Note) (ns : List Notes) → IfSome (forged_from honest k made ns) (λ (f : ℕ × Note). f.0 < k + length ns)
forged_below honest k made [] = tt
forged_below honest k made (n ∷ ns) = by (find (is_unmade honest made) n.found) (forged_from honest (suc k) (made ++ n.made) ns) (forged_below honest (suc k) (made ++ n.made) ns)
  where
    later : (o : Option (ℕ × Note)) → IfSome o (λ (f : ℕ × Note). f.0 < suc k + length ns) → IfSome o (λ (f : ℕ × Note). f.0 < k + suc (length ns))
    later None h = tt
    later (Some f) h = omega (arith, h)

    by : (o : Option Note) (rest : Option (ℕ × Note)) → IfSome rest (λ (f : ℕ × Note). f.0 < suc k + length ns) → IfSome (option_or (option_map {U = ℕ × Note} (λ x. (k, x)) o) rest) (λ (f : ℕ × Note). f.0 < k + suc (length ns))
    by None rest h = later rest h
    by (Some x) rest h = omega arith

-- so its step is one of those that a replay takes
pub steps_few : {X E : Type 0} (pair : X → ℕ × Note) (res : Result (Option X) E) (found : Option (ℕ × Note)) (n : ℕ) → IfOk res (λ o. option_map pair o ≡ found) → IfSome found (λ (f : ℕ × Note). f.0 < 1 + n) → n ≤ most_steps
    → IfOk res (λ o. IfSome o (λ x. (pair x).0 ≤ most_steps))
steps_few pair (Err e) found n q h l = tt
steps_few pair (Ok None) found n q h l = tt
steps_few pair (Ok (Some x)) found n q h l =
    let below : (pair x).0 < 1 + n = subst (λ (o : Option (ℕ × Note)). IfSome o (λ (f : ℕ × Note). f.0 < 1 + n)) (sym q) h in
    omega (arith, below, l)

-- a principal has a node if its name is that of one
pub has_node : (ns : List Named) (who : Name) (o : Option ℕ) → MatchOption o (has_text who (names ns) ≡ false) (λ i. (state : NodeState) × (slice_get ns i ≡ Some (who, state))) → is_some o ≡ has_text who (names ns)
has_node ns who None h = sym h
has_node ns who (Some i) h = sym (in_names ns i who h.0 h.1)

-- if there is no forged note the assumption holds
pub unforged_is : (r : Replay) → first_forged r.schedule (run_of r) ≡ None → Unforged r.schedule (run_of r)
unforged_is r e = (forged_is_first r.schedule (run_of r)).0.0 e

-- and if there is one it does not
pub forged_fault_is : (r : Replay) (found : ℕ × Note) (e : ForgedFault) → first_forged r.schedule (run_of r) ≡ Some found → IsForgedAs found e → IsForgedFault r e
forged_fault_is r found (forged.Forged step one two text) q h = (q ∙ ap (λ (z : ℕ × Note). Some z) h, λ u. (let none : None ≡ Some found = sym ((forged_is_first r.schedule (run_of r)).0.1 u) ∙ q in cc))
forged_fault_is r found forged.OutOfMemory q h = tt

-- ---- the second assumption

pub collision_free_is : (r : Replay) → first_collision real (hashed r.schedule (run_of r)) ≡ None → CollisionFree real (hashed r.schedule (run_of r))
collision_free_is r e = (collision_is_first real (hashed r.schedule (run_of r))).0.0 e

pub collision_fault_is : (r : Replay) (found : List ℕ × List ℕ) (e : CollisionFault) → first_collision real (hashed r.schedule (run_of r)) ≡ Some found → IsCollisionAs found e → IsCollisionFault r e
collision_fault_is r found (collision.Collision one other) q h =
    (q ∙ ap (λ (z : List ℕ × List ℕ). Some z) h, λ u. (let none : None ≡ Some found = sym ((collision_is_first real (hashed r.schedule (run_of r))).0.1 u) ∙ q in cc))
collision_fault_is r found collision.OutOfMemory q h = tt

-- ---- before the first step

-- nothing is logged
pub no_log : (r : Replay) → length r.schedule.steps ≡ 0 → (run_of r).log ≡ []
no_log r h = ap (λ (xs : List Step). (world_after_all real r.schedule (new_world r.programs r.schedule) 1 xs).log) (no_items r.schedule.steps h)

-- nothing is forged
pub none_forged : (r : Replay) → length r.schedule.steps ≡ 0 → None ≡ first_forged r.schedule (run_of r)
none_forged r h = sym (ap (λ (log : List Logged). find (is_forged r.schedule (run_of r)) (found_notes log)) (no_log r h))

alone : (gs : List Graph) → length gs ≤ 1 → first_collision real (map graph_text_of gs ++ []) ≡ None
alone [] h = refl
alone (g ∷ []) h = refl
alone (g ∷ k ∷ gs) h = absurd (omega (arith, h))

-- and the text of one graph collides with none
pub none_collide : (r : Replay) → length r.schedule.steps ≡ 0 → length r.schedule.graphs ≤ 1 → None ≡ first_collision real (hashed r.schedule (run_of r))
none_collide r h few =
    sym (ap (λ (log : List Logged). first_collision real (map graph_text_of r.schedule.graphs ++ flat_map (λ (l : Logged). l.notes.hashed) log)) (no_log r h) ∙ alone r.schedule.graphs few)

-- ---- the walks

-- no session has an event, so there are none
pub none_made : (r : Replay) → length r.schedule.steps ≡ 0 → WalksAreMade r []
none_made r h = record { sids = sym (ap (λ (log : List Logged). firsts (map sid_of (flat_map (λ (l : Logged). events_of_outcome l.outcome) log))) (no_log r h)); each = tt }
