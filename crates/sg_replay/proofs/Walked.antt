-- A report and a summary can be made of each replay.
use Rattle.std.proofs.Common.{◌≡◌, ℕ, Bool, true, false, ◌||◌, List, [], ◌∷◌, length, map, filter, bytes_eq, refl, sym, ap, ◌∙◌, inl, inr}
use Rattle.std.specs.List.{AllByRecursion}
use Rattle.std.proofs.lemmas.Bool.{cases_Bool}
use Rattle.std.proofs.lemmas.List.Elements.{All-from_recursion}
use Rattle.std.proofs.lemmas.Slice.Eq.{bytes_eq-Decides}
use Rattle.sg_model.specs.Lists.{has_text}
use Rattle.sg_model.proofs.Small.{clash}
use Rattle.sg_protocol.specs.Calls.{sid_of}
use Rattle.sg_protocol.specs.Graph.{Graph}
use Rattle.sg_protocol.specs.Headline.{IsExplained}
use Rattle.sg_protocol.specs.Run.{events_of}
use Rattle.sg_protocol.specs.Texts.{real}
use Rattle.sg_protocol.specs.Walk.{OnePath, StoredStep}
use Rattle.sg_report.specs.Report.{Explains, IsReport, SessionWalk, known_sessions, premises_hold, report_text}
use Rattle.sg_text.specs.Sessions.{all_sids, firsts, sids_known}
use Rattle.sg_text.proofs.Firsts.{has_text-firsts}
use Rattle.sg_world.specs.Account.{account, graph_of, honest_in}
use Rattle.sg_world.specs.Laws.{RunLaws}
use Rattle.sg_setting.specs.Replay.{Replay, run_of}
use Rattle.sg_world.specs.Walked.{PremisesHold, WalksAreMade}
use Rattle.sg_world.proofs.WalkLaws.{explained_path, some_with_event}
use Rattle.sg_drive.specs.Summary.{IsSummary, counts_of, summary_text}

-- ---- lists of texts

-- what holds of the texts that a list has holds of each of its elements
own_all : (P : List ℕ → Type 0) (ts : List (List ℕ)) → ((t : List ℕ) → has_text t ts ≡ true → P t) → AllByRecursion P ts
own_all P [] h = tt
own_all P (u ∷ us) h = (h u (let same : bytes_eq u u ≡ true = (bytes_eq-Decides u u).1 refl in rw same refl), own_all P us (λ t i. h t (later t (bytes_eq t u) i)))
  where
    later : (t : List ℕ) (b : Bool) → has_text t us ≡ true → (b || has_text t us) ≡ true
    later t true i = refl
    later t false i = i

-- each text that passes a test passes it
passed : (test : List ℕ → Bool) (ts : List (List ℕ)) → AllByRecursion (λ t. test t ≡ true) (filter test ts)
passed test [] = tt
passed test (u ∷ us) = elim (cases_Bool (test u)) [ inl y ↦ rw y (y, passed test us) | inr n ↦ rw n (passed test us) ]

-- ---- walks

module _ (r : Replay) (laws : RunLaws r) where
  abbrev met : List ℕ → Bool
  met sid = has_text sid (map sid_of (account r).events)

  module _ (premises : PremisesHold r) where
    -- a session with an event has a walk
    walk_for : (sid : List ℕ) → met sid ≡ true → (steps : List StoredStep) × OnePath (graph_of r sid) (honest_in r sid) (events_of sid (run_of r).log) steps
    walk_for sid there =
        let x : IsExplained real r.schedule (run_of r) sid = (laws.claims premises sid (some_with_event (account r).events sid there)).0 in
        (x.steps, explained_path r sid x.cast x.graph x.steps x.is_cast x.is_graph x.path)

    -- so have all of them
    walks_for : (sids : List (List ℕ)) → AllByRecursion (λ sid. met sid ≡ true) sids
        → (walks : List SessionWalk) × (map (λ (w : SessionWalk). w.sid) walks ≡ sids) × AllByRecursion (Explains (account r)) walks
    walks_for [] h = ([], refl, tt)
    walks_for (sid ∷ sids) h =
        let walk = walk_for sid h.0 in
        let more = walks_for sids h.1 in
        (record { sid = sid; steps = walk.0 } ∷ more.0, ap (λ ss. sid ∷ ss) more.1, (walk.1, more.2))

  -- a report
  pub reported : (text : List ℕ) × IsReport (account r) text
  reported =
      elim (cases_Bool (premises_hold (account r))) [
        | inl y ↦
            (let walks = walks_for ((laws.premises).0 y) (sids_known (known_sessions (account r))) (passed met (all_sids (known_sessions (account r)))) in (
              report_text (account r) walks.0,
              record {
                walks = walks.0;
                right = λ h. record { sessions = walks.1; explain = All-from_recursion (Explains (account r)) walks.0 walks.2 };
                spelled = refl;
              },
            ))
        | inr n ↦ (report_text (account r) [], record { walks = []; right = λ h. clash (premises_hold (account r)) h n; spelled = refl })
      ]

  -- a summary
  abbrev pair : SessionWalk → List ℕ × List StoredStep
  pair w = (w.sid, w.steps)

  paired_sids : (walks : List SessionWalk) → map (λ (w : List ℕ × List StoredStep). w.0) (map pair walks) ≡ map (λ (w : SessionWalk). w.sid) walks
  paired_sids [] = refl
  paired_sids (w ∷ ws) = ap (λ (ss : List (List ℕ)). w.sid ∷ ss) (paired_sids ws)

  paired : (walks : List SessionWalk) → AllByRecursion (Explains (account r)) walks
      → AllByRecursion (λ (w : List ℕ × List StoredStep). OnePath (graph_of r w.0) (honest_in r w.0) (events_of w.0 (run_of r).log) w.1) (map pair walks)
  paired [] h = tt
  paired (w ∷ ws) h = (h.0, paired ws h.1)

  pub summed : (sessions lost : ℕ) (g : Graph) → (text : List ℕ) × IsSummary sessions lost g r text
  summed sessions lost g =
      elim (cases_Bool (premises_hold (account r))) [
        | inl y ↦
            (let sids : List (List ℕ) = map sid_of (account r).events in
            let walks = walks_for ((laws.premises).0 y) (firsts sids) (own_all (λ sid. met sid ≡ true) (firsts sids) (λ t i. sym (has_text-firsts t sids) ∙ i)) in
            made (map pair walks.0) (λ h. record { sids = paired_sids walks.0 ∙ walks.1; each = paired walks.0 walks.2 }))
        | inr n ↦ made [] (λ h. clash (premises_hold (account r)) h n)
      ]
    where
      made : (walks : List (List ℕ × List StoredStep)) → (premises_hold (account r) ≡ true → WalksAreMade r walks) → (text : List ℕ) × IsSummary sessions lost g r text
      made walks right = (summary_text sessions lost (counts_of g r) (account r) (length walks), record { walks = walks; made = right; spelled = refl })
