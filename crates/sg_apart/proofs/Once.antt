-- Pasts are those of a run of their calls.
use Rattle.std.specs.Prelude.{◌≡◌, ℕ, ◌+◌, IsTrue, Bool, true, false, ◌||◌, List, [], ◌∷◌, ◌++◌, map, find, bytes_eq, refl, Option, Some}
use Rattle.std.specs.List.{AllByRecursion}
use Rattle.std.specs.Option.{option_map_or}
use Rattle.std.proofs.Common.{sym, ◌∙◌, ap, subst, inl, inr, append_assoc, append-nil}
use Rattle.std.proofs.lemmas.Bool.{cases_Bool}
use Rattle.std.proofs.lemmas.List.{map-append}
use Rattle.std.proofs.lemmas.List.Elements.{recursion_from_All}
use Rattle.sg_model.specs.Lists.{has_text}
use Rattle.sg_model.specs.Names.{Name}
use Rattle.sg_model.proofs.Small.{bytes_eq-swap}
use Rattle.sg_model.proofs.Members.{rec_in}
use Rattle.sg_model.proofs.Finding.{find_passes, found_in}
use Rattle.sg_protocol.specs.Texts.{Hash}
use Rattle.sg_protocol.specs.Calls.{Call}
use Rattle.sg_protocol.specs.NodeAfter.{node_after}
use Rattle.sg_protocol.specs.Acting.{answer}
use Rattle.sg_protocol.specs.Past.{Past, AreAnswers, new_node, node_of, past_after}
use Rattle.sg_protocol.specs.World.{World, Outcome, Answered}
use Rattle.sg_protocol.specs.Run.{called}
use Rattle.sg_protocol.proofs.Progressing.{node_more, next_past}
use Rattle.sg_apart.specs.Apart.{names_of, world_called, world_after_calls}
use Rattle.sg_apart.specs.Laws.{PastsRunApart, AnsweredAt, as_begun, asked, own_calls, answered_of}

-- ---- pasts

-- a principal of this name is there
pub there : (qs : List Past) (who : Name) → has_text who (names_of qs) ≡ true → (q : Past) × (find (λ (p : Past). bytes_eq p.keys.me who) qs ≡ Some q)
there [] who h = absurd (cc)
there (q ∷ qs) who h = elim (cases_Bool (bytes_eq q.keys.me who)) [
  | inl e ↦ (q, rw e refl)
  | inr e ↦ (let k : has_text who (names_of qs) ≡ true = later (bytes_eq who q.keys.me) (bytes_eq-swap who q.keys.me ∙ e) h in let r = there qs who k in (r.0, step r.0 e r.1))
]
  where
    step : (p : Past) → bytes_eq q.keys.me who ≡ false → find (λ (p : Past). bytes_eq p.keys.me who) qs ≡ Some p → find (λ (p : Past). bytes_eq p.keys.me who) (q ∷ qs) ≡ Some p
    step p e f = rw e f

    later : (b : Bool) → b ≡ false → (b || has_text who (names_of qs)) ≡ true → has_text who (names_of qs) ≡ true
    later true f k = absurd (cc)
    later false f k = k

names_next : (sha : Hash) (who : Name) (c : Call) (qs : List Past) → names_of (map (next_past sha who c) qs) ≡ names_of qs
names_next sha who c [] = refl
names_next sha who c (q ∷ qs) = elim (cases_Bool (bytes_eq q.keys.me who)) [
  | inl e ↦ rw e (ap (λ l. q.keys.me ∷ l) (names_next sha who c qs))
  | inr e ↦ rw e (ap (λ l. q.keys.me ∷ l) (names_next sha who c qs))
]

-- the past with the principal's own ones of these calls
abbrev finished : List AnsweredAt → Past → Past
finished cs q = record q { calls = q.calls ++ own_calls q.keys.me cs }

-- what is said of a call
abbrev as_answered : AnsweredAt → Option Name × Option Call × Outcome
as_answered a = (Some a.who, Some (a.answered).call, Answered (a.answered).answer)

module _ (sha : Hash) where
  -- the principal's own ones of these calls are answered as its node answers
  abbrev Answers : List AnsweredAt → Past → Type 0
  Answers cs q = AreAnswers sha (node_of q) (own_calls q.keys.me cs)

  module _ (a : AnsweredAt) (cs : List AnsweredAt) where
    abbrev next : Past → Past
    next q = next_past sha a.who (a.answered).call q

    mine : (q : Past) → bytes_eq q.keys.me a.who ≡ true → Answers (a ∷ cs) q → ((a.answered).answer ≡ answer sha (node_of q) (a.answered).call) × AreAnswers sha (node_after (node_of q) (a.answered).call (a.answered).answer) (own_calls q.keys.me cs)
    mine q e h = rw (bytes_eq-swap a.who q.keys.me ∙ e) at h

    not_mine : (q : Past) → bytes_eq q.keys.me a.who ≡ false → own_calls q.keys.me (a ∷ cs) ≡ own_calls q.keys.me cs
    not_mine q e = rw (bytes_eq-swap a.who q.keys.me ∙ e) refl

    its_own : (q : Past) → bytes_eq q.keys.me a.who ≡ true → own_calls q.keys.me (a ∷ cs) ≡ a.answered ∷ own_calls q.keys.me cs
    its_own q e = rw (bytes_eq-swap a.who q.keys.me ∙ e) refl

    one_past : (q : Past) → Answers (a ∷ cs) q → Answers cs (next q) × (finished cs (next q) ≡ finished (a ∷ cs) q)
    one_past q h = elim (cases_Bool (bytes_eq q.keys.me a.who)) [
      | inl e ↦
          let m = mine q e h in
          let node_is : node_of (past_after sha q (a.answered).call) ≡ node_after (node_of q) (a.answered).call (a.answered).answer = node_more (new_node q.keys q.programs q.first) q.calls (record { call = (a.answered).call; answer = answer sha (node_of q) (a.answered).call }) ∙ ap (node_after (node_of q) (a.answered).call) (sym m.0) in
          let call_is : record { call = (a.answered).call; answer = answer sha (node_of q) (a.answered).call } ≡ a.answered = ap (λ z. record { call = (a.answered).call; answer = z }) (sym m.0) in
          rw e (
            subst (λ n. AreAnswers sha n (own_calls q.keys.me cs)) (sym node_is) m.1,
            ap (λ l. record q { calls = l }) (append_assoc q.calls (record { call = (a.answered).call; answer = answer sha (node_of q) (a.answered).call } ∷ []) (own_calls q.keys.me cs) ∙ ap (λ z. q.calls ++ z ∷ own_calls q.keys.me cs) call_is ∙ ap (λ l. q.calls ++ l) (sym (its_own q e))),
          )
      | inr e ↦ rw e (subst (AreAnswers sha (node_of q)) (not_mine q e) h, ap (λ l. record q { calls = q.calls ++ l }) (sym (not_mine q e)))
    ]

    all_pasts : (qs : List Past) → AllByRecursion (Answers (a ∷ cs)) qs → AllByRecursion (Answers cs) (map next qs) × (map (finished cs) (map next qs) ≡ map (finished (a ∷ cs)) qs)
    all_pasts [] h = (tt, refl)
    all_pasts (q ∷ qs) h =
        let one = one_past q h.0 in
        let rest = all_pasts qs h.1 in
        ((one.0, rest.0), ap (λ z. z ∷ map (finished cs) (map next qs)) one.1 ∙ ap (λ l. finished (a ∷ cs) q ∷ l) rest.1)

  finished_none : (qs : List Past) → qs ≡ map (finished []) qs
  finished_none [] = refl
  finished_none (q ∷ qs) = ap (λ l. record q { calls = l } ∷ qs) (sym (append-nil q.calls)) ∙ ap (λ l. finished [] q ∷ l) (finished_none qs)

  all_run : (w : World) (k : ℕ) (cs : List AnsweredAt) → AllByRecursion (λ (a : AnsweredAt). has_text a.who (names_of w.pasts) ≡ true) cs → AllByRecursion (Answers cs) w.pasts
      → ((world_after_calls sha w k (map asked cs)).pasts ≡ map (finished cs) w.pasts) × (map answered_of (world_after_calls sha w k (map asked cs)).log ≡ map answered_of w.log ++ map as_answered cs)
  all_run w k [] whose h = (finished_none w.pasts, sym (append-nil (map answered_of w.log)))
  all_run w k (a ∷ cs) whose h =
      let t = there w.pasts a.who whose.0 in
      let is : world_called sha w k (asked a) ≡ called sha w k a.who (a.answered).call t.0 = ap (λ o. option_map_or (called sha w k a.who (a.answered).call) o w) t.1 in
      let w1 : World = called sha w k a.who (a.answered).call t.0 in
      let e : (a.answered).answer ≡ answer sha (node_of t.0) (a.answered).call = (mine a cs t.0 (find_passes (λ (p : Past). bytes_eq p.keys.me a.who) w.pasts t.0 t.1) (rec_in (Answers (a ∷ cs)) w.pasts t.0 h (found_in (λ (p : Past). bytes_eq p.keys.me a.who) w.pasts t.0 t.1))).0 in
      let next_ = all_pasts a cs w.pasts h in
      let r = all_run (called sha w k a.who (a.answered).call t.0) (k + 1) cs (subst (λ ns. AllByRecursion (λ (a : AnsweredAt). has_text a.who ns ≡ true) cs) (sym (names_next sha a.who (a.answered).call w.pasts)) whose.1) next_.0 in (
        ap (λ z. (world_after_calls sha z (k + 1) (map asked cs)).pasts) is ∙ r.0 ∙ next_.1,
        ap (λ z. map answered_of (world_after_calls sha z (k + 1) (map asked cs)).log) is ∙ r.1 ∙ ap (λ l. l ++ map as_answered cs) (map-append answered_of w.log _ ∙ ap (λ z. map answered_of w.log ++ (Some a.who, Some (a.answered).call, Answered z) ∷ []) (sym e)) ∙ append_assoc (map answered_of w.log) (as_answered a ∷ []) (map as_answered cs),
      )

-- they have their names as they begin
pub same_names : (qs : List Past) → names_of (map as_begun qs) ≡ names_of qs
same_names [] = refl
same_names (q ∷ qs) = ap (λ l. q.keys.me ∷ l) (same_names qs)

pub pasts_run_apart : (sha : Hash) → PastsRunApart sha
pasts_run_apart sha ps calls order answered =
    let own = recursion_from_All (λ (p : Past). own_calls p.keys.me calls ≡ p.calls) ps order.own in
    let r = all_run sha (record { pasts = map as_begun ps; log = [] }) 1 calls (subst (λ ns. AllByRecursion (λ (a : AnsweredAt). has_text a.who ns ≡ true) calls) (sym (same_names ps)) (recursion_from_All (λ (a : AnsweredAt). IsTrue (has_text a.who (names_of ps))) calls order.whose)) (begun_answers ps own (recursion_from_All (λ (p : Past). AreAnswers sha (new_node p.keys p.programs p.first) p.calls) ps answered)) in
    (r.0 ∙ all_finished ps own, r.1)
  where
    begun_answers : (qs : List Past) → AllByRecursion (λ (p : Past). own_calls p.keys.me calls ≡ p.calls) qs → AllByRecursion (λ (p : Past). AreAnswers sha (new_node p.keys p.programs p.first) p.calls) qs → AllByRecursion (Answers sha calls) (map as_begun qs)
    begun_answers [] o a = tt
    begun_answers (q ∷ qs) o a = (subst (AreAnswers sha (new_node q.keys q.programs q.first)) (sym o.0) a.0, begun_answers qs o.1 a.1)

    all_finished : (qs : List Past) → AllByRecursion (λ (p : Past). own_calls p.keys.me calls ≡ p.calls) qs → map (finished calls) (map as_begun qs) ≡ qs
    all_finished [] o = refl
    all_finished (q ∷ qs) o = ap (λ l. record q { calls = l } ∷ map (finished calls) (map as_begun qs)) o.0 ∙ ap (λ l. q ∷ l) (all_finished qs o.1)
