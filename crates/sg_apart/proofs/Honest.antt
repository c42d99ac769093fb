-- Honest principals' pasts, in the order of their calls, are a run apart, so that one walk explains each session.
use Rattle.std.specs.Prelude.{◌≡◌, ◌≢◌, ℕ, All, IsTrue, true, List, [], ◌∷◌, ◌++◌, map, bytes_eq, refl}
use Rattle.std.specs.List.{AllByRecursion}
use Rattle.std.proofs.Common.{sym, ◌∙◌, ap, subst, inl, inr}
use Rattle.std.proofs.lemmas.Bool.{cases_Bool}
use Rattle.std.proofs.lemmas.List.Elements.{All-from_recursion, recursion_from_All}
use Rattle.sg_model.specs.Lists.{has_text}
use Rattle.sg_model.specs.Names.{Name}
use Rattle.sg_protocol.specs.Graph.{Graph}
use Rattle.sg_protocol.specs.Keyring.{Program}
use Rattle.sg_protocol.specs.Texts.{Hash, IsHash}
use Rattle.sg_protocol.specs.Past.{AnsweredCall, Past}
use Rattle.sg_protocol.specs.Schedule.{Schedule}
use Rattle.sg_protocol.specs.Run.{events_of}
use Rattle.sg_protocol.specs.Premises.{Premises}
use Rattle.sg_protocol.specs.Headline.{IsExplained}
use Rattle.sg_protocol.specs.Ranges.{IsCallInRange}
use Rattle.sg_apart.specs.Apart.{Begins, CallAt, AreCallsInRange, names_of, honest_are, run_apart}
use Rattle.sg_apart.specs.Laws.{AnsweredAt, IsHonest, IsOrder, HonestPastsFollowWalks, as_begun, asked, own_calls}
use Rattle.sg_apart.proofs.Whole.{sessions_follow_walks_apart}
use Rattle.sg_apart.proofs.Once.{same_names}
use Rattle.sg_model.proofs.Members.{In, rec_in}

abbrev pub Ranged : AnsweredCall → Type 0
Ranged c = IsCallInRange c.call

-- as they begin, the same principals are honest, with the same graphs
same_graphs : (ps : List Past) → (honest_are (map as_begun ps)).graphs ≡ (honest_are ps).graphs
same_graphs [] = refl
same_graphs (p ∷ ps) = ap (λ l. map (λ (q : Program). q.graph) p.programs ++ l) (same_graphs ps)

pub same_honest : (ps : List Past) → honest_are (map as_begun ps) ≡ honest_are ps
same_honest ps =
    ap (λ (gs : List Graph). record { graphs = gs; honest = names_of (map as_begun ps); keys = []; sessions = []; steps = [] }) (same_graphs ps)
    ∙ ap (λ (ns : List Name). record { graphs = (honest_are ps).graphs; honest = ns; keys = []; sessions = []; steps = [] }) (same_names ps)

pub all_begin : (sha : Hash) (ps : List Past) → AllByRecursion (IsHonest sha) ps → AllByRecursion (Begins sha) (map as_begun ps)
all_begin sha [] h = tt
all_begin sha (p ∷ ps) h = (record { calls = refl; programs = (h.0).programs; first = (h.0).first }, all_begin sha ps h.1)

-- the principal of a call
whose_call : (ps : List Past) (who : Name) → has_text who (names_of ps) ≡ true → (p : Past) × In ps p × (bytes_eq who p.keys.me ≡ true)
whose_call [] who h = absurd (cc)
whose_call (p ∷ ps) who h = elim (cases_Bool (bytes_eq who p.keys.me)) [
  | inl e ↦ (p, inl refl, e)
  | inr e ↦ (let r = whose_call ps who (rw e at h) in (r.0, inr r.1, r.2))
]

-- each call is one of its principal's own
own_call : (calls : List AnsweredAt) (a : AnsweredAt) (who : Name) → In calls a → bytes_eq a.who who ≡ true → In (own_calls who calls) a.answered
own_call [] a who i e = absurd i
own_call (b ∷ calls) a who (inl q) e = (let f : bytes_eq b.who who ≡ true = ap (λ (z : AnsweredAt). bytes_eq z.who who) (sym q) ∙ e in rw f (inl (ap (λ (z : AnsweredAt). z.answered) q)))
own_call (b ∷ calls) a who (inr i) e = elim (cases_Bool (bytes_eq b.who who)) [
  | inl f ↦ rw f (inr (own_call calls a who i e))
  | inr f ↦ rw f (own_call calls a who i e)
]

module _ (sha : Hash) (ps : List Past) (calls : List AnsweredAt) (honest : AllByRecursion (IsHonest sha) ps) (own : AllByRecursion (λ (p : Past). own_calls p.keys.me calls ≡ p.calls) ps) where
  one_ranged : (a : AnsweredAt) → In calls a → has_text a.who (names_of ps) ≡ true → Ranged a.answered
  one_ranged a i h =
      let w = whose_call ps a.who h in
      let its = rec_in (λ (p : Past). own_calls p.keys.me calls ≡ p.calls) ps w.0 own w.1 in
      rec_in Ranged (w.0).calls a.answered (recursion_from_All Ranged (w.0).calls (rec_in (IsHonest sha) ps w.0 honest w.1).calls) (subst (λ l. In l a.answered) its (own_call calls a (w.0).keys.me i w.2))

  pub all_ranged : (xs : List AnsweredAt) → ((a : AnsweredAt) → In xs a → In calls a) → AllByRecursion (λ (a : AnsweredAt). IsTrue (has_text a.who (names_of ps))) xs → AllByRecursion (λ (c : CallAt). IsCallInRange c.call) (map asked xs)
  all_ranged [] there h = tt
  all_ranged (a ∷ xs) there h = (one_ranged a (there a (inl refl)) h.0, all_ranged xs (λ b i. there b (inr i)) h.1)

-- what holds of each run apart holds of the pasts of honest principals, in each order of their calls
pub on_pasts : (sha : Hash) (Law : Schedule → List Past → List CallAt → Type 0) → ((ps : List Past) (calls : List CallAt) → All (Begins sha) ps → AreCallsInRange calls → Law (honest_are ps) ps calls)
    → (ps : List Past) (calls : List AnsweredAt) → All (IsHonest sha) ps → IsOrder ps calls → Law (honest_are ps) (map as_begun ps) (map asked calls)
on_pasts sha Law holds ps calls honest order =
    let h = recursion_from_All (IsHonest sha) ps honest in
    let own = recursion_from_All (λ (p : Past). own_calls p.keys.me calls ≡ p.calls) ps order.own in
    let range = all_ranged sha ps calls h own calls (λ a i. i) (recursion_from_All (λ (a : AnsweredAt). IsTrue (has_text a.who (names_of ps))) calls order.whose) in
    subst (λ (s : Schedule). Law s (map as_begun ps) (map asked calls)) (same_honest ps)
    (holds (map as_begun ps) (map asked calls) (All-from_recursion (Begins sha) (map as_begun ps) (all_begin sha ps h)) (All-from_recursion (λ (c : CallAt). IsCallInRange c.call) (map asked calls) range))

pub honest_pasts_follow_walks : (sha : Hash) → IsHash sha → HonestPastsFollowWalks sha
honest_pasts_follow_walks sha hash = on_pasts sha (λ s ps calls. Premises sha s (run_apart sha ps calls) → (sid : List ℕ) → events_of sid (run_apart sha ps calls).log ≢ [] → IsExplained sha s (run_apart sha ps calls) sid) (sessions_follow_walks_apart sha hash)
