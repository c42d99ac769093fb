-- The run of principals apart is a course of happenings: one walk explains each session, and no principal joins a pair of session and role twice.
use Rattle.std.specs.Prelude.{◌≡◌, ◌≢◌, ℕ, ◌+◌, ◌||◌, Bool, true, false, All, List, [], ◌∷◌, map, flat_map, find, bytes_eq, refl, Some}
use Rattle.std.specs.List.{AllByRecursion}
use Rattle.std.proofs.Common.{sym, subst, inl, inr}
use Rattle.std.proofs.lemmas.Bool.{cases_Bool}
use Rattle.std.proofs.lemmas.List.Elements.{recursion_from_All}
use Rattle.std.proofs.lemmas.Slice.Eq.{bytes_eq-Decides}
use Rattle.sg_model.specs.Lists.{has_text}
use Rattle.sg_model.specs.Names.{Name}
use Rattle.sg_model.proofs.Small.{same_bytes, all-append}
use Rattle.sg_model.proofs.Members.{In, in_map, in_flat, all_in}
use Rattle.sg_protocol.specs.Graph.{IsGraph}
use Rattle.sg_protocol.specs.Texts.{Hash, IsHash}
use Rattle.sg_protocol.specs.Keyring.{Program}
use Rattle.sg_protocol.specs.Past.{Past, JoinedOnce, AreAnswers, new_node}
use Rattle.sg_protocol.specs.World.{World}
use Rattle.sg_protocol.specs.Run.{events_of}
use Rattle.sg_protocol.specs.Premises.{Premises}
use Rattle.sg_protocol.specs.Headline.{IsExplained}
use Rattle.sg_protocol.specs.IsSchedule.{IsProgram}
use Rattle.sg_protocol.specs.Ranges.{IsCallInRange}
use Rattle.sg_protocol.proofs.Happenings.{Happening, Asked, IsCourse, IsRight, Own, all_happen, given, run_of, suffix_course}
use Rattle.sg_protocol.proofs.Progressing.{Suffix}
use Rattle.sg_protocol.proofs.OneWalk.{explained, first_cast}
use Rattle.sg_protocol.proofs.Joins.{Right, joined_once}
use Rattle.sg_apart.specs.Apart.{Begins, CallAt, AreCallsInRange, names_of, honest_are, world_called, world_after_calls, run_apart}
use Rattle.sg_apart.specs.Laws.{SessionsFollowWalksApart, NoneJoinsTwiceApart}
use Rattle.sg_apart.proofs.Once.{there}

-- ---- calls are happenings

abbrev pub asks : CallAt → Happening
asks c = Asked c.who c.call

pub course_same : (sha : Hash) (w : World) (k : ℕ) (cs : List CallAt) → all_happen sha w k (map asks cs) ≡ world_after_calls sha w k cs
course_same sha w k [] = refl
course_same sha w k (c ∷ cs) = course_same sha (world_called sha w k c) (k + 1) cs

pub suffix_calls : (sha : Hash) (w : World) (k : ℕ) (cs : List CallAt) → Suffix k w.log (world_after_calls sha w k cs).log
suffix_calls sha w k cs = subst (λ (z : World). Suffix k w.log z.log) (course_same sha w k cs) (suffix_course sha w k (map asks cs))

-- what holds of the run of the course holds of the run apart
pub of_course : (sha : Hash) (ps : List Past) (calls : List CallAt) (P : World → Type 0) → P (run_of sha ps (map asks calls)) → P (run_apart sha ps calls)
of_course sha ps calls P = subst P (course_same sha (record { pasts = ps; log = [] }) 1 calls)

-- a principal that is found is one of the honest
named : (xs : List Past) (who : Name) (p : Past) → find (λ (p : Past). bytes_eq p.keys.me who) xs ≡ Some p → has_text who (names_of xs) ≡ true
named [] who p e = absurd (cc)
named (x ∷ xs) who p e = elim (cases_Bool (bytes_eq x.keys.me who)) [
  | inl h ↦ rw ((bytes_eq-Decides who x.keys.me).1 (sym (same_bytes x.keys.me who h))) refl
  | inr h ↦ or_more (bytes_eq who x.keys.me) (named xs who p (rw h at e))
]
  where
    or_more : (b : Bool) → has_text who (names_of xs) ≡ true → (b || has_text who (names_of xs)) ≡ true
    or_more true k = refl
    or_more false k = k

module _ (sha : Hash) (ps : List Past) (are : All (Begins sha) ps) (calls : List CallAt) (range : AreCallsInRange calls) where
  own_of : (p : Past) → In ps p → Own sha (honest_are ps) p.programs
  own_of p i = go p.programs (λ q j. j) (recursion_from_All (IsProgram sha) p.programs (all_in (Begins sha) ps p are i).programs)
    where
      go : (xs : List Program) → ((q : Program) → In xs q → In p.programs q) → AllByRecursion (IsProgram sha) xs → Own sha (honest_are ps) xs
      go [] there a = tt
      go (q ∷ xs) there a = ((a.0, in_flat (λ (p : Past). map (λ (q : Program). q.graph) p.programs) ps p q.graph i (in_map (λ (q : Program). q.graph) p.programs q (there q (inl refl)))), go xs (λ z j. there z (inr j)) a.1)

  are_graphs : AllByRecursion IsGraph (honest_are ps).graphs
  are_graphs = go ps (recursion_from_All (Begins sha) ps are)
    where
      of_programs : (xs : List Program) → AllByRecursion (IsProgram sha) xs → AllByRecursion IsGraph (map (λ (q : Program). q.graph) xs)
      of_programs [] a = tt
      of_programs (q ∷ xs) a = ((a.0).is_graph, of_programs xs a.1)

      go : (xs : List Past) → AllByRecursion (Begins sha) xs → AllByRecursion IsGraph (flat_map (λ (p : Past). map (λ (q : Program). q.graph) p.programs) xs)
      go [] a = tt
      go (p ∷ xs) a = all-append IsGraph (map (λ (q : Program). q.graph) p.programs) _ (of_programs p.programs (recursion_from_All (IsProgram sha) p.programs (a.0).programs)) (go xs a.1)

  all_right : (cs : List CallAt) → AllByRecursion (λ (c : CallAt). IsCallInRange c.call) cs → AllByRecursion IsRight (map asks cs)
  all_right [] h = tt
  all_right (c ∷ cs) h = (given c.call h.0, all_right cs h.1)

  pub is_course : IsCourse sha (honest_are ps) ps (map asks calls)
  is_course = record {
    graphs = are_graphs;
    own = own_of;
    calls = λ p i. (all_in (Begins sha) ps p are i).calls;
    honest = named ps;
    there = there ps;
    right = all_right calls (recursion_from_All (λ (c : CallAt). IsCallInRange c.call) calls range);
  }

-- ---- the headline

pub sessions_follow_walks_apart : (sha : Hash) → IsHash sha → SessionsFollowWalksApart sha
sessions_follow_walks_apart sha hash ps calls are range =
    let all : IsCourse sha (honest_are ps) ps (map asks calls) = is_course sha ps are calls range in
    of_course sha ps calls (λ w. Premises sha (honest_are ps) w → (sid : List ℕ) → events_of sid w.log ≢ [] → IsExplained sha (honest_are ps) w sid)
    (λ premises sid some. explained sha hash (honest_are ps) ps (map asks calls) all sid premises (first_cast sha hash (honest_are ps) ps (map asks calls) all sid some))

right_new : (sha : Hash) (ps : List Past) → AllByRecursion (Begins sha) ps → AllByRecursion (Right sha) ps
right_new sha [] a = tt
right_new sha (p ∷ ps) a = ((subst (AreAnswers sha (new_node p.keys p.programs p.first)) (sym (a.0).calls) tt, (a.0).first), right_new sha ps a.1)

pub none_joins_twice_apart : (sha : Hash) → NoneJoinsTwiceApart sha
none_joins_twice_apart sha ps calls b = of_course sha ps calls (λ w. All JoinedOnce w.pasts) (joined_once sha ps (map asks calls) (right_new sha ps (recursion_from_All (Begins sha) ps b)))
