-- What a principal printed of its lives has no two joins of one pair.
use Rattle.std.specs.Prelude.{◌≡◌, ℕ, zero, suc, ◌==◌, ◌&&◌, ◌⊎◌, Bool, true, false, not, List, [], ◌∷◌, ◌++◌, map, flat_map, take, bytes_eq, refl}
use Rattle.std.specs.List.{AllByRecursion}
use Rattle.std.proofs.Common.{sym, ◌∙◌, ap, subst, inl, inr}
use Rattle.std.proofs.lemmas.Bool.{cases_Bool, and_from, and_parts, not-true, eqb-true}
use Rattle.std.proofs.lemmas.List.Elements.{All-from_recursion}
use Rattle.sg_model.proofs.Small.{same_bytes}
use Rattle.sg_protocol.specs.Texts.{Hash}
use Rattle.sg_protocol.specs.Calls.{Event, sid_of, role_of, does_join, events_of_answer}
use Rattle.sg_protocol.specs.Node.{has_joined}
use Rattle.sg_protocol.specs.Past.{AnsweredCall, Past, joins_once, pairs_differ}
use Rattle.sg_protocol.specs.Restarts.{events_of_lives, reported_in_lives, joined_by, ReportedJoinOnce}
use Rattle.sg_protocol.proofs.Finding.{joined_more, joined_now}
use Rattle.sg_protocol.proofs.Lives.{lives_join_once}

-- the first events are some of the others, in their order
abbrev IsPart : List Event → List Event → Type 0
IsPart reported [] = reported ≡ []
IsPart reported (e ∷ es) = IsPart reported es ⊎ ((rest : List Event) × (reported ≡ e ∷ rest) × IsPart rest es)

abbrev evs : List AnsweredCall → List Event
evs cs = flat_map (λ (c : AnsweredCall). events_of_answer c.answer) cs

part_refl : (es : List Event) → IsPart es es
part_refl [] = refl
part_refl (e ∷ es) = inr (es, refl, part_refl es)

part_none : (es : List Event) → IsPart [] es
part_none [] = refl
part_none (e ∷ es) = inl (part_none es)

part_both : (a es b bs : List Event) → IsPart a es → IsPart b bs → IsPart (a ++ b) (es ++ bs)
part_both a [] b bs h k = subst (λ z. IsPart (z ++ b) bs) (sym h) k
part_both a (e ∷ es) b bs (inl h) k = inl (part_both a es b bs h k)
part_both a (e ∷ es) b bs (inr h) k = inr (h.0 ++ b, ap (λ z. z ++ b) h.1, part_both h.0 es b bs h.2 k)

part_take : (n : ℕ) (cs : List AnsweredCall) → IsPart (evs (take n cs)) (evs cs)
part_take zero cs = part_none (evs cs)
part_take (suc n) [] = refl
part_take (suc n) (c ∷ cs) = part_both (events_of_answer c.answer) (events_of_answer c.answer) (evs (take n cs)) (evs cs) (part_refl (events_of_answer c.answer)) (part_take n cs)

reported_part : (ls : List (ℕ × Past)) → IsPart (reported_in_lives ls) (events_of_lives (map (λ (l : ℕ × Past). l.1) ls))
reported_part [] = refl
reported_part (l ∷ ls) = part_both (evs (take l.0 (l.1).calls)) (evs (l.1).calls) (reported_in_lives ls) (events_of_lives (map (λ (l : ℕ × Past). l.1) ls)) (part_take l.0 (l.1).calls) (reported_part ls)

-- ---- none of these pairs was joined

abbrev Absent : List (List ℕ × ℕ) → List ℕ × ℕ → Type 0
Absent js j = has_joined js j.0 j.1 ≡ false

-- the longer list had none of them
fewer : (js : List (List ℕ × ℕ)) (p j : List ℕ × ℕ) → Absent (js ++ p ∷ []) j → Absent js j
fewer js p j h = elim (cases_Bool (has_joined js j.0 j.1)) [ inl e ↦ absurd (let z : true ≡ false = sym (joined_more js p j.0 j.1 e) ∙ h in cc) | inr e ↦ e ]

all_fewer : (js : List (List ℕ × ℕ)) (p : List ℕ × ℕ) (ks : List (List ℕ × ℕ)) → AllByRecursion (Absent (js ++ p ∷ [])) ks → AllByRecursion (Absent js) ks
all_fewer js p [] a = tt
all_fewer js p (k ∷ ks) a = (fewer js p k a.0, all_fewer js p ks a.1)

-- a pair that was joined last is none of them
not_among : (js : List (List ℕ × ℕ)) (sid : List ℕ) (r : ℕ) (ks : List (List ℕ × ℕ)) → AllByRecursion (Absent (js ++ (sid, r) ∷ [])) ks → has_joined ks sid r ≡ false
not_among js sid r [] a = refl
not_among js sid r (k ∷ ks) a = elim (cases_Bool (bytes_eq k.0 sid && (k.1 == r))) [
  | inl e ↦
      let both = and_parts (bytes_eq k.0 sid) (k.1 == r) e in
      absurd (let z : true ≡ false = sym (joined_now js sid r) ∙ subst (λ s. has_joined (js ++ (sid, r) ∷ []) s r ≡ false) (same_bytes k.0 sid both.0) (subst (λ n. has_joined (js ++ (sid, r) ∷ []) k.0 n ≡ false) (eqb-true k.1 r both.1) a.0) in cc)
  | inr e ↦ rw e (not_among js sid r ks a.1)
]

abbrev Differ : List (List ℕ × ℕ) → List Event → Type 0
Differ js reported = (pairs_differ (joined_by reported) ≡ true) × AllByRecursion (Absent js) (joined_by reported)

-- one more event that was printed
one_reported : (js : List (List ℕ × ℕ)) (e : Event) (rest es : List Event) → (b : Bool) → does_join e ≡ b → joins_once js (e ∷ es) ≡ true
    → ((ks : List (List ℕ × ℕ)) → joins_once ks es ≡ true → Differ ks rest) → Differ js (e ∷ rest)
one_reported js e rest es true j h f =
    let here : (not (has_joined js (sid_of e) (role_of e)) && joins_once (js ++ (sid_of e, role_of e) ∷ []) es) ≡ true = (rw j at h) in
    let both = and_parts (not (has_joined js (sid_of e) (role_of e))) (joins_once (js ++ (sid_of e, role_of e) ∷ []) es) here in
    let r : Differ (js ++ (sid_of e, role_of e) ∷ []) rest = f (js ++ (sid_of e, role_of e) ∷ []) both.1 in
    subst (λ l. (pairs_differ l ≡ true) × AllByRecursion (Absent js) l) (sym (let z : joined_by (e ∷ rest) ≡ (sid_of e, role_of e) ∷ joined_by rest = rw j refl in z)) (
      and_from (not (has_joined (joined_by rest) (sid_of e) (role_of e))) (pairs_differ (joined_by rest)) (ap not (not_among js (sid_of e) (role_of e) (joined_by rest) r.1)) r.0,
      (not-true (has_joined js (sid_of e) (role_of e)) both.0, all_fewer js (sid_of e, role_of e) (joined_by rest) r.1),
    )
one_reported js e rest es false j h f =
    let here : (has_joined js (sid_of e) (role_of e) && joins_once js es) ≡ true = (rw j at h) in
    let r : Differ js rest = f js (and_parts (has_joined js (sid_of e) (role_of e)) (joins_once js es) here).1 in
    subst (λ l. (pairs_differ l ≡ true) × AllByRecursion (Absent js) l) (sym (let z : joined_by (e ∷ rest) ≡ joined_by rest = rw j refl in z)) r

-- one more event that was not printed
one_unreported : (js : List (List ℕ × ℕ)) (e : Event) (reported es : List Event) → (b : Bool) → does_join e ≡ b → joins_once js (e ∷ es) ≡ true
    → ((ks : List (List ℕ × ℕ)) → joins_once ks es ≡ true → Differ ks reported) → Differ js reported
one_unreported js e reported es true j h f =
    let here : (not (has_joined js (sid_of e) (role_of e)) && joins_once (js ++ (sid_of e, role_of e) ∷ []) es) ≡ true = (rw j at h) in
    let r : Differ (js ++ (sid_of e, role_of e) ∷ []) reported = f (js ++ (sid_of e, role_of e) ∷ []) (and_parts (not (has_joined js (sid_of e) (role_of e))) (joins_once (js ++ (sid_of e, role_of e) ∷ []) es) here).1 in
    (r.0, all_fewer js (sid_of e, role_of e) (joined_by reported) r.1)
one_unreported js e reported es false j h f =
    let here : (has_joined js (sid_of e) (role_of e) && joins_once js es) ≡ true = (rw j at h) in
    f js (and_parts (has_joined js (sid_of e) (role_of e)) (joins_once js es) here).1

part_differ : (es reported : List Event) → IsPart reported es → (js : List (List ℕ × ℕ)) → joins_once js es ≡ true → Differ js reported
part_differ [] reported e js h = subst (Differ js) (sym e) (refl, tt)
part_differ (e ∷ es) reported (inl p) js h = one_unreported js e reported es (does_join e) refl h (part_differ es reported p)
part_differ (e ∷ es) reported (inr p) js h = subst (Differ js) (sym p.1) (one_reported js e p.0 es (does_join e) refl h (part_differ es p.0 p.2))

pub reported_join_once : (sha : Hash) → ReportedJoinOnce sha
reported_join_once sha first ls a =
    let d : Differ first (reported_in_lives ls) = part_differ (events_of_lives (map (λ (l : ℕ × Past). l.1) ls)) (reported_in_lives ls) (reported_part ls) first (lives_join_once sha first (map (λ (l : ℕ × Past). l.1) ls) a) in
    (d.0, All-from_recursion (Absent first) (joined_by (reported_in_lives ls)) d.1)
