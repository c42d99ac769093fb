-- The steps of a session, among all steps of a log.
use Rattle.std.proofs.Common.{◌≡◌, ℕ, Bool, true, false, ◌||◌, if◌then◌else◌, List, [], ◌∷◌, ◌++◌, map, filter, refl, ap, sym, ◌∙◌, subst, inl, inr, append-nil}
use Rattle.std.specs.Prelude.{bytes_eq, flat_map}
use Rattle.std.specs.List.{list_any}
use Rattle.std.proofs.lemmas.Grind.{flat_map-append}
use Rattle.std.proofs.lemmas.List.Elements.{filter-append}
use Rattle.std.proofs.lemmas.Slice.Eq.{bytes_eq-Decides}
use Rattle.std.proofs.lemmas.Bool.{cases_Bool, or_parts}
use Rattle.std.proofs.lemmas.List.{map-append}
use Rattle.sg_protocol.specs.Calls.{Event, sid_of}
use Rattle.sg_protocol.specs.Evidence.{IsView}
use Rattle.sg_protocol.specs.Graph.{Graph}
use Rattle.sg_protocol.specs.Explaining.{walk_after_event, walk_after_events, walk_after_steps, IsExample, IsShown, AllShown, view_in}
use Rattle.sg_protocol.specs.Run.{run, events_of, events_of_outcome}
use Rattle.sg_protocol.specs.Schedule.{honest_role}
use Rattle.sg_protocol.specs.Texts.{Hash, IsHash}
use Rattle.sg_protocol.specs.Walk.{StoredStep, OnePath}
use Rattle.sg_protocol.specs.World.{Logged}
use Rattle.sg_protocol.proofs.ExplainingWalks.{walks_explain, frames_show_views}
use Rattle.sg_certify.specs.Events.{explaining_walk}
use Rattle.sg_certify.specs.Sessions.{is_of_session, steps_of_session, events_beside}
use Rattle.sg_certify.specs.Laws.{SessionsAreExplained, SessionsShowViews}

-- ---- events of a session

pub events_of-append : (sid : List ℕ) (xs ys : List Logged) → events_of sid (xs ++ ys) ≡ events_of sid xs ++ events_of sid ys
events_of-append sid xs ys =
    ap (filter (λ e. bytes_eq (sid_of e) sid)) (flat_map-append (λ (l : Logged). events_of_outcome l.outcome) xs ys)
    ∙ filter-append (λ e. bytes_eq (sid_of e) sid) (flat_map (λ (l : Logged). events_of_outcome l.outcome) xs) (flat_map (λ (l : Logged). events_of_outcome l.outcome) ys)

none_pass : {A : Type 0} (p : A → Bool) (xs : List A) → list_any p xs ≡ false → filter p xs ≡ []
none_pass p [] h = refl
none_pass p (x ∷ xs) h = let parts = or_parts (p x) (list_any p xs) h in rw parts.0 (none_pass p xs parts.1)

-- a step that has no event of the session
no_event : (sid : List ℕ) (l : Logged) → is_of_session sid l ≡ false → events_of sid (l ∷ []) ≡ []
no_event sid l h = ap (filter (λ e. bytes_eq (sid_of e) sid)) (append-nil (events_of_outcome l.outcome)) ∙ none_pass (λ e. bytes_eq (sid_of e) sid) (events_of_outcome l.outcome) h

-- the session's steps have all its events
pub events_of-part : (sid : List ℕ) (log : List Logged) → events_of sid (steps_of_session sid log) ≡ events_of sid log
events_of-part sid [] = refl
events_of-part sid (l ∷ ls) = elim (cases_Bool (is_of_session sid l)) [
  | inl y ↦ rw y (events_of-append sid (l ∷ []) (filter (is_of_session sid) ls) ∙ ap (λ es. events_of sid (l ∷ []) ++ es) (events_of-part sid ls) ∙ sym (events_of-append sid (l ∷ []) ls))
  | inr n ↦ rw n (events_of-part sid ls ∙ sym (events_of-append sid (l ∷ []) ls ∙ ap (λ es. es ++ events_of sid ls) (no_event sid l n)))
]

beside_one : (walk : List ℕ) (es : List Event) → map (λ (p : Event × List ℕ). p.0) (map (λ e. (e, walk)) es) ≡ es
beside_one walk [] = refl
beside_one walk (e ∷ es) = ap (λ l. e ∷ l) (beside_one walk es)

-- the events beside their walks are those of the steps
pub events_beside-are : (sid : List ℕ) (part : List (Logged × List ℕ)) → map (λ (p : Event × List ℕ). p.0) (events_beside sid part) ≡ events_of sid (map (λ (l : Logged × List ℕ). l.0) part)
events_beside-are sid [] = refl
events_beside-are sid (l ∷ ls) =
    map-append (λ (p : Event × List ℕ). p.0) (map (λ e. (e, l.1)) (events_of sid (l.0 ∷ []))) (events_beside sid ls)
    ∙ (λ i. beside_one l.1 (events_of sid (l.0 ∷ [])) i ++ events_beside-are sid ls i)
    ∙ sym (events_of-append sid (l.0 ∷ []) (map (λ (l : Logged × List ℕ). l.0) ls))

-- ---- walks beside all steps

-- all steps, those of the session beside their walks, the others beside none
abbrev spread : List ℕ → List Logged → List (Logged × List ℕ) → List (Logged × List ℕ)
spread sid [] part = []
spread sid (l ∷ ls) [] = (l, []) ∷ spread sid ls []
spread sid (l ∷ ls) (p ∷ ps) = if is_of_session sid l then (l, p.1) ∷ spread sid ls ps else ((l, []) ∷ spread sid ls (p ∷ ps))

abbrev pub first_of : Logged × List ℕ → Logged
first_of l = l.0

spread_all : (sid : List ℕ) (log : List Logged) (part : List (Logged × List ℕ)) → map first_of (spread sid log part) ≡ log
spread_all sid [] part = refl
spread_all sid (l ∷ ls) [] = ap (λ ms. l ∷ ms) (spread_all sid ls [])
spread_all sid (l ∷ ls) (p ∷ ps) = elim (cases_Bool (is_of_session sid l)) [
  | inl y ↦ rw y (ap (λ ms. l ∷ ms) (spread_all sid ls ps))
  | inr n ↦ rw n (ap (λ ms. l ∷ ms) (spread_all sid ls (p ∷ ps)))
]

-- a step without an event of the session took no frame of it
not_taken : (g : Graph) (sid : List ℕ) (before : List Logged) (l : Logged) → is_of_session sid l ≡ false → IsShown g sid before l []
not_taken g sid before l n bs f call reads outcome same =
    let here : is_of_session sid l ≡ (bytes_eq f.sid sid || false) = ap (λ o. list_any (λ e. bytes_eq (sid_of e) sid) (events_of_outcome o)) outcome in
    let yes : bytes_eq f.sid sid ≡ true = (bytes_eq-Decides f.sid sid).1 same in
    let both : is_of_session sid l ≡ true = here ∙ ap (λ b. b || false) yes in
    absurd (let z : true ≡ false = sym both ∙ n in cc)

-- what a step shows depends on the session's events before it alone
pub same_shown : (g : Graph) (sid : List ℕ) (before others : List Logged) (l k : Logged) (walk : List ℕ) → l ≡ k → events_of sid others ≡ events_of sid before → IsShown g sid others k walk → IsShown g sid before l walk
same_shown g sid before others l k walk is e h bs f call reads outcome same =
    subst (λ es. IsExample g f.receiver (view_in es f) walk) e (h bs f (ap (λ (x : Logged). x.call) (sym is) ∙ call) reads (ap (λ (x : Logged). x.outcome) (sym is) ∙ outcome) same)

-- one step more before
more_before : (sid : List ℕ) (before others : List Logged) (l k : Logged) → l ≡ k → events_of sid others ≡ events_of sid before → events_of sid (others ++ k ∷ []) ≡ events_of sid (before ++ l ∷ [])
more_before sid before others l k is e = events_of-append sid others (k ∷ []) ∙ (λ i. e i ++ events_of sid (sym is i ∷ [])) ∙ sym (events_of-append sid before (l ∷ []))

-- one step more that has no event of the session
none_before : (sid : List ℕ) (before others : List Logged) (l : Logged) → is_of_session sid l ≡ false → events_of sid others ≡ events_of sid before → events_of sid others ≡ events_of sid (before ++ l ∷ [])
none_before sid before others l n e = e ∙ sym (events_of-append sid before (l ∷ []) ∙ ap (λ es. events_of sid before ++ es) (no_event sid l n) ∙ append-nil (events_of sid before))

spread_shown : (g : Graph) (sid : List ℕ) (before others : List Logged) (log : List Logged) (part : List (Logged × List ℕ)) → events_of sid others ≡ events_of sid before → map first_of part ≡ steps_of_session sid log → AllShown g sid others part
    → AllShown g sid before (spread sid log part)
spread_shown g sid before others [] part e are all = tt
spread_shown g sid before others (l ∷ ls) [] e are all = elim (cases_Bool (is_of_session sid l)) [
  | inl y ↦ absurd (let z : [] ≡ l ∷ steps_of_session sid ls = rw y at are in cc)
  | inr n ↦ (not_taken g sid before l n, spread_shown g sid (before ++ l ∷ []) others ls [] (none_before sid before others l n e) (rw n at are) tt)
]
spread_shown g sid before others (l ∷ ls) (p ∷ ps) e are all = elim (cases_Bool (is_of_session sid l)) [
  | inl y ↦
      (let are' : p.0 ∷ map first_of ps ≡ l ∷ steps_of_session sid ls = rw y at are in
      let is : l ≡ p.0 = cc in
      let rest : map first_of ps ≡ steps_of_session sid ls = cc in
      rw y (same_shown g sid before others l p.0 p.1 is e all.0, spread_shown g sid (before ++ l ∷ []) (others ++ p.0 ∷ []) ls ps (more_before sid before others l p.0 is e) rest all.1))
  | inr n ↦ rw n (not_taken g sid before l n, spread_shown g sid (before ++ l ∷ []) others ls (p ∷ ps) (none_before sid before others l n e) (rw n at are) all)
]

-- ---- the walk

along_one : (g : Graph) (honest : ℕ → Bool) (steps : List StoredStep) (es : List Event) (walk : List ℕ) (rest : List (Event × List ℕ))
    → explaining_walk g honest steps (map (λ e. (e, walk)) es ++ rest) ≡ explaining_walk g honest (walk_after_events g honest steps es walk) rest
along_one g honest steps [] walk rest = refl
along_one g honest steps (e ∷ es) walk rest = along_one g honest (walk_after_event g honest steps e walk) es walk rest

spread_explained : (g : Graph) (honest : ℕ → Bool) (sid : List ℕ) (steps : List StoredStep) (log : List Logged) (part : List (Logged × List ℕ)) → map first_of part ≡ steps_of_session sid log
    → walk_after_steps g honest sid steps (spread sid log part) ≡ explaining_walk g honest steps (events_beside sid part)
spread_explained g honest sid steps [] [] are = refl
spread_explained g honest sid steps [] (p ∷ ps) are = absurd (cc)
spread_explained g honest sid steps (l ∷ ls) [] are = elim (cases_Bool (is_of_session sid l)) [
  | inl y ↦ absurd (let z : [] ≡ l ∷ steps_of_session sid ls = rw y at are in cc)
  | inr n ↦ ap (λ es. walk_after_steps g honest sid (walk_after_events g honest steps es []) (spread sid ls [])) (no_event sid l n) ∙ spread_explained g honest sid steps ls [] (rw n at are)
]
spread_explained g honest sid steps (l ∷ ls) (p ∷ ps) are = elim (cases_Bool (is_of_session sid l)) [
  | inl y ↦
      (let are' : p.0 ∷ map first_of ps ≡ l ∷ steps_of_session sid ls = rw y at are in
      let is : l ≡ p.0 = cc in
      let rest : map first_of ps ≡ steps_of_session sid ls = cc in
      rw y (spread_explained g honest sid (walk_after_events g honest steps (events_of sid (l ∷ [])) p.1) ls ps rest
      ∙ ap (λ k. explaining_walk g honest (walk_after_events g honest steps (events_of sid (k ∷ [])) p.1) (events_beside sid ps)) is
      ∙ sym (along_one g honest steps (events_of sid (p.0 ∷ [])) p.1 (events_beside sid ps))))
  | inr n ↦ rw n (ap (λ es. walk_after_steps g honest sid (walk_after_events g honest steps es []) (spread sid ls (p ∷ ps))) (no_event sid l n) ∙ spread_explained g honest sid steps ls (p ∷ ps) (rw n at are))
]

-- ---- the laws

pub sessions_are_explained : (sha : Hash) → IsHash sha → SessionsAreExplained sha
sessions_are_explained sha hash programs s sid cast g part compiled sched premises is gr are all =
    let log : List Logged = (run sha programs s).log in
    let path = walks_explain sha hash programs s sid cast g (spread sid log part) compiled sched premises is gr (spread_all sid log part) (spread_shown g sid [] [] log part refl are all) in (
      events_beside-are sid part ∙ ap (events_of sid) are ∙ events_of-part sid log,
      subst (OnePath g (honest_role s cast) (events_of sid log)) (spread_explained g (honest_role s cast) sid [] log part are) path,
    )

-- where a step of the session stands among all
abbrev OccursIn : List ℕ → List Logged → List Logged → Logged → Type 0
OccursIn sid log before l = (prefix : List Logged) × (back : List Logged) × (log ≡ prefix ++ l ∷ back) × (events_of sid prefix ≡ events_of sid before)

further : (sid : List ℕ) (x y : Logged) (xs before : List Logged) (l : Logged) → x ≡ y → OccursIn sid xs before l → OccursIn sid (x ∷ xs) (y ∷ before) l
further sid x y xs before l same r =
    (x ∷ r.0, r.1, ap (λ ls. x ∷ ls) r.2, events_of-append sid (x ∷ []) r.0 ∙ (λ i. events_of sid (same i ∷ []) ++ r.3 i) ∙ sym (events_of-append sid (y ∷ []) before))

past : (sid : List ℕ) (x : Logged) (xs before : List Logged) (l : Logged) → is_of_session sid x ≡ false → OccursIn sid xs before l → OccursIn sid (x ∷ xs) before l
past sid x xs before l n r = (x ∷ r.0, r.1, ap (λ ls. x ∷ ls) r.2, events_of-append sid (x ∷ []) r.0 ∙ ap (λ es. es ++ events_of sid r.0) (no_event sid x n) ∙ r.3)

parted : (sid : List ℕ) (log before : List Logged) (l : Logged) (after : List Logged) → steps_of_session sid log ≡ before ++ l ∷ after → OccursIn sid log before l
parted sid [] [] l after e = absurd (cc)
parted sid [] (b ∷ bs) l after e = absurd (cc)
parted sid (x ∷ xs) [] l after e = elim (cases_Bool (is_of_session sid x)) [
  | inl y ↦
      (let e' : x ∷ steps_of_session sid xs ≡ l ∷ after = rw y at e in
      let same : x ≡ l = cc in
      ([], xs, ap (λ k. k ∷ xs) same, refl))
  | inr n ↦ past sid x xs [] l n (parted sid xs [] l after (rw n at e))
]
parted sid (x ∷ xs) (b ∷ bs) l after e = elim (cases_Bool (is_of_session sid x)) [
  | inl y ↦
      (let e' : x ∷ steps_of_session sid xs ≡ b ∷ (bs ++ l ∷ after) = rw y at e in
      let same : x ≡ b = cc in
      let rest : steps_of_session sid xs ≡ bs ++ l ∷ after = cc in
      further sid x b xs bs l same (parted sid xs bs l after rest))
  | inr n ↦ past sid x xs (b ∷ bs) l n (parted sid xs (b ∷ bs) l after (rw n at e))
]

pub sessions_show_views : (sha : Hash) → IsHash sha → SessionsShowViews sha
sessions_show_views sha hash programs s sid cast g before l after bs f compiled sched premises is gr e call reads outcome same =
    let at = parted sid (run sha programs s).log before l after e in
    subst (λ es. IsView g f.receiver (view_in es f)) at.3 (frames_show_views sha hash programs s sid cast g at.0 l at.1 bs f compiled sched premises is gr at.2 call reads outcome same)
