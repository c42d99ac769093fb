-- The first break of each assumption.
use Rattle.std.specs.Prelude.{◌≡◌, ◌≢◌, ℕ, ◌<◌, ◌⊎◌, Bool, true, false, not, ◌&&◌, nat_lt, List, [], ◌∷◌, ◌++◌, map, find, bytes_eq, refl, Option, Some, None, option_map}
use Rattle.std.specs.List.{list_any}
use Rattle.std.specs.Option.{option_or}
use Rattle.std.proofs.Common.{sym, ◌∙◌, ap, subst, inl, inr, arith, append_assoc, append-nil}
use Rattle.std.proofs.lemmas.Bool.{cases_Bool, and_from, and_parts, not-true}
use Rattle.std.proofs.lemmas.Bool.Decides.{nat_tests}
use Rattle.sg_model.proofs.Small.{clash, same_bytes, bytes_same}
use Rattle.sg_model.proofs.Members.{In, in_from_Contains, contains_from_in, in_left, in_right, in_parts, in_map, in_flat, map_in, flat_in, all_of}
use Rattle.sg_model.proofs.Finding.{find_none, none_find, any_in, in_any}
use Rattle.sg_protocol.specs.Texts.{Hash}
use Rattle.sg_protocol.specs.Notes.{Note}
use Rattle.sg_protocol.specs.Schedule.{Schedule, is_honest}
use Rattle.sg_protocol.specs.World.{Logged, World}
use Rattle.sg_protocol.specs.Premises.{MadeBefore, Unforged, CollisionFree}
use Rattle.sg_protocol.specs.Broken.{same_note, was_made_before, is_forged, found_notes, first_forged, IsForged, IsFirstForged, ForgedIsFirst, collide, collision_after, first_collision, IsFirstCollision, CollisionIsFirst}

-- ---- lists

-- the first that passes, with what stands around it
record Found {A : Type 0} (p : A → Bool) (xs : List A) (x : A) : Type 0 where
  before : List A
  after : List A
  parts : xs ≡ before ++ x ∷ after
  passes : p x ≡ true
  first : (y : A) → In before y → p y ≡ false

find_found : {A : Type 0} (p : A → Bool) (xs : List A) (x : A) → find p xs ≡ Some x → Found p xs x
find_found {A = A} p [] x h = absurd (let z : None ≡ Some x = h in cc)
find_found {A = A} p (y ∷ xs) x h = elim (cases_Bool (p y)) [
  | inl e ↦ let z : Some y ≡ Some x = (rw e at h) in let q : y ≡ x = cc in record { before = []; after = xs; parts = ap (λ v. v ∷ xs) q; passes = ap p (sym q) ∙ e; first = λ v i. absurd i }
  | inr e ↦ let r = find_found p xs x (rw e at h) in record { before = y ∷ r.before; after = r.after; parts = ap (λ l. y ∷ l) r.parts; passes = r.passes; first = λ v i. on e r.before r.first v i }
]
  where
    on : p y ≡ false → (before : List A) → ((v : A) → In before v → p v ≡ false) → (v : A) → In (y ∷ before) v → p v ≡ false
    on e before f v (inl q) = ap p q ∙ e
    on e before f v (inr i) = f v i

-- ---- a tag that nobody made

pub same_note_is : (m n : Note) → same_note m n ≡ true → m ≡ n
same_note_is m n h =
    let a = and_parts (bytes_eq m.one n.one && bytes_eq m.two n.two) (bytes_eq m.text n.text) h in
    let b = and_parts (bytes_eq m.one n.one) (bytes_eq m.two n.two) a.0 in
    let p = same_bytes m.one n.one b.0 in
    let q = same_bytes m.two n.two b.1 in
    let r = same_bytes m.text n.text a.1 in
    λ i. record { one = p i; two = q i; text = r i }

is_same : (n : Note) → same_note n n ≡ true
is_same n = rw (bytes_same n.one n.one refl, bytes_same n.two n.two refl, bytes_same n.text n.text refl) refl

made : (k : ℕ) (n : Note) (log : List Logged) → was_made_before k n log ≡ true → MadeBefore k n log
made k n log h =
    let r = any_in (λ (l : Logged). nat_lt l.number k && list_any (same_note n) l.notes.made) log h in
    let a = and_parts (nat_lt (r.0).number k) (list_any (same_note n) (r.0).notes.made) r.2 in
    let b = any_in (same_note n) (r.0).notes.made a.1 in
    (r.0, contains_from_in log r.0 r.1, less (r.0).number a.0, contains_from_in (r.0).notes.made n (subst (In (r.0).notes.made) (sym (same_note_is n b.0 b.2)) b.1))
  where
    less : (a : ℕ) → nat_lt a k ≡ true → a < k
    less a h = grind (arith, nat_tests)

was_made : (k : ℕ) (n : Note) (log : List Logged) → MadeBefore k n log → was_made_before k n log ≡ true
was_made k n log m =
    in_any (λ (l : Logged). nat_lt l.number k && list_any (same_note n) l.notes.made) log m.0 (in_from_Contains log m.0 m.1)
    (and_from (nat_lt (m.0).number k) (list_any (same_note n) (m.0).notes.made) (less (m.0).number m.2) (in_any (same_note n) (m.0).notes.made n (in_from_Contains (m.0).notes.made n m.3) (is_same n)))
  where
    less : (a : ℕ) → a < k → nat_lt a k ≡ true
    less a h = grind (arith, nat_tests)

forged_is : (s : Schedule) (w : World) (k : ℕ) (n : Note) → is_forged s w (k, n) ≡ true → IsForged s w k n
forged_is s w k n h =
    let a = and_parts (is_honest s n.one && is_honest s n.two) (not (was_made_before k n w.log)) h in
    let b = and_parts (is_honest s n.one) (is_honest s n.two) a.0 in
    (b.0, b.1, λ m. clash (was_made_before k n w.log) (was_made k n w.log m) (not-true (was_made_before k n w.log) a.1))

unforged_is : (s : Schedule) (w : World) (k : ℕ) (n : Note) → is_forged s w (k, n) ≡ false → IsForged s w k n → ⊥
unforged_is s w k n h f = elim (cases_Bool (was_made_before k n w.log)) [
  | inl e ↦ f.2 (made k n w.log e)
  | inr e ↦ let z : true ≡ false = sym (rw (f.0, f.1, e) refl) ∙ h in absurd (cc)
]

in_found : (log : List Logged) (l : Logged) (n : Note) → In log l → In l.notes.found n → In (found_notes log) (l.number, n)
in_found log l n i j = in_flat (λ (l : Logged). map (λ n. (l.number, n)) l.notes.found) log l (l.number, n) i (in_map (λ n. (l.number, n)) l.notes.found n j)

forged_none : (s : Schedule) (w : World) → first_forged s w ≡ None → Unforged s w
forged_none s w h l n i j a b = elim (cases_Bool (was_made_before l.number n w.log)) [
  | inl e ↦ made l.number n w.log e
  | inr e ↦
      let f = find_none (is_forged s w) (found_notes w.log) (l.number, n) h (in_found w.log l n (in_from_Contains w.log l i) (in_from_Contains l.notes.found n j)) in
      let z : true ≡ false = sym (rw (a, b, e) refl) ∙ f in absurd (cc)
]

none_forged : (s : Schedule) (w : World) → Unforged s w → first_forged s w ≡ None
none_forged s w u = none_find (is_forged s w) (found_notes w.log) each
  where
    each : (x : ℕ × Note) → In (found_notes w.log) x → is_forged s w x ≡ false
    each x i =
        let r = flat_in (λ (l : Logged). map (λ n. (l.number, n)) l.notes.found) w.log x i in
        let m = map_in (λ n. ((r.0).number, n)) (r.0).notes.found x r.2 in
        ap (is_forged s w) m.2 ∙ elim (cases_Bool (is_forged s w ((r.0).number, m.0))) [
          | inl h ↦ let f = forged_is s w (r.0).number m.0 h in absurd (f.2 (u r.0 m.0 (contains_from_in w.log r.0 r.1) (contains_from_in (r.0).notes.found m.0 m.1) f.0 f.1))
          | inr h ↦ h
        ]

pub forged_is_first : ForgedIsFirst
forged_is_first s w = ((forged_none s w, none_forged s w), first)
  where
    first : (step : ℕ) (note : Note) → first_forged s w ≡ Some (step, note) → IsFirstForged s w step note
    first step note h =
        let r = find_found (is_forged s w) (found_notes w.log) (step, note) h in
        record {
          before = r.before;
          after = r.after;
          is_found = r.parts;
          forged = forged_is s w step note r.passes;
          first = all_of (λ (x : ℕ × Note). IsForged s w x.0 x.1 → ⊥) r.before (λ x i. unforged_is s w x.0 x.1 (r.first x i));
        }

-- ---- two texts with one hash

collide_is : (sha : Hash) (a b : List ℕ) → collide sha a b ≡ true → (sha a ≡ sha b) × (a ≢ b)
collide_is sha a b h =
    let p = and_parts (bytes_eq (sha a) (sha b)) (not (bytes_eq a b)) h in
    (same_bytes (sha a) (sha b) p.0, λ q. clash (bytes_eq a b) (bytes_same a b q) (not-true (bytes_eq a b) p.1))

collide_not : (sha : Hash) (a b : List ℕ) → collide sha a b ≡ false → sha a ≡ sha b → a ≡ b
collide_not sha a b h e = elim (cases_Bool (bytes_eq a b)) [
  | inl q ↦ same_bytes a b q
  | inr q ↦ let z : true ≡ false = sym (rw (bytes_same (sha a) (sha b) e, q) refl) ∙ h in absurd (cc)
]

free_more : (sha : Hash) (xs : List (List ℕ)) (b : List ℕ) → CollisionFree sha xs → ((a : List ℕ) → In xs a → collide sha a b ≡ false) → CollisionFree sha (xs ++ b ∷ [])
free_more sha xs b free h a c i j e = on (in_parts xs (b ∷ []) a (in_from_Contains (xs ++ b ∷ []) a i)) (in_parts xs (b ∷ []) c (in_from_Contains (xs ++ b ∷ []) c j))
  where
    is_b : (a : List ℕ) → In (b ∷ []) a → a ≡ b
    is_b a (inl q) = q
    is_b a (inr q) = absurd q

    on : In xs a ⊎ In (b ∷ []) a → In xs c ⊎ In (b ∷ []) c → a ≡ c
    on (inl p) (inl q) = free a c (contains_from_in xs a p) (contains_from_in xs c q) e
    on (inl p) (inr q) = collide_not sha a b (h a p) (e ∙ ap sha (is_b c q)) ∙ sym (is_b c q)
    on (inr p) (inl q) = is_b a p ∙ sym (collide_not sha c b (h c q) (sym e ∙ ap sha (is_b a p)))
    on (inr p) (inr q) = is_b a p ∙ sym (is_b c q)

free_empty : (sha : Hash) → CollisionFree sha []
free_empty sha a b i = absurd (in_from_Contains [] a i)

none_free : (sha : Hash) (before texts : List (List ℕ)) → CollisionFree sha before → collision_after sha before texts ≡ None → CollisionFree sha (before ++ texts)
none_free sha before [] free h = subst (CollisionFree sha) (sym (append-nil before)) free
none_free sha before (b ∷ bs) free h = on (find (λ a. collide sha a b) before) refl (λ f r. none_free sha (before ++ b ∷ []) bs f r)
  where
    on : (o : Option (List ℕ)) → find (λ a. collide sha a b) before ≡ o → (CollisionFree sha (before ++ b ∷ []) → collision_after sha (before ++ b ∷ []) bs ≡ None → CollisionFree sha ((before ++ b ∷ []) ++ bs)) → CollisionFree sha (before ++ b ∷ bs)
    on None q rest = subst (CollisionFree sha) (append_assoc before (b ∷ []) bs) (rest (free_more sha before b free (λ a i. find_none (λ a. collide sha a b) before a q i)) (sym (ap (λ o. option_or (option_map (λ a. (a, b)) o) (collision_after sha (before ++ b ∷ []) bs)) q) ∙ h))
    on (Some a) q rest = absurd (let z : Some (a, b) ≡ None = sym (ap (λ o. option_or (option_map (λ a. (a, b)) o) (collision_after sha (before ++ b ∷ []) bs)) q) ∙ h in cc)

first_of : (sha : Hash) (before texts : List (List ℕ)) → CollisionFree sha before → (one other : List ℕ) → collision_after sha before texts ≡ Some (one, other) → IsFirstCollision sha (before ++ texts) one other
first_of sha before [] free one other h = absurd (let z : None ≡ Some (one, other) = h in cc)
first_of sha before (b ∷ bs) free one other h = on (find (λ a. collide sha a b) before) refl (λ f r. first_of sha (before ++ b ∷ []) bs f one other r)
  where
    on : (o : Option (List ℕ)) → find (λ a. collide sha a b) before ≡ o → (CollisionFree sha (before ++ b ∷ []) → collision_after sha (before ++ b ∷ []) bs ≡ Some (one, other) → IsFirstCollision sha ((before ++ b ∷ []) ++ bs) one other) → IsFirstCollision sha (before ++ b ∷ bs) one other
    on None q rest = subst (λ l. IsFirstCollision sha l one other) (append_assoc before (b ∷ []) bs) (rest (free_more sha before b free (λ a i. find_none (λ a. collide sha a b) before a q i)) (sym (ap (λ o. option_or (option_map (λ a. (a, b)) o) (collision_after sha (before ++ b ∷ []) bs)) q) ∙ h))
    on (Some a) q rest =
        let z : Some (a, b) ≡ Some (one, other) = sym (ap (λ o. option_or (option_map (λ a. (a, b)) o) (collision_after sha (before ++ b ∷ []) bs)) q) ∙ h in
        let p : (a, b) ≡ (one, other) = cc in
        subst (λ (x : List ℕ × List ℕ). IsFirstCollision sha (before ++ b ∷ bs) x.0 x.1) p (here a q)
      where
        here : (a : List ℕ) → find (λ a. collide sha a b) before ≡ Some a → IsFirstCollision sha (before ++ b ∷ bs) a b
        here a q =
            let r = find_found (λ a. collide sha a b) before a q in
            let c = collide_is sha a b r.passes in
            record {
              before = r.before;
              between = r.after;
              after = bs;
              parts = ap (λ l. l ++ b ∷ bs) r.parts;
              same = c.0;
              differ = c.1;
              later_first = subst (CollisionFree sha) r.parts free;
              earlier_first = all_of (λ a. sha a ≡ sha b → a ≡ b) r.before (λ x i. collide_not sha x b (r.first x i));
            }

free_none : (sha : Hash) (texts : List (List ℕ)) → CollisionFree sha texts → first_collision sha texts ≡ None
free_none sha texts free = on (first_collision sha texts) refl
  where
    on : (o : Option (List ℕ × List ℕ)) → first_collision sha texts ≡ o → first_collision sha texts ≡ None
    on None q = q
    on (Some (a, b)) q =
        let r : IsFirstCollision sha texts a b = first_of sha [] texts (free_empty sha) a b q in
        absurd (r.differ (free a b (contains_from_in texts a (subst (λ l. In l a) (sym r.parts) (in_left (r.before ++ a ∷ r.between) (b ∷ r.after) a (in_right r.before (a ∷ r.between) a (inl refl)))))
        (contains_from_in texts b (subst (λ l. In l b) (sym r.parts) (in_right (r.before ++ a ∷ r.between) (b ∷ r.after) b (inl refl)))) r.same))

pub collision_is_first : (sha : Hash) → CollisionIsFirst sha
collision_is_first sha texts = ((none_free sha [] texts (free_empty sha), free_none sha texts), first_of sha [] texts (free_empty sha))
