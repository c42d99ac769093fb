-- The first forged note, step by step.
use Rattle.std.proofs.Common.{◌≡◌, ℕ, suc, ◌+◌, ◌<◌, ◌≤◌, Bool, true, false, not, ◌&&◌, ◌||◌, List, [], ◌∷◌, ◌++◌, map, length, take, drop, get_or, drop-cons, drop_of_length-le, find, flat_map, if◌then◌else◌, nat_lt, option_map, Some, None, refl, sym, ap, ◌∙◌, arith, append_assoc, append-nil, length-append}
use Rattle.std.specs.List.{list_any}
use Rattle.std.specs.Option.{option_or}
use Rattle.std.proofs.lemmas.Bool.Decides.{nat_tests}
use Rattle.std.proofs.lemmas.Grind.{flat_map-append}
use Rattle.std.proofs.lemmas.List.{map-append, length-map, take_more}
use Rattle.std.proofs.lemmas.List.Folds.{find-append, list_any-append}
use Rattle.sg_model.specs.Lists.{has_text, range_from}
use Rattle.sg_model.proofs.Small.{or_false}
use Rattle.sg_model.proofs.Numbers.{range_from-suc}
use Rattle.sg_protocol.specs.Broken.{same_note, was_made_before, is_forged, found_notes, first_forged}
use Rattle.sg_protocol.specs.Notes.{Note, Notes}
use Rattle.sg_protocol.specs.Schedule.{Schedule}
use Rattle.sg_protocol.specs.World.{Logged, World}
use Rattle.sg_certify.specs.Forged.{IsRecord, is_unmade, forged_from}

-- the first unmade note depends on which notes are among those made
pub unmade_alike : (honest : List (List ℕ)) (made made' : List Note) → ((n : Note) → list_any (same_note n) made ≡ list_any (same_note n) made') → (xs : List Note) → find (is_unmade honest made) xs ≡ find (is_unmade honest made') xs
unmade_alike honest made made' h xs = λ i. find (λ (n : Note). has_text n.one honest && has_text n.two honest && not (h n i)) xs

-- nothing unmade in the next step
pub forged_next : (honest : List (List ℕ)) (k : ℕ) (made : List Note) (n : Notes) (ns : List Notes) → find (is_unmade honest made) n.found ≡ None → forged_from honest k made (n ∷ ns) ≡ forged_from honest (suc k) (made ++ n.made) ns
forged_next honest k made n ns h = ap (λ o. option_or (option_map (λ x. (k, x)) o) (forged_from honest (suc k) (made ++ n.made) ns)) h

-- an unmade note in the next step
pub forged_here : (honest : List (List ℕ)) (k : ℕ) (made : List Note) (n : Notes) (ns : List Notes) (x : Note) → find (is_unmade honest made) n.found ≡ Some x → forged_from honest k made (n ∷ ns) ≡ Some (k, x)
forged_here honest k made n ns x h = ap (λ o. option_or (option_map (λ x. (k, x)) o) (forged_from honest (suc k) (made ++ n.made) ns)) h

-- ---- step after step

-- what the first steps made
abbrev made_in : ℕ → List Notes → List Note
made_in i ns = flat_map (λ (s : Notes). s.made) (take i ns)

made_more : (ns : List Notes) (i : ℕ) (d : Notes) → i < length ns → made_in (i + 1) ns ≡ made_in i ns ++ (get_or ns i d).made
made_more ns i d lt = ap (flat_map (λ (s : Notes). s.made)) (take_more ns i d lt) ∙ flat_map-append (λ (s : Notes). s.made) (take i ns) (get_or ns i d ∷ []) ∙ ap (λ l. made_in i ns ++ l) (append-nil (get_or ns i d).made)

-- how far the steps were looked through
pub record Through (honest : List (List ℕ)) (ns : List Notes) (i : ℕ) (made : List Note) : Type 0 where
  pub made_so : (n : Note) → list_any (same_note n) made ≡ list_any (same_note n) (flat_map (λ (s : Notes). s.made) (take i ns))
  pub found_so : forged_from honest 1 [] ns ≡ forged_from honest (suc i) (flat_map (λ (s : Notes). s.made) (take i ns)) (drop i ns)

pub through_none : (honest : List (List ℕ)) (ns : List Notes) → Through honest ns 0 []
through_none honest ns = record { made_so = λ n. refl; found_so = refl }

pub through_here : (honest : List (List ℕ)) (ns : List Notes) (i : ℕ) (made : List Note) (d : Notes) (note : Note) → Through honest ns i made → i < length ns → Some note ≡ find (is_unmade honest made) (get_or ns i d).found → Some (i + 1, note) ≡ forged_from honest 1 [] ns
through_here honest ns i made d note t lt h = sym (
    t.found_so
    ∙ ap (forged_from honest (suc i) (made_in i ns)) (drop-cons ns i d lt)
    ∙ forged_here honest (suc i) (made_in i ns) (get_or ns i d) (drop (suc i) ns) note (sym (h ∙ unmade_alike honest made (made_in i ns) t.made_so (get_or ns i d).found))
    ∙ ap (λ m. let p : ℕ × Note = (m, note) in Some p) (let e : suc i ≡ i + 1 = omega arith in e))

pub through_next : (honest : List (List ℕ)) (ns : List Notes) (i : ℕ) (made new : List Note) (d : Notes) → Through honest ns i made → i < length ns → None ≡ find (is_unmade honest made) (get_or ns i d).found → ((n : Note) → list_any (same_note n) new ≡ list_any (same_note n) (made ++ (get_or ns i d).made)) → Through honest ns (i + 1) new
through_next honest ns i made new d t lt h more =
    let e : suc i ≡ i + 1 = omega arith in
    record {
      made_so = λ n.
          more n
          ∙ list_any-append (same_note n) made (get_or ns i d).made
          ∙ (λ j. t.made_so n j || list_any (same_note n) (get_or ns i d).made)
          ∙ sym (list_any-append (same_note n) (made_in i ns) (get_or ns i d).made)
          ∙ ap (list_any (same_note n)) (sym (made_more ns i d lt));
      found_so =
          t.found_so
          ∙ ap (forged_from honest (suc i) (made_in i ns)) (drop-cons ns i d lt)
          ∙ forged_next honest (suc i) (made_in i ns) (get_or ns i d) (drop (suc i) ns) (sym (h ∙ unmade_alike honest made (made_in i ns) t.made_so (get_or ns i d).found))
          ∙ (λ j. forged_from honest (suc (e j)) (sym (made_more ns i d lt) j) (drop (e j) ns));
    }

pub through_all : (honest : List (List ℕ)) (ns : List Notes) (i : ℕ) (made : List Note) → Through honest ns i made → length ns ≤ i → None ≡ forged_from honest 1 [] ns
through_all honest ns i made t le = sym (t.found_so ∙ ap (forged_from honest (suc i) (made_in i ns)) (drop_of_length-le ns le))

-- ---- in a run

abbrev number : Logged → ℕ
number l = l.number

abbrev noted : Logged → Notes
noted l = l.notes

abbrev made_by : Logged → List Note
made_by l = l.notes.made

find_map : {A B : Type 0} (f : A → B) (p : B → Bool) (xs : List A) → find p (map f xs) ≡ option_map f (find (λ x. p (f x)) xs)
find_map f p [] = refl
find_map f p (x ∷ xs) = on (p (f x)) (find_map f p xs)
  where
    on : (b : Bool) → find p (map f xs) ≡ option_map f (find (λ x. p (f x)) xs) → (if b then Some (f x) else find p (map f xs)) ≡ option_map f (if b then Some x else find (λ x. p (f x)) xs)
    on true h = refl
    on false h = h

module _ (k : ℕ) (n : Note) where
  less : (a : ℕ) → a < k → nat_lt a k ≡ true
  less a h = grind (arith, nat_tests)

  not_less : (a : ℕ) → k ≤ a → nat_lt a k ≡ false
  not_less a h = grind (arith, nat_tests)

  -- the steps before step k
  made_below : (log : List Logged) (a : ℕ) → map number log ≡ range_from a (length log) → a + length log ≤ k → list_any (λ (l : Logged). nat_lt l.number k && list_any (same_note n) l.notes.made) log ≡ list_any (same_note n) (flat_map made_by log)
  made_below [] a e h = refl
  made_below (l ∷ ls) a e h =
      let head : l.number ≡ a = cc in
      let tail : map number ls ≡ range_from (suc a) (length ls) = cc in
      let lt : nat_lt l.number k ≡ true = ap (λ m. nat_lt m k) head ∙ less a (omega arith) in
      (λ i. (lt i && list_any (same_note n) l.notes.made) || made_below ls (suc a) tail (omega arith) i)
      ∙ sym (list_any-append (same_note n) l.notes.made (flat_map made_by ls))

  -- the other ones
  made_above : (log : List Logged) (a : ℕ) → map number log ≡ range_from a (length log) → k ≤ a → list_any (λ (l : Logged). nat_lt l.number k && list_any (same_note n) l.notes.made) log ≡ false
  made_above [] a e h = refl
  made_above (l ∷ ls) a e h =
      let head : l.number ≡ a = cc in
      let tail : map number ls ≡ range_from (suc a) (length ls) = cc in
      let no : nat_lt l.number k ≡ false = ap (λ m. nat_lt m k) head ∙ not_less a h in
      λ i. (no i && list_any (same_note n) l.notes.made) || made_above ls (suc a) tail (omega arith) i

was_made : (before rest : List Logged) (n : Note) → map number before ≡ range_from 1 (length before) → map number rest ≡ range_from (suc (length before)) (length rest) → was_made_before (suc (length before)) n (before ++ rest) ≡ list_any (same_note n) (flat_map made_by before)
was_made before rest n a b =
    let k = suc (length before) in
    list_any-append (λ (l : Logged). nat_lt l.number k && list_any (same_note n) l.notes.made) before rest
    ∙ (λ i. made_below k n before 1 a (omega arith) i || made_above k n rest k b (omega arith) i)
    ∙ or_false _

module _ (s : Schedule) (w : World) where
  go : (before rest : List Logged) → w.log ≡ before ++ rest → map number before ≡ range_from 1 (length before) → map number rest ≡ range_from (suc (length before)) (length rest)
      → find (is_forged s w) (found_notes rest) ≡ forged_from s.honest (suc (length before)) (flat_map made_by before) (map noted rest)
  go before [] p a b = refl
  go before (l ∷ ls) p a b =
      let k = suc (length before) in
      let head : l.number ≡ k = cc in
      let tail : map number ls ≡ range_from (suc k) (length ls) = cc in
      let longer : length (before ++ l ∷ []) ≡ k = length-append before (l ∷ []) ∙ (let e : length before + 1 ≡ k = omega arith in e) in
      let numbers : map number (before ++ l ∷ []) ≡ range_from 1 (length (before ++ l ∷ [])) =
      map-append number before (l ∷ []) ∙ (λ i. a i ++ head i ∷ []) ∙ ap (λ m. range_from 1 (length before) ++ m ∷ []) (let e : suc (length before) ≡ 1 + length before = omega arith in e) ∙ sym (range_from-suc 1 (length before)) ∙ ap (range_from 1) (sym longer) in
      find-append (is_forged s w) (map (λ n. (l.number, n)) l.notes.found) (found_notes ls)
      ∙ (λ i. option_or
      ((find_map (λ (n : Note). (l.number, n)) (is_forged s w) l.notes.found ∙ here l.number head) i)
      ((go (before ++ l ∷ []) ls (p ∙ sym (append_assoc before (l ∷ []) ls)) numbers (tail ∙ ap (λ m. range_from (suc m) (length ls)) (sym longer))
      ∙ (λ j. forged_from s.honest (suc (longer j)) (flat_map-append made_by before (l ∷ []) j) (map noted ls))
      ∙ ap (λ m. forged_from s.honest (suc k) (flat_map made_by before ++ m) (map noted ls)) (one_made l)) i))
    where
      one_made : (l : Logged) → flat_map made_by (l ∷ []) ≡ l.notes.made
      one_made l = append-nil l.notes.made

      here : (m : ℕ) → m ≡ suc (length before) → option_map {T = Note} {U = ℕ × Note} (λ (n : Note). (m, n)) (find (λ (n : Note). is_forged s w (m, n)) l.notes.found) ≡ option_map {T = Note} {U = ℕ × Note} (λ (n : Note). (suc (length before), n)) (find (is_unmade s.honest (flat_map made_by before)) l.notes.found)
      here m e = λ i. option_map {T = Note} {U = ℕ × Note} (λ (n : Note). (e i, n)) (find (λ (n : Note). has_text n.one s.honest && has_text n.two s.honest && not ((ap (λ x. was_made_before x n w.log) e ∙ ap (was_made_before (suc (length before)) n) p ∙ was_made before (l ∷ ls) n a b) i)) l.notes.found)

-- it is what the steps of a run noted
pub forged_runs : (s : Schedule) (w : World) (ns : List Notes) → IsRecord w ns → first_forged s w ≡ forged_from s.honest 1 [] ns
forged_runs s w ns r = go s w [] w.log refl refl (r.numbers ∙ ap (range_from 1) (ap length (sym r.notes) ∙ length-map w.log noted)) ∙ ap (forged_from s.honest 1 []) r.notes
