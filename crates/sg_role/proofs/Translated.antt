-- What a role looks at by what it keeps is what the definition looks at, in each session that its state represents.
use Rattle.std.proofs.Common.{◌≡◌, ℕ, zero, suc, ◌+◌, ◌<◌, ◌==◌, ◌&&◌, Bool, true, false, not, if◌then◌else◌, List, [], ◌∷◌, ◌++◌, map, length, slice_set, refl, sym, ap, ◌∙◌, arith, inl, inr, Option, Some, None, option_map, find, position, append_assoc, append-nil}
use Rattle.std.specs.List.{AllByRecursion}
use Rattle.std.specs.Option.{option_or}
use Rattle.std.proofs.lemmas.Bool.{and_parts, cases_Bool, eqb-true, eq-eqb, ne_eqb}
use Rattle.sg_model.specs.Last.{Map}
use Rattle.sg_model.specs.Lists.{below, range_from, keys_of, value_at, rises_from, same_text, first_some, is_in}
use Rattle.sg_model.specs.Values.{Opening}
use Rattle.sg_protocol.specs.Calls.{Refusal, BadFrameTag, NoSuchView, BadEvidence, BadOpening}
use Rattle.sg_protocol.specs.Checks.{checked_texts, texts_checked}
use Rattle.sg_protocol.specs.Frame.{Item, Frame, IsItem}
use Rattle.sg_protocol.specs.Graph.{Graph}
use Rattle.sg_protocol.specs.IsSchedule.{IsProgram}
use Rattle.sg_protocol.specs.Keyring.{Keyring, Program}
use Rattle.sg_protocol.specs.Sending.{text_to}
use Rattle.sg_protocol.specs.Session.{Session, transcript, own_part, origin, own_time, committed, commitments}
use Rattle.sg_protocol.specs.Spelling.{HasSpelling}
use Rattle.sg_protocol.specs.Representation.{Held, held}
use Rattle.sg_protocol.specs.Texts.{real, commitment}
use Rattle.sg_protocol.specs.Verdict.{row, bad_time, has_frame_tag, has_item_tag, has_kind, is_right, is_shown, rows_of_session}
use Rattle.sg_protocol.proofs.Ends.{below_same, committed-append}
use Rattle.sg_protocol.proofs.Following.{get_below}
use Rattle.sg_protocol.proofs.Known.{value_none}
use Rattle.sg_role.specs.Looking.{overwritten, overwritten_by, is_seen, text_for, texts_from, opens, opening_row, evidence_row, rows_from}
use Rattle.sg_role.proofs.Rising.{not_below}
use Rattle.sg_role.proofs.Shown.{seen_frame}

-- ---- commitments overwritten

pub set_map : {A : Type 0} (f : ℕ → A) (k j y : ℕ) (v : A) → slice_set (map f (range_from k j)) y v ≡ map (λ x. if x == k + y then v else f x) (range_from k j)
set_map f k zero y v = refl
set_map f k (suc j) zero v =
    rw (eq-eqb k (k + 0) (omega arith)) (ap (λ l. v ∷ l) (others f (suc k) j v (k + 0) (omega arith)))
  where
    others : {A : Type 0} (f : ℕ → A) (k j : ℕ) (v : A) (y : ℕ) → y < k → map f (range_from k j) ≡ map (λ x. if x == y then v else f x) (range_from k j)
    others f k zero v y l = refl
    others f k (suc j) v y l = rw (ne_eqb k y (λ q. absurd (omega (arith, l, q)))) (ap (λ r. f k ∷ r) (others f (suc k) j v y (omega (arith, l))))
set_map f k (suc j) (suc y) v =
    rw (ne_eqb k (k + suc y) (λ q. absurd (omega (arith, q)))) (ap (λ r. f k ∷ r) (set_map f (suc k) j y v ∙ ap (λ z. map (λ x. if x == z then v else f x) (range_from (suc k) j)) (up k y)))
  where
    up : (k y : ℕ) → suc k + y ≡ k + suc y
    up k y = omega arith

overwritten_map : (n least : ℕ) (f : ℕ → Option (List ℕ)) (d : Map (List ℕ)) → rises_from least (keys_of d) ≡ true → overwritten (map f (below n)) d ≡ map (λ x. option_or (value_at d x) (f x)) (below n)
overwritten_map n least f [] r = refl
overwritten_map n least f (d ∷ ds) r =
    let rises : rises_from (suc d.0) (keys_of ds) ≡ true = (and_parts _ (rises_from (suc d.0) (keys_of ds)) r).1 in
    let g : ℕ → Option (List ℕ) = λ x. if x == 0 + d.0 then Some d.1 else f x in
    ap (λ cs. overwritten cs ds) (set_map f 0 n d.0 (Some d.1))
    ∙ overwritten_map n (suc d.0) (λ x. if x == 0 + d.0 then Some d.1 else f x) ds rises
    ∙ below_same (λ x. option_or (value_at ds x) (if x == 0 + d.0 then Some d.1 else f x)) (λ x. option_or (value_at (d ∷ ds) x) (f x)) n (λ x l. each x rises)
  where
    first : (y : ℕ) → 0 + y ≡ y
    first y = omega arith

    each : (x : ℕ) → rises_from (suc d.0) (keys_of ds) ≡ true → option_or (value_at ds x) (if x == 0 + d.0 then Some d.1 else f x) ≡ option_or (value_at (d ∷ ds) x) (f x)
    each x rises = elim (cases_Bool (x == d.0)) [
      | inl e ↦ (
          let same : x ≡ d.0 = eqb-true x d.0 e in
          let none : value_at ds x ≡ None = value_none ds x (ap (λ z. is_in z (keys_of ds)) same ∙ not_below (suc d.0) d.0 (keys_of ds) (omega arith) rises) in
          rw (none, ap (λ z. x == z) (first d.0) ∙ e, eq-eqb d.0 x (sym same)) refl)
      | inr e ↦ rw (ap (λ z. x == z) (first d.0) ∙ e, ne_eqb d.0 x (λ q. let c : true ≡ false = sym (eq-eqb x d.0 (sym q)) ∙ e in cc)) refl
    ]

pub one_more : (g : Graph) (before : List Item) (i : Item) → rises_from 0 (keys_of i.delta) ≡ true → overwritten (commitments g before) i.delta ≡ commitments g (before ++ i ∷ [])
one_more g before i r = overwritten_map (length g.variables) 0 (λ x. committed x before) i.delta r
    ∙ below_same (λ x. option_or (value_at i.delta x) (committed x before)) (λ x. committed x (before ++ i ∷ [])) (length g.variables) (λ x l. sym (committed-append x before (i ∷ []) ∙ ap (λ o. option_or o (committed x before)) (or_none (value_at i.delta x))))
  where
    or_none : (o : Option (List ℕ)) → option_or None o ≡ o
    or_none o = refl

abbrev Rises : Item → Type 0
Rises i = rises_from 0 (keys_of i.delta) ≡ true

pub all_more : (g : Graph) (before items : List Item) → AllByRecursion Rises items → overwritten_by (commitments g before) items ≡ commitments g (before ++ items)
all_more g before [] a = sym (ap (commitments g) (append-nil before))
all_more g before (i ∷ is) a = ap (λ cs. overwritten_by cs is) (one_more g before i a.0) ∙ all_more g (before ++ i ∷ []) is a.1 ∙ ap (commitments g) (append_assoc before (i ∷ []) is)

pub rising_items : (v : ℕ) (is : List Item) → AllByRecursion (IsItem v) is → AllByRecursion Rises is
rising_items v [] a = tt
rising_items v (i ∷ is) a = (a.0.variables.1, rising_items v is a.1)

-- ---- rows

texts_same : (g : Graph) (s : Session) (before items : List Item) → AllByRecursion Rises items → texts_from (held g s) (commitments g before) items ≡ checked_texts g s before items
texts_same g s before [] a = refl
texts_same g s before (i ∷ []) a = refl
texts_same g s before (i ∷ j ∷ is) a =
    ap (λ cs. (i, text_for (held g s) cs i) ∷ texts_from (held g s) cs (j ∷ is)) (one_more g before i a.0)
    ∙ ap (λ l. (i, text_to g s before i s.role) ∷ l) (texts_same g s (before ++ i ∷ []) (j ∷ is) a.1)

find_same : (p q : Opening → Bool) (n : ℕ) (os : List Opening) → AllByRecursion (λ (o : Opening). o.variable < n) os → ((o : Opening) → o.variable < n → p o ≡ q o) → find p os ≡ find q os
find_same p q n [] a e = refl
find_same p q n (o ∷ os) a e = elim (cases_Bool (q o)) [ inl h ↦ rw (e o a.0 ∙ h, h) refl | inr h ↦ rw (e o a.0 ∙ h, h) (find_same p q n os a.1 e) ]

module _ (keys : Keyring) (p : Program) (ip : IsProgram real p) (s : Session) (f : Frame) (mine : p.role ≡ s.role) (ends : own_part s ≡ transcript s) (sp : HasSpelling f) where
  abbrev h : Held
  h = held p.graph s

  rise : AllByRecursion Rises f.items
  rise = rising_items f.version f.items sp.fields.items

  pub texts_now : texts_from h h.kept.commitments f.items ≡ texts_checked p.graph s f
  texts_now = texts_same p.graph s (transcript s) f.items rise ∙ ap (λ l. checked_texts p.graph s l f.items) (sym ends)

  evidence_same : evidence_row keys h f.items ≡ option_map (λ n. BadEvidence (n + 1)) (position (λ c. not (has_item_tag real keys s c)) (texts_checked p.graph s f))
  evidence_same = ap (λ l. option_map (λ n. BadEvidence (n + 1)) (position (λ c. not (has_item_tag real keys s c)) l)) texts_now

  pub opens_same : (o : Opening) → o.variable < length p.graph.variables → opens p.graph s.sid (overwritten_by (commitments p.graph (transcript s)) f.items) o ≡ is_right real p.graph s f o
  opens_same o l =
      ap (λ cs. opens p.graph s.sid cs o) (all_more p.graph (transcript s) f.items rise)
      ∙ ap (λ c. has_kind p.graph o && same_text c (commitment real s.sid o)) (get_below (λ x. committed x (transcript s ++ f.items)) None (length p.graph.variables) o.variable l)
      ∙ ap (λ t. has_kind p.graph o && same_text (committed o.variable (t ++ f.items)) (commitment real s.sid o)) (sym ends)

  opening_same : is_seen p (origin s) f ≡ true → opening_row p.graph s.sid (overwritten_by (commitments p.graph (transcript s)) f.items) f.openings ≡ option_map (λ o. BadOpening o.variable) (find (λ o. not (is_right real p.graph s f o)) f.openings)
  opening_same seen = ap (option_map (λ (o : Opening). BadOpening o.variable)) (find_same _ _ (length p.graph.variables) f.openings (seen_frame p ip (origin s) f seen).variables (λ o l. ap not (opens_same o l)))

  pub rows_same : first_some (rows_from keys p h f) ≡ first_some (rows_of_session real keys p s f)
  rows_same = elim (cases_Bool (is_seen p (origin s) f)) [
    | inl e ↦ (
        ap (λ r. first_some (row (not (has_frame_tag real keys s f)) BadFrameTag ∷ row (not (is_shown p s f)) NoSuchView ∷ bad_time 1 (own_time s) f.items ∷ r ∷ opening_row p.graph s.sid (overwritten_by (commitments p.graph (transcript s)) f.items) f.openings ∷ [])) evidence_same
        ∙ ap (λ r. first_some (row (not (has_frame_tag real keys s f)) BadFrameTag ∷ row (not (is_shown p s f)) NoSuchView ∷ bad_time 1 (own_time s) f.items ∷ option_map (λ n. BadEvidence (n + 1)) (position (λ c. not (has_item_tag real keys s c)) (texts_checked p.graph s f)) ∷ r ∷ [])) (opening_same e))
    | inr e ↦ unseen (row (not (has_frame_tag real keys s f)) BadFrameTag) (is_seen p (origin s) f) e _ _
  ]
    where
      unseen : (first : Option Refusal) (b : Bool) → b ≡ false → (rest rest' : List (Option Refusal)) → first_some (first ∷ row (not b) NoSuchView ∷ rest) ≡ first_some (first ∷ row (not b) NoSuchView ∷ rest')
      unseen None b e rest rest' = rw e refl
      unseen (Some x) b e rest rest' = refl
