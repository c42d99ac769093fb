-- Rows in order: the number of the first that holds, and what is noted up to it.
use Rattle.std.proofs.Common.{◌≡◌, ◌≢◌, ℕ, ◌+◌, nat_le, nat_lt, bytes_eq, Bool, true, false, not, List, [], ◌∷◌, ◌++◌, map, length, take, refl, sym, ap, subst, ◌∙◌, Option, Some, None, option_map, append_assoc, append-nil, inl, inr}
use Rattle.std.proofs.lemmas.Bool.{cases_Bool}
use Rattle.std.proofs.Math.Seq.{take-append_seam, take-length}
use Rattle.sg_model.specs.Lists.{first_some}
use Rattle.sg_model.specs.Values.{Opening}
use Rattle.sg_model.proofs.Small.{and_left, heads, tails}
use Rattle.sg_protocol.specs.Calls.{Refusal, BadFrameTag, NoSuchView, BadTime, BadEvidence, BadOpening}
use Rattle.sg_protocol.specs.Frame.{Item, Frame}
use Rattle.sg_protocol.specs.Keyring.{Keyring, Program}
use Rattle.sg_protocol.specs.Notes.{Note, Notes, note_of, row_number}
use Rattle.sg_protocol.specs.Sending.{tag_for, text_of}
use Rattle.sg_protocol.specs.Session.{principal}
use Rattle.sg_protocol.specs.Representation.{Held}
use Rattle.sg_protocol.specs.Texts.{real, commitment_text_of}
use Rattle.sg_protocol.specs.Verdict.{row, bad_time, has_frame_tag}
use Rattle.sg_role.specs.declared.fault.Refusal.{Refusal as RefusalFault}
use Rattle.sg_role.specs.declared.fault.Refusal.TheVariants as refusal_fault
use Rattle.sg_role.specs.Faults.{Refuses}
use Rattle.sg_role.specs.Looking.{bare, is_seen, overwritten_by, evidence_row, opening_row, found_items, hashed_from, rows_from, notes_from, KeepsNotes}
use Rattle.sg_role.specs.Sending.{with_notes}

-- a row that was refused by, for any cause but memory, holds
pub holds_by : (o : Option Refusal) (e : RefusalFault) → e ≢ refusal_fault.OutOfMemory → Refuses o e → (r : Refusal) × (o ≡ Some r)
holds_by o refusal_fault.BadFrameTag n h = (BadFrameTag, h)
holds_by o refusal_fault.NoSuchView n h = (NoSuchView, h)
holds_by o (refusal_fault.BadTime item got least) n h = (BadTime item got least, h)
holds_by o (refusal_fault.BadEvidence item) n h = (BadEvidence item, h)
holds_by o (refusal_fault.BadOpening var) n h = (BadOpening var, h)
holds_by o refusal_fault.OutOfMemory n h = absurd (n refl)

none_by : {A : Type 0} (b : Bool) (x : A) → b ≡ true → row (not b) x ≡ None
none_by b x e = rw e refl

-- ---- the number of each row

some_row : (b : Bool) (x r : Refusal) → row (not b) x ≡ Some r → row_number (Some r) ≡ row_number (Some x)
some_row true x r e = absurd (cc)
some_row false x r e = ap row_number (sym e)

time_number : (n before : ℕ) (is : List Item) (r : Refusal) → bad_time n before is ≡ Some r → row_number (Some r) ≡ 13
time_number n before [] r e = absurd (cc)
time_number n before (i ∷ is) r e = elim (cases_Bool (nat_le i.time before)) [
  | inl q ↦ ap row_number (sym (rw q at e))
  | inr q ↦ time_number (n + 1) i.time is r (rw q at e)
]

evidence_number : (o : Option ℕ) (r : Refusal) → option_map (λ n. BadEvidence (n + 1)) o ≡ Some r → row_number (Some r) ≡ 14
evidence_number None r e = absurd (cc)
evidence_number (Some n) r e = ap row_number (sym e)

opening_number : (o : Option Opening) (r : Refusal) → option_map (λ (o : Opening). BadOpening o.variable) o ≡ Some r → row_number (Some r) ≡ 15
opening_number None r e = absurd (cc)
opening_number (Some n) r e = ap row_number (sym e)

-- ---- the rows of a frame

module _ (keys : Keyring) (p : Program) (h : Held) (f : Frame) where
  abbrev pub tag_row : Option Refusal
  tag_row = row (not (has_frame_tag real keys (bare h) f)) BadFrameTag

  abbrev pub view_row : Option Refusal
  view_row = row (not (is_seen p h.kept.origin f)) NoSuchView

  abbrev pub time_row : Option Refusal
  time_row = bad_time 1 h.kept.own_time f.items

  abbrev pub item_row : Option Refusal
  item_row = evidence_row keys h f.items

  abbrev pub open_row : Option Refusal
  open_row = opening_row p.graph h.sid (overwritten_by h.kept.commitments f.items) f.openings

  pub first_is : (a b c d e : Option Refusal) → tag_row ≡ a → view_row ≡ b → time_row ≡ c → item_row ≡ d → open_row ≡ e → first_some (rows_from keys p h f) ≡ first_some (a ∷ b ∷ c ∷ d ∷ e ∷ [])
  first_is a b c d e k l m n o = λ i. first_some (k i ∷ l i ∷ m i ∷ n i ∷ o i ∷ [])

  pub sender_there : has_frame_tag real keys (bare h) f ≡ true → nat_lt f.sender (length h.cast.names) ≡ true
  sender_there e = and_left (nat_lt f.sender (length h.cast.names)) (bytes_eq (tag_for real keys h.cast f.sender (text_of f)) f.tag) e

  pub tagged : has_frame_tag real keys (bare h) f ≡ true → tag_row ≡ None
  tagged e = none_by (has_frame_tag real keys (bare h) f) BadFrameTag e

  pub viewed : is_seen p h.kept.origin f ≡ true → view_row ≡ None
  viewed e = none_by (is_seen p h.kept.origin f) NoSuchView e

  module _ (e : RefusalFault) (n : e ≢ refusal_fault.OutOfMemory) where
    pub at_tag : Refuses tag_row e → row_number (first_some (rows_from keys p h f)) ≡ 11
    at_tag r =
        let x = holds_by tag_row e n r in
        ap row_number (first_is (Some x.0) view_row time_row item_row open_row x.1 refl refl refl refl) ∙ some_row (has_frame_tag real keys (bare h) f) BadFrameTag x.0 x.1

    module _ (one : tag_row ≡ None) where
      pub at_view : Refuses view_row e → row_number (first_some (rows_from keys p h f)) ≡ 12
      at_view r =
          let x = holds_by view_row e n r in
          ap row_number (first_is None (Some x.0) time_row item_row open_row one x.1 refl refl refl) ∙ some_row (is_seen p h.kept.origin f) NoSuchView x.0 x.1

      module _ (two : view_row ≡ None) where
        pub at_time : Refuses time_row e → row_number (first_some (rows_from keys p h f)) ≡ 13
        at_time r =
            let x = holds_by time_row e n r in
            ap row_number (first_is None None (Some x.0) item_row open_row one two x.1 refl refl) ∙ time_number 1 h.kept.own_time f.items x.0 x.1

        module _ (three : time_row ≡ None) where
          pub at_item : Refuses item_row e → row_number (first_some (rows_from keys p h f)) ≡ 14
          at_item r =
              let x = holds_by item_row e n r in
              ap row_number (first_is None None None (Some x.0) open_row one two three x.1 refl) ∙ evidence_number _ x.0 x.1

          pub at_opening : item_row ≡ None → Refuses open_row e → row_number (first_some (rows_from keys p h f)) ≡ 15
          at_opening four r =
              let x = holds_by open_row e n r in
              ap row_number (first_is None None None None (Some x.0) one two three four x.1) ∙ opening_number _ x.0 x.1

  pub no_row : tag_row ≡ None → view_row ≡ None → time_row ≡ None → item_row ≡ None → open_row ≡ None → first_some (rows_from keys p h f) ≡ None
  no_row one two three four five = first_is None None None None None one two three four five

  -- ---- what is noted

  abbrev its_note : Note
  its_note = note_of keys.me (principal h.cast f.sender) (text_of f)

  abbrev its_hashed : List (List ℕ)
  its_hashed = map (commitment_text_of h.sid) (hashed_from p.graph h.sid (overwritten_by h.kept.commitments f.items) f.openings)

  -- what is noted if the verdict is row k
  abbrev pub NotedAt : ℕ → Notes → Notes → Type 0
  NotedAt k old new = new ≡ with_notes old (notes_from keys p h f k)

  pub by_number : (k : ℕ) (old new : Notes) → row_number (first_some (rows_from keys p h f)) ≡ k → NotedAt k old new → NotedAt (row_number (first_some (rows_from keys p h f))) old new
  by_number k old new e = subst (λ j. NotedAt j old new) (sym e)

  -- the notes with that of the frame
  abbrev pub with_frame : Notes → Notes
  with_frame old = record old { found = old.found ++ its_note ∷ [] }

  -- the notes with those of the items
  abbrev pub with_items : Notes → Notes
  with_items n = record n { found = n.found ++ found_items keys h f.items }

  -- the notes with those of the openings
  abbrev pub with_openings : Notes → Notes
  with_openings n = record n { hashed = n.hashed ++ its_hashed }

  module _ (old : Notes) where
    pub noted_none : (new : Notes) → new ≡ old → NotedAt 11 old new
    noted_none new e = e ∙ (λ i. record { made = sym (append-nil old.made) i; found = sym (append-nil old.found) i; hashed = sym (append-nil old.hashed) i })

    noted_frame : with_frame old ≡ with_notes old (notes_from keys p h f 12)
    noted_frame = λ i. record { made = sym (append-nil old.made) i; found = old.found ++ its_note ∷ []; hashed = sym (append-nil old.hashed) i }

    pub noted_view : (new : Notes) → new ≡ with_frame old → NotedAt 12 old new
    noted_view new e = e ∙ noted_frame

    pub noted_time : (new : Notes) → new ≡ with_frame old → NotedAt 13 old new
    noted_time new e = e ∙ noted_frame

    -- the notes of the frame and of its items
    found_both : (old.found ++ its_note ∷ []) ++ found_items keys h f.items ≡ old.found ++ its_note ∷ found_items keys h f.items
    found_both = append_assoc old.found (its_note ∷ []) (found_items keys h f.items)

    pub noted_items : (one new : Notes) → one ≡ with_frame old → new ≡ with_items one → NotedAt 14 old new
    noted_items one new e q = q ∙ ap with_items e ∙ (λ i. record { made = sym (append-nil old.made) i; found = found_both i; hashed = sym (append-nil old.hashed) i })

    noted_all : (one two new : Notes) → one ≡ with_frame old → two ≡ with_items one → new ≡ with_openings two → new ≡ with_notes old (notes_from keys p h f 16)
    noted_all one two new e q r = r ∙ ap with_openings q ∙ ap (λ n. with_openings (with_items n)) e ∙ (λ i. record { made = sym (append-nil old.made) i; found = found_both i; hashed = old.hashed ++ its_hashed })

    pub noted_opening : (one two new : Notes) → one ≡ with_frame old → two ≡ with_items one → new ≡ with_openings two → NotedAt 15 old new
    noted_opening one two new e q r = noted_all one two new e q r

    pub noted_accepted : (one two new : Notes) → one ≡ with_frame old → two ≡ with_items one → new ≡ with_openings two → NotedAt 16 old new
    noted_accepted one two new e q r = noted_all one two new e q r

-- ---- earlier notes are kept

take_twice : {A : Type 0} (xs ys zs : List A) → take (length xs) ys ≡ xs → take (length ys) zs ≡ ys → take (length xs) zs ≡ xs
take_twice [] ys zs e q = refl
take_twice (x ∷ xs) [] zs e q = absurd (cc)
take_twice (x ∷ xs) (y ∷ ys) [] e q = absurd (cc)
take_twice (x ∷ xs) (y ∷ ys) (z ∷ zs) e q =
    ap (λ w. w ∷ take (length xs) zs) (heads z y (take (length ys) zs) ys q ∙ heads y x (take (length xs) ys) xs e)
    ∙ ap (λ l. x ∷ l) (take_twice xs ys zs (tails y x (take (length xs) ys) xs e) (tails z y (take (length ys) zs) ys q))

pub keeps_same : (a : Notes) → KeepsNotes a a
keeps_same a = (take-length a.made, take-length a.found, take-length a.hashed)

pub keeps_found : (a b : Notes) (more : List Note) → b ≡ record a { found = a.found ++ more } → KeepsNotes a b
keeps_found a b more e = subst (KeepsNotes a) (sym e) (take-length a.made, take-append_seam a.found more, take-length a.hashed)

pub keeps_twice : (a b c : Notes) → KeepsNotes a b → KeepsNotes b c → KeepsNotes a c
keeps_twice a b c k l = (take_twice a.made b.made c.made k.0 l.0, take_twice a.found b.found c.found k.1 l.1, take_twice a.hashed b.hashed c.hashed k.2 l.2)
