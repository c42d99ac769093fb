-- Which answers may take memory.
use Rattle.std.specs.Prelude.{◌≡◌, ℕ, nat_le, nat_lt, ◌+◌, ◌<◌, ◌⊎◌, length, not, Result, Ok, Err, is_ok, IsErr, Bool, true, false, if◌then◌else◌, List, [], ◌∷◌, refl, Option, Some, None, option_map, find, position}
use Rattle.std.proofs.Common.{ap, ◌∙◌, inl, inr, arith}
use Rattle.std.proofs.lemmas.Bool.{cases_Bool}
use Rattle.std.proofs.lemmas.Bool.Decides.{nat_tests}
use Rattle.sg_model.proofs.Small.{clash}
use Rattle.sg_model.specs.Limits.{most_frame_bytes}
use Rattle.sg_model.specs.Lists.{first_some}
use Rattle.sg_protocol.specs.Acting.{started}
use Rattle.sg_protocol.specs.Calls.{Event, Refusal, BadSession, Joined, CacheFull, SessionsFull, BadFrameTag, NoSuchView, BadTime, BadEvidence, BadOpening}
use Rattle.sg_protocol.specs.Checks.{texts_checked}
use Rattle.sg_protocol.specs.Frame.{Item, Frame}
use Rattle.sg_protocol.specs.Keyring.{Keyring, Program}
use Rattle.sg_protocol.specs.Reading.{Read, on, after, read, read_version, read_frame_of, whole}
use Rattle.sg_protocol.specs.Session.{Session, own_time}
use Rattle.sg_protocol.specs.Texts.{real}
use Rattle.sg_protocol.specs.Verdict.{row, bad_time, decided, is_shown, has_frame_tag, has_item_tag, is_right, rows_of_session}
use Rattle.sg_node.specs.Answers.{may_take_memory}
use Rattle.sg_node.specs.declared.join.Obstacle.{Obstacle}
use Rattle.sg_node.specs.declared.join.Obstacle.TheVariants as Why
use Rattle.sg_receipt.specs.Refusals.{start_refusal}
use Rattle.sg_node.specs.Joining.{start_refusal_for}

-- a start that comes to the obstacles
pub started_may : (sid : List ℕ) (r : ℕ) (o : Option Obstacle) → may_take_memory (started sid r (option_map (λ o. start_refusal (start_refusal_for o)) o)) ≡ true
started_may sid r None = refl
started_may sid r (Some Why.Joined) = refl
started_may sid r (Some Why.Cache) = refl
started_may sid r (Some Why.Sessions) = refl

-- the verdict by some rows
module _ (e : Event) where
  abbrev pub may_by : List (Option Refusal) → Bool
  may_by xs = may_take_memory (decided e (first_some xs))

  pub by_row : (b : Bool) (r : Refusal) (xs : List (Option Refusal)) → may_take_memory (decided e (Some r)) ≡ true → may_by xs ≡ true → may_by (row b r ∷ xs) ≡ true
  by_row true r xs k h = k
  by_row false r xs k h = h

  by_option : {A : Type 0} (g : A → Refusal) (o : Option A) (xs : List (Option Refusal)) → ((a : A) → may_take_memory (decided e (Some (g a))) ≡ true) → may_by xs ≡ true → may_by (option_map g o ∷ xs) ≡ true
  by_option g None xs k h = h
  by_option g (Some a) xs k h = k a

  by_bit : (b : Bool) (r : Refusal) (o : Option Refusal) (xs : List (Option Refusal)) → may_take_memory (decided e (Some r)) ≡ true → may_by (o ∷ xs) ≡ true → may_by ((if b then Some r else o) ∷ xs) ≡ true
  by_bit true r o xs k h = k
  by_bit false r o xs k h = h

  by_time : (n before : ℕ) (is : List Item) (xs : List (Option Refusal)) → may_by xs ≡ true → may_by (bad_time n before is ∷ xs) ≡ true
  by_time n before [] xs h = h
  by_time n before (i ∷ is) xs h = by_bit (nat_le i.time before) (BadTime n i.time (before + 1)) (bad_time (n + 1) i.time is) xs refl (by_time (n + 1) i.time is xs h)

  -- a frame that comes to its session
  pub by_session : (keys : Keyring) (p : Program) (s : Session) (f : Frame) → may_by (rows_of_session real keys p s f) ≡ true
  by_session keys p s f =
      let openings : List (Option Refusal) = option_map (λ o. BadOpening o.variable) (find (λ o. not (is_right real p.graph s f o)) f.openings) ∷ [] in
      let items : List (Option Refusal) = option_map (λ n. BadEvidence (n + 1)) (position (λ c. not (has_item_tag real keys s c)) (texts_checked p.graph s f)) ∷ openings in
      let times : List (Option Refusal) = bad_time 1 (own_time s) f.items ∷ items in
      by_row (not (has_frame_tag real keys s f)) BadFrameTag (row (not (is_shown p s f)) NoSuchView ∷ times) refl
      (by_row (not (is_shown p s f)) NoSuchView times refl
      (by_time 1 (own_time s) f.items items
      (by_option (λ n. BadEvidence (n + 1)) (position (λ c. not (has_item_tag real keys s c)) (texts_checked p.graph s f)) openings (λ n. refl)
      (by_option (λ o. BadOpening o.variable) (find (λ o. not (is_right real p.graph s f o)) f.openings) [] (λ o. refl) refl))))

  -- a frame that joins and comes to the session's identifier
  pub by_join : (a b c d : Bool) (xs : List (Option Refusal)) → may_by xs ≡ true → may_by (row a BadSession ∷ row b Joined ∷ row c CacheFull ∷ row d SessionsFull ∷ xs) ≡ true
  by_join true b c d xs h = refl
  by_join false true c d xs h = refl
  by_join false false true d xs h = refl
  by_join false false false true xs h = refl
  by_join false false false false xs h = h

-- ---- what is read

-- nothing is read after a wrong beginning
no_frame : (r : Result (Read ℕ) ℕ) → IsErr r → is_ok (whole (on r read_frame_of)) ≡ false
no_frame (Err at) h = refl
no_frame (Ok x) h = clash false h refl

-- what is read is not too long, and has a magic
pub not_read : (bs : List ℕ) (f : Frame) → read bs ≡ Ok f → (most_frame_bytes < length bs) ⊎ IsErr (read_version 0 bs) → ⊥
not_read bs f e h = elim (cases_Bool (nat_lt most_frame_bytes (length bs))) [
  | inl t ↦ clash (is_ok (read bs)) (ap is_ok e) (ap (λ b. is_ok (if b then Err most_frame_bytes else whole (after read_version read_frame_of 0 bs))) t)
  | inr n ↦ elim h [
    | inl long ↦ grind (arith, nat_tests, n, long)
    | inr wrong ↦ clash (is_ok (read bs)) (ap is_ok e) (ap (λ b. is_ok (if b then Err most_frame_bytes else whole (after read_version read_frame_of 0 bs))) n ∙ no_frame (read_version 0 bs) wrong)
  ]
]
