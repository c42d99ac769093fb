-- What is kept after any calls.
use Rattle.std.proofs.Common.{◌≡◌, ◌⊎◌, ◌≤◌, ◌+◌, ℕ, Bool, true, false, sym, ap, ◌∙◌, refl, List, [], ◌∷◌, ◌++◌, if◌then◌else◌, Option, Some, None, bytes_eq, nat_lt, inl, inr, arith, length-append}
use Rattle.std.specs.Prelude.{length, drop, fold}
use Rattle.std.specs.Cmp.Lexicographic.{slice_cmp}
use Rattle.std.specs.FinMap.{get, get-empty, insert}
use Rattle.std.specs.List.{list_any}
use Rattle.std.specs.Option.{option_map, option_map_or}
use Rattle.std.specs.Ordering.{nat_cmp}
use Rattle.std.proofs.lemmas.Bool.{cases_Bool}
use Rattle.std.proofs.lemmas.Bool.Decides.{nat_tests}
use Rattle.std.proofs.lemmas.Slice.Eq.{bytes_eq-Decides}
use Rattle.sg_again.specs.LastFrames.{KeptFrame, SentFrame, Frames, LastFrames, most_over, no_frames, frame_of, sent, ended, ends, within_limit, without_first}
use Rattle.sg_again.specs.Laws.{Call, Sends, Ends, after_call, last_after, ended_after, KeepsTheLast, KeepsTheLive, KeepsFew}
use Rattle.sg_again.proofs.Kept.{get_put, get_less}

-- ---- by what is kept of a session, and by how many ended

ended_by : (P : LastFrames → Type 0) (l : LastFrames) (s : List ℕ) → P l → ((k : KeptFrame) → get l.frames s ≡ Some k → P (ends l s k.frame)) → P (ended l s)
ended_by P l s p q = by (get l.frames s) refl
  where
    on : (k : KeptFrame) → get l.frames s ≡ Some k → (b : Bool) → P (if b then ends l s k.frame else l)
    on k e true = q k e
    on k e false = p

    by : (o : Option KeptFrame) → get l.frames s ≡ o → P (option_map_or (λ (k : KeptFrame). if k.live then ends l s k.frame else l) o l)
    by None e = p
    by (Some k) e = on k e k.live

limit_by : (P : LastFrames → Type 0) (l : LastFrames) → (nat_lt most_over (length l.over) ≡ false → P l) → (nat_lt most_over (length l.over) ≡ true → P (record { frames = without_first l.over l.frames; over = drop 1 l.over })) → P (within_limit l)
limit_by P l few many = by (nat_lt most_over (length l.over)) refl
  where
    by : (b : Bool) → nat_lt most_over (length l.over) ≡ b → P (if b then record { frames = without_first l.over l.frames; over = drop 1 l.over } else l)
    by true e = many e
    by false e = few e

-- ---- what is kept of a session

abbrev frame_in : Option KeptFrame → Option SentFrame
frame_in o = option_map (λ (k : KeptFrame). k.frame) o

-- the session that ends, whose last frame this is
abbrev with_one : LastFrames → List ℕ → SentFrame → LastFrames
with_one l s f = record { frames = insert l.frames s (record { frame = f; live = false }); over = l.over ++ s ∷ [] }

module _ (sid : List ℕ) where
  -- the session is among those that ended
  abbrev Ended : List (List ℕ) → Bool
  Ended over = list_any (bytes_eq sid) over

  sent_frame : (l : LastFrames) (s : List ℕ) (f : SentFrame) → frame_of (sent l s f) sid ≡ (if bytes_eq sid s then Some f else frame_of l sid)
  sent_frame l s f = elim (cases_Bool (bytes_eq sid s)) [
    | inl p ↦ ap frame_in (get_put l.frames s _ sid) ∙ (rw p refl)
    | inr p ↦ ap frame_in (get_put l.frames s _ sid) ∙ (rw p refl)
  ]

  ends_frame : (l : LastFrames) (s : List ℕ) (k : KeptFrame) → get l.frames s ≡ Some k → frame_of (with_one l s k.frame) sid ≡ frame_of l sid
  ends_frame l s k e = elim (cases_Bool (bytes_eq sid s)) [
    | inl p ↦ ap frame_in (get_put l.frames s _ sid) ∙ (rw p refl) ∙ ap frame_in (sym e) ∙ ap (λ (q : List ℕ). frame_of l q) (sym ((bytes_eq-Decides sid s).0 p))
    | inr p ↦ ap frame_in (get_put l.frames s _ sid) ∙ (rw p refl)
  ]

  first_frame : (over : List (List ℕ)) (m : Frames) → (get (without_first over m) sid ≡ get m sid) ⊎ (get (without_first over m) sid ≡ None)
  first_frame [] m = inl refl
  first_frame (s ∷ ss) m = elim (cases_Bool (bytes_eq sid s)) [
    | inl p ↦ inr (get_less m s sid ∙ (rw p refl))
    | inr p ↦ inl (get_less m s sid ∙ (rw p refl))
  ]

  other_frame : (over : List (List ℕ)) (m : Frames) → Ended over ≡ false → get (without_first over m) sid ≡ get m sid
  other_frame [] m h = refl
  other_frame (s ∷ ss) m h = elim (cases_Bool (bytes_eq sid s)) [
    | inl p ↦ absurd (let n = rw p at h in let z : true ≡ false = n in cc)
    | inr p ↦ get_less m s sid ∙ (rw p refl)
  ]

  others_after : (over : List (List ℕ)) → Ended over ≡ false → Ended (drop 1 over) ≡ false
  others_after [] h = refl
  others_after (s ∷ ss) h = elim (cases_Bool (bytes_eq sid s)) [
    | inl p ↦ absurd (let n = rw p at h in let z : true ≡ false = n in cc)
    | inr p ↦ let n = rw p at h in n
  ]

  others_with : (over : List (List ℕ)) (s : List ℕ) → Ended over ≡ false → bytes_eq sid s ≡ false → Ended (over ++ s ∷ []) ≡ false
  others_with [] s h d = rw d refl
  others_with (x ∷ xs) s h d = elim (cases_Bool (bytes_eq sid x)) [
    | inl p ↦ absurd (let n = rw p at h in let z : true ≡ false = n in cc)
    | inr p ↦ let n = rw p at h in rw p (others_with xs s n d)
  ]

  -- ---- it is the last one, or none

  abbrev IsLast : Option SentFrame → LastFrames → Type 0
  IsLast last l = (frame_of l sid ≡ last) ⊎ (frame_of l sid ≡ None)

  last-limit : (last : Option SentFrame) (l : LastFrames) → IsLast last l → IsLast last (within_limit l)
  last-limit last l h = limit_by (IsLast last) l (λ e. h) (λ e. elim (first_frame l.over l.frames) [
    | inl same ↦ elim h [ inl p ↦ inl (ap frame_in same ∙ p) | inr p ↦ inr (ap frame_in same ∙ p) ]
    | inr gone ↦ inr (ap frame_in gone)
  ])

  last-call : (c : Call) (last : Option SentFrame) (l : LastFrames) → IsLast last l → IsLast (last_after sid last c) (after_call l c)
  last-call (Sends s f) last l h = elim (cases_Bool (bytes_eq sid s)) [
    | inl p ↦ inl (sent_frame l s f ∙ (rw p refl))
    | inr p ↦ elim h [ inl q ↦ inl (sent_frame l s f ∙ (rw p q)) | inr q ↦ inr (sent_frame l s f ∙ (rw p q)) ]
  ]
  last-call (Ends s) last l h = ended_by (IsLast last) l s h (λ k e. last-limit last (with_one l s k.frame)
      (elim h [ inl p ↦ inl (ends_frame l s k e ∙ p) | inr p ↦ inr (ends_frame l s k e ∙ p) ]))

  last-calls : (calls : List Call) (last : Option SentFrame) (l : LastFrames) → IsLast last l → IsLast (fold (last_after sid) last calls) (fold after_call l calls)
  last-calls [] last l h = h
  last-calls (c ∷ cs) last l h = last-calls cs (last_after sid last c) (after_call l c) (last-call c last l h)

  -- ---- until it has ended, it is the last one

  abbrev IsKept : Option SentFrame → LastFrames → Type 0
  IsKept last l = (frame_of l sid ≡ last) × (Ended l.over ≡ false)

  kept-limit : (last : Option SentFrame) (l : LastFrames) → IsKept last l → IsKept last (within_limit l)
  kept-limit last l h = limit_by (IsKept last) l (λ e. h) (λ e. (ap frame_in (other_frame l.over l.frames h.1) ∙ h.0, others_after l.over h.1))

  kept-call : (c : Call) (last : Option SentFrame) (b : Bool) (l : LastFrames) → (b ≡ false → IsKept last l) → ended_after sid b c ≡ false → IsKept (last_after sid last c) (after_call l c)
  kept-call (Sends s f) last b l h e = elim (cases_Bool (bytes_eq sid s)) [
    | inl p ↦ (sent_frame l s f ∙ (rw p refl), (h e).1)
    | inr p ↦ (sent_frame l s f ∙ (rw p (h e).0), (h e).1)
  ]
  kept-call (Ends s) last true l h e = absurd (let z : true ≡ false = e in cc)
  kept-call (Ends s) last false l h e = ended_by (IsKept last) l s (h refl) (λ k is. kept-limit last (with_one l s k.frame) (ends_frame l s k is ∙ (h refl).0, others_with l.over s (h refl).1 e))

  kept-calls : (calls : List Call) (last : Option SentFrame) (b : Bool) (l : LastFrames) → (b ≡ false → IsKept last l) → fold (ended_after sid) b calls ≡ false → frame_of (fold after_call l calls) sid ≡ fold (last_after sid) last calls
  kept-calls [] last b l h e = (h e).0
  kept-calls (c ∷ cs) last b l h e = kept-calls cs (last_after sid last c) (ended_after sid b c) (after_call l c) (kept-call c last b l h) e

-- ---- few of them ended

abbrev AreFew : LastFrames → Type 0
AreFew l = length l.over ≤ most_over

one_more : (over : List (List ℕ)) (s : List ℕ) → length (over ++ s ∷ []) ≡ length over + 1
one_more over s = length-append over (s ∷ [])

one_less : (over : List (List ℕ)) → length over ≤ most_over + 1 → length (drop 1 over) ≤ most_over
one_less [] h = omega arith
one_less (s ∷ ss) h = omega (arith, h)

few-limit : (l : LastFrames) → length l.over ≤ most_over + 1 → AreFew (within_limit l)
few-limit l h = limit_by AreFew l (λ e. grind (arith, nat_tests, e)) (λ e. one_less l.over h)

few-call : (c : Call) (l : LastFrames) → AreFew l → AreFew (after_call l c)
few-call (Sends s f) l h = h
few-call (Ends s) l h = ended_by AreFew l s h (λ k e. few-limit (with_one l s k.frame) (omega (arith, h, one_more l.over s)))

few-calls : (calls : List Call) (l : LastFrames) → AreFew l → AreFew (fold after_call l calls)
few-calls [] l h = h
few-calls (c ∷ cs) l h = few-calls cs (after_call l c) (few-call c l h)

-- ---- the laws

no_frame : (sid : List ℕ) → frame_of no_frames sid ≡ None
no_frame sid = ap frame_in (get-empty (slice_cmp nat_cmp) sid)

pub keeps_last : KeepsTheLast
keeps_last calls sid = last-calls sid calls None no_frames (inl (no_frame sid))

pub keeps_live : KeepsTheLive
keeps_live calls sid e = kept-calls sid calls None false no_frames (λ _. (no_frame sid, refl)) e

pub keeps_few : KeepsFew
keeps_few calls = few-calls calls no_frames (omega arith)
