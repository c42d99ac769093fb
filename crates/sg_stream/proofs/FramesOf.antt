-- The frames of a list of bytes, one after the other.
use Rattle.std.proofs.Common.{◌≡◌, ◌⊎◌, ℕ, zero, suc, ◌+◌, ◌<◌, ◌≤◌, Bool, true, false, nat_le, List, [], ◌∷◌, ◌++◌, length, take, drop, All, Decides, refl, sym, ap, ◌∙◌, inl, inr, arith}
use Rattle.std.specs.Int.{w32, to_be_bytes}
use Rattle.std.proofs.lemmas.List.{length-drop, length-append, length-take-le, take_at, drop_at, drop-drop, append_assoc}
use Rattle.std.proofs.lemmas.List.Elements.{All-cons, All-nil}
use Rattle.std.proofs.lemmas.Bool.{false_from_ne_true}
use Rattle.std.proofs.lemmas.Bool.Decides.{Decides-and, Decides-ltb, leb_tells}
use Rattle.std.proofs.lemmas.Slice.Eq.{bytes_eq-Decides}
use Rattle.sg_stream.specs.Framed.{IsFrame, message, messages, BeginsMessage, Framed}
use Rattle.sg_stream.specs.Frames.{first_length, begins_message, behind_first, frames_within, rest_within, frames_of, rest_of}
use Rattle.sg_stream.proofs.Messages.{spelled-message, begins_there, message_there, no_message}

decides-le : (a b : ℕ) → Decides (nat_le a b) (a ≤ b)
decides-le a b =
    elim (leb_tells a b) [ inl (e, h) ↦ (λ _. h, λ _. e) | inr (e, h) ↦ (λ t. absurd (cc), λ l. absurd (omega arith)) ]

-- what the test says
decides-begins : (bytes : List ℕ) → Decides (begins_message bytes) ((to_be_bytes w32 (first_length bytes) ≡ take 4 bytes) × ((0 < first_length bytes) × ((first_length bytes ≤ 60000) × (4 + first_length bytes ≤ length bytes))))
unfolding begins_message
decides-begins bytes =
    Decides-and _ _ (bytes_eq-Decides _ _) (Decides-and _ _ (Decides-ltb _ _) (Decides-and _ _ (decides-le _ _) (decides-le _ _)))

-- it says yes if the bytes begin with a message
begins-message : (frame rest : List ℕ) → IsFrame frame → begins_message (message frame ++ rest) ≡ true
begins-message frame rest is =
    let n : first_length (message frame ++ rest) ≡ length frame = spelled-message frame rest is in
    let long : 4 + length frame ≤ length (message frame ++ rest) = omega (arith, length-append frame rest) in
    (decides-begins (message frame ++ rest)).1 (rw n refl, (rw n is.some, (rw n is.fits, rw n long)))

-- and no if they don't
begins-none : (bytes : List ℕ) → (¬ BeginsMessage bytes) → begins_message bytes ≡ false
begins-none bytes none =
    false_from_ne_true (begins_message bytes) (λ t.
    let p = (decides-begins bytes).0 t in none (begins_there bytes (first_length bytes) p.1.0 p.1.1.0 p.1.1.1 p.0))

pub yes_or_no : (b : Bool) → (b ≡ true) ⊎ (b ≡ false)
yes_or_no true = inl refl
yes_or_no false = inr refl

-- more turns than bytes find no more
same_within : (k m : ℕ) (bytes : List ℕ) → length bytes ≤ k → length bytes ≤ m → (frames_within k bytes ≡ frames_within m bytes) × (rest_within k bytes ≡ rest_within m bytes)
same_within zero zero bytes h h' = (refl, refl)
same_within zero (suc m) bytes h h' =
    let e : begins_message bytes ≡ false = false_from_ne_true (begins_message bytes) (λ t. let p = (decides-begins bytes).0 t in absurd (omega (arith, p.1.1.1))) in
    rw e (refl, refl)
same_within (suc k) zero bytes h h' =
    let e : begins_message bytes ≡ false = false_from_ne_true (begins_message bytes) (λ t. let p = (decides-begins bytes).0 t in absurd (omega (arith, p.1.1.1))) in
    rw e (refl, refl)
same_within (suc k) (suc m) bytes h h' =
    elim (yes_or_no (begins_message bytes)) [
      | inl t ↦ let p = (decides-begins bytes).0 t in
          let shorter = length-drop (4 + first_length bytes) bytes in
          let more = same_within k m (behind_first bytes) (omega (arith, p.1.1.1, shorter)) (omega (arith, p.1.1.1, shorter)) in
          rw t (ap (λ fs. take (first_length bytes) (drop 4 bytes) ∷ fs) more.0, more.1)
      | inr e ↦ rw e (refl, refl)
    ]

-- the first frame, and the frames behind its message
pub frames-message : (frame rest : List ℕ) → IsFrame frame → (frames_of (message frame ++ rest) ≡ frame ∷ frames_of rest) × (rest_of (message frame ++ rest) ≡ rest_of rest)
unfolding frames_of rest_of
frames-message frame rest is =
    let bytes : List ℕ = message frame ++ rest in
    let t : begins_message (message frame ++ rest) ≡ true = begins-message frame rest is in
    let n : first_length (message frame ++ rest) ≡ length frame = spelled-message frame rest is in
    let first : take (first_length (message frame ++ rest)) (frame ++ rest) ≡ frame = rw n (take_at frame rest (length frame) refl) in
    let back : behind_first (message frame ++ rest) ≡ rest =
    sym (drop-drop (first_length (message frame ++ rest)) 4 (message frame ++ rest)) ∙ rw n (drop_at frame rest (length frame) refl) in
    let more = same_within (suc (suc (suc (length (frame ++ rest))))) (length rest) rest (omega (arith, length-append frame rest)) (omega arith) in
    rw (t, first, back) (ap (λ fs. frame ∷ fs) more.0, more.1)

-- if no message begins there is none
pub frames-none : (bytes : List ℕ) → (¬ BeginsMessage bytes) → (frames_of bytes ≡ []) × (rest_of bytes ≡ bytes)
unfolding frames_of rest_of
frames-none [] none = (refl, refl)
frames-none (x ∷ xs) none = rw (begins-none (x ∷ xs) none) (refl, refl)

framed_within : (k : ℕ) (bytes : List ℕ) → length bytes ≤ k → Framed bytes (frames_of bytes) (rest_of bytes)
framed_within zero bytes short =
    let none : ¬ BeginsMessage bytes = λ (frame, rest, is, same). absurd (omega (arith, short, ap length same)) in
    let no = frames-none bytes none in
    record {
      each = rw no.0 (All-nil IsFrame);
      whole = rw (no.0, no.1) refl;
      no_more = rw no.1 none;
    }
framed_within (suc k) bytes short =
    elim (yes_or_no (begins_message bytes)) [
      | inl t ↦ let p = (decides-begins bytes).0 t in
          let frame : List ℕ = take (first_length bytes) (drop 4 bytes) in
          let behind : List ℕ = drop (4 + first_length bytes) bytes in
          let long : length (take (first_length bytes) (drop 4 bytes)) ≡ first_length bytes = length-take-le (first_length bytes) (drop 4 bytes) (omega (arith, length-drop 4 bytes, p.1.1.1)) in
          let is : IsFrame (take (first_length bytes) (drop 4 bytes)) = record { some = omega (arith, long, p.1.0); fits = omega (arith, long, p.1.1.0) } in
          let whole : bytes ≡ message (take (first_length bytes) (drop 4 bytes)) ++ drop (4 + first_length bytes) bytes = message_there bytes (first_length bytes) p.1.1.1 p.0 in
          let one = frames-message (take (first_length bytes) (drop 4 bytes)) (drop (4 + first_length bytes) bytes) is in
          let shorter : length (drop (4 + first_length bytes) bytes) ≤ k = omega (arith, short, p.1.1.1, length-drop (4 + first_length bytes) bytes) in
          let more = framed_within k (drop (4 + first_length bytes) bytes) shorter in
          let fs : frames_of bytes ≡ take (first_length bytes) (drop 4 bytes) ∷ frames_of (drop (4 + first_length bytes) bytes) = ap frames_of whole ∙ one.0 in
          let left : rest_of bytes ≡ rest_of (drop (4 + first_length bytes) bytes) = ap rest_of whole ∙ one.1 in
          record {
            each = rw fs (All-cons IsFrame (take (first_length bytes) (drop 4 bytes)) (frames_of (drop (4 + first_length bytes) bytes)) is more.each);
            whole =
                whole
                ∙ (ap (λ b. message (take (first_length bytes) (drop 4 bytes)) ++ b) more.whole
                ∙ (sym (append_assoc (message (take (first_length bytes) (drop 4 bytes))) (messages (frames_of (drop (4 + first_length bytes) bytes))) (rest_of (drop (4 + first_length bytes) bytes)))
                ∙ sym (ap (λ l. messages l ++ rest_of bytes) fs ∙ ap (λ r. messages (take (first_length bytes) (drop 4 bytes) ∷ frames_of (drop (4 + first_length bytes) bytes)) ++ r) left)));
            no_more = rw left more.no_more;
          }
      | inr e ↦ let none : ¬ BeginsMessage bytes = λ (frame, rest, is, same). let yes : begins_message bytes ≡ true = ap begins_message same ∙ begins-message frame rest is in absurd (cc) in
          let no = frames-none bytes none in
          record {
            each = rw no.0 (All-nil IsFrame);
            whole = rw (no.0, no.1) refl;
            no_more = rw no.1 none;
          }
    ]

-- the bytes consist of these frames and this rest
pub framed : (bytes : List ℕ) → Framed bytes (frames_of bytes) (rest_of bytes)
framed bytes = framed_within (length bytes) bytes (omega arith)

-- messages, and what is behind them
frames-messages : (fs : List (List ℕ)) (bytes : List ℕ) → All IsFrame fs → (frames_of (messages fs ++ bytes) ≡ fs ++ frames_of bytes) × (rest_of (messages fs ++ bytes) ≡ rest_of bytes)
frames-messages [] bytes each = (refl, refl)
frames-messages (f ∷ fs) bytes each =
    let parts = append_assoc (message f) (messages fs) bytes in
    let one = frames-message f (messages fs ++ bytes) (each 0 f (omega arith)) in
    let more = frames-messages fs bytes (λ k d within. each (suc k) d (omega (arith, within))) in
    (ap frames_of parts ∙ (one.0 ∙ ap (λ l. f ∷ l) more.0), ap rest_of parts ∙ (one.1 ∙ more.1))

-- bytes behind others: their frames are those of the rest of the others with them
pub frames-append : (bytes more : List ℕ) → (frames_of (bytes ++ more) ≡ frames_of bytes ++ frames_of (rest_of bytes ++ more)) × (rest_of (bytes ++ more) ≡ rest_of (rest_of bytes ++ more))
frames-append bytes more =
    let f = framed bytes in
    let parts : bytes ++ more ≡ messages (frames_of bytes) ++ (rest_of bytes ++ more) = ap (λ b. b ++ more) f.whole ∙ append_assoc (messages (frames_of bytes)) (rest_of bytes) more in
    let two = frames-messages (frames_of bytes) (rest_of bytes ++ more) f.each in
    (ap frames_of parts ∙ two.0, ap rest_of parts ∙ two.1)

-- no byte has no frame and no rest
pub frames-nil : (frames_of [] ≡ []) × (rest_of [] ≡ [])
frames-nil = frames-none [] no_message
