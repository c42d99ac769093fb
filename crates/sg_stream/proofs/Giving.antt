-- Pieces given one after the other.
use Rattle.std.proofs.Common.{◌≡◌, ℕ, ◌+◌, ◌-◌, ◌==◌, take, drop, length, List, [], ◌∷◌, ◌++◌, Option, Some, None, refl, sym, ap, ◌∙◌, inl, inr}
use Rattle.std.specs.Option.{option_map}
use Rattle.std.proofs.Math.Seq.{take-add}
use Rattle.std.proofs.lemmas.List.{append-nil, append_assoc, take_rest}
use Rattle.sg_stream.specs.Traffic.{Writer, Traffic, with_piece_for, after_give}
use Rattle.sg_stream.proofs.FramesOf.{yes_or_no}

-- no byte given changes nothing
given_none : (conn : ℕ) (ws : List Writer) → with_piece_for conn [] ws ≡ ws
given_none conn [] = refl
given_none conn (w ∷ ws) =
    elim (yes_or_no (w.conn == conn)) [
      | inl this ↦ rw this (λ i. record { conn = w.conn; to = w.to; bytes = append-nil w.bytes i } ∷ ws)
      | inr other ↦ rw other (ap (λ l. w ∷ l) (given_none conn ws))
    ]

-- a piece, and then another
given_more : (conn : ℕ) (a b : List ℕ) (ws : List Writer) → with_piece_for conn b (with_piece_for conn a ws) ≡ with_piece_for conn (a ++ b) ws
given_more conn a b [] = refl
given_more conn a b (w ∷ ws) =
    elim (yes_or_no (w.conn == conn)) [
      | inl this ↦ let first : with_piece_for conn a (w ∷ ws) ≡ record { conn = w.conn; to = w.to; bytes = w.bytes ++ a } ∷ ws = rw this refl in
          let second : with_piece_for conn b (record { conn = w.conn; to = w.to; bytes = w.bytes ++ a } ∷ ws) ≡ record { conn = w.conn; to = w.to; bytes = (w.bytes ++ a) ++ b } ∷ ws = rw this refl in
          let both : with_piece_for conn (a ++ b) (w ∷ ws) ≡ record { conn = w.conn; to = w.to; bytes = w.bytes ++ (a ++ b) } ∷ ws = rw this refl in
          ap (with_piece_for conn b) first ∙ (second ∙ ((λ i. record { conn = w.conn; to = w.to; bytes = append_assoc w.bytes a b i } ∷ ws) ∙ sym both))
      | inr other ↦ let first : with_piece_for conn a (w ∷ ws) ≡ w ∷ with_piece_for conn a ws = rw other refl in
          let second : with_piece_for conn b (w ∷ with_piece_for conn a ws) ≡ w ∷ with_piece_for conn b (with_piece_for conn a ws) = rw other refl in
          let both : with_piece_for conn (a ++ b) (w ∷ ws) ≡ w ∷ with_piece_for conn (a ++ b) ws = rw other refl in
          ap (with_piece_for conn b) first ∙ (second ∙ (ap (λ l. w ∷ l) (given_more conn a b ws) ∙ sym both))
    ]

-- the same of the traffic
pub traffic-none : (conn : ℕ) (held : Option Traffic) → option_map (after_give conn []) held ≡ held
traffic-none conn None = refl
traffic-none conn (Some t) = λ i. Some (record { coming = t.coming; given = given_none conn t.given i; open_ones = t.open_ones })

pub traffic-more : (conn : ℕ) (a b : List ℕ) (held : Option Traffic) → option_map (after_give conn b) (option_map (after_give conn a) held) ≡ option_map (after_give conn (a ++ b)) held
traffic-more conn a b None = refl
traffic-more conn a b (Some t) = λ i. Some (record { coming = t.coming; given = given_more conn a b t.given i; open_ones = t.open_ones })

-- what is taken of the rest goes on from what was taken before
pub pieces_joined : (xs : List ℕ) (at n : ℕ) → take at xs ++ take n (take (length xs - at) (drop at xs)) ≡ take (at + n) xs
pieces_joined xs at n = rw (take_rest xs at) (sym (take-add at n xs))
