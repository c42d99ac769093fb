-- What holds of bytes cut into pieces.
use Rattle.std.proofs.Common.{◌≡◌, ℕ, suc, ◌+◌, ◌<◌, ◌≤◌, List, [], ◌∷◌, ◌++◌, length, take, drop, refl, ap, ◌∙◌, arith}
use Rattle.std.specs.List.{concat}
use Rattle.std.proofs.Math.Seq.{take-length}
use Rattle.std.proofs.lemmas.List.{take-append-drop, take-append-le, drop-append-le, length-drop}
use Rattle.sg_link.specs.Inbox.{HasRoom, total, cut}

-- one more length
pub total-more : (lens : List ℕ) (n : ℕ) → total (lens ++ n ∷ []) ≡ total lens + n
total-more [] n = omega arith
total-more (m ∷ lens) n = omega (arith, total-more lens n)

-- as many pieces as lengths
pub cut-length : (lens bytes : List ℕ) → length (cut lens bytes) ≡ length lens
cut-length [] bytes = refl
cut-length (n ∷ lens) bytes = ap suc (cut-length lens (drop n bytes))

-- the pieces joined are the bytes
pub cut-joined : (lens bytes : List ℕ) → total lens ≡ length bytes → concat (cut lens bytes) ≡ bytes
cut-joined [] [] same = refl
cut-joined [] (b ∷ bytes) same = absurd (omega (arith, same))
cut-joined (n ∷ lens) bytes same =
    let rest : total lens ≡ length (drop n bytes) = omega (arith, same, length-drop n bytes) in
    ap (λ b. take n bytes ++ b) (cut-joined lens (drop n bytes) rest) ∙ take-append-drop n bytes

-- bytes behind all others are one more piece
pub cut-more : (lens bytes piece : List ℕ) → total lens ≡ length bytes → cut (lens ++ length piece ∷ []) (bytes ++ piece) ≡ cut lens bytes ++ piece ∷ []
cut-more [] [] piece same = ap (λ p. p ∷ []) (take-length piece)
cut-more [] (b ∷ bytes) piece same = absurd (omega (arith, same))
cut-more (n ∷ lens) bytes piece same =
    let within : n ≤ length bytes = omega (arith, same) in
    let rest : total lens ≡ length (drop n bytes) = omega (arith, same, length-drop n bytes) in
    rw (take-append-le n bytes piece within, drop-append-le n bytes piece within) (ap (λ l. take n bytes ∷ l) (cut-more lens (drop n bytes) piece rest))

-- the lengths are those of the bytes that were not handed out
pub total-left : (lens bytes : List ℕ) (taken : ℕ) → total lens + taken ≡ length bytes → total lens ≡ length (drop taken bytes)
total-left lens bytes taken held = omega (arith, held, length-drop taken bytes)

-- room among the lengths and the bytes is room among the pieces, and the other way round
pub room : (lens bytes : List ℕ) → total lens ≡ length bytes → length lens < 65536 → length bytes + 16384 ≤ 4194304 → HasRoom (cut lens bytes)
room lens bytes same fewer fits = record {
  fewer = rw (cut-length lens bytes) fewer;
  fits = rw (cut-joined lens bytes same) fits;
}

pub no_more_than : (lens bytes : List ℕ) → total lens ≡ length bytes → HasRoom (cut lens bytes) → (length lens < 65536) × (length bytes + 16384 ≤ 4194304)
no_more_than lens bytes same has = (rw (cut-length lens bytes) at has.fewer, rw (cut-joined lens bytes same) at has.fits)
