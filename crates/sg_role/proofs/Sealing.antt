-- A frame that is spelled with zeros for its tag, and then gets its tag.
use Rattle.std.proofs.Common.{◌≡◌, ℕ, zero, suc, ◌+◌, ◌-◌, ◌<◌, ◌≤◌, ◌⊎◌, List, [], ◌∷◌, ◌++◌, length, take, get_or, replicate, length-append, refl, sym, ◌∙◌, ap, subst, arith, inl, inr}
use Rattle.sg_model.specs.Limits.{most_frame_bytes, most_sent_bytes}
use Rattle.sg_protocol.specs.Bounds.{IsShortFrame}
use Rattle.sg_protocol.specs.Frame.{Frame, IsTag, tag_len}
use Rattle.sg_protocol.specs.Spelling.{HasSpelling, spelling, body}
use Rattle.sg_model.specs.Bytes.{AreBytes}

-- the prefix of the bytes and the tag are the frame with this tag
pub tag_put : (f : Frame) (bytes tag : List ℕ) (len : ℕ) → tag_len f.version ≤ length bytes → len ≡ length bytes - tag_len f.version → take len bytes ≡ body f →
    take len bytes ++ take (length bytes - len) tag ≡ spelling (record f { tag = tag })
tag_put f bytes tag len l e b = ap (λ z. z ++ take (length bytes - len) tag) b ∙ ap (λ n. body f ++ take n tag) (left (length bytes) (tag_len f.version) len l e)
  where
    left : (n t k : ℕ) → t ≤ n → k ≡ n - t → n - k ≡ t
    left n t k l e = omega (arith, l, e)

-- ---- zeros for the tag

replicate_bytes : (n : ℕ) → AreBytes n (replicate n 0)
replicate_bytes n = (length_zeros n, small n)
  where
    length_zeros : (n : ℕ) → length {A = ℕ} (replicate n 0) ≡ n
    length_zeros zero = refl
    length_zeros (suc n) = let r : length {A = ℕ} (replicate n 0) ≡ n = length_zeros n in omega (arith, r)

    small : (n i : ℕ) → get_or (replicate n 0) i 0 < 256
    small zero zero = omega arith
    small zero (suc i) = omega arith
    small (suc n) zero = omega arith
    small (suc n) (suc i) = small n i

zero_tag : (v : ℕ) → (v ≡ 1) ⊎ (v ≡ 2) → IsTag v (replicate 32 0)
zero_tag v (inl e) = subst (λ v. IsTag v (replicate 32 0)) (sym e) record { bytes = replicate_bytes 32; zeros = refl }
zero_tag v (inr e) = subst (λ v. IsTag v (replicate 32 0)) (sym e) record { bytes = replicate_bytes 32; zeros = refl }

length_take : (n : ℕ) (xs : List ℕ) → n ≤ length xs → length (take n xs) ≡ n
length_take zero xs l = refl
length_take (suc n) [] l = absurd (omega (arith, l))
length_take (suc n) (x ∷ xs) l = let r : length (take n xs) ≡ n = length_take n xs (omega (arith, l)) in omega (arith, r)

few_bytes : (v : ℕ) → (v ≡ 1) ⊎ (v ≡ 2) → tag_len v ≤ 32
few_bytes v (inl e) = rw e (omega arith)
few_bytes v (inr e) = rw e (omega arith)

-- the frame has as many bytes with another tag
same_length : (f : Frame) (a b : List ℕ) → tag_len f.version ≤ 32 → length a ≡ 32 → length b ≡ 32 → length (spelling (record f { tag = a })) ≡ length (spelling (record f { tag = b }))
same_length f a b l d e =
    length-append (body f) (take (tag_len f.version) a)
    ∙ ap (λ n. length (body f) + n) (length_take (tag_len f.version) a (omega (arith, l, d)) ∙ sym (length_take (tag_len f.version) b (omega (arith, l, e))))
    ∙ sym (length-append (body f) (take (tag_len f.version) b))

-- a short frame is short with zeros for its tag
pub untagged_short : (f : Frame) → IsShortFrame f → IsShortFrame (record f { tag = replicate 32 0 })
untagged_short f s = record {
  spelled = record {
    fields = record {
      version = s.spelled.fields.version;
      sid = s.spelled.fields.sid;
      roles = s.spelled.fields.roles;
      join = s.spelled.fields.join;
      count = s.spelled.fields.count;
      items = s.spelled.fields.items;
      variables = s.spelled.fields.variables;
      openings = s.spelled.fields.openings;
      tag = zero_tag f.version s.spelled.fields.version;
    };
    short = subst (λ n. n ≤ most_frame_bytes) same s.spelled.short;
  };
  items = s.items;
  bytes = subst (λ n. n ≤ most_sent_bytes f.version) same s.bytes;
}
  where
    same : length (spelling f) ≡ length (spelling (record f { tag = replicate 32 0 }))
    same = same_length f f.tag (replicate 32 0) (few_bytes f.version s.spelled.fields.version) s.spelled.fields.tag.bytes.0 refl

-- a frame's tag is part of its bytes
pub tag_fits : (f : Frame) → HasSpelling f → (tag_len f.version ≤ length (spelling f)) × (length (spelling f) ≤ 60000)
tag_fits f s =
    let l : tag_len f.version ≤ 32 = few_bytes f.version s.fields.version in
    let t = s.fields.tag.bytes.0 in
    let k : length (take (tag_len f.version) f.tag) ≡ tag_len f.version = length_take (tag_len f.version) f.tag (omega (arith, l, t)) in
    let a = length-append (body f) (take (tag_len f.version) f.tag) in
    (omega (arith, k, a), s.short)
