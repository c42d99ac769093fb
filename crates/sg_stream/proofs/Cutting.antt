-- Where the pieces of connections are cut.
use Rattle.std.proofs.Common.{◌≡◌, ℕ, suc, ◌<◌, ◌==◌, true, false, List, [], ◌∷◌, ◌++◌, All, length, map, refl, sym, ap, ◌∙◌, inl, inr, arith, eq-eqb}
use Rattle.std.specs.List.{concat}
use Rattle.std.proofs.lemmas.Bool.Decides.{eqb_tells}
use Rattle.std.proofs.lemmas.List.{append-nil, append_assoc, length-append}
use Rattle.sg_stream.specs.Frames.{frames_of, rest_of}
use Rattle.sg_stream.specs.Arrivals.{arrivals}
use Rattle.sg_stream.proofs.FramesOf.{yes_or_no, framed, frames-none, frames-append, frames-nil}
use Rattle.sg_stream.proofs.Bringing.{with_left, follow, follow-same, brings-follow}

-- the frames that pieces bring to begin with
begun : (ps : List (ℕ × List ℕ)) → arrivals ps ≡ follow (λ conn. []) ps
begun ps = brings-follow ps [] (λ conn. []) (λ conn. sym frames-nil.1)

not_empty : (xs : List ℕ) → 0 < length xs → (length xs == 0) ≡ false
not_empty xs some = elim (eqb_tells (length xs) 0) [ inl (e, is) ↦ absurd (omega (arith, some, is)) | inr (e, differs) ↦ e ]

-- a rest has no frame
rest-none : (bytes : List ℕ) → frames_of (rest_of bytes) ≡ []
rest-none bytes = (frames-none (rest_of bytes) (framed bytes).no_more).0

follow-joined : (ps : List (ℕ × List ℕ)) (left : ℕ → List ℕ) (conn : ℕ) → frames_of (left conn) ≡ [] → All (λ p. (p.0 ≡ conn) × (0 < length p.1)) ps
    → follow left ps ≡ frames_of (left conn ++ concat (map (λ p. p.1) ps))
follow-joined [] left conn none each = sym (ap frames_of (append-nil (left conn)) ∙ none)
follow-joined (p ∷ ps) left conn none each =
    let this = each 0 p (omega arith) in
    let own : (conn == conn) ≡ true = eq-eqb conn conn refl in
    let some : (length p.1 == 0) ≡ false = not_empty p.1 this.1 in
    let next : frames_of (with_left left conn (rest_of (left conn ++ p.1)) conn) ≡ [] = rw own (rest-none (left conn ++ p.1)) in
    let later = follow-joined ps (with_left left conn (rest_of (left conn ++ p.1))) conn next (λ k d within. each (suc k) d (omega (arith, within))) in
    let here : with_left left conn (rest_of (left conn ++ p.1)) conn ≡ rest_of (left conn ++ p.1) = rw own refl in
    let step : follow left (p ∷ ps) ≡ frames_of (left conn ++ p.1) ++ follow (with_left left conn (rest_of (left conn ++ p.1))) ps = rw (some, this.0) refl in
    step
    ∙ (ap (λ l. frames_of (left conn ++ p.1) ++ l) (later ∙ ap (λ b. frames_of (b ++ concat (map (λ q. q.1) ps))) here)
    ∙ (sym (frames-append (left conn ++ p.1) (concat (map (λ q. q.1) ps))).0 ∙ ap frames_of (append_assoc (left conn) p.1 (concat (map (λ q. q.1) ps)))))

-- the pieces of one connection bring the frames of the pieces joined
pub one_connection : (conn : ℕ) (ps : List (ℕ × List ℕ)) → All (λ p. (p.0 ≡ conn) × (0 < length p.1)) ps → arrivals ps ≡ frames_of (concat (map (λ p. p.1) ps))
one_connection conn ps each = begun ps ∙ follow-joined ps (λ c. []) conn frames-nil.0 each

follow-behind : (before xs ys : List (ℕ × List ℕ)) (left : ℕ → List ℕ) → ((l : ℕ → List ℕ) → follow l xs ≡ follow l ys) → follow left (before ++ xs) ≡ follow left (before ++ ys)
follow-behind [] xs ys left same = same left
follow-behind (p ∷ before) xs ys left same =
    elim (yes_or_no (length p.1 == 0)) [
      | inl empty ↦ rw empty (follow-behind before xs ys (with_left left p.0 []) same)
      | inr some ↦ rw some (ap (λ l. frames_of (left p.0 ++ p.1) ++ l) (follow-behind before xs ys (with_left left p.0 (rest_of (left p.0 ++ p.1))) same))
    ]

follow-cut : (conn : ℕ) (prefix back : List ℕ) (after : List (ℕ × List ℕ)) → 0 < length prefix → 0 < length back → (left : ℕ → List ℕ)
    → follow left ((conn, prefix) ∷ (conn, back) ∷ after) ≡ follow left ((conn, prefix ++ back) ∷ after)
follow-cut conn prefix back after some more left =
    let own : (conn == conn) ≡ true = eq-eqb conn conn refl in
    let e : (length prefix == 0) ≡ false = not_empty prefix some in
    let e' : (length back == 0) ≡ false = not_empty back more in
    let e'' : (length (prefix ++ back) == 0) ≡ false = not_empty (prefix ++ back) (omega (arith, some, length-append prefix back)) in
    let two = frames-append (left conn ++ prefix) back in
    let joined : (left conn ++ prefix) ++ back ≡ left conn ++ (prefix ++ back) = append_assoc (left conn) prefix back in
    let once : follow left ((conn, prefix) ∷ (conn, back) ∷ after) ≡ frames_of (left conn ++ prefix) ++ follow (with_left left conn (rest_of (left conn ++ prefix))) ((conn, back) ∷ after) = rw e refl in
    let here : with_left left conn (rest_of (left conn ++ prefix)) conn ≡ rest_of (left conn ++ prefix) = rw own refl in
    let twice : follow (with_left left conn (rest_of (left conn ++ prefix))) ((conn, back) ∷ after)
    ≡ frames_of (rest_of (left conn ++ prefix) ++ back) ++ follow (with_left (with_left left conn (rest_of (left conn ++ prefix))) conn (rest_of (rest_of (left conn ++ prefix) ++ back))) after = rw (e', here) refl in
    let last : follow left ((conn, prefix ++ back) ∷ after) ≡ frames_of (left conn ++ (prefix ++ back)) ++ follow (with_left left conn (rest_of (left conn ++ (prefix ++ back)))) after = rw e'' refl in
    let rests : rest_of (rest_of (left conn ++ prefix) ++ back) ≡ rest_of (left conn ++ (prefix ++ back)) = sym two.1 ∙ ap rest_of joined in
    let same = follow-same (with_left (with_left left conn (rest_of (left conn ++ prefix))) conn (rest_of (rest_of (left conn ++ prefix) ++ back))) (with_left left conn (rest_of (left conn ++ (prefix ++ back)))) after (λ c.
    elim (yes_or_no (conn == c)) [ inl this ↦ rw this rests | inr other ↦ rw other refl ]) in
    once
    ∙ (ap (λ l. frames_of (left conn ++ prefix) ++ l) twice
    ∙ (sym (append_assoc (frames_of (left conn ++ prefix)) (frames_of (rest_of (left conn ++ prefix) ++ back)) (follow (with_left (with_left left conn (rest_of (left conn ++ prefix))) conn (rest_of (rest_of (left conn ++ prefix) ++ back))) after))
    ∙ (ap (λ l. l ++ follow (with_left (with_left left conn (rest_of (left conn ++ prefix))) conn (rest_of (rest_of (left conn ++ prefix) ++ back))) after) (sym two.0 ∙ ap frames_of joined)
    ∙ (ap (λ l. frames_of (left conn ++ (prefix ++ back)) ++ l) same ∙ sym last))))

-- a piece that is cut in two brings the same frames
pub cut_in_two : (before after : List (ℕ × List ℕ)) (conn : ℕ) (prefix back : List ℕ) → 0 < length prefix → 0 < length back
    → arrivals (before ++ (conn, prefix) ∷ (conn, back) ∷ after) ≡ arrivals (before ++ (conn, prefix ++ back) ∷ after)
cut_in_two before after conn prefix back some more =
    begun (before ++ (conn, prefix) ∷ (conn, back) ∷ after)
    ∙ (follow-behind before ((conn, prefix) ∷ (conn, back) ∷ after) ((conn, prefix ++ back) ∷ after) (λ c. []) (follow-cut conn prefix back after some more) ∙ sym (begun (before ++ (conn, prefix ++ back) ∷ after)))
