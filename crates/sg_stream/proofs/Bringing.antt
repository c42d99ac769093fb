-- The frames that pieces bring, followed piece by piece with what each connection has left.
use Rattle.std.proofs.Common.{◌≡◌, ◌≢◌, ℕ, zero, suc, ◌+◌, ◌-◌, ◌<◌, ◌≤◌, ◌==◌, true, false, if◌then◌else◌, List, [], ◌∷◌, ◌++◌, length, get_or, set, refl, sym, ap, ◌∙◌, inl, inr, arith}
use Rattle.std.specs.List.{flat_map}
use Rattle.std.proofs.Math.Seq.{drop-nil, drop-append_seam}
use Rattle.std.proofs.lemmas.Bool.{eq-eqb}
use Rattle.std.proofs.lemmas.Bool.Decides.{eqb_tells, leb_tells}
use Rattle.std.proofs.lemmas.List.{append-nil, append_assoc, nil_from_length}
use Rattle.sg_stream.specs.Framed.{BeginsMessage, BeginsBad}
use Rattle.sg_stream.specs.Traffic.{without}
use Rattle.sg_stream.specs.Frames.{frames_of, rest_of}
use Rattle.sg_stream.specs.Arrivals.{brought, made_whole, brings, arrivals}
use Rattle.sg_stream.specs.Link.{numbered}
use Rattle.sg_stream.proofs.Messages.{not_bad, bad_stays}
use Rattle.sg_stream.proofs.FramesOf.{yes_or_no, frames-none, frames-append, frames-nil}

pub nil_there : (xs : List ℕ) → (length xs == 0) ≡ true → xs ≡ []
nil_there xs none = elim (eqb_tells (length xs) 0) [ inl (e, is) ↦ nil_from_length xs is | inr (e, differs) ↦ absurd (cc) ]

not_equal : (a b : ℕ) → a ≢ b → (a == b) ≡ false
not_equal a b differs = elim (eqb_tells a b) [ inl (e, is) ↦ absurd (differs is) | inr (e, other) ↦ e ]

-- the connection with this number has this left, and the others have what they had
abbrev pub with_left : (ℕ → List ℕ) → ℕ → List ℕ → ℕ → List ℕ
with_left left conn bytes other = if conn == other then bytes else left other

-- the frames of pieces, if each connection has something left in which no message is whole
abbrev pub follow : (ℕ → List ℕ) → List (ℕ × List ℕ) → List (List ℕ)
follow left [] = []
follow left (p ∷ ps) =
    if length p.1 == 0 then follow (with_left left p.0 []) ps else frames_of (left p.0 ++ p.1) ++ follow (with_left left p.0 (rest_of (left p.0 ++ p.1))) ps

pub follow-same : (left other : ℕ → List ℕ) (ps : List (ℕ × List ℕ)) → ((conn : ℕ) → left conn ≡ other conn) → follow left ps ≡ follow other ps
follow-same left other ps same = ap (λ l. follow l ps) (λ i conn. same conn i)

-- the frames that pieces bring are followed so
pub brings-follow : (ps before : List (ℕ × List ℕ)) (left : ℕ → List ℕ) → ((conn : ℕ) → left conn ≡ rest_of (brought conn before)) → brings before ps ≡ follow left ps
brings-follow [] before left same = refl
brings-follow (p ∷ ps) before left same =
    let own : (p.0 == p.0) ≡ true = eq-eqb p.0 p.0 refl in
    elim (yes_or_no (length p.1 == 0)) [
      | inl empty ↦ let none : made_whole before p ≡ [] =
          rw (own, empty, frames-nil.0) (drop-nil (length (frames_of (brought p.0 before)))) in
          let next : (conn : ℕ) → with_left left p.0 [] conn ≡ rest_of (brought conn (p ∷ before)) =
          λ conn. elim (yes_or_no (p.0 == conn)) [
            | inl this ↦ rw (this, empty) (sym frames-nil.1)
            | inr other ↦ rw other (same conn)
          ] in
          let right : follow left (p ∷ ps) ≡ follow (with_left left p.0 []) ps = rw empty refl in
          ap (λ l. l ++ brings (p ∷ before) ps) none ∙ (brings-follow ps (p ∷ before) (with_left left p.0 []) next ∙ sym right)
      | inr some ↦ let two = frames-append (brought p.0 before) p.1 in
          let news : made_whole before p ≡ frames_of (left p.0 ++ p.1) =
          rw (own, some, same p.0, two.0) (drop-append_seam (frames_of (brought p.0 before)) (frames_of (rest_of (brought p.0 before) ++ p.1))) in
          let next : (conn : ℕ) → with_left left p.0 (rest_of (left p.0 ++ p.1)) conn ≡ rest_of (brought conn (p ∷ before)) =
          λ conn. elim (eqb_tells p.0 conn) [
            | inl (this, is) ↦ let here : rest_of (left p.0 ++ p.1) ≡ rest_of (brought conn before ++ p.1) =
                ap (λ b. rest_of (b ++ p.1)) (same p.0) ∙ (sym two.1 ∙ ap (λ c. rest_of (brought c before ++ p.1)) is) in
                rw (this, some) here
            | inr (other, differs) ↦ rw other (same conn)
          ] in
          let right : follow left (p ∷ ps) ≡ frames_of (left p.0 ++ p.1) ++ follow (with_left left p.0 (rest_of (left p.0 ++ p.1))) ps = rw some refl in
          ap (λ l. l ++ brings (p ∷ before) ps) news
          ∙ (ap (λ l. frames_of (left p.0 ++ p.1) ++ l) (brings-follow ps (p ∷ before) (with_left left p.0 (rest_of (left p.0 ++ p.1))) next) ∙ sym right)
    ]

-- what connections have left, as pieces: their frames, and then those of what comes
pub follow-numbered : (lefts : List (List ℕ)) (n : ℕ) (start final : ℕ → List ℕ) (ps : List (ℕ × List ℕ)) → ((conn : ℕ) → n ≤ conn → start conn ≡ [])
    → ((conn : ℕ) → conn < n → final conn ≡ start conn) → ((conn : ℕ) → n ≤ conn → final conn ≡ rest_of (get_or lefts (conn - n) []))
    → follow start (numbered n lefts ++ ps) ≡ flat_map frames_of lefts ++ follow final ps
follow-numbered [] n start final ps empty below above =
    follow-same start final ps (λ conn.
    elim (leb_tells n conn) [
      | inl (e, h) ↦ empty conn h ∙ sym (above conn h ∙ frames-nil.1)
      | inr (e, h) ↦ sym (below conn h)
    ])
follow-numbered (x ∷ xs) n start final ps empty below above =
    let nothing : start n ≡ [] = empty n (omega arith) in
    let next : ℕ → List ℕ = with_left start n (rest_of x) in
    let empty' : (conn : ℕ) → n + 1 ≤ conn → with_left start n (rest_of x) conn ≡ [] =
    λ conn h. elim (eqb_tells n conn) [
      | inl (this, is) ↦ absurd (omega (arith, h, is))
      | inr (other, differs) ↦ rw other (empty conn (omega (arith, h)))
    ] in
    let below' : (conn : ℕ) → conn < n + 1 → final conn ≡ with_left start n (rest_of x) conn =
    λ conn h. elim (eqb_tells n conn) [
      | inl (this, is) ↦ let zero_there : conn - n ≡ 0 = omega (arith, is) in
          rw this (above conn (omega (arith, is)) ∙ ap (λ k. rest_of (get_or (x ∷ xs) k [])) zero_there)
      | inr (other, differs) ↦ rw other (elim (leb_tells n conn) [
        | inl (e, le) ↦ absurd (differs (omega (arith, h, le)))
        | inr (e, less) ↦ below conn less
      ])
    ] in
    let above' : (conn : ℕ) → n + 1 ≤ conn → final conn ≡ rest_of (get_or xs (conn - (n + 1)) []) =
    λ conn h.
    let more : conn - n ≡ suc (conn - (n + 1)) = omega (arith, h) in
    above conn (omega (arith, h)) ∙ ap (λ k. rest_of (get_or (x ∷ xs) k [])) more in
    let later = follow-numbered xs (n + 1) (with_left start n (rest_of x)) final ps empty' below' above' in
    let one : follow start ((n, x) ∷ (numbered (n + 1) xs ++ ps)) ≡ frames_of x ++ follow (with_left start n (rest_of x)) (numbered (n + 1) xs ++ ps) =
    elim (yes_or_no (length x == 0)) [
      | inl none ↦ let is : x ≡ [] = nil_there x none in
          rw (none, is, frames-nil.0, frames-nil.1) refl
      | inr some ↦ rw (some, nothing) refl
    ] in
    one ∙ (ap (λ l. frames_of x ++ l) later ∙ sym (append_assoc (frames_of x) (flat_map frames_of xs) (follow final ps)))

-- the frames of what connections have left, followed by pieces
pub arrivals-left : (lefts : List (List ℕ)) (ps : List (ℕ × List ℕ)) → arrivals (numbered 0 lefts ++ ps) ≡ flat_map frames_of lefts ++ follow (λ conn. rest_of (get_or lefts conn [])) ps
arrivals-left lefts ps =
    brings-follow (numbered 0 lefts ++ ps) [] (λ conn. []) (λ conn. sym frames-nil.1)
    ∙ follow-numbered lefts 0 (λ conn. []) (λ conn. rest_of (get_or lefts conn [])) ps (λ conn h. refl) (λ conn h. absurd (omega (arith, h))) (λ conn h. ap (λ k. rest_of (get_or lefts k [])) (omega arith))

-- if no connection has a whole message left
pub flat_none : (lefts : List (List ℕ)) → ((conn : ℕ) → ¬ BeginsMessage (get_or lefts conn [])) → flat_map frames_of lefts ≡ []
flat_none [] none = refl
flat_none (x ∷ xs) none = rw ((frames-none x (none 0)).0, flat_none xs (λ conn. none (suc conn))) refl

-- if one alone may have some
pub flat_one : (lefts : List (List ℕ)) (n : ℕ) (bytes : List ℕ) → n < length lefts → ((conn : ℕ) → conn ≢ n → ¬ BeginsMessage (get_or lefts conn [])) → flat_map frames_of (set lefts n bytes) ≡ frames_of bytes
flat_one [] n bytes within none = absurd (omega (arith, within))
flat_one (x ∷ xs) zero bytes within none =
    ap (λ l. frames_of bytes ++ l) (flat_none xs (λ conn. none (suc conn) (λ e. absurd (omega (arith, e))))) ∙ append-nil (frames_of bytes)
flat_one (x ∷ xs) (suc n) bytes within none =
    rw (frames-none x (none 0 (λ e. absurd (omega (arith, e))))).0 (flat_one xs n bytes (omega (arith, within)) (λ conn differs. none (suc conn) (λ e. differs (omega (arith, e)))))

-- a connection with a bad length brings no frame before its end
pub follow-bad : (ps : List (ℕ × List ℕ)) (left : ℕ → List ℕ) (conn len : ℕ) → BeginsBad (left conn) len → follow left ps ≡ follow (with_left left conn []) (without conn ps)
follow-bad [] left conn len bad = refl
follow-bad (p ∷ ps) left conn len bad =
    elim (eqb_tells p.0 conn) [
      | inl (this, is) ↦ elim (yes_or_no (length p.1 == 0)) [
        | inl empty ↦ rw (this, empty, is) refl
        | inr some ↦ let bad' : BeginsBad (left conn ++ p.1) len = bad_stays (left conn) p.1 len bad in
            let no = frames-none (left conn ++ p.1) (λ begins. not_bad (left conn ++ p.1) len begins bad') in
            let own : (conn == conn) ≡ true = eq-eqb conn conn refl in
            let still : BeginsBad (with_left left conn (left conn ++ p.1) conn) len = rw own bad' in
            let later = follow-bad ps (with_left left conn (left conn ++ p.1)) conn len still in
            let same = follow-same (with_left (with_left left conn (left conn ++ p.1)) conn []) (with_left left conn []) (without conn ps) (λ c.
            elim (yes_or_no (conn == c)) [ inl here ↦ rw here refl | inr other ↦ rw other refl ]) in
            rw (this, some, is, no.0, no.1) (later ∙ same)
      ]
      | inr (other, differs) ↦ let swapped : (conn == p.0) ≡ false = not_equal conn p.0 (λ e. differs (sym e)) in
          let apart : (new : List ℕ) → follow (with_left left p.0 new) ps ≡ follow (with_left (with_left left conn []) p.0 new) (without conn ps) =
          λ new.
          let still : BeginsBad (with_left left p.0 new conn) len = rw other bad in
          follow-bad ps (with_left left p.0 new) conn len still
          ∙ follow-same (with_left (with_left left p.0 new) conn []) (with_left (with_left left conn []) p.0 new) (without conn ps) (λ c.
          elim (eqb_tells conn c) [
            | inl (here, at) ↦ let away : (p.0 == c) ≡ false = rw (← at) other in rw (here, away) refl
            | inr (there, off) ↦ rw there refl
          ]) in
          elim (yes_or_no (length p.1 == 0)) [
            | inl empty ↦ rw (other, empty) (apart [])
            | inr some ↦ rw (other, some, swapped) (ap (λ l. frames_of (left p.0 ++ p.1) ++ l) (apart (rest_of (left p.0 ++ p.1))))
          ]
    ]
