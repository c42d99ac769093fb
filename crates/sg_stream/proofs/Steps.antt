-- What each step of a link does to the frames to come.
use Rattle.std.proofs.Common.{◌≡◌, ◌≢◌, ℕ, zero, suc, ◌<◌, ◌==◌, false, replicate, List, [], ◌∷◌, ◌++◌, length, get_or, set, Option, Some, None, refl, sym, ap, ◌∙◌, inl, inr, append-nil}
use Rattle.std.specs.List.{flat_map}
use Rattle.std.specs.Option.{IfNone}
use Rattle.std.proofs.lemmas.Bool.Decides.{eqb_tells}
use Rattle.std.proofs.lemmas.List.{append_assoc, get_or-set_same, get_or-set_other, set-get_or}
use Rattle.sg_stream.specs.Framed.{IsFrame, message, BeginsMessage, BeginsBad}
use Rattle.sg_stream.specs.Traffic.{Traffic, without, IfHeld}
use Rattle.sg_stream.specs.Frames.{frames_of, rest_of}
use Rattle.sg_stream.specs.Arrivals.{arrivals}
use Rattle.sg_stream.specs.Link.{Unread, IsPart, IsIdle, kept_piece, numbered, pieces_of, to_come}
use Rattle.sg_stream.proofs.Messages.{no_message, no_bad, not_bad}
use Rattle.sg_stream.proofs.FramesOf.{frames-message, frames-none, frames-nil}
use Rattle.sg_stream.proofs.Bringing.{with_left, follow, follow-same, follow-bad, arrivals-left, flat_none, flat_one}

-- nothing is a part of a message
pub none_part : IsPart []
none_part = record { no_message = no_message; no_bad = no_bad }

-- what each connection has left behind its whole messages
abbrev left_of : List (List ℕ) → ℕ → List ℕ
left_of lefts conn = rest_of (get_or lefts conn [])

-- the frames of what is left, of the piece that was kept and of what comes
shape : (lefts : List (List ℕ)) (kept ps : List (ℕ × List ℕ)) → arrivals ((numbered 0 lefts ++ kept) ++ ps) ≡ flat_map frames_of lefts ++ follow (left_of lefts) (kept ++ ps)
shape lefts kept ps = ap arrivals (append_assoc (numbered 0 lefts) kept ps) ∙ arrivals-left lefts (kept ++ ps)

-- what one connection has left was changed
left-set : (lefts : List (List ℕ)) (last : ℕ) (bytes : List ℕ) → last < length lefts → (conn : ℕ) → with_left (left_of lefts) last (rest_of bytes) conn ≡ left_of (set lefts last bytes) conn
left-set lefts last bytes within conn =
    elim (eqb_tells last conn) [
      | inl (this, is) ↦ let here : get_or (set lefts last bytes) conn [] ≡ bytes = rw (← is) (get_or-set_same lefts last bytes [] within) in
          rw (this, here) refl
      | inr (other, differs) ↦ let there : get_or (set lefts last bytes) conn [] ≡ get_or lefts conn [] = get_or-set_other lefts last conn bytes [] (λ e. differs (sym e)) in
          rw (other, there) refl
    ]

-- a frame was taken off
pub frame_taken : (lefts : List (List ℕ)) (last : ℕ) (frame bytes : List ℕ) (ps : List (ℕ × List ℕ)) → last < length lefts → ((conn : ℕ) → conn ≢ last → IsPart (get_or lefts conn []))
    → IsFrame frame → get_or lefts last [] ≡ message frame ++ bytes
    → arrivals ((numbered 0 lefts ++ []) ++ ps) ≡ frame ∷ arrivals ((numbered 0 (set lefts last bytes) ++ []) ++ ps)
frame_taken lefts last frame bytes ps within others is begins =
    let one = frames-message frame bytes is in
    let none : (conn : ℕ) → conn ≢ last → ¬ BeginsMessage (get_or lefts conn []) = λ conn differs. (others conn differs).no_message in
    let before : flat_map frames_of lefts ≡ frame ∷ frames_of bytes =
    ap (flat_map frames_of) (sym (set-get_or lefts last [])) ∙ (flat_one lefts last (get_or lefts last []) within none ∙ (ap frames_of begins ∙ one.0)) in
    let after : flat_map frames_of (set lefts last bytes) ≡ frames_of bytes = flat_one lefts last bytes within none in
    let same : (conn : ℕ) → left_of lefts conn ≡ left_of (set lefts last bytes) conn =
    λ conn.
    elim (eqb_tells last conn) [
      | inl (this, is) ↦ let here : get_or (set lefts last bytes) conn [] ≡ bytes = rw (← is) (get_or-set_same lefts last bytes [] within) in
          let was : get_or lefts conn [] ≡ message frame ++ bytes = rw (← is) begins in
          rw (here, was) one.1
      | inr (other, differs) ↦ let there : get_or (set lefts last bytes) conn [] ≡ get_or lefts conn [] = get_or-set_other lefts last conn bytes [] (λ e. differs (sym e)) in
          rw there refl
    ] in
    shape lefts [] ps
    ∙ (ap (λ l. l ++ follow (left_of lefts) ps) before
    ∙ sym (ap (λ l. frame ∷ l) (shape (set lefts last bytes) [] ps ∙ (ap (λ l. l ++ follow (left_of (set lefts last bytes)) ps) after
    ∙ ap (λ l. frames_of bytes ++ l) (sym (follow-same (left_of lefts) (left_of (set lefts last bytes)) ps same))))))

-- a piece that was kept was put behind what its connection has left
pub piece_fed : (lefts : List (List ℕ)) (last : ℕ) (piece : List ℕ) (ps : List (ℕ × List ℕ)) → last < length lefts → ((conn : ℕ) → IsPart (get_or lefts conn []))
    → (length piece == 0) ≡ false
    → arrivals ((numbered 0 (set lefts last (get_or lefts last [] ++ piece)) ++ []) ++ ps) ≡ arrivals ((numbered 0 lefts ++ (last, piece) ∷ []) ++ ps)
piece_fed lefts last piece ps within parts some =
    let bytes : List ℕ = get_or lefts last [] ++ piece in
    let none : flat_map frames_of lefts ≡ [] = flat_none lefts (λ conn. (parts conn).no_message) in
    let after : flat_map frames_of (set lefts last (get_or lefts last [] ++ piece)) ≡ frames_of (get_or lefts last [] ++ piece) =
    flat_one lefts last (get_or lefts last [] ++ piece) within (λ conn differs. (parts conn).no_message) in
    let all : rest_of (get_or lefts last []) ≡ get_or lefts last [] = (frames-none (get_or lefts last []) (parts last).no_message).1 in
    let same = follow-same (with_left (left_of lefts) last (rest_of (get_or lefts last [] ++ piece))) (left_of (set lefts last (get_or lefts last [] ++ piece))) ps (left-set lefts last (get_or lefts last [] ++ piece) within) in
    let before : follow (left_of lefts) ((last, piece) ∷ ps) ≡ frames_of (get_or lefts last [] ++ piece) ++ follow (with_left (left_of lefts) last (rest_of (get_or lefts last [] ++ piece))) ps =
    rw (some, all) refl in
    shape (set lefts last (get_or lefts last [] ++ piece)) [] ps
    ∙ (ap (λ l. l ++ follow (left_of (set lefts last (get_or lefts last [] ++ piece))) ps) after
    ∙ (ap (λ l. frames_of (get_or lefts last [] ++ piece) ++ l) (sym same)
    ∙ sym (shape lefts ((last, piece) ∷ []) ps ∙ (ap (λ l. l ++ follow (left_of lefts) ((last, piece) ∷ ps)) none ∙ before))))

-- a connection ended
pub end_taken : (lefts : List (List ℕ)) (conn : ℕ) (ps : List (ℕ × List ℕ)) → conn < length lefts → ((c : ℕ) → IsPart (get_or lefts c []))
    → arrivals ((numbered 0 (set lefts conn []) ++ []) ++ ps) ≡ arrivals ((numbered 0 lefts ++ []) ++ (conn, []) ∷ ps)
end_taken lefts conn ps within parts =
    let none : flat_map frames_of lefts ≡ [] = flat_none lefts (λ c. (parts c).no_message) in
    let after : flat_map frames_of (set lefts conn []) ≡ [] = flat_one lefts conn [] within (λ c differs. (parts c).no_message) ∙ frames-nil.0 in
    let same = follow-same (with_left (left_of lefts) conn []) (left_of (set lefts conn [])) ps (λ c. ap (λ r. with_left (left_of lefts) conn r c) (sym frames-nil.1) ∙ left-set lefts conn [] within c) in
    shape (set lefts conn []) [] ps
    ∙ (ap (λ l. l ++ follow (left_of (set lefts conn [])) ps) after
    ∙ (sym same
    ∙ sym (shape lefts [] ((conn, []) ∷ ps) ∙ ap (λ l. l ++ follow (left_of lefts) ((conn, []) ∷ ps)) none)))

-- a connection with a bad length was closed
pub bad_closed : (lefts : List (List ℕ)) (last len : ℕ) (ps : List (ℕ × List ℕ)) → last < length lefts → ((conn : ℕ) → conn ≢ last → IsPart (get_or lefts conn []))
    → BeginsBad (get_or lefts last []) len
    → arrivals ((numbered 0 (set lefts last []) ++ []) ++ without last ps) ≡ arrivals ((numbered 0 lefts ++ []) ++ ps)
bad_closed lefts last len ps within others bad =
    let no_own : ¬ BeginsMessage (get_or lefts last []) = λ begins. not_bad (get_or lefts last []) len begins bad in
    let none : (conn : ℕ) → conn ≢ last → ¬ BeginsMessage (get_or lefts conn []) = λ conn differs. (others conn differs).no_message in
    let no = frames-none (get_or lefts last []) no_own in
    let before : flat_map frames_of lefts ≡ [] =
    ap (flat_map frames_of) (sym (set-get_or lefts last [])) ∙ (flat_one lefts last (get_or lefts last []) within none ∙ no.0) in
    let after : flat_map frames_of (set lefts last []) ≡ [] = flat_one lefts last [] within none ∙ frames-nil.0 in
    let still : BeginsBad (left_of lefts last) len = rw no.1 bad in
    let same = follow-same (with_left (left_of lefts) last []) (left_of (set lefts last [])) (without last ps) (λ c. ap (λ r. with_left (left_of lefts) last r c) (sym frames-nil.1) ∙ left-set lefts last [] within c) in
    shape (set lefts last []) [] (without last ps)
    ∙ (ap (λ l. l ++ follow (left_of (set lefts last [])) (without last ps)) after
    ∙ (sym same ∙ (sym (follow-bad ps (left_of lefts) last len still)
    ∙ sym (shape lefts [] ps ∙ ap (λ l. l ++ follow (left_of lefts) ps) before))))

-- what one connection has left became a part of a message, as that of the others
pub all_parts : (lefts : List (List ℕ)) (last : ℕ) (bytes : List ℕ) → last < length lefts → ((conn : ℕ) → conn ≢ last → IsPart (get_or lefts conn [])) → IsPart bytes
    → (conn : ℕ) → IsPart (get_or (set lefts last bytes) conn [])
all_parts lefts last bytes within others is conn =
    elim (eqb_tells last conn) [
      | inl (this, same) ↦ let here : get_or (set lefts last bytes) conn [] ≡ bytes = rw (← same) (get_or-set_same lefts last bytes [] within) in rw here is
      | inr (other, differs) ↦ let there : get_or (set lefts last bytes) conn [] ≡ get_or lefts conn [] = get_or-set_other lefts last conn bytes [] (λ e. differs (sym e)) in
          rw there (others conn (λ e. differs (sym e)))
    ]

-- the others are as they were
pub others_same : (lefts : List (List ℕ)) (last : ℕ) (bytes : List ℕ) → ((conn : ℕ) → conn ≢ last → IsPart (get_or lefts conn []))
    → (conn : ℕ) → conn ≢ last → IsPart (get_or (set lefts last bytes) conn [])
others_same lefts last bytes others conn differs =
    rw (get_or-set_other lefts last conn bytes [] differs) (others conn differs)

-- slots with nothing in them
pub empty_there : (n conn : ℕ) → get_or {A = List ℕ} (replicate n []) conn [] ≡ []
empty_there zero conn = refl
empty_there (suc n) zero = refl
empty_there (suc n) (suc conn) = empty_there n conn

-- if nothing is left and nothing comes there are no frames to come
nothing_left : (u : Unread) → IsIdle u → arrivals (pieces_of u ++ []) ≡ []
nothing_left u idle =
    ap (λ k. arrivals ((numbered 0 u.lefts ++ k) ++ [])) idle.none_kept
    ∙ (shape u.lefts [] [] ∙ ap (λ l. l ++ []) (flat_none u.lefts (λ conn. (idle.parts conn).no_message)))

-- a link that gives no frame of what it took had none
pub none_ready : (old new : Unread) → IsIdle new → arrivals (pieces_of new ++ []) ≡ arrivals (pieces_of old ++ []) → arrivals (pieces_of old) ≡ []
none_ready old new idle same =
    ap arrivals (sym (append-nil (pieces_of old))) ∙ (sym same ∙ nothing_left new idle)

pub none_given : {A : Type 0} (found : Option A) (old new : Unread) → IfNone found (IsIdle new) → IfNone found ((ps : List (ℕ × List ℕ)) → arrivals (pieces_of new ++ ps) ≡ arrivals (pieces_of old ++ ps))
    → IfNone found (arrivals (pieces_of old) ≡ [])
none_given None old new idle same = none_ready old new idle (same [])
none_given (Some f) old new idle same = tt

pub none_to_come : (u : Unread) (held : Option Traffic) → IsIdle u → IfHeld held (λ t. t.coming ≡ []) → (all : List (List ℕ)) → to_come u held ≡ Some all → all ≡ []
none_to_come u None idle done all is_known = absurd (cc)
none_to_come u (Some t) idle done all is_known =
    let is : arrivals (pieces_of u ++ t.coming) ≡ all = cc in
    sym is ∙ (ap (λ ps. arrivals (pieces_of u ++ ps)) (done t refl) ∙ nothing_left u idle)

-- whether a piece is kept
pub no_kept : (conn : ℕ) (bytes : List ℕ) → kept_piece conn bytes ≡ [] → bytes ≡ []
no_kept conn [] none = refl
no_kept conn (b ∷ bytes) none = absurd (cc)

pub kept_some : (conn : ℕ) (bytes : List ℕ) → bytes ≢ [] → kept_piece conn bytes ≡ (conn, bytes) ∷ []
kept_some conn [] some = absurd (some refl)
kept_some conn (b ∷ bytes) some = refl
