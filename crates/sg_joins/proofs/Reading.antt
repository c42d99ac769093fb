-- The session and the sender of a frame stand in its bytes.
use Rattle.std.specs.Prelude.{◌≡◌, ℕ, suc, zero, ◌+◌, ◌*◌, ◌<◌, ◌≤◌, ◌==◌, List, [], ◌∷◌, ◌++◌, All, Contains, drop, flat_map, get_or, length, refl, take}
use Rattle.std.specs.List.{concat}
use Rattle.std.proofs.Common.{ap, sym, ◌∙◌, subst, arith, append_assoc, inl, inr, length-drop, length-take}
use Rattle.std.proofs.lemmas.Bool.{cases_Bool}
use Rattle.std.proofs.lemmas.List.Elements.{All-append, All-contains, All-cons, All-nil, All-same, Contains-append_right}
use Rattle.std.proofs.Math.Seq.{drop-append-add, get_or-append_seam, take-append_seam}
use Rattle.sg_ledger.specs.Format.{Join, Represents, pair_of, pairs_of, slot_of}
use Rattle.sg_protocol.proofs.ReadBack.{read-SpellsFrame}
use Rattle.sg_protocol.specs.Frame.{Frame, tag_len}
use Rattle.sg_protocol.specs.Spelling.{item_bytes, join_bytes, join_code, magic, opening_bytes, spelling, u8, u16}
use Rattle.sg_joins.specs.Laws.{FramesShowTheirJoins}

-- ---- the joins that a file represents

slot_long : (file : List ℕ) (n : ℕ) → length file ≡ 2228232 → n < 65536 → length (pair_of (slot_of file n)).0 ≡ 32
slot_long file n long few =
    let from = drop (8 + 34 * n) file in
    let slot = take 34 from in
    let a = length-drop (8 + 34 * n) file in
    let b = length-take 34 from in
    let c = length-drop 1 slot in
    let d = length-take 32 (drop 1 slot) in
    omega (arith, a, b, c, d, long, few)

each_long : (file : List ℕ) (n : ℕ) → length file ≡ 2228232 → n ≤ 65536 → All (λ (j : Join). length j.0 ≡ 32) (pairs_of file n)
each_long file zero long few = All-nil (λ (j : Join). length j.0 ≡ 32)
each_long file (suc n) long few =
    All-append (λ (j : Join). length j.0 ≡ 32) (pairs_of file n) (pair_of (slot_of file n) ∷ []) (each_long file n long (omega (arith, few)))
    (All-cons (λ (j : Join). length j.0 ≡ 32) (pair_of (slot_of file n)) [] (slot_long file n long (omega (arith, few))) (All-nil (λ (j : Join). length j.0 ≡ 32)))

-- the session of a join has 32 bytes
join_long : (file : List ℕ) (joins : List Join) (j : Join) → Represents file joins → Contains joins j → length j.0 ≡ 32
join_long file joins j h there =
    All-contains (λ (j : Join). length j.0 ≡ 32) joins j (All-same (λ (j : Join). length j.0 ≡ 32) joins (pairs_of file (length joins)) h.slots.pairs (each_long file (length joins) h.ledger.0 h.slots.fits)) there

-- ---- the bytes of a frame

-- what stands behind the sender
abbrev behind : Frame → List ℕ
behind f = concat (u8 f.receiver ∷ join_bytes f.join ∷ u16 (length f.items) ∷ flat_map (item_bytes f.version) f.items ∷ u8 (length f.openings) ∷ flat_map opening_bytes f.openings ∷ []) ++ take (tag_len f.version) f.tag

spelled_so : (f : Frame) → spelling f ≡ magic f.version ++ (join_code f.join ∷ (f.sid ++ (f.sender ∷ behind f)))
spelled_so f =
    let rest = concat (u8 f.receiver ∷ join_bytes f.join ∷ u16 (length f.items) ∷ flat_map (item_bytes f.version) f.items ∷ u8 (length f.openings) ∷ flat_map opening_bytes f.openings ∷ []) in
    let tag = take (tag_len f.version) f.tag in
    append_assoc (magic f.version) (join_code f.join ∷ (f.sid ++ (f.sender ∷ rest))) tag
    ∙ ap (λ (bs : List ℕ). magic f.version ++ (join_code f.join ∷ bs)) (append_assoc f.sid (f.sender ∷ rest) tag)

magic_long : (v : ℕ) → length (magic v) ≡ 4
magic_long v = elim (cases_Bool (v == 2)) [ inl e ↦ rw e refl | inr e ↦ rw e refl ]

-- the session is the 32 bytes from the sixth on, and the sender the byte behind them
abbrev pair_in : List ℕ → Join
pair_in bytes = (take 32 (drop 5 bytes), get_or (drop 5 bytes) 32 0)

pair_at : (f : Frame) → length f.sid ≡ 32 → ◌≡◌ {A = Join} (pair_in (spelling f)) (f.sid, f.sender)
pair_at f long =
    let inner = f.sid ++ (f.sender ∷ behind f) in
    let five : drop 5 (spelling f) ≡ inner =
    ap (drop 5) (spelled_so f) ∙ ap (λ (n : ℕ). drop (n + 1) (magic f.version ++ (join_code f.join ∷ inner))) (sym (magic_long f.version)) ∙ drop-append-add (magic f.version) (join_code f.join ∷ inner) 1 in
    let sid : take 32 (drop 5 (spelling f)) ≡ f.sid = ap (take 32) five ∙ ap (λ (n : ℕ). take n inner) (sym long) ∙ take-append_seam f.sid (f.sender ∷ behind f) in
    let sender : get_or (drop 5 (spelling f)) 32 0 ≡ f.sender = ap (λ (bs : List ℕ). get_or bs 32 0) five ∙ ap (λ (n : ℕ). get_or inner n 0) (sym long) ∙ get_or-append_seam f.sid f.sender (behind f) 0 in
    λ i. (sid i, sender i)

pub frames_show : FramesShowTheirJoins
frames_show file bytes opened made f represents is all r =
    let g = is.0 in
    let found = read-SpellsFrame bytes f all r in
    let long = join_long file (opened ++ made) (g.sid, g.sender) represents (Contains-append_right opened made (g.sid, g.sender) is.2) in
    let pair : ◌≡◌ {A = Join} (g.sid, g.sender) (f.sid, f.sender) =
    sym (pair_at g long) ∙ ap pair_in (sym is.1 ∙ sym found.spelled) ∙ pair_at f found.is_frame.fields.sid.0 in
    subst (Contains made) pair is.2
