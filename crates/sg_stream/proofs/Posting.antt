-- A connection that was made, was given bytes and was closed.
use Rattle.std.proofs.Common.{◌≡◌, ℕ, ◌+◌, ◌<◌, ◌==◌, true, false, not, List, [], ◌∷◌, ◌++◌, length, map, take, drop, filter, reverse, Option, Some, None, Result, Ok, Err, OnOk, OnErr, refl, sym, ap, ◌∙◌, arith, eq-eqb}
use Rattle.std.specs.Option.{option_map}
use Rattle.std.specs.List.{flat_map, list_any}
use Rattle.std.proofs.lemmas.Grind.{flat_map-append}
use Rattle.std.proofs.lemmas.Bool.{or_parts}
use Rattle.std.proofs.lemmas.List.{append-nil, append_assoc, reverse-append, take-append-drop, length-append, length-drop, take-append-le}
use Rattle.std.proofs.Math.Seq.{take-append-add}
use Rattle.sg_base.specs.Outside.{Appends}
use Rattle.sg_base.specs.declared.address.Addr.{Addr}
use Rattle.sg_stream.specs.Framed.{IsFrame, message}
use Rattle.sg_stream.specs.Traffic.{Writer, Traffic, with_piece_for, after_connect, after_give, after_close, IfHeld}
use Rattle.sg_stream.specs.Frames.{frames_of}
use Rattle.sg_stream.specs.Link.{Unread, to_come, gone_out, sent_of, GavePrefix, WroteIfHeld}
use Rattle.sg_stream.proofs.FramesOf.{frames-message, frames-none, frames-nil}
use Rattle.sg_stream.proofs.Messages.{one_message}
use Rattle.sg_stream.proofs.Giving.{traffic-more}
use Rattle.sg_stream.proofs.Removal.{without-none}

some_same : {A : Type 0} {x y : A} → Some x ≡ Some y → x ≡ y
some_same h = cc

-- a message has one frame
one_frame : (frame : List ℕ) → IsFrame frame → frames_of (message frame) ≡ frame ∷ []
one_frame frame is =
    ap frames_of (sym (append-nil (message frame))) ∙ ((frames-message frame [] is).0 ∙ ap (λ fs. frame ∷ fs) frames-nil.0)

-- a part of it has none
no_frame : (frame : List ℕ) (count : ℕ) → IsFrame frame → count < length (message frame) → frames_of (take count (message frame)) ≡ []
no_frame frame count is less =
    (frames-none (take count (message frame)) (λ (other, rest, is', same).
    let whole : message frame ++ [] ≡ message other ++ (rest ++ drop count (message frame)) =
    append-nil (message frame) ∙ (sym (take-append-drop count (message frame)) ∙ (ap (λ b. b ++ drop count (message frame)) same ∙ append_assoc (message other) rest (drop count (message frame)))) in
    let end = (one_message frame [] other (rest ++ drop count (message frame)) is is' whole).1 in
    absurd (omega (arith, ap length end, length-append rest (drop count (message frame)), length-drop count (message frame), less)))).0

gone-latest : (w : Writer) (ws : List Writer) → gone_out (w ∷ ws) ≡ gone_out ws ++ map (λ f. (w.to, f)) (frames_of w.bytes)
gone-latest w ws =
    let own : Writer → List (Addr × List ℕ) = λ v. map (λ f. (v.to, f)) (frames_of v.bytes) in
    ap (flat_map (λ v. map (λ f. (v.to, f)) (frames_of v.bytes))) (reverse-append (w ∷ []) ws)
    ∙ (flat_map-append (λ v. map (λ f. (v.to, f)) (frames_of v.bytes)) (reverse ws) (w ∷ []) ∙ ap (λ l. gone_out ws ++ l) (append-nil (map (λ f. (w.to, f)) (frames_of w.bytes))))

-- numbers of which none is this one
filter-none : (conn : ℕ) (ns : List ℕ) → list_any (λ n. n == conn) ns ≡ false → filter (λ n. not (n == conn)) ns ≡ ns
filter-none conn [] none = refl
filter-none conn (n ∷ ns) none =
    let h = or_parts (n == conn) (list_any (λ m. m == conn) ns) none in
    rw h.0 (ap (λ l. n ∷ l) (filter-none conn ns h.1))

-- no number and no piece of this connection is there
abbrev pub Apart : ℕ → Option Traffic → Type 0
Apart conn held = IfHeld held (λ t. (list_any (λ c. c == conn) t.open_ones ≡ false) × (list_any (λ p. p.0 == conn) t.coming ≡ false))

-- the connection after it was made, was given bytes and was closed
abbrev pub ended : ℕ → Addr → List ℕ → Option Traffic → Option Traffic
ended conn to bytes held = option_map (after_close conn) (option_map (after_give conn bytes) (option_map (after_connect conn to) held))

-- what was known then
abbrev after_all : ℕ → Addr → List ℕ → Traffic → Traffic
after_all conn to bytes t = record { coming = t.coming; given = record { conn = conn; to = to; bytes = bytes } ∷ t.given; open_ones = t.open_ones }

ended-is_known : (conn : ℕ) (to : Addr) (bytes : List ℕ) (t : Traffic) → (list_any (λ c. c == conn) t.open_ones ≡ false) × (list_any (λ p. p.0 == conn) t.coming ≡ false)
    → after_close conn (after_give conn bytes (after_connect conn to t)) ≡ after_all conn to bytes t
ended-is_known conn to bytes t apart =
    let own : (conn == conn) ≡ true = eq-eqb conn conn refl in
    let given : with_piece_for conn bytes (record { conn = conn; to = to; bytes = [] } ∷ t.given) ≡ record { conn = conn; to = to; bytes = bytes } ∷ t.given = rw own refl in
    let left : filter (λ n. not (n == conn)) (conn ∷ t.open_ones) ≡ t.open_ones = rw own (filter-none conn t.open_ones apart.0) in
    λ i. record { coming = without-none conn t.coming apart.1 i; given = given i; open_ones = left i }

ended-is : (conn : ℕ) (to : Addr) (bytes : List ℕ) (held : Option Traffic) → Apart conn held → ended conn to bytes held ≡ option_map (after_all conn to bytes) held
ended-is conn to bytes None apart = refl
ended-is conn to bytes (Some t) apart = ap Some (ended-is_known conn to bytes t (apart t refl))

pub ended-wrote : (conn : ℕ) (to : Addr) (bytes : List ℕ) (held : Option Traffic) → Apart conn held → WroteIfHeld to bytes held (ended conn to bytes held)
ended-wrote conn to bytes held apart = λ t is_known.
    (after_all conn to bytes t, ended-is conn to bytes held apart ∙ ap (option_map (after_all conn to bytes)) is_known, record { given = (conn, refl); coming = refl; open_ones = refl })

come-all : (conn : ℕ) (to : Addr) (bytes : List ℕ) (u : Unread) (held : Option Traffic) → to_come u (option_map (after_all conn to bytes) held) ≡ to_come u held
come-all conn to bytes u None = refl
come-all conn to bytes u (Some t) = refl

pub ended-come : (conn : ℕ) (to : Addr) (bytes : List ℕ) (held : Option Traffic) → Apart conn held → (u : Unread) → to_come u (ended conn to bytes held) ≡ to_come u held
ended-come conn to bytes held apart u = ap (to_come u) (ended-is conn to bytes held apart) ∙ come-all conn to bytes u held

sent-all : (conn : ℕ) (to : Addr) (frame : List ℕ) (held : Option Traffic) → IsFrame frame → Appends (sent_of held) (sent_of (option_map (after_all conn to (message frame)) held)) ((to, frame) ∷ [])
sent-all conn to frame None is = λ before h. absurd (cc)
sent-all conn to frame (Some t) is = λ before h.
    let was : gone_out t.given ≡ before = some_same h in
    ap Some (gone-latest (record { conn = conn; to = to; bytes = message frame }) t.given ∙ (ap (λ fs. gone_out t.given ++ map (λ f. (to, f)) fs) (one_frame frame is) ∙ ap (λ l. l ++ (to, frame) ∷ []) was))

pub ended-sent : (conn : ℕ) (to : Addr) (frame : List ℕ) (held : Option Traffic) → Apart conn held → IsFrame frame → Appends (sent_of held) (sent_of (ended conn to (message frame) held)) ((to, frame) ∷ [])
ended-sent conn to frame held apart is = λ before h.
    ap sent_of (ended-is conn to (message frame) held apart) ∙ sent-all conn to frame held is before h

kept-all : (conn : ℕ) (to : Addr) (frame : List ℕ) (count : ℕ) (held : Option Traffic) → IsFrame frame → count < length (message frame)
    → sent_of (option_map (after_all conn to (take count (message frame))) held) ≡ sent_of held
kept-all conn to frame count None is less = refl
kept-all conn to frame count (Some t) is less =
    ap Some (gone-latest (record { conn = conn; to = to; bytes = take count (message frame) }) t.given ∙ (ap (λ fs. gone_out t.given ++ map (λ f. (to, f)) fs) (no_frame frame count is less) ∙ append-nil (gone_out t.given)))

pub ended-kept : (conn : ℕ) (to : Addr) (frame : List ℕ) (count : ℕ) (held : Option Traffic) → Apart conn held → IsFrame frame → count < length (message frame)
    → sent_of (ended conn to (take count (message frame)) held) ≡ sent_of held
ended-kept conn to frame count held apart is less =
    ap sent_of (ended-is conn to (take count (message frame)) held apart) ∙ kept-all conn to frame count held is less

-- some bytes were given, whether all were or not
pub some_bytes : {T E : Type 0} (r : Result T E) (conn : ℕ) (bytes : List ℕ) (old new : Option Traffic) → OnOk r (new ≡ option_map (after_give conn bytes) old) → OnErr r (GavePrefix conn bytes old new)
    → (some : List ℕ) × (new ≡ option_map (after_give conn some) old)
some_bytes (Ok x) conn bytes old new whole prefix = (bytes, whole)
some_bytes (Err e) conn bytes old new whole prefix = (take prefix.0 bytes, prefix.2)

-- a prefix of what comes first is one of the whole, and so is all of that with a prefix of what is behind it
pub prefix_first : (conn : ℕ) (first more : List ℕ) (old new : Option Traffic) → GavePrefix conn first old new → GavePrefix conn (first ++ more) old new
prefix_first conn first more old new (count, less, is) =
    let part : take count (first ++ more) ≡ take count first = take-append-le count first more (omega (arith, less)) in
    (count, omega (arith, less, length-append first more), is ∙ ap (λ b. option_map (after_give conn b) old) (sym part))

pub prefix_more : (conn : ℕ) (first more : List ℕ) (old between new : Option Traffic) → between ≡ option_map (after_give conn first) old → GavePrefix conn more between new → GavePrefix conn (first ++ more) old new
prefix_more conn first more old between new begun (count, less, is) =
    let part : take (length first + count) (first ++ more) ≡ first ++ take count more = take-append-add first more count in
    (length first + count, omega (arith, less, length-append first more), is ∙ (ap (option_map (after_give conn (take count more))) begun ∙ (traffic-more conn first (take count more) old ∙ ap (λ b. option_map (after_give conn b) old) (sym part))))
