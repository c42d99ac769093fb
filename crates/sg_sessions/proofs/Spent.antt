-- A node accepts a frame once.
use Rattle.std.specs.Prelude.{◌≡◌, ℕ, ◌+◌, ◌<◌, ◌≤◌, ◌==◌, ◌&&◌, Bool, true, false, not, nat_le, nat_lt, ◌⊎◌, List, [], ◌∷◌, ◌++◌, length, find, bytes_eq, refl, Option, Some, None, option_map, unwrap_or, IfSome, IsSomeAnd, Result, Ok, Err}
use Rattle.std.specs.List.{AllByRecursion, list_all}
use Rattle.std.specs.Option.{option_map_or}
use Rattle.std.proofs.Common.{sym, ◌∙◌, ap, subst, inl, inr, arith, append-nil}
use Rattle.std.proofs.lemmas.Bool.{cases_Bool, and_parts, eqb-true}
use Rattle.std.proofs.lemmas.Bool.Decides.{nat_tests}
use Rattle.std.proofs.lemmas.Grind.{flat_map-append}
use Rattle.sg_law.proofs.Lists.{last-append, last-append_some}
use Rattle.sg_model.proofs.Small.{none_parts, same_bytes}
use Rattle.sg_model.proofs.Finding.{find_passes, find_all}
use Rattle.sg_model.specs.Last.{last}
use Rattle.sg_model.specs.Lists.{first_some}
use Rattle.sg_model.specs.Values.{Value, Opening}
use Rattle.sg_model.specs.Last.{Map}
use Rattle.sg_protocol.proofs.Finding.{joined_more, joined_now}
use Rattle.sg_protocol.proofs.First.{programs_after}
use Rattle.sg_protocol.proofs.Joins.{fourth, owns_after, third}
use Rattle.sg_protocol.proofs.Live.{gives_sound, node_sound}
use Rattle.sg_protocol.proofs.Moves.{row_none}
use Rattle.sg_protocol.proofs.Nodes.{ActSent, JoinTaken, NextTaken, abandon_all, act_all, deliver_all}
use Rattle.sg_protocol.proofs.Takes.{Rows, rows_of}
use Rattle.sg_protocol.specs.Acting.{answer, openings_for, rows_of_start, started}
use Rattle.sg_protocol.specs.Calls.{Refusal, StartFault, Event, Call, Start, Act, Abandon, Deliver, Answer, Happened, Sends, Abandoned, NotStarted, Started, Received}
use Rattle.sg_protocol.specs.Frame.{Cast, Frame, Item}
use Rattle.sg_protocol.specs.IsSchedule.{IsProgram}
use Rattle.sg_protocol.specs.Keyring.{Program}
use Rattle.sg_protocol.specs.Live.{IsLive, IsSound}
use Rattle.sg_protocol.specs.Node.{Node, has_joined, is_for, program_for, session_for, starter, stranger, is_cast}
use Rattle.sg_protocol.specs.NodeAfter.{goes_on, joined, node_after, replace, still, is_over, takes_read}
use Rattle.sg_protocol.specs.Ranges.{AreValues, IsCallInRange}
use Rattle.sg_protocol.specs.Reading.{read}
use Rattle.sg_protocol.specs.Sending.{own_item}
use Rattle.sg_protocol.specs.Session.{Exchange, Session, Took, Gave, at_turn, extended, items_of, last_time, new_session, own_time, time, transcript}
use Rattle.sg_protocol.specs.Texts.{Hash, IsHash, session_id}
use Rattle.sg_protocol.specs.Verdict.{bad_time, decided, join_rows, next_rows, receipt, row, rows, rows_of_join, rows_of_next, rows_of_session, verdict_on}
use Rattle.sg_sessions.specs.Spent.{AllDiffer, Differ, FramesAreTakenOnce, IsOrderly, IsPast, IsSpent}

-- the first of these, and the others
abbrev head_of : {F : Type 0} → List (Option F) → Option F
head_of [] = None
head_of (o ∷ os) = o

abbrev tail_of : {F : Type 0} → List (Option F) → List (Option F)
tail_of [] = []
tail_of (o ∷ os) = os

-- ---- times

transcript-extended : (s : Session) (e : Exchange) → transcript (extended s e) ≡ transcript s ++ items_of e
transcript-extended s e = flat_map-append items_of s.exchanges (e ∷ []) ∙ ap (λ l. transcript s ++ l) (append-nil (items_of e))

abbrev time_in : Option Item → ℕ
time_in o = unwrap_or (option_map (λ (i : Item). i.time) o) 0

-- after a frame with items a session is at its time
pub time_took : (q : Item → Bool) (s : Session) (f : Frame) → option_map_or q (last f.items) false ≡ true → time (extended s (Took f)) ≡ last_time f.items
time_took q s f h = by (last f.items) refl h
  where
    by : (o : Option Item) → last f.items ≡ o → option_map_or q o false ≡ true → time (extended s (Took f)) ≡ last_time f.items
    by None e h = absurd (let z : false ≡ true = h in cc)
    by (Some i) e h = ap (λ (l : List Item). last_time l) (transcript-extended s (Took f)) ∙ ap time_in (last-append_some (transcript s) f.items i e) ∙ sym (ap time_in e)

-- and after an item of its own of that item's
pub time_gave : (s : Session) (i : Item) (os : List Opening) → time (extended s (Gave i os)) ≡ i.time
time_gave s i os = ap (λ (l : List Item). last_time l) (transcript-extended s (Gave i os)) ∙ ap time_in (last-append (transcript s) i [])

-- times that rise end above the first
pub last_rises : (q : Item → Bool) (k b : ℕ) (items : List Item) → bad_time k b items ≡ None → option_map_or q (last items) false ≡ true → b < last_time items
last_rises q k b [] h t = absurd (let z : false ≡ true = t in cc)
last_rises q k b (i ∷ is) h t = elim (cases_Bool (nat_le i.time b)) [
  | inl e ↦ (let f = rw e at h in absurd (cc))
  | inr e ↦ more is (grind (arith, nat_tests)) (rw e at h) t (λ h t. last_rises q (k + 1) i.time is h t)
]
  where
    more : (is : List Item) → b < i.time → bad_time (k + 1) i.time is ≡ None → option_map_or q (last (i ∷ is)) false ≡ true
        → (bad_time (k + 1) i.time is ≡ None → option_map_or q (last is) false ≡ true → i.time < last_time is) → b < last_time (i ∷ is)
    more [] a h t rest = a
    more (j ∷ js) a h t rest = let r : i.time < last_time (j ∷ js) = rest h t in let s : last_time (i ∷ j ∷ js) ≡ last_time (j ∷ js) = refl in omega (arith, a, r, s)

-- a session is past a frame if what was read is accepted
abbrev PastIf : Hash → Node → List ℕ → Frame → Session → Type 0
PastIf sha n bs f s = (g : Frame) → read bs ≡ Ok g → first_some (rows sha n g) ≡ None → IsPast f s

-- ---- lists of sessions

all_cat : (P : Session → Type 0) (xs ys : List Session) → AllByRecursion P xs → AllByRecursion P ys → AllByRecursion P (xs ++ ys)
all_cat P [] ys a b = b
all_cat P (x ∷ xs) ys a b = (a.0, all_cat P xs ys a.1 b)

all_still : (P : Session → Type 0) (ps : List Program) (x : Session) → P x → AllByRecursion P (still ps x)
all_still P ps x h = elim (cases_Bool (is_over ps x)) [ inl e ↦ rw e tt | inr e ↦ rw e (h, tt) ]

all_some : (P Q : Session → Type 0) → ((s : Session) → P s → Q s) → (ss : List Session) → AllByRecursion P ss → AllByRecursion Q ss
all_some P Q f [] h = tt
all_some P Q f (s ∷ ss) h = (f s h.0, all_some P Q f ss h.1)

module _ (sha : Hash) (hash : IsHash sha) (n : Node) (o : IsOrderly sha n) where
  sound : (s : Session) (p : Program) → program_for n.programs s.cast.graph s.role ≡ Some p → IsLive sha n.programs s → IsSound sha p s
  sound s p q h = subst (λ z. IsSomeAnd z (λ p. IsSound sha p s)) q h

  program_is : (digest : List ℕ) (r : ℕ) (p : Program) → program_for n.programs digest r ≡ Some p → IsProgram sha p
  program_is digest r p q = find_all (λ (p : Program). bytes_eq p.digest digest && (p.role == r)) (IsProgram sha) n.programs p o.programs q

  -- the pair of a live session was joined
  was_joined : (s : Session) (P : Session → Bool) → find P n.live ≡ Some s → has_joined n.joins s.sid s.role ≡ true
  was_joined s P q = find_all P (λ (s : Session). has_joined n.joins s.sid s.role ≡ true) n.live s (each n.live o.joined) q
    where
      each : (ss : List Session) → list_all (λ (s : Session). has_joined n.joins s.sid s.role) ss ≡ true → AllByRecursion (λ (s : Session). has_joined n.joins s.sid s.role ≡ true) ss
      each [] h = tt
      each (s ∷ ss) h = let b = and_parts (has_joined n.joins s.sid s.role) (list_all (λ (s : Session). has_joined n.joins s.sid s.role) ss) h in (b.0, each ss b.1)

  -- if no row holds, a pair that a frame joins is new
  new_pair : (f : Frame) (c : Cast) → first_some (join_rows sha n f c) ≡ None → has_joined n.joins f.sid f.receiver ≡ false
  new_pair f c h = by (program_for n.programs c.graph f.receiver) h
    where
      by : (z : Option Program) → first_some (option_map_or (rows_of_join sha n f c) z (Some Refusal.UnknownGraph ∷ [])) ≡ None → has_joined n.joins f.sid f.receiver ≡ false
      by None e = absurd (cc)
      by (Some p) e =
          let rs : List (Option Refusal) = rows_of_join sha n f c p in
          row_none (has_joined n.joins f.sid f.receiver) _ (fourth (head_of rs) (head_of (tail_of rs)) (head_of (tail_of (tail_of rs))) (head_of (tail_of (tail_of (tail_of rs)))) (tail_of (tail_of (tail_of (tail_of rs)))) e)

  -- if a frame that continues is taken, its time is above that of the session
  later : (f : Frame) (s : Session) → NextTaken sha n f s → (time s < last_time f.items) × (time (extended s (Took f)) ≡ last_time f.items)
  later f s t =
      let rs : Rows sha n.keys t.p s f = rows_of sha n.keys t.p s f t.rows in
      let so : IsSound sha t.p s = sound s t.p t.found_p (find_all (is_for f) (IsLive sha n.programs) n.live s o.live t.found) in
      let own : own_time s ≡ time s = ap (λ (l : List Item). last_time l) (so.ends_waiting t.waits) in
      let above : own_time s < last_time f.items = last_rises (λ i. i.role == f.sender) 1 (own_time s) f.items rs.times rs.by_sender in
      (omega (arith, own, above), time_took (λ i. i.role == f.sender) s f rs.by_sender)

  -- ---- what is spent stays so

  module _ (f : Frame) (spent : IsSpent n f) where
    stays_act : (sid : List ℕ) (label : ℕ) (values : Map Value) (confs : List (List ℕ)) → AreValues values confs → (f2 : Frame) (a : ActSent sha n sid label values confs f2) → IsPast f a.x → IfSome (last f2.items) (λ i. IsPast f (extended a.x (Gave i (openings_for values confs))))
    stays_act sid label values confs good f2 a past =
        let live : IsLive sha n.programs a.x = find_all (λ (s : Session). bytes_eq s.sid sid) (IsLive sha n.programs) n.live a.x o.live a.found in
        let g = gives_sound sha hash n.keys a.p a.x label values confs (program_is (a.x).cast.graph (a.x).role a.p a.found_p) (sound a.x a.p a.found_p live) a.rows good in
        let own : last f2.items ≡ Some (own_item sha n.keys a.p a.x label (openings_for values confs)) = ap (λ (z : Frame). last z.items) (sym a.its) ∙ g.own_last in
        subst (λ z. IfSome z (λ i. IsPast f (extended a.x (Gave i (openings_for values confs))))) (sym own)
        (λ es er. let before : last_time f.items ≤ time a.x = past es er in let now = time_gave a.x (own_item sha n.keys a.p a.x label (openings_for values confs)) (openings_for values confs) in omega (arith, before, now))

    stays_next : (f2 : Frame) (s : Session) → NextTaken sha n f2 s → IsPast f s → IsPast f (extended s (Took f2))
    stays_next f2 s t past = λ es er. let l = later f2 s t in let a = l.0 in let b = l.1 in let c : last_time f.items ≤ time s = past es er in omega (arith, a, b, c)

    -- other pairs alone are joined
    stays_new : (sid : List ℕ) (r : ℕ) (s : Session) → s.sid ≡ sid → s.role ≡ r → has_joined n.joins sid r ≡ false → IsPast f s
    stays_new sid r s es er new = λ p q.
        let there : has_joined n.joins sid r ≡ true = ap (λ z. has_joined n.joins z r) (sym es ∙ p) ∙ ap (λ z. has_joined n.joins f.sid z) (sym er ∙ q) ∙ spent.joined in
        absurd (let z : false ≡ true = sym new ∙ there in cc)

    stays_start : (c : Cast) → AllByRecursion (IsPast f) (node_after n (Start c) (answer sha n (Start c))).live
    stays_start c = go (starter n.programs c.graph)
      where
        by_rows : (p : Program) (z : Option StartFault) → first_some (rows_of_start n p (session_id sha c) c) ≡ z → AllByRecursion (IsPast f) (node_after n (Start c) (started (session_id sha c) p.role z)).live
        by_rows p None e =
            let rs : List (Option StartFault) = rows_of_start n p (session_id sha c) c in
            let new : has_joined n.joins (session_id sha c) p.role ≡ false = row_none (has_joined n.joins (session_id sha c) p.role) _ (third (head_of rs) (head_of (tail_of rs)) (head_of (tail_of (tail_of rs))) (tail_of (tail_of (tail_of rs))) e) in
            let s : Session = new_session (session_id sha c) c p.role in
            all_cat (IsPast f) n.live (still n.programs s) spent.past (all_still (IsPast f) n.programs s (stays_new (session_id sha c) p.role s refl refl new))
        by_rows p (Some fault) e = spent.past

        go : (z : Option Program) → AllByRecursion (IsPast f) (node_after n (Start c) (option_map_or (λ (p : Program). started (session_id sha c) p.role (first_some (rows_of_start n p (session_id sha c) c))) z (NotStarted StartFault.UnknownGraph))).live
        go None = spent.past
        go (Some p) = by_rows p (first_some (rows_of_start n p (session_id sha c) c)) refl

    stays_deliver : (bs : List ℕ) → AllByRecursion (IsPast f) (node_after n (Deliver bs) (answer sha n (Deliver bs))).live
    stays_deliver bs = go (read bs) refl
      where
        join : (g : Frame) (c : Cast) → read bs ≡ Ok g → g.join ≡ Some c → JoinTaken sha n g c → PastIf sha n bs f (extended (new_session g.sid c g.receiver) (Took g))
        join g c rd e t = λ g2 rd2 none.
            let same : g2 ≡ g = cc in
            let rows_g : first_some (rows sha n g) ≡ None = subst (λ (z : Frame). first_some (rows sha n z) ≡ None) same none in
            let joins : first_some (join_rows sha n g c) ≡ None = subst (λ (z : Option Cast). first_some (option_map_or (join_rows sha n g) z (next_rows sha n g)) ≡ None) e rows_g in
            stays_new g.sid g.receiver (extended (new_session g.sid c g.receiver) (Took g)) refl refl (new_pair g c joins)

        all : AllByRecursion (PastIf sha n bs f) (node_after n (Deliver bs) (answer sha n (Deliver bs))).live
        all = deliver_all sha n (PastIf sha n bs f) (all_some (IsPast f) (PastIf sha n bs f) (λ s h g rd none. h) n.live spent.past) bs (λ g s rd t k. λ g2 rd2 none. stays_next g s t (k g2 rd2 none)) join

        by_rows : (g : Frame) → read bs ≡ Ok g → (z : Option Refusal) → first_some (rows sha n g) ≡ z → answer sha n (Deliver bs) ≡ decided (receipt g) z → AllByRecursion (IsPast f) (node_after n (Deliver bs) (answer sha n (Deliver bs))).live
        by_rows g e None none q = all_some (PastIf sha n bs f) (IsPast f) (λ s k. k g e none) (node_after n (Deliver bs) (answer sha n (Deliver bs))).live all
        by_rows g e (Some why) none q = subst (λ (a : Answer). AllByRecursion (IsPast f) (node_after n (Deliver bs) a).live) (sym q) spent.past

        go : (r : Result Frame ℕ) → read bs ≡ r → AllByRecursion (IsPast f) (node_after n (Deliver bs) (answer sha n (Deliver bs))).live
        go (Err at) e = subst (λ (a : Answer). AllByRecursion (IsPast f) (node_after n (Deliver bs) a).live) (sym (ap (verdict_on sha n) e)) spent.past
        go (Ok g) e = by_rows g e (first_some (rows sha n g)) refl (ap (verdict_on sha n) e)

    stays_past : (c : Call) → IsCallInRange c → AllByRecursion (IsPast f) (node_after n c (answer sha n c)).live
    stays_past (Start c) h = stays_start c
    stays_past (Act sid label values confs) h = act_all sha n (IsPast f) spent.past sid label values confs (stays_act sid label values confs h)
    stays_past (Abandon sid) h = abandon_all sha n (IsPast f) spent.past sid
    stays_past (Deliver bs) h = stays_deliver bs

-- pairs stay joined
pub joins_stay : (n : Node) (c : Call) (a : Answer) (sid : List ℕ) (r : ℕ) → has_joined n.joins sid r ≡ true → has_joined (node_after n c a).joins sid r ≡ true
joins_stay n (Start c) (Happened (Started s r2)) sid r h = joined_more n.joins (s, r2) sid r h
joins_stay n (Deliver bs) (Happened (Received s r2 label at values joins)) sid r h = by_read (read bs)
  where
    by_join : (f : Frame) (z : Option Cast) → has_joined (option_map_or (λ c. joined n (extended (new_session f.sid c f.receiver) (Took f))) z (goes_on n (is_for f) (λ s. still n.programs (extended s (Took f))))).joins sid r ≡ true
    by_join f None = h
    by_join f (Some c) = joined_more n.joins (f.sid, f.receiver) sid r h

    by_read : (z : Result Frame ℕ) → has_joined (takes_read n z).joins sid r ≡ true
    by_read (Err at) = h
    by_read (Ok f) = by_join f f.join
joins_stay n (Act sid' label values confounders) (Sends e to f) sid r h = h
joins_stay n (Abandon sid') Abandoned sid r h = h
joins_stay n c other sid r h = h

-- ---- what is accepted is spent

module _ (sha : Hash) (hash : IsHash sha) (n : Node) (o : IsOrderly sha n) (f : Frame) where
  -- a pair that was not joined has no live session
  none_live : has_joined n.joins f.sid f.receiver ≡ false → (ss : List Session) → list_all (λ (s : Session). has_joined n.joins s.sid s.role) ss ≡ true → AllByRecursion (IsPast f) ss
  none_live new [] h = tt
  none_live new (s ∷ ss) h =
      let b = and_parts (has_joined n.joins s.sid s.role) (list_all (λ (s : Session). has_joined n.joins s.sid s.role) ss) h in
      (λ es er. absurd (let z : false ≡ true = sym new ∙ (ap (λ x. has_joined n.joins x f.receiver) (sym es) ∙ ap (λ x. has_joined n.joins s.sid x) (sym er) ∙ b.0) in cc), none_live new ss b.1)

  -- if the first session that the frame is for took it, all of the pair are past it
  replaced : (s : Session) → time (extended s (Took f)) ≡ last_time f.items → (ss : List Session) → AllDiffer ss → find (is_for f) ss ≡ Some s → AllByRecursion (IsPast f) (replace (is_for f) (λ z. still n.programs (extended z (Took f))) ss)
  replaced s now [] d q = absurd (cc)
  replaced s now (x ∷ xs) d q = elim (cases_Bool (is_for f x)) [
    | inl e ↦ rw e (
        let same : x ≡ s = (let k : Some x ≡ Some s = rw e at q in cc) in
        all_cat (IsPast f) (still n.programs (extended x (Took f))) xs
        (all_still (IsPast f) n.programs (extended x (Took f)) (λ es er. let t : time (extended x (Took f)) ≡ last_time f.items = ap (λ (z : Session). time (extended z (Took f))) same ∙ now in omega (arith, t)))
        (all_some (Differ x) (IsPast f) (λ u differs es er. absurd (differs (sid_of x e ∙ sym es) (role_of x e ∙ sym er))) xs d.0))
    | inr e ↦ rw e (
        let k : find (is_for f) xs ≡ Some s = rw e at q in
        let differs : Differ x s = find_all (is_for f) (Differ x) xs s d.0 k in
        let passes : is_for f s ≡ true = find_passes (is_for f) xs s k in
        (λ es er. absurd (differs (es ∙ sym (sid_of s passes)) (er ∙ sym (role_of s passes))), replaced s now xs d.1 k))
  ]
    where
      sid_of : (z : Session) → is_for f z ≡ true → z.sid ≡ f.sid
      sid_of z e = same_bytes z.sid f.sid (and_parts (bytes_eq z.sid f.sid) (z.role == f.receiver) (and_parts (bytes_eq z.sid f.sid && (z.role == f.receiver)) (z.cast.version == f.version) e).0).0

      role_of : (z : Session) → is_for f z ≡ true → z.role ≡ f.receiver
      role_of z e = eqb-true z.role f.receiver (and_parts (bytes_eq z.sid f.sid) (z.role == f.receiver) (and_parts (bytes_eq z.sid f.sid && (z.role == f.receiver)) (z.cast.version == f.version) e).0).1

  -- if no row holds for a frame that joins, it has items
  join_has_items : (c : Cast) → first_some (join_rows sha n f c) ≡ None → option_map_or (λ (i : Item). i.role == f.sender) (last f.items) false ≡ true
  join_has_items c h = by (program_for n.programs c.graph f.receiver) h
    where
      by : (z : Option Program) → first_some (option_map_or (rows_of_join sha n f c) z (Some Refusal.UnknownGraph ∷ [])) ≡ None → option_map_or (λ (i : Item). i.role == f.sender) (last f.items) false ≡ true
      by None e = absurd (cc)
      by (Some p) e =
          let later : List (Option Refusal) = rows_of_session sha n.keys p (new_session f.sid c f.receiver) f in
          let full : Option Refusal = row (nat_le 4096 (length n.live)) Refusal.SessionsFull in
          let cache : Option Refusal = row (nat_le 65536 (length n.joins)) Refusal.CacheFull in
          let twice : Option Refusal = row (has_joined n.joins f.sid f.receiver) Refusal.Joined in
          let other : Option Refusal = row (not (bytes_eq f.sid (session_id sha c))) Refusal.BadSession in
          let peer : Option Refusal = option_map Refusal.UnknownPeer (stranger n.keys c) in
          let one = none_parts (row (not (is_cast n.keys p.graph c f.receiver && nat_lt f.sender (length c.names))) Refusal.BadCast) (peer ∷ other ∷ twice ∷ cache ∷ full ∷ later) e in
          let two = none_parts peer (other ∷ twice ∷ cache ∷ full ∷ later) one.1 in
          let three = none_parts other (twice ∷ cache ∷ full ∷ later) two.1 in
          let four = none_parts twice (cache ∷ full ∷ later) three.1 in
          let five = none_parts cache (full ∷ later) four.1 in
          let six = none_parts full later five.1 in
          (rows_of sha n.keys p (new_session f.sid c f.receiver) f six.1).by_sender

  -- and one that continues is taken by a session that waits
  next_taken : (s : Session) → session_for n.live f ≡ Some s → first_some (next_rows sha n f) ≡ None → NextTaken sha n f s
  next_taken s q h = by_program (program_for n.programs s.cast.graph s.role) refl
      (subst (λ z. first_some (option_map_or (λ s. option_map_or (rows_of_next sha n f s) (program_for n.programs s.cast.graph s.role) (Some Refusal.UnknownSession ∷ [])) z (Some Refusal.UnknownSession ∷ [])) ≡ None) q h)
    where
      by_program : (z : Option Program) → program_for n.programs s.cast.graph s.role ≡ z → first_some (option_map_or (rows_of_next sha n f s) z (Some Refusal.UnknownSession ∷ [])) ≡ None → NextTaken sha n f s
      by_program None q2 h = absurd (cc)
      by_program (Some p) q2 h =
          let one = none_parts (row (at_turn p.graph s) Refusal.NotWaiting) (rows_of_session sha n.keys p s f) h in
          record { found = q; p = p; found_p = q2; waits = row_none _ _ one.0; rows = one.1 }

  found_next : first_some (next_rows sha n f) ≡ None → (s : Session) × NextTaken sha n f s
  found_next h = by (session_for n.live f) refl
    where
      by : (z : Option Session) → session_for n.live f ≡ z → (s : Session) × NextTaken sha n f s
      by None q = absurd (let k = subst (λ z. first_some (option_map_or (λ s. option_map_or (rows_of_next sha n f s) (program_for n.programs s.cast.graph s.role) (Some Refusal.UnknownSession ∷ [])) z (Some Refusal.UnknownSession ∷ [])) ≡ None) q h in cc)
      by (Some s) q = (s, next_taken s q h)

  taken_spent : (j : Option Cast) → first_some (option_map_or (join_rows sha n f) j (next_rows sha n f)) ≡ None
      → IsSpent (option_map_or (λ c. joined n (extended (new_session f.sid c f.receiver) (Took f))) j (goes_on n (is_for f) (λ s. still n.programs (extended s (Took f))))) f
  taken_spent (Some c) none =
      let s : Session = extended (new_session f.sid c f.receiver) (Took f) in
      let now : time s ≡ last_time f.items = time_took (λ i. i.role == f.sender) (new_session f.sid c f.receiver) f (join_has_items c none) in
      record {
        joined = joined_now n.joins f.sid f.receiver;
        past = all_cat (IsPast f) n.live (still n.programs s) (none_live (new_pair sha hash n o f c none) n.live o.joined) (all_still (IsPast f) n.programs s (λ es er. omega (arith, now)));
      }
  taken_spent None none =
      let t = found_next none in
      let s : Session = t.0 in
      let e : is_for f s ≡ true = find_passes (is_for f) n.live s (t.1).found in
      let b = and_parts (bytes_eq s.sid f.sid) (s.role == f.receiver) (and_parts (bytes_eq s.sid f.sid && (s.role == f.receiver)) (s.cast.version == f.version) e).0 in
      record {
        joined = sym (ap (λ x. has_joined n.joins x s.role) (same_bytes s.sid f.sid b.0) ∙ ap (λ x. has_joined n.joins f.sid x) (eqb-true s.role f.receiver b.1)) ∙ was_joined sha hash n o s (is_for f) (t.1).found;
        past = replaced s (later sha hash n o f s t.1).1 n.live o.differ (t.1).found;
      }

  pub is_accepted : (bytes : List ℕ) (e : Event) → read bytes ≡ Ok f → answer sha n (Deliver bytes) ≡ Happened e → IsSpent (node_after n (Deliver bytes) (Happened e)) f
  is_accepted bytes e rd a = by (first_some (rows sha n f)) refl (sym (ap (verdict_on sha n) rd) ∙ a)
    where
      by : (z : Option Refusal) → first_some (rows sha n f) ≡ z → decided (receipt f) z ≡ Happened e → IsSpent (node_after n (Deliver bytes) (Happened e)) f
      by (Some why) none h = absurd (cc)
      by None none h =
          let same : receipt f ≡ e = cc in
          subst (λ (v : Event). IsSpent (node_after n (Deliver bytes) (Happened v)) f) same
          (subst (λ (r : Result Frame ℕ). IsSpent (takes_read n r) f) (sym rd) (taken_spent f.join none))

  -- ---- what is spent is refused

  pub is_refused : (bytes : List ℕ) (e : Event) → IsSpent n f → read bytes ≡ Ok f → answer sha n (Deliver bytes) ≡ Happened e → ⊥
  is_refused bytes e spent rd a = by (first_some (rows sha n f)) refl (sym (ap (verdict_on sha n) rd) ∙ a)
    where
      by_join : (j : Option Cast) → first_some (option_map_or (join_rows sha n f) j (next_rows sha n f)) ≡ None → ⊥
      by_join (Some c) none = let z : true ≡ false = sym spent.joined ∙ new_pair sha hash n o f c none in cc
      by_join None none =
          let t = found_next none in
          let s : Session = t.0 in
          let e : is_for f s ≡ true = find_passes (is_for f) n.live s (t.1).found in
          let b = and_parts (bytes_eq s.sid f.sid) (s.role == f.receiver) (and_parts (bytes_eq s.sid f.sid && (s.role == f.receiver)) (s.cast.version == f.version) e).0 in
          let past : IsPast f s = find_all (is_for f) (IsPast f) n.live s spent.past (t.1).found in
          let before : last_time f.items ≤ time s = past (same_bytes s.sid f.sid b.0) (eqb-true s.role f.receiver b.1) in
          let above = (later sha hash n o f s t.1).0 in
          omega (arith, before, above)

      by : (z : Option Refusal) → first_some (rows sha n f) ≡ z → decided (receipt f) z ≡ Happened e → ⊥
      by (Some why) none h = cc
      by None none h = by_join f.join none

-- ---- nodes stay orderly

-- these are none, or one of the same pair
abbrev OfPair : Session → List Session → Type 0
OfPair s ts = (ts ≡ []) ⊎ ((t : Session) × (ts ≡ t ∷ []) × (t.sid ≡ s.sid) × (t.role ≡ s.role))

of_pair_still : (ps : List Program) (s t : Session) → t.sid ≡ s.sid → t.role ≡ s.role → OfPair s (still ps t)
of_pair_still ps s t es er = elim (cases_Bool (is_over ps t)) [ inl e ↦ rw e (inl refl) | inr e ↦ rw e (inr (t, refl, es, er)) ]

module _ (which : Session → Bool) (now : Session → List Session) (of : (s : Session) → OfPair s (now s)) where
  -- a session that differs from all differs from what they become
  differs_still : (s u : Session) → Differ s u → AllByRecursion (Differ s) (now u)
  differs_still s u d = elim (of u) [
    | inl e ↦ subst (AllByRecursion (Differ s)) (sym e) tt
    | inr e ↦ subst (AllByRecursion (Differ s)) (sym e.1) (λ p q. d (p ∙ e.2) (q ∙ e.3), tt)
  ]

  differs_all : (s : Session) (ss : List Session) → AllByRecursion (Differ s) ss → AllByRecursion (Differ s) (replace which now ss)
  differs_all s [] h = tt
  differs_all s (u ∷ us) h = elim (cases_Bool (which u)) [
    | inl e ↦ rw e (all_cat (Differ s) (now u) us (differs_still s u h.0) h.1)
    | inr e ↦ rw e (h.0, differs_all s us h.1)
  ]

  head_differs : (s : Session) (ts ss : List Session) → OfPair s ts → AllByRecursion (Differ s) ss → AllDiffer ss → AllDiffer (ts ++ ss)
  head_differs s ts ss (inl e) h d = subst (λ (z : List Session). AllDiffer (z ++ ss)) (sym e) d
  head_differs s ts ss (inr e) h d = subst (λ (z : List Session). AllDiffer (z ++ ss)) (sym e.1) (all_some (Differ s) (Differ e.0) (λ u k p q. k (sym e.2 ∙ p) (sym e.3 ∙ q)) ss h, d)

  pub differ_replace : (ss : List Session) → AllDiffer ss → AllDiffer (replace which now ss)
  differ_replace [] h = tt
  differ_replace (s ∷ ss) h = elim (cases_Bool (which s)) [
    | inl e ↦ rw e (head_differs s (now s) ss (of s) h.0 h.1)
    | inr e ↦ rw e (differs_all s ss h.0, differ_replace ss h.1)
  ]

differ_end : (ss : List Session) (t : Session) → AllDiffer ss → AllByRecursion (λ s. Differ s t) ss → AllDiffer (ss ++ t ∷ [])
differ_end [] t d h = (tt, tt)
differ_end (s ∷ ss) t d h = (all_cat (Differ s) ss (t ∷ []) d.0 (h.0, tt), differ_end ss t d.1 h.1)

differ_still : (ps : List Program) (ss : List Session) (t : Session) → AllDiffer ss → AllByRecursion (λ s. Differ s t) ss → AllDiffer (ss ++ still ps t)
differ_still ps ss t d h = elim (cases_Bool (is_over ps t)) [ inl e ↦ rw e (subst AllDiffer (sym (append-nil ss)) d) | inr e ↦ rw e (differ_end ss t d h) ]

module _ (sha : Hash) (hash : IsHash sha) (n : Node) (o : IsOrderly sha n) where
  -- a new pair is that of no live session
  differs_new : (t : Session) → has_joined n.joins t.sid t.role ≡ false → (ss : List Session) → list_all (λ (s : Session). has_joined n.joins s.sid s.role) ss ≡ true → AllByRecursion (λ s. Differ s t) ss
  differs_new t new [] h = tt
  differs_new t new (s ∷ ss) h =
      let b = and_parts (has_joined n.joins s.sid s.role) (list_all (λ (s : Session). has_joined n.joins s.sid s.role) ss) h in
      (λ es er. (let z : false ≡ true = sym new ∙ (ap (λ x. has_joined n.joins x t.role) (sym es) ∙ ap (λ x. has_joined n.joins s.sid x) (sym er) ∙ b.0) in cc), differs_new t new ss b.1)

  differ_start : (c : Cast) → AllDiffer (node_after n (Start c) (answer sha n (Start c))).live
  differ_start c = go (starter n.programs c.graph)
    where
      by_rows : (p : Program) (z : Option StartFault) → first_some (rows_of_start n p (session_id sha c) c) ≡ z → AllDiffer (node_after n (Start c) (started (session_id sha c) p.role z)).live
      by_rows p None e =
          let rs : List (Option StartFault) = rows_of_start n p (session_id sha c) c in
          let new : has_joined n.joins (session_id sha c) p.role ≡ false = row_none (has_joined n.joins (session_id sha c) p.role) _ (third (head_of rs) (head_of (tail_of rs)) (head_of (tail_of (tail_of rs))) (tail_of (tail_of (tail_of rs))) e) in
          let s : Session = new_session (session_id sha c) c p.role in
          differ_still n.programs n.live s o.differ (differs_new s new n.live o.joined)
      by_rows p (Some fault) e = o.differ

      go : (z : Option Program) → AllDiffer (node_after n (Start c) (option_map_or (λ (p : Program). started (session_id sha c) p.role (first_some (rows_of_start n p (session_id sha c) c))) z (NotStarted StartFault.UnknownGraph))).live
      go None = o.differ
      go (Some p) = by_rows p (first_some (rows_of_start n p (session_id sha c) c)) refl

  differ_taken : (f : Frame) (j : Option Cast) → first_some (option_map_or (join_rows sha n f) j (next_rows sha n f)) ≡ None
      → AllDiffer (option_map_or (λ c. joined n (extended (new_session f.sid c f.receiver) (Took f))) j (goes_on n (is_for f) (λ s. still n.programs (extended s (Took f))))).live
  differ_taken f (Some c) none =
      let s : Session = extended (new_session f.sid c f.receiver) (Took f) in
      differ_still n.programs n.live s o.differ (differs_new s (new_pair sha hash n o f c none) n.live o.joined)
  differ_taken f None none = differ_replace (is_for f) (λ s. still n.programs (extended s (Took f))) (λ s. of_pair_still n.programs s (extended s (Took f)) refl refl) n.live o.differ

  differ_deliver : (bs : List ℕ) → AllDiffer (node_after n (Deliver bs) (answer sha n (Deliver bs))).live
  differ_deliver bs = go (read bs) refl
    where
      by_rows : (g : Frame) → read bs ≡ Ok g → (z : Option Refusal) → first_some (rows sha n g) ≡ z → AllDiffer (node_after n (Deliver bs) (decided (receipt g) z)).live
      by_rows g e None none = subst (λ (r : Result Frame ℕ). AllDiffer (takes_read n r).live) (sym e) (differ_taken g g.join none)
      by_rows g e (Some why) none = o.differ

      go : (r : Result Frame ℕ) → read bs ≡ r → AllDiffer (node_after n (Deliver bs) (answer sha n (Deliver bs))).live
      go (Err at) e = subst (λ (a : Answer). AllDiffer (node_after n (Deliver bs) a).live) (sym (ap (verdict_on sha n) e)) o.differ
      go (Ok g) e = subst (λ (a : Answer). AllDiffer (node_after n (Deliver bs) a).live) (sym (ap (verdict_on sha n) e)) (by_rows g e (first_some (rows sha n g)) refl)

  differ_answer : (c : Call) (a : Answer) → ((cast : Cast) → c ≡ Start cast → AllDiffer (node_after n c a).live) → ((bs : List ℕ) → c ≡ Deliver bs → AllDiffer (node_after n c a).live) → AllDiffer (node_after n c a).live
  differ_answer (Start cast) a s d = s cast refl
  differ_answer (Deliver bs) a s d = d bs refl
  differ_answer (Act sid label values confs) (Sends e to f) s d =
      differ_replace (λ x. bytes_eq x.sid sid) (λ x. option_map_or (λ i. still n.programs (extended x (Gave i (openings_for values confs)))) (last f.items) (x ∷ [])) (λ x. given x (last f.items)) n.live o.differ
    where
      given : (x : Session) (z : Option Item) → OfPair x (option_map_or (λ i. still n.programs (extended x (Gave i (openings_for values confs)))) z (x ∷ []))
      given x None = inr (x, refl, refl, refl)
      given x (Some i) = of_pair_still n.programs x (extended x (Gave i (openings_for values confs))) refl refl
  differ_answer (Abandon sid) Abandoned s d = differ_replace (λ x. bytes_eq x.sid sid) (λ x. []) (λ x. inl refl) n.live o.differ
  differ_answer c other s d = o.differ

  pub stays_orderly : (c : Call) → IsCallInRange c → IsOrderly sha (node_after n c (answer sha n c))
  stays_orderly c h =
      let same = programs_after n c (answer sha n c) in
      record {
        programs = subst (AllByRecursion (IsProgram sha)) (sym same) o.programs;
        live = subst (λ (ps : List Program). AllByRecursion (IsLive sha ps) (node_after n c (answer sha n c)).live) (sym same) (node_sound sha hash n o.programs o.live c h);
        joined = owns_after n c (answer sha n c) o.joined;
        differ = differ_answer c (answer sha n c)
            (λ cast e. subst (λ (c : Call). AllDiffer (node_after n c (answer sha n c)).live) (sym e) (differ_start cast))
            (λ bs e. subst (λ (c : Call). AllDiffer (node_after n c (answer sha n c)).live) (sym e) (differ_deliver bs));
      }

pub frames_are_taken_once : (sha : Hash) → IsHash sha → FramesAreTakenOnce sha
frames_are_taken_once sha hash = record {
  orderly = λ n c o h. stays_orderly sha hash n o c h;
  accepted = λ n bytes f e o rd a. is_accepted sha hash n o f bytes e rd a;
  stays = λ n f c o h spent. record { joined = joins_stay n c (answer sha n c) f.sid f.receiver spent.joined; past = stays_past sha hash n o f spent c h };
  refused = λ n bytes f e o spent rd a. is_refused sha hash n o f bytes e spent rd a;
}
