-- What happens in a run, one after another, whether a schedule says it or principals run apart.
use Rattle.std.specs.Prelude.{◌≡◌, ℕ, suc, ◌+◌, ◌==◌, nat_lt, IsTrue, true, List, [], ◌∷◌, ◌++◌, find, length, bytes_eq, refl, Option, Some, None, option_map, option_and_then, All, ⊤, map}
use Rattle.std.specs.List.{AllByRecursion}
use Rattle.std.specs.Option.{option_map_or}
use Rattle.std.proofs.Common.{sym, ◌∙◌, ap, subst, inl, inr, arith, append-nil}
use Rattle.std.proofs.lemmas.Bool.{cases_Bool, eqb-true, and_parts}
use Rattle.std.proofs.lemmas.Slice.Eq.{bytes_eq-Decides}
use Rattle.sg_model.specs.Bytes.{IsBytes, AreBytes}
use Rattle.sg_model.specs.Lists.{all_differ}
use Rattle.sg_model.specs.Names.{Name, is_name}
use Rattle.sg_model.proofs.Small.{all_weaker, clash, same_bytes}
use Rattle.sg_model.proofs.Members.{In, rec_in}
use Rattle.sg_protocol.specs.Graph.{IsGraph}
use Rattle.sg_protocol.specs.Frame.{Cast, Frame}
use Rattle.sg_protocol.specs.Texts.{Hash, IsHash, session_id, session_text_of}
use Rattle.sg_protocol.specs.TextLaws.{IsVersion, CastFits}
use Rattle.sg_protocol.specs.Keyring.{Program, key_of}
use Rattle.sg_protocol.specs.Session.{principal}
use Rattle.sg_protocol.specs.Calls.{Event, Call, Start, Act, Abandon, Deliver, Sends}
use Rattle.sg_protocol.specs.Node.{Node}
use Rattle.sg_protocol.specs.NodeAfter.{node_after}
use Rattle.sg_protocol.specs.Acting.{answer}
use Rattle.sg_protocol.specs.Past.{Past, past_after}
use Rattle.sg_protocol.specs.Schedule.{Schedule, is_honest}
use Rattle.sg_protocol.specs.World.{World, Outcome, past_of}
use Rattle.sg_protocol.specs.Run.{called, uncalled, events_of_outcome}
use Rattle.sg_protocol.specs.IsSchedule.{IsProgram}
use Rattle.sg_protocol.specs.Ranges.{AreValues, IsCallInRange}
use Rattle.sg_protocol.specs.Bounds.{IsSession, IsShortFrame}
use Rattle.sg_protocol.proofs.Nodes.{start_all, start_sends}
use Rattle.sg_protocol.proofs.Progressing.{Suffix, suffix_refl, suffix_one, suffix_trans, next_past, past_called, past_called_at}
use Rattle.sg_protocol.proofs.Ranges.{new_in_range, node_in_range, sent_in_range}
use Rattle.sg_protocol.proofs.NoRows.{starter_found}

-- a principal is asked, or an entry without a call is logged
pub data Happening : Type 0 where
  Asked : (who : Name) → Call → Happening
  Idle : Option Name → Outcome → Option (List ℕ) → Happening

-- the world after what happens as number k. At a principal that is not there nothing happens
abbrev pub happens : Hash → World → ℕ → Happening → World
happens sha w k (Asked who c) = option_map_or (called sha w k who c) (past_of w who) w
happens sha w k (Idle who o fr) = uncalled w k who o fr

abbrev pub all_happen : Hash → World → ℕ → List Happening → World
all_happen sha w k [] = w
all_happen sha w k (h ∷ hs) = all_happen sha (happens sha w k h) (k + 1) hs

-- the run of a course of happenings at principals that begin so
abbrev pub run_of : Hash → List Past → List Happening → World
run_of sha ps course = all_happen sha (record { pasts = ps; log = [] }) 1 course

-- the key that a principal holds for another
abbrev pub key_at : World → Name → Name → Option (List ℕ)
key_at w who other = option_and_then (λ (p : Past). key_of p.keys other) (past_of w who)

-- the two hold one key for each other, or neither holds any
abbrev pub HaveOneKey : World → Name → Name → Type 0
HaveOneKey w a b = key_at w a b ≡ key_at w b a

-- each two principals of the cast do
abbrev pub HaveOneKeyEach : World → Cast → Type 0
HaveOneKeyEach w cast = All (λ a. All (HaveOneKey w a) cast.names) cast.names

-- ---- ranges

-- the fields of a cast that is started are in range, and nothing is asked of how many names it has
pub record IsStarted (c : Cast) : Type 0 where
  pub version : IsVersion c.version
  pub graph : AreBytes 32 c.graph
  pub nonce : AreBytes 16 c.nonce
  pub names : AllByRecursion (λ n. IsTrue (is_name n)) c.names

abbrev pub IsGiven : Call → Type 0
IsGiven (Start c) = IsStarted c
IsGiven (Act sid label values confounders) = AreValues values confounders
IsGiven (Abandon sid) = ⊤
IsGiven (Deliver bytes) = IsBytes bytes

pub given : (c : Call) → IsCallInRange c → IsGiven c
given (Start c) h = record { version = h.version; graph = h.fields.graph; nonce = h.fields.nonce; names = h.fields.names }
given (Act sid label values confounders) h = h
given (Abandon sid) h = h
given (Deliver bytes) h = h

pub cast_given : (c : Cast) → IsStarted c → CastFits c
cast_given c h = record { version = h.version; graph = h.graph.0; nonce = h.nonce.0 }

-- a session that a node starts has as many principals as its graph has roles, so a node's sessions stay in range
pub given_in_range : (sha : Hash) → IsHash sha → (n : Node) → AllByRecursion (IsProgram sha) n.programs → AllByRecursion IsSession n.live → (c : Call) → IsGiven c → AllByRecursion IsSession (node_after n c (answer sha n c)).live
given_in_range sha hash n programs live (Start c) h = start_all sha n IsSession live c (λ p b.
    let ip : IsProgram sha p = rec_in (IsProgram sha) n.programs p programs (starter_found n.programs c.graph p b.found).there in
    let len : length c.names ≡ length p.graph.roles = eqb-true (length c.names) (length p.graph.roles) (and_parts (length c.names == length p.graph.roles) (all_differ c.names) (and_parts _ (nat_lt p.role (length c.names)) (and_parts _ (bytes_eq (principal c p.role) n.keys.me) b.cast).0).0).0 in
    new_in_range (session_id sha c) c p.role (hash (session_text_of c))
    (record { version = h.version; fields = record { version = refl; graph = h.graph; nonce = h.nonce; count = ((let a = ip.accepted.two_roles in omega (arith, a, len)), (let a = ip.is_graph.sizes.0 in omega (arith, a, len))); names = h.names } })
    (let a = ip.role in let b = ip.is_graph.sizes.0 in omega (arith, a, b)))
given_in_range sha hash n programs live (Act sid label values confounders) h = node_in_range sha hash n programs live (Act sid label values confounders) h
given_in_range sha hash n programs live (Abandon sid) h = node_in_range sha hash n programs live (Abandon sid) h
given_in_range sha hash n programs live (Deliver bytes) h = node_in_range sha hash n programs live (Deliver bytes) h

-- and what it sends is short
pub given_sends : (sha : Hash) → IsHash sha → (n : Node) → AllByRecursion (IsProgram sha) n.programs → AllByRecursion IsSession n.live → (c : Call) → IsGiven c → (e : Event) (to : Name) (f : Frame) → answer sha n c ≡ Sends e to f → IsShortFrame f
given_sends sha hash n programs live (Start c) h e to f a = absurd (start_sends sha n c e to f a)
given_sends sha hash n programs live (Act sid label values confounders) h e to f a = sent_in_range sha hash n programs live (Act sid label values confounders) h e to f a
given_sends sha hash n programs live (Abandon sid) h e to f a = sent_in_range sha hash n programs live (Abandon sid) h e to f a
given_sends sha hash n programs live (Deliver bytes) h e to f a = sent_in_range sha hash n programs live (Deliver bytes) h e to f a

-- what is asked is in range, and an entry without a call has no event
abbrev pub IsRight : Happening → Type 0
IsRight (Asked who c) = IsGiven c
IsRight (Idle who o fr) = events_of_outcome o ≡ []

-- a principal's programs are programs of these graphs
abbrev pub Own : Hash → Schedule → List Program → Type 0
Own sha s programs = AllByRecursion (λ (q : Program). IsProgram sha q × In s.graphs q.graph) programs

pub are_programs : (sha : Hash) (s : Schedule) (xs : List Program) → Own sha s xs → AllByRecursion (IsProgram sha) xs
are_programs sha s xs own = all_weaker _ _ (λ q h. h.0) xs own

-- a course of happenings at principals that were asked nothing yet and are the honest ones, with programs of the graphs
pub record IsCourse (sha : Hash) (s : Schedule) (ps : List Past) (course : List Happening) : Type 0 where
  pub graphs : AllByRecursion IsGraph s.graphs
  pub own : (p : Past) → In ps p → Own sha s p.programs
  pub calls : (p : Past) → In ps p → p.calls ≡ []
  pub honest : (who : Name) (p : Past) → find (λ (p : Past). bytes_eq p.keys.me who) ps ≡ Some p → is_honest s who ≡ true
  pub there : (who : Name) → is_honest s who ≡ true → (p : Past) × (find (λ (p : Past). bytes_eq p.keys.me who) ps ≡ Some p)
  pub right : AllByRecursion IsRight course

-- ---- logs

suffix_past : (sha : Hash) (w : World) (k : ℕ) (who : Name) (c : Call) (o : Option Past) → Suffix k w.log (option_map_or (called sha w k who c) o w).log
suffix_past sha w k who c None = suffix_refl k w.log
suffix_past sha w k who c (Some past) = suffix_one k w.log _ refl

pub suffix_happens : (sha : Hash) (w : World) (k : ℕ) (h : Happening) → Suffix k w.log (happens sha w k h).log
suffix_happens sha w k (Asked who c) = suffix_past sha w k who c (past_of w who)
suffix_happens sha w k (Idle who o fr) = suffix_one k w.log _ refl

pub suffix_course : (sha : Hash) (w : World) (k : ℕ) (hs : List Happening) → Suffix k w.log (all_happen sha w k hs).log
suffix_course sha w k [] = suffix_refl k w.log
suffix_course sha w k (h ∷ hs) = suffix_trans k (k + 1) w.log (happens sha w k h).log (all_happen sha (happens sha w k h) (k + 1) hs).log (omega arith) (suffix_happens sha w k h) (suffix_course sha (happens sha w k h) (k + 1) hs)

-- the log after a call is where that of the whole course begins
suffix_at : (sha : Hash) (w : World) (k : ℕ) (hs : List Happening) (h : Happening) (gs : List Happening) → Suffix (k + length hs + 1) (happens sha (all_happen sha w k hs) (k + length hs) h).log (all_happen sha w k (hs ++ h ∷ gs)).log
suffix_at sha w k [] h gs = subst (λ n. Suffix (n + 1) (happens sha w n h).log (all_happen sha w k (h ∷ gs)).log) (let q : k ≡ k + 0 = omega arith in q) (suffix_course sha (happens sha w k h) (k + 1) gs)
suffix_at sha w k (x ∷ hs) h gs =
    subst (λ n. Suffix (n + 1) (happens sha (all_happen sha (happens sha w k x) (k + 1) hs) n h).log (all_happen sha w k (x ∷ hs ++ h ∷ gs)).log) (let q : k + 1 + length hs ≡ k + suc (length hs) = omega arith in q)
    (suffix_at sha (happens sha w k x) (k + 1) hs h gs)

pub suffix_asked : (sha : Hash) (ps : List Past) (course hs gs : List Happening) (who : Name) (c : Call) (past : Past) → course ≡ hs ++ Asked who c ∷ gs → past_of (run_of sha ps hs) who ≡ Some past → Suffix (1 + length hs + 1) (called sha (run_of sha ps hs) (1 + length hs) who c past).log (run_of sha ps course).log
suffix_asked sha ps course hs gs who c past e its_past =
    subst (λ (w : World). Suffix (1 + length hs + 1) w.log (run_of sha ps course).log) (ap (λ o. option_map_or (called sha (run_of sha ps hs) (1 + length hs) who c) o (run_of sha ps hs)) its_past)
    (subst (λ z. Suffix (1 + length hs + 1) (happens sha (run_of sha ps hs) (1 + length hs) (Asked who c)).log (run_of sha ps z).log) (sym e) (suffix_at sha (record { pasts = ps; log = [] }) 1 hs (Asked who c) gs))

-- ---- what is kept

-- what each call keeps, and each entry without a call, holds in the end
module _ (sha : Hash) (wf : World) (P : World → Type 0)
    (idles : (w : World) (k : ℕ) → P w → (who : Option Name) (o : Outcome) (fr : Option (List ℕ)) → events_of_outcome o ≡ [] → P (uncalled w k who o fr))
    (keeps : (w : World) (k : ℕ) → P w → (who : Name) (past : Past) → past_of w who ≡ Some past → (c : Call) → IsGiven c → Suffix (k + 1) (called sha w k who c past).log wf.log → P (called sha w k who c past)) where
  keep_call : (w : World) (k : ℕ) → P w → (who : Name) (c : Call) → IsGiven c → (o : Option Past) → past_of w who ≡ o → Suffix (k + 1) (option_map_or (called sha w k who c) o w).log wf.log → P (option_map_or (called sha w k who c) o w)
  keep_call w k p who c right None q after = p
  keep_call w k p who c right (Some past) q after = keeps w k p who past q c right after

  keep_one : (w : World) (k : ℕ) → P w → (h : Happening) → IsRight h → Suffix (k + 1) (happens sha w k h).log wf.log → P (happens sha w k h)
  keep_one w k p (Asked who c) right after = keep_call w k p who c right (past_of w who) refl after
  keep_one w k p (Idle who o fr) right after = idles w k p who o fr right

  pub keep_prefix : (w : World) (k : ℕ) → P w → (hs gs : List Happening) → AllByRecursion IsRight hs → all_happen sha w k (hs ++ gs) ≡ wf → P (all_happen sha w k hs)
  keep_prefix w k p [] gs right e = p
  keep_prefix w k p (h ∷ hs) gs right e =
      let after : Suffix (k + 1) (happens sha w k h).log wf.log = subst (λ (z : World). Suffix (k + 1) (happens sha w k h).log z.log) e (suffix_course sha (happens sha w k h) (k + 1) (hs ++ gs)) in
      keep_prefix (happens sha w k h) (k + 1) (keep_one w k p h right.0 after) hs gs right.1 e

  pub keep_course : (w : World) (k : ℕ) → P w → (hs : List Happening) → AllByRecursion IsRight hs → all_happen sha w k hs ≡ wf → P wf
  keep_course w k p hs right e = subst P e (keep_prefix w k p hs [] right (ap (all_happen sha w k) (append-nil hs) ∙ e))

-- the pasts after a call
pub pasts_kept : (sha : Hash) (w : World) (k : ℕ) (who : Name) (past : Past) → past_of w who ≡ Some past → (c : Call) (Q : Name → Past → Type 0) → Q who (past_after sha past c) → ((me : Name) (y : Past) → (me ≡ who → ⊥) → past_of w me ≡ Some y → Q me y)
    → (me : Name) (p' : Past) → past_of (called sha w k who c past) me ≡ Some p' → Q me p'
pasts_kept sha w k who past its_past c Q mine others me p' e = elim (past_called_at sha w k who past its_past c me) [
  | inl r ↦
      let after : Some (past_after sha past c) ≡ Some p' = sym r.2 ∙ e in
      let next : past_after sha past c ≡ p' = cc in
      subst (λ z. Q z p') (sym (same_bytes me who r.0)) (subst (Q who) next mine)
  | inr r ↦ others me p' (λ z. clash (bytes_eq me who) ((bytes_eq-Decides me who).1 z) r.0) (sym r.1 ∙ e)
]

-- what each past keeps through a call holds of all pasts
module _ (sha : Hash) (P : Past → Type 0) (keeps : (p : Past) (c : Call) → P p → P (past_after sha p c)) where
  recorded : (who : Name) (c : Call) (ps : List Past) → AllByRecursion P ps → AllByRecursion P (map (next_past sha who c) ps)
  recorded who c [] a = tt
  recorded who c (p ∷ ps) a = (elim (cases_Bool (bytes_eq p.keys.me who)) [ inl e ↦ rw e (keeps p c a.0) | inr e ↦ rw e a.0 ], recorded who c ps a.1)

  if_there : (w : World) (k : ℕ) (who : Name) (c : Call) (o : Option Past) → AllByRecursion P w.pasts → AllByRecursion P (option_map_or (called sha w k who c) o w).pasts
  if_there w k who c None a = a
  if_there w k who c (Some past) a = recorded who c w.pasts a

  pub all_pasts : (w : World) (k : ℕ) (hs : List Happening) → AllByRecursion P w.pasts → AllByRecursion P (all_happen sha w k hs).pasts
  all_pasts w k [] a = a
  all_pasts w k (Asked who c ∷ hs) a = all_pasts (happens sha w k (Asked who c)) (k + 1) hs (if_there w k who c (past_of w who) a)
  all_pasts w k (Idle who o fr ∷ hs) a = all_pasts (uncalled w k who o fr) (k + 1) hs a

-- the key that a principal holds for another stays the same
pub next_keys : (sha : Hash) (who : Name) (c : Call) (p : Past) → (next_past sha who c p).keys ≡ p.keys
next_keys sha who c p = elim (cases_Bool (bytes_eq p.keys.me who)) [ inl e ↦ rw e refl | inr e ↦ rw e refl ]

pub key_called : (sha : Hash) (w : World) (k : ℕ) (who : Name) (c : Call) (past : Past) (a b : Name) → key_at (called sha w k who c past) a b ≡ key_at w a b
key_called sha w k who c past a b = ap (option_and_then (λ (p : Past). key_of p.keys b)) (past_called sha w k who c past a) ∙ go (past_of w a)
  where
    go : (o : Option Past) → option_and_then (λ (p : Past). key_of p.keys b) (option_map (next_past sha who c) o) ≡ option_and_then (λ (p : Past). key_of p.keys b) o
    go None = refl
    go (Some p) = ap (λ z. key_of z b) (next_keys sha who c p)

pub key_kept : (sha : Hash) (ps : List Past) (course : List Happening) → AllByRecursion IsRight course → (a b : Name) → key_at (run_of sha ps course) a b ≡ key_at (record { pasts = ps; log = [] }) a b
key_kept sha ps course right a b = keep_course sha (run_of sha ps course) (λ w. key_at w a b ≡ key_at (record { pasts = ps; log = [] }) a b) (λ w k h who o fr e. h) (λ w k h who past q c r after. key_called sha w k who c past a b ∙ h) (record { pasts = ps; log = [] }) 1 refl course right refl
