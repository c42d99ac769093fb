-- Pasts, logs and moves of a session, as they grow.
use Rattle.std.specs.Prelude.{◌≡◌, ℕ, ◌+◌, ◌<◌, ◌≤◌, if◌then◌else◌, ◌⊎◌, Bool, true, false, List, [], ◌∷◌, ◌++◌, filter, flat_map, length, bytes_eq, refl, Option, Some, None, option_map}
use Rattle.std.specs.List.{AllByRecursion}
use Rattle.std.specs.Option.{option_map_or}
use Rattle.std.proofs.Common.{sym, ◌∙◌, ap, subst, inl, inr, arith, append_assoc, append-nil}
use Rattle.sg_model.specs.Last.{Map}
use Rattle.sg_model.specs.Shape.{Shape}
use Rattle.sg_model.specs.Values.{Value}
use Rattle.sg_model.specs.Names.{Name}
use Rattle.sg_protocol.specs.Graph.{Graph}
use Rattle.sg_protocol.specs.Frame.{IsValue}
use Rattle.sg_protocol.specs.Spelling.{u64}
use Rattle.sg_protocol.specs.Texts.{Hash}
use Rattle.sg_protocol.specs.Notes.{Note}
use Rattle.sg_protocol.specs.Schedule.{Schedule, Step, StartStep, ActStep, AbandonStep, DeliverStep, CraftStep, confounder}
use Rattle.sg_law.specs.Values as V
use Rattle.sg_law.specs.Values.{State, SentItem, Move, Commit, moved}
use Rattle.sg_protocol.proofs.Paths.{flat_map-append}
use Rattle.sg_protocol.proofs.Moves.{NoteOk}
use Rattle.sg_model.specs.Lists.{keys_of}
use Rattle.sg_protocol.specs.Node.{Node}
use Rattle.sg_protocol.specs.Calls.{Call, sid_of}
use Rattle.sg_protocol.specs.NodeAfter.{node_after}
use Rattle.sg_protocol.specs.Walk.{acts_of_event}
use Rattle.sg_law.specs.Values.{AllMay, moved_all, all_openings}
use Rattle.std.proofs.lemmas.List.{length-append}
use Rattle.std.proofs.lemmas.Bool.{cases_Bool}
use Rattle.std.proofs.lemmas.List.Elements.{filter-append}
use Rattle.sg_model.proofs.Small.{all-append, all_weaker, same_bytes}
use Rattle.sg_model.proofs.Members.{In, contains_from_in, in_left, in_parts, in_from_Contains}
use Rattle.sg_model.proofs.Finding.{find_passes, find_map}
use Rattle.sg_protocol.specs.Past.{Past, AnsweredCall, node_after_all, past_after, node_of, new_node}
use Rattle.sg_protocol.specs.World.{World, Logged, past_of, call_of}
use Rattle.sg_protocol.specs.Run.{called, called_if, world_after, world_after_all, events_of, events_of_outcome}
use Rattle.sg_protocol.specs.Acting.{answer}

-- ---- pasts

pub node_more : (n : Node) (cs : List AnsweredCall) (c : AnsweredCall) → node_after_all n (cs ++ c ∷ []) ≡ node_after (node_after_all n cs) c.call c.answer
node_more n [] c = refl
node_more n (d ∷ cs) c = node_more (node_after n d.call d.answer) cs c

-- the node after a call
pub node_next : (sha : Hash) (past : Past) (c : Call) → node_of (past_after sha past c) ≡ node_after (node_of past) c (answer sha (node_of past) c)
node_next sha past c = node_more (new_node past.keys past.programs past.first) past.calls (record { call = c; answer = answer sha (node_of past) c })

-- the past of a principal after a call of another, or of itself
abbrev pub next_past : Hash → Name → Call → Past → Past
next_past sha who c p = if bytes_eq p.keys.me who then past_after sha p c else p

pub past_called : (sha : Hash) (w : World) (k : ℕ) (who : Name) (c : Call) (past : Past) (me : Name) → past_of (called sha w k who c past) me ≡ option_map (next_past sha who c) (past_of w me)
past_called sha w k who c past me = find_map (λ p. bytes_eq p.keys.me me) (next_past sha who c) (λ p. go p (cases_Bool (bytes_eq p.keys.me who))) w.pasts
  where
    go : (p : Past) → (bytes_eq p.keys.me who ≡ true) ⊎ (bytes_eq p.keys.me who ≡ false) → bytes_eq (next_past sha who c p).keys.me me ≡ bytes_eq p.keys.me me
    go p (inl e) = rw e refl
    go p (inr e) = rw e refl

-- after a call the past of the principal that was asked is the next one, and those of others are as they were
pub past_called_at : (sha : Hash) (w : World) (k : ℕ) (who : Name) (past : Past) → past_of w who ≡ Some past → (c : Call) (me : Name)
    → ((bytes_eq me who ≡ true) × (past_of w me ≡ Some past) × (past_of (called sha w k who c past) me ≡ Some (past_after sha past c))) ⊎ ((bytes_eq me who ≡ false) × (past_of (called sha w k who c past) me ≡ past_of w me))
past_called_at sha w k who past its_past c me = elim (cases_Bool (bytes_eq me who)) [
  | inl b ↦
      let mine : past_of w me ≡ Some past = ap (past_of w) (same_bytes me who b) ∙ its_past in
      let named : bytes_eq past.keys.me who ≡ true = find_passes (λ (p : Past). bytes_eq p.keys.me who) w.pasts past its_past in
      let next : next_past sha who c past ≡ past_after sha past c = rw named refl in
      inl (b, mine, past_called sha w k who c past me ∙ ap (option_map (next_past sha who c)) mine ∙ ap (λ (p : Past). Some p) next)
  | inr b ↦ inr (b, past_called sha w k who c past me ∙ stays b (past_of w me) refl)
]
  where
    stays : bytes_eq me who ≡ false → (o : Option Past) → past_of w me ≡ o → option_map (next_past sha who c) o ≡ o
    stays b None e = refl
    stays b (Some y) e =
        let is_me : y.keys.me ≡ me = same_bytes y.keys.me me (find_passes (λ (z : Past). bytes_eq z.keys.me me) w.pasts y e) in
        let next : next_past sha who c y ≡ y = rw (ap (λ z. bytes_eq z who) is_me ∙ b) refl in
        ap (λ (p : Past). Some p) next

-- ---- logs

-- the later log is the log and later entries
pub record Suffix (k : ℕ) (log log' : List Logged) : Type 0 where
  pub rest : List Logged
  pub is : log' ≡ log ++ rest
  pub late : AllByRecursion (λ (l : Logged). k ≤ l.number) rest

pub suffix_refl : (k : ℕ) (log : List Logged) → Suffix k log log
suffix_refl k log = record { rest = []; is = sym (append-nil log); late = tt }

pub suffix_one : (k : ℕ) (log : List Logged) (l : Logged) → l.number ≡ k → Suffix k log (log ++ l ∷ [])
suffix_one k log l e = record { rest = l ∷ []; is = refl; late = (omega (arith, e), tt) }

pub suffix_trans : (k j : ℕ) (a b c : List Logged) → k ≤ j → Suffix k a b → Suffix j b c → Suffix k a c
suffix_trans k j a b c l s t = record {
  rest = s.rest ++ t.rest;
  is = t.is ∙ ap (λ z. z ++ t.rest) s.is ∙ append_assoc a s.rest t.rest;
  late = all-append (λ (l : Logged). k ≤ l.number) s.rest t.rest s.late (all_weaker (λ (l : Logged). j ≤ l.number) (λ (l : Logged). k ≤ l.number) (λ x h. omega (arith, h, l)) t.rest t.late);
}

suffix_called_if : (sha : Hash) (w : World) (k : ℕ) (who : Name) (c : Option Call) (past : Past) → Suffix k w.log (called_if sha w k who c past).log
suffix_called_if sha w k who None past = suffix_one k w.log _ refl
suffix_called_if sha w k who (Some c) past = suffix_one k w.log _ refl

suffix_past : (sha : Hash) (w : World) (k : ℕ) (who : Name) (c : Option Call) (o : Option Past) → Suffix k w.log (option_map_or (called_if sha w k who c) o w).log
suffix_past sha w k who c None = suffix_refl k w.log
suffix_past sha w k who c (Some past) = suffix_called_if sha w k who c past

pub suffix_step : (sha : Hash) (s : Schedule) (w : World) (k : ℕ) (x : Step) → Suffix k w.log (world_after sha s w k x).log
suffix_step sha s w k (CraftStep c) = suffix_one k w.log _ refl
suffix_step sha s w k (StartStep who n) = suffix_past sha w k who (call_of sha s w k (StartStep who n)) (past_of w who)
suffix_step sha s w k (ActStep who n label values) = suffix_past sha w k who (call_of sha s w k (ActStep who n label values)) (past_of w who)
suffix_step sha s w k (AbandonStep who n) = suffix_past sha w k who (call_of sha s w k (AbandonStep who n)) (past_of w who)
suffix_step sha s w k (DeliverStep who what) = suffix_past sha w k who (call_of sha s w k (DeliverStep who what)) (past_of w who)

pub suffix_all : (sha : Hash) (s : Schedule) (w : World) (k : ℕ) (xs : List Step) → Suffix k w.log (world_after_all sha s w k xs).log
suffix_all sha s w k [] = suffix_refl k w.log
suffix_all sha s w k (x ∷ xs) = suffix_trans k (k + 1) w.log (world_after sha s w k x).log (world_after_all sha s (world_after sha s w k x) (k + 1) xs).log (omega arith) (suffix_step sha s w k x) (suffix_all sha s (world_after sha s w k x) (k + 1) xs)

all_in_rest : (k : ℕ) (xs : List Logged) (l : Logged) → AllByRecursion (λ (l : Logged). k ≤ l.number) xs → In xs l → k ≤ l.number
all_in_rest k [] l a i = absurd i
all_in_rest k (x ∷ xs) l a (inl e) = subst (λ (z : Logged). k ≤ z.number) (sym e) a.0
all_in_rest k (x ∷ xs) l a (inr i) = all_in_rest k xs l a.1 i

-- an entry of a number below those of the rest stood before
pub in_before : (k : ℕ) (log log' : List Logged) → Suffix k log log' → (l : Logged) → In log' l → l.number < k → In log l
in_before k log log' s l i lt = elim (in_parts log s.rest l (subst (λ z. In z l) s.is i)) [
  | inl j ↦ j
  | inr j ↦ absurd (let h : k ≤ l.number = all_in_rest k s.rest l s.late j in omega (arith, h, lt))
]

pub in_after : (k : ℕ) (log log' : List Logged) → Suffix k log log' → (l : Logged) → In log l → In log' l
in_after k log log' s l i = subst (λ z. In z l) (sym s.is) (in_left log s.rest l i)

-- ---- moves, one after another

pub moved-append : (commit : Commit) (st : State) (ms ns : List Move) → moved_all commit st (ms ++ ns) ≡ moved_all commit (moved_all commit st ms) ns
moved-append commit st [] ns = refl
moved-append commit st (m ∷ ms) ns = moved-append commit (moved commit st m) ms ns

pub may-append : (g : Shape) (honest : ℕ → Bool) (commit : Commit) (st : State) (ms ns : List Move) → AllMay g honest commit st ms → AllMay g honest commit (moved_all commit st ms) ns → AllMay g honest commit st (ms ++ ns)
may-append g honest commit st [] ns a b = b
may-append g honest commit st (m ∷ ms) ns a b = (a.0, may-append g honest commit (moved commit st m) ms ns a.1 b)

pub openings-append : (ms ns : List Move) → all_openings (ms ++ ns) ≡ all_openings ms ++ all_openings ns
openings-append [] ns = refl
openings-append (m ∷ ms) ns = ap (λ l. V.openings m ++ l) (openings-append ms ns) ∙ sym (append_assoc (V.openings m) (all_openings ms) (all_openings ns))

pub events-append : (sid : List ℕ) (xs ys : List Logged) → flat_map acts_of_event (events_of sid (xs ++ ys)) ≡ flat_map acts_of_event (events_of sid xs) ++ flat_map acts_of_event (events_of sid ys)
events-append sid xs ys =
    ap (λ l. flat_map acts_of_event (filter (λ e. bytes_eq (sid_of e) sid) l)) (flat_map-append (λ (l : Logged). events_of_outcome l.outcome) xs ys)
    ∙ ap (flat_map acts_of_event) (filter-append (λ e. bytes_eq (sid_of e) sid) (flat_map (λ (l : Logged). events_of_outcome l.outcome) xs) (flat_map (λ (l : Logged). events_of_outcome l.outcome) ys))
    ∙ flat_map-append acts_of_event (events_of sid xs) (events_of sid ys)

pub note_more : (g : Graph) (sid : List ℕ) (log log' : List SentItem) → ((mk : SentItem) → In log mk → In log' mk) → (nt : Note) → NoteOk g sid log nt → NoteOk g sid log' nt
note_more g sid log log' f nt ok = record {
  item = λ v from to label time held fits e. let r = ok.item v from to label time held fits e in record { made = r.made; there = contains_from_in log' r.made (f r.made (in_from_Contains log r.made r.there)); same = r.same; is_held = r.is_held };
  frame = λ v fr spelled same e. let r = ok.frame v fr spelled same e in record { made = r.made; there = contains_from_in log' r.made (f r.made (in_from_Contains log r.made r.there)); steps = r.steps; written = r.written };
}

u64_length : (n : ℕ) → length (u64 n) ≡ 8
u64_length n = refl

pub confounder_length : (k x : ℕ) → length (confounder k x) ≡ 16
confounder_length k x = (let a = u64_length k in let b = u64_length x in let c : length (u64 k ++ u64 x) ≡ length (u64 k) + length (u64 x) = length-append (u64 k) (u64 x) in omega (arith, a, b, c))

pub small_values : (values : Map Value) → AllByRecursion (λ (w : ℕ × Value). (w.0 < 256) × IsValue w.1) values → AllByRecursion (λ k. k < 256) (keys_of values)
small_values [] h = tt
small_values (v ∷ vs) h = (h.0.0, small_values vs h.1)
