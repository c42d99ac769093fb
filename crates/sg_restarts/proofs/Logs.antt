-- A log with more abandonments, and what is the same of a run with restarts and of the run without them.
use Rattle.std.specs.Prelude.{◌≡◌, ℕ, List, [], ◌∷◌, ◌++◌, map, filter, flat_map, find, bytes_eq, refl, Option, Some, None, option_map}
use Rattle.std.specs.List.{cons_option}
use Rattle.std.proofs.Common.{sym, ◌∙◌, ap, subst, inl, inr}
use Rattle.std.proofs.lemmas.List.Elements.{filter-append}
use Rattle.sg_model.specs.Names.{Name}
use Rattle.sg_model.proofs.Small.{some_same, heads, tails, not_empty}
use Rattle.sg_protocol.specs.Frame.{Frame}
use Rattle.sg_protocol.specs.Calls.{Event, sid_of, Call, Answer, Deliver, Happened}
use Rattle.sg_protocol.specs.Past.{Past, node_of}
use Rattle.sg_protocol.specs.World.{Logged, World, Answered}
use Rattle.sg_protocol.specs.Run.{events_of_outcome, events_of}
use Rattle.sg_protocol.specs.LastSteps.{honest_items, sent_item}
use Rattle.sg_protocol.specs.Completeness.{IsSentTo, HadAnswer}
use Rattle.sg_protocol.specs.Restarts.{IsAbandonment, HasMoreAbandonments}
use Rattle.sg_protocol.proofs.Paths.{flat_map-append}
use Rattle.sg_protocol.proofs.Restarts.{Same, Shown, shown, find_shown}
use Rattle.sg_protocol.proofs.OverRestarts.{entry_there, entry_back}

-- ---- logs

-- the events of an entry
abbrev pub events_at : Logged → List Event
events_at l = events_of_outcome l.outcome

pub no_events : (l : Logged) → IsAbandonment l → events_at l ≡ []
no_events l a = ap events_of_outcome a.outcome

pub events_more : (ls log : List Logged) → HasMoreAbandonments ls log → flat_map events_at log ≡ flat_map events_at ls
events_more [] log e = ap (flat_map events_at) e
events_more (l ∷ ls) log (inl h) = events_more ls log h.1 ∙ sym (ap (λ z. z ++ flat_map events_at ls) (no_events l h.0))
events_more (l ∷ ls) log (inr h) = ap (flat_map events_at) h.1 ∙ ap (λ z. events_at l ++ z) (events_more ls h.0 h.2)

-- the events of a session are the same
pub session_events : (sid : List ℕ) (ls log : List Logged) → HasMoreAbandonments ls log → events_of sid log ≡ events_of sid ls
session_events sid ls log h = ap (filter (λ e. bytes_eq (sid_of e) sid)) (events_more ls log h)

module _ (sid : List ℕ) where
  pub events-append : (xs ys : List Logged) → events_of sid (xs ++ ys) ≡ events_of sid xs ++ events_of sid ys
  events-append xs ys = ap (filter (λ e. bytes_eq (sid_of e) sid)) (flat_map-append events_at xs ys) ∙ filter-append (λ e. bytes_eq (sid_of e) sid) (flat_map events_at xs) (flat_map events_at ys)

  -- an abandonment has no event
  pub quiet : (l : Logged) → IsAbandonment l → events_of sid (l ∷ []) ≡ []
  quiet l a = ap (λ es. filter (λ e. bytes_eq (sid_of e) sid) (es ++ [])) (no_events l a)

-- so are the items that were sent in it
pub items_more : (sid : List ℕ) (ls log : List Logged) → HasMoreAbandonments ls log → honest_items sid log ≡ honest_items sid ls
items_more sid [] log e = ap (honest_items sid) e
items_more sid (l ∷ ls) log (inl h) = items_more sid ls log h.1 ∙ sym (ap (λ o. cons_option o (honest_items sid ls)) (ap (sent_item sid) (h.0).outcome))
items_more sid (l ∷ ls) log (inr h) = ap (honest_items sid) h.1 ∙ ap (cons_option (sent_item sid l.outcome)) (items_more sid ls h.0 h.2)

-- where the log splits, the longer one does
pub split_more : (ls before : List Logged) (l : Logged) (after : List Logged) → HasMoreAbandonments ls (before ++ l ∷ after) → (before' : List Logged) × (after' : List Logged) × (ls ≡ before' ++ l ∷ after') × HasMoreAbandonments before' before
split_more [] before l after e = absurd (not_empty before l after e)
split_more (x ∷ ls) before l after (inl h) = let r = split_more ls before l after h.1 in (x ∷ r.0, r.1, ap (λ z. x ∷ z) r.2, inl (h.0, r.3))
split_more (x ∷ ls) [] l after (inr h) = let e : x ≡ l = heads x l h.0 after (sym h.1) in ([], ls, ap (λ z. z ∷ ls) e, refl)
split_more (x ∷ ls) (b ∷ before) l after (inr h) =
    let e : b ≡ x = heads b x (before ++ l ∷ after) h.0 h.1 in
    let r = split_more ls before l after (subst (HasMoreAbandonments ls) (sym (tails b x (before ++ l ∷ after) h.0 h.1)) h.2) in
    (x ∷ r.0, r.1, ap (λ z. x ∷ z) r.2, inr (before, ap (λ z. z ∷ before) e, r.3))

-- ---- two worlds

module _ (w w' : World) (same : Same w w') where
  -- an abandonment delivers nothing and sends nothing
  pub delivery_back : (who : Name) (bs : List ℕ) (e : Event) → HadAnswer w'.log who (Deliver bs) (Happened e) → HadAnswer w.log who (Deliver bs) (Happened e)
  delivery_back who bs e h =
      let (l, there, its, call, outcome) = h in
      (l, entry_back w w' same l (λ a. let z : Answered (Happened e) ≡ _ = sym outcome ∙ a.outcome in absurd (cc)) there, its, call, outcome)

  pub answer_there : (who : Name) (c : Call) (a : Answer) → HadAnswer w.log who c a → HadAnswer w'.log who c a
  answer_there who c a h = let (l, there, its, call, outcome) = h in (l, entry_there w w' same l there, its, call, outcome)

  pub sent_there : (bs : List ℕ) (to : Name) (f : Frame) → IsSentTo w.log bs to f → IsSentTo w'.log bs to f
  sent_there bs to f h = let (l, e, there, outcome, frame) = h in (l, e, entry_there w w' same l there, outcome, frame)

  pub sent_back : (bs : List ℕ) (to : Name) (f : Frame) → IsSentTo w'.log bs to f → IsSentTo w.log bs to f
  sent_back bs to f h =
      let (l, e, there, outcome, frame) = h in
      (l, e, entry_back w w' same l (λ a. let z : Some bs ≡ None = sym frame ∙ a.frame in absurd (cc)) there, outcome, frame)

-- ---- pasts

-- a principal has a past in both, with the same keys and node
pub past_there : (ps qs : List Past) → map shown ps ≡ map shown qs → (who : Name) (p : Past) → find (λ p. bytes_eq p.keys.me who) ps ≡ Some p →
    (q : Past) × (find (λ p. bytes_eq p.keys.me who) qs ≡ Some q) × (p.keys ≡ q.keys) × (node_of p ≡ node_of q)
past_there ps qs e who p is = go (find (λ p. bytes_eq p.keys.me who) qs) refl
  where
    both : Some (shown p) ≡ option_map shown (find (λ p. bytes_eq p.keys.me who) qs)
    both = sym (ap (option_map shown) is) ∙ find_shown who ps ∙ ap (find (λ (v : Shown). bytes_eq (v.0).me who)) e ∙ sym (find_shown who qs)

    go : (o : Option Past) → find (λ p. bytes_eq p.keys.me who) qs ≡ o → (q : Past) × (find (λ p. bytes_eq p.keys.me who) qs ≡ Some q) × (p.keys ≡ q.keys) × (node_of p ≡ node_of q)
    go None q = absurd (let z : Some (shown p) ≡ None = both ∙ ap (option_map shown) q in cc)
    go (Some y) q = let z : shown p ≡ shown y = some_same (both ∙ ap (option_map shown) q) in (y, q, ap (λ (v : Shown). v.0) z, ap (λ (v : Shown). v.1) z)
