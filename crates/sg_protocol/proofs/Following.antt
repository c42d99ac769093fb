-- What a role keeps follows a walk, without an assumption of honesty.
use Rattle.std.specs.Prelude.{◌≡◌, ◌≢◌, ℕ, zero, suc, ◌+◌, ◌<◌, ◌==◌, nat_lt, ◌||◌, ◌&&◌, ◌⊎◌, Bool, true, false, List, [], ◌∷◌, ◌++◌, map, length, get_or, refl, Some, None, option_map, unwrap_or, IfSome}
use Rattle.std.specs.List.{AllByRecursion, list_any}
use Rattle.std.specs.Option.{option_or, option_map_or}
use Rattle.std.proofs.Common.{sym, ◌∙◌, ap, subst, inl, inr, arith, append-nil}
use Rattle.std.proofs.lemmas.Bool.{cases_Bool, eqb-true, eq-eqb, ne_eqb, or_from, or_parts, and_right, and_parts}
use Rattle.std.proofs.lemmas.Bool.Decides.{nat_tests}
use Rattle.sg_model.specs.Last.{Map, has, last, last_of, after_last, up_to_last, carry, evidence, evidence_for}
use Rattle.sg_model.specs.Lists.{is_in, below, range_from, keys_of, value_at, from_last}
use Rattle.sg_model.specs.Shape.{Walk, end_of, role_at, source, target, sender, receiver}
use Rattle.sg_model.specs.Values.{Opening}
use Rattle.sg_model.proofs.Small.{same_bytes, all_tests, keys_of_pairs}
use Rattle.sg_model.proofs.Numbers.{below_in}
use Rattle.sg_law.proofs.Lists.{has-last_of, last-append, last-append_some}
use Rattle.sg_law.proofs.Upto.{upto-at, upto-more}
use Rattle.sg_law.proofs.Cut.{last-option_map, last-last_of}
use Rattle.sg_law.proofs.Walks.{walk-append, walk_join, end_of-append, end_of_same}
use Rattle.sg_protocol.specs.Graph.{Graph, IsGraph, shape, writes, reads}
use Rattle.sg_protocol.specs.Knowledge.{learns, knows}
use Rattle.sg_protocol.specs.Accepted.{Accepted}
use Rattle.sg_protocol.specs.Evidence.{Seen, View, IsView, IsViewTable, walked, rising}
use Rattle.sg_protocol.specs.Frame.{Cast, Item, Frame}
use Rattle.sg_protocol.specs.Texts.{Hash, commitment}
use Rattle.sg_protocol.specs.Keyring.{Keyring, Program}
use Rattle.sg_protocol.specs.Session.{Session, Took, Gave, new_session, items_of, transcript, own_part, origin, place, at_turn, last_label, committed, opening_in, known, extended}
use Rattle.sg_protocol.specs.Sending.{own_item}
use Rattle.sg_protocol.specs.Kept.{kept}
use Rattle.sg_protocol.specs.Verdict.{seen, has_kind, is_right}
use Rattle.sg_protocol.specs.Acting.{leaves}
use Rattle.sg_protocol.specs.IsSchedule.{IsProgram}
use Rattle.sg_protocol.specs.Following.{IsOpened, FollowsWalk, IsFollowed, IsOpenedIn, KeptFollowsWalks}
use Rattle.sg_protocol.proofs.Paths.{flat_map-append}
use Rattle.sg_protocol.proofs.Bridge.{labels-view_of, has_view-Contains, up_to_last-after}
use Rattle.sg_protocol.proofs.Entries.{Wal, Roles, view_ends, seen_labels, has-after_last, walked_after, edges_same}
use Rattle.sg_protocol.proofs.Moves.{writes_below, sender_last}
use Rattle.sg_protocol.proofs.Takes.{Rows, rows_of, all_roles, same_some}
use Rattle.sg_protocol.proofs.SeenItems.{in_merge, in_rising}
use Rattle.sg_protocol.proofs.Ends.{committed-append, last_opening-append}
use Rattle.sg_protocol.proofs.Known.{knows_more, knows_past, unlearned, opening_there, opening_not, opening_all, value_of_opening, value_none}

-- ---- lists

get_range : {A : Type 0} (f : ℕ → A) (d : A) (k j x : ℕ) → x < j → get_or (map f (range_from k j)) x d ≡ f (k + x)
get_range f d k zero x l = absurd (omega (arith, l))
get_range f d k (suc j) zero l = ap f (omega arith)
get_range f d k (suc j) (suc x) l = (get_range f d (suc k) j x (omega (arith, l))) ∙ ap f (omega arith)

pub get_below : {A : Type 0} (f : ℕ → A) (d : A) (n x : ℕ) → x < n → get_or (map f (below n)) x d ≡ f x
get_below f d n x l = get_range f d 0 n x l ∙ ap f (omega arith)

-- if some element from the last one that passes on is found, one passes
from_some : {A : Type 0} (f p : A → Bool) (xs : List A) → list_any f (from_last p xs) ≡ true → (y : A) × (p y ≡ true)
from_some f p [] h = absurd (cc)
from_some f p (x ∷ xs) h = elim (cases_Bool (list_any p xs)) [
  | inl e ↦ from_some f p xs (rw e at h)
  | inr e ↦ elim (cases_Bool (p x)) [
    | inl d ↦ (x, d)
    | inr d ↦ absurd (let n : false ≡ true = rw (e, d) at h in cc)
  ]
]

-- what is known was written, so it is a variable of the graph
pub knows_below : (g : Graph) → IsGraph g → (r x : ℕ) (w : List ℕ) → knows g r x w ≡ true → x < length g.variables
knows_below g is r x w h = let y = from_some (learns g r x) (λ e. is_in x (writes g e)) w h in below_in (length g.variables) x (writes g y.0) (writes_below g is y.0) y.1

-- ---- what a session holds of a variable

pub record Opened (sha : Hash) (s : Session) (x : ℕ) : Type 0 where
  pub opening : Opening
  pub variable : opening.variable ≡ x
  pub is_known : known s x ≡ Some opening
  pub current : committed x (transcript s) ≡ Some (commitment sha s.sid opening)

pub to_kept : (sha : Hash) (g : Graph) (s : Session) (x : ℕ) → x < length g.variables → Opened sha s x → IsOpened sha s.sid (kept g s) x
to_kept sha g s x l o = record {
  opening = o.opening;
  variable = o.variable;
  is_kept = get_below (known s) None (length g.variables) x l ∙ o.is_known;
  current = get_below (λ x. committed x (transcript s)) None (length g.variables) x l ∙ o.current;
}

pub of_kept : (sha : Hash) (g : Graph) (s : Session) (x : ℕ) → x < length g.variables → IsOpened sha s.sid (kept g s) x → Opened sha s x
of_kept sha g s x l o = record {
  opening = o.opening;
  variable = o.variable;
  is_known = sym (get_below (known s) None (length g.variables) x l) ∙ o.is_kept;
  current = sym (get_below (λ x. committed x (transcript s)) None (length g.variables) x l) ∙ o.current;
}

-- ---- a new session

pub new_follows : (sha : Hash) (g : Graph) (sid : List ℕ) (c : Cast) (r : ℕ) (turn : Bool) → FollowsWalk sha g sid r turn (kept g (new_session sid c r))
new_follows sha g sid c r turn = record { walk = []; follows = tt; own_last = refl; at_place = λ e. refl; at_own = λ e. refl; opened = λ x h. absurd (cc) }

-- ---- a step of its own

module _ (sha : Hash) (g : Graph) (acc : Accepted g) (s : Session) (label : ℕ) (turn : at_turn g s ≡ true) (leave : leaves g s label ≡ true) where
  edge : label < length g.edges
  edge = let q = (and_parts (nat_lt label (length g.edges)) (source (shape g) label == place g s) leave).0 in grind (arith, nat_tests, q)

  at : source (shape g) label ≡ place g s
  at = eqb-true (source (shape g) label) (place g s) (and_parts (nat_lt label (length g.edges)) (source (shape g) label == place g s) leave).1

  by_s : sender (shape g) label ≡ s.role
  by_s = ap (role_at (shape g)) at ∙ eqb-true (role_at (shape g) (place g s)) s.role turn

  pub not_me : receiver (shape g) label ≢ s.role
  not_me q = acc.no_self_edge label edge (by_s ∙ sym q)

  apart : (receiver (shape g) label == s.role) ≡ false
  apart = ne_eqb (receiver (shape g) label) s.role not_me

  -- what the edge does not write the role does not learn along it
  not_learnt : (x : ℕ) → is_in x (writes g label) ≡ false → learns g s.role x label ≡ false
  not_learnt x h = or_from _ _ (and_right (sender (shape g) label == s.role) (is_in x (writes g label)) h) (ap (λ b. b && is_in x (reads g label)) apart)

  module _ (written : List Opening) (i : Item) (role : i.role ≡ s.role) (lab : i.label ≡ label) where
    abbrev now : Session
    now = extended s (Gave i written)

    transcript_now : transcript now ≡ transcript s ++ i ∷ []
    transcript_now = flat_map-append items_of s.exchanges (Gave i written ∷ [])

    upto_now : own_part now ≡ transcript s ++ i ∷ []
    upto_now = ap (up_to_last (λ (i : Item). i.role) s.role) transcript_now ∙ upto-at (λ (i : Item). i.role) s.role (transcript s) i [] role refl

    pub own_part_now : own_part now ≡ transcript now
    own_part_now = upto_now ∙ sym transcript_now

    origin_now : origin now ≡ Some label
    origin_now = ap last_label upto_now ∙ ap (option_map (λ (i : Item). i.label)) (last-append (transcript s) i []) ∙ ap (λ l. Some l) lab

    place_now : place g now ≡ target (shape g) label
    place_now = ap (λ l. unwrap_or (option_map (target (shape g)) (last_label l)) 0) transcript_now ∙ ap (λ o. unwrap_or (option_map (target (shape g)) (option_map (λ (i : Item). i.label) o)) 0) (last-append (transcript s) i []) ∙ ap (target (shape g)) lab

    pub waits_now : at_turn g now ≡ false
    waits_now = ap (λ n. role_at (shape g) n == s.role) place_now ∙ apart

  module _ (is : IsGraph g) (fo : IsFollowed sha g s) where
    further : Walk (shape g) 0 (fo.walk ++ label ∷ [])
    further = walk_join (shape g) 0 fo.walk (label ∷ []) fo.follows ((let l = edge in omega (arith, l, edges_same g)), at ∙ sym (fo.at_place turn), tt)

    known_before : (x : ℕ) → is_in x (writes g label) ≡ false → knows g s.role x (fo.walk ++ label ∷ []) ≡ true → knows g s.role x fo.walk ≡ true
    known_before x h k = (knows_more g s.role x fo.walk label k (not_learnt x h)).0

    known_read : (x : ℕ) → is_in x (writes g label) ≡ false → is_in x (reads g label) ≡ true → knows g s.role x fo.walk ≡ true
    known_read x e h = known_before x e (subst (λ r. knows g r x (fo.walk ++ label ∷ []) ≡ true) by_s (acc.reads_known fo.walk label x further h))

    pub keeps_reads : (x : ℕ) → is_in x (reads g label) ≡ true → (is_in x (writes g label) ≡ true) ⊎ IsOpened sha s.sid (kept g s) x
    keeps_reads x h = elim (cases_Bool (is_in x (writes g label))) [ inl e ↦ inl e | inr e ↦ inr (fo.opened x (known_read x e h)) ]

    module _ (written : List Opening) (names : map (λ (o : Opening). o.variable) written ≡ writes g label) (i : Item) (role : i.role ≡ s.role) (lab : i.label ≡ label)
        (delta : i.delta ≡ map (λ (o : Opening). (o.variable, commitment sha s.sid o)) written) where
      value_now : (x : ℕ) → value_at i.delta x ≡ option_map (commitment sha s.sid) (opening_in written x)
      value_now x = ap (λ m. value_at m x) delta ∙ value_of_opening (commitment sha s.sid) written x

      committed_now : (x : ℕ) → committed x (transcript s ++ i ∷ []) ≡ option_or (option_map (commitment sha s.sid) (opening_in written x)) (committed x (transcript s))
      committed_now x = committed-append x (transcript s) (i ∷ []) ∙ ap (λ c. option_or c (committed x (transcript s))) (value_now x)

      -- a written variable
      written_now : (x : ℕ) → is_in x (writes g label) ≡ true → (o : Opening) × (opening_in written x ≡ Some o) × (o.variable ≡ x) × (committed x (transcript s ++ i ∷ []) ≡ Some (commitment sha s.sid o))
      written_now x h =
          let o = opening_there written x (ap (is_in x) names ∙ h) in
          (o.0, o.1, o.2, committed_now x ∙ ap (λ z. option_or (option_map (commitment sha s.sid) z) (committed x (transcript s))) o.1)

      -- another variable
      other_now : (x : ℕ) → is_in x (writes g label) ≡ false → (opening_in written x ≡ None) × (committed x (transcript s ++ i ∷ []) ≡ committed x (transcript s))
      other_now x h =
          let n = opening_not written x (ap (is_in x) names ∙ h) in
          (n, committed_now x ∙ ap (λ z. option_or (option_map (commitment sha s.sid) z) (committed x (transcript s))) n)

      opened_now : (x : ℕ) → knows g s.role x (fo.walk ++ label ∷ []) ≡ true → Opened sha (extended s (Gave i written)) x
      opened_now x k = elim (cases_Bool (is_in x (writes g label))) [
        | inl h ↦ (let w = written_now x h in record {
          opening = w.0;
          variable = w.2;
          is_known = last_opening-append x s.exchanges (Gave i written) ∙ ap (λ o. option_or o (known s x)) w.1;
          current = ap (committed x) (transcript_now written i role lab) ∙ w.3;
        })
        | inr h ↦ (
            let n = other_now x h in
            let k' = known_before x h k in
            let old = of_kept sha g s x (knows_below g is s.role x fo.walk k') (fo.opened x k') in
            record {
              opening = old.opening;
              variable = old.variable;
              is_known = last_opening-append x s.exchanges (Gave i written) ∙ ap (λ o. option_or o (known s x)) n.0 ∙ old.is_known;
              current = ap (committed x) (transcript_now written i role lab) ∙ n.1 ∙ old.current;
            })
      ]

      pub gives_follows : IsFollowed sha g (extended s (Gave i written))
      gives_follows = record {
        walk = fo.walk ++ label ∷ [];
        follows = further;
        own_last = ap last (upto-at (sender (shape g)) s.role fo.walk label [] by_s refl) ∙ last-append fo.walk label [] ∙ sym (origin_now written i role lab);
        at_place = λ e. end_of-append (shape g) 0 fo.walk (label ∷ []) ∙ sym (place_now written i role lab);
        at_own = λ e. last-append fo.walk label [] ∙ sym (origin_now written i role lab);
        opened = λ x k. to_kept sha g (extended s (Gave i written)) x (knows_below g is s.role x (fo.walk ++ label ∷ []) k) (opened_now x k);
      }

      opens_reads : (x : ℕ) → is_in x (reads g label) ≡ true → IsOpenedIn sha s written (transcript s ++ i ∷ []) x
      opens_reads x r = elim (cases_Bool (is_in x (writes g label))) [
        | inl h ↦ (let w = written_now x h in record { opening = w.0; variable = w.2; is_sent = ap (λ o. option_or o (known s x)) w.1; current = w.3 })
        | inr h ↦ (
            let n = other_now x h in
            let k = known_read x h r in
            let old = of_kept sha g s x (knows_below g is s.role x fo.walk k) (fo.opened x k) in
            record { opening = old.opening; variable = old.variable; is_sent = ap (λ o. option_or o (known s x)) n.0 ∙ old.is_known; current = n.1 ∙ old.current })
      ]

-- ---- what is seen of steps that do not write a variable

abbrev Unwritten : ℕ → Wal → Type 0
Unwritten x e = is_in x (keys_of e.writes) ≡ false

carry_unwritten : (x : ℕ) (m : Map (Unit {0})) (es : List Wal) → is_in x (keys_of m) ≡ false → AllByRecursion (Unwritten x) es → AllByRecursion (Unwritten x) (carry m es)
carry_unwritten x m [] h a = tt
carry_unwritten x m (e ∷ es) h a = (in_merge x m e.writes ∙ or_from _ _ h a.0, a.1)

evidence_unwritten : (x : ℕ) (role : ℕ → ℕ) (es : List Wal) → AllByRecursion (Unwritten x) es → AllByRecursion (Unwritten x) (evidence role es)
evidence_unwritten x role [] a = tt
evidence_unwritten x role (e ∷ es) a = elim (cases_Bool (has (λ (y : Wal). role y.step) (role e.step) es)) [
  | inl d ↦ rw d (carry_unwritten x e.writes (evidence role es) a.0 (evidence_unwritten x role es a.1))
  | inr d ↦ rw d (a.0, evidence_unwritten x role es a.1)
]

walked_unwritten : (g : Graph) (x : ℕ) (es : List ℕ) → list_any (λ e. is_in x (writes g e)) es ≡ false → AllByRecursion (Unwritten x) (walked g es)
walked_unwritten g x [] h = tt
walked_unwritten g x (e ∷ es) h = elim (cases_Bool (is_in x (writes g e))) [
  | inl d ↦ absurd (let f : true ≡ false = rw d at h in cc)
  | inr d ↦ (ap (is_in x) (keys_of_pairs (λ x. tt) (writes g e)) ∙ d, walked_unwritten g x es (rw d at h))
]

none_seen : (n x : ℕ) → x < n → (is : List Item) (ws : List Wal) → map seen is ≡ map (λ (w : Wal). record { label = w.step; delta = rising n (keys_of w.writes) }) ws → AllByRecursion (Unwritten x) ws → committed x is ≡ None
none_seen n x l [] ws e a = refl
none_seen n x l (i ∷ is) [] e a = absurd (cc)
none_seen n x l (i ∷ is) (w ∷ ws) e a =
    let one : seen i ≡ record { label = w.step; delta = rising n (keys_of w.writes) } = cc in
    let rest : map seen is ≡ map (λ (w : Wal). record { label = w.step; delta = rising n (keys_of w.writes) }) ws = cc in
    rw (none_seen n x l is ws rest a.1) (value_none i.delta x (ap (λ (z : Seen). is_in x z.delta) one ∙ in_rising n (keys_of w.writes) x l ∙ a.0))

-- ---- an accepted frame

-- if no item is of a role, the last is not
last_free : (k : ℕ) (xs : List Item) (i : Item) → has (λ (i : Item). i.role) k xs ≡ false → last xs ≡ Some i → i.role ≢ k
last_free k [] i h e same = absurd (cc)
last_free k (x ∷ []) i h e same = absurd (let q : x ≡ i = cc in let t : (x.role == k) ≡ true = eq-eqb x.role k (ap (λ (i : Item). i.role) q ∙ same) in let f = (or_parts (x.role == k) false h).0 in let c : true ≡ false = sym t ∙ f in cc)
last_free k (x ∷ y ∷ ys) i h e same = last_free k (y ∷ ys) i (or_parts (x.role == k) (has (λ (i : Item). i.role) k (y ∷ ys)) h).1 e same

module _ (sha : Hash) (keys : Keyring) (p : Program) (ip : IsProgram sha p) (s : Session) (f : Frame) (mine : p.role ≡ s.role) (rows : Rows sha keys p s f) where
  abbrev g' : Graph
  g' = p.graph

  abbrev v : View
  v = record { origin = origin s; items = map seen f.items }

  views : IsViewTable g' s.role p.views
  views = subst (λ r. IsViewTable p.graph r p.views) mine ip.views

  abbrev viewed : IsView g' s.role v
  viewed = (views.each v).0 (has_view-Contains p.views v rows.viewed)

  abbrev prefix : List ℕ
  prefix = up_to_last (sender (shape g')) s.role viewed.walk

  abbrev since : List ℕ
  since = after_last (sender (shape g')) s.role viewed.walk

  parts : prefix ++ since ≡ viewed.walk
  parts = up_to_last-after (sender (shape g')) s.role viewed.walk

  no_own : has (sender (shape g')) s.role since ≡ false
  no_own = has-after_last (sender (shape g')) s.role viewed.walk

  last_item : (i : Item) × (last f.items ≡ Some i) × (i.role ≡ f.sender)
  last_item = sender_last f rows.by_sender

  labels_seen : map (λ (i : Item). i.label) f.items ≡ last_of (sender (shape g')) since
  labels_seen = sym (seen_labels f.items) ∙ ap (λ (z : View). map (λ (s : Seen). s.label) z.items) (sym viewed.seen) ∙ labels-view_of g' s.role viewed.walk

  since_last : last since ≡ Some (last_item.0).label
  since_last = sym (last-last_of (sender (shape g')) since) ∙ ap last (sym labels_seen) ∙ last-option_map (λ (i : Item). i.label) f.items ∙ ap (option_map (λ (i : Item). i.label)) last_item.1

  none_own : has (λ (i : Item). i.role) s.role f.items ≡ false
  none_own = go f.items (all_roles (shape g') f.items rows.senders) ∙ ap (has (sender (shape g')) s.role) labels_seen ∙ has-last_of (sender (shape g')) s.role since ∙ no_own
    where
      go : (is : List Item) → Roles (shape g') is → has (λ (i : Item). i.role) s.role is ≡ has (sender (shape g')) s.role (map (λ (i : Item). i.label) is)
      go [] r = refl
      go (i ∷ is) r = ap (λ z. (z == s.role) || has (λ (i : Item). i.role) s.role is) r.0 ∙ ap (λ b. (sender (shape g') i.label == s.role) || b) (go is r.1)

  abbrev later : Session
  later = extended s (Took f)

  transcript_later : transcript later ≡ transcript s ++ f.items
  transcript_later = flat_map-append items_of s.exchanges (Took f ∷ []) ∙ ap (λ l. transcript s ++ l) (append-nil f.items)

  origin_later : origin later ≡ origin s
  origin_later = ap last_label (ap (up_to_last (λ (i : Item). i.role) s.role) transcript_later ∙ upto-more (λ (i : Item). i.role) s.role (transcript s) f.items none_own)

  last_later : last (transcript later) ≡ Some last_item.0
  last_later = ap last transcript_later ∙ last-append_some (transcript s) f.items last_item.0 last_item.1

  pub other_later : IfSome (last (transcript later)) (λ (i : Item). i.role ≢ s.role)
  other_later = subst (λ o. IfSome o (λ (i : Item). i.role ≢ s.role)) (sym last_later) (last_free s.role f.items last_item.0 none_own last_item.1)

  place_later : place g' later ≡ end_of (shape g') 0 viewed.walk
  place_later = ap (λ o. unwrap_or (option_map (target (shape g')) (option_map (λ (i : Item). i.label) o)) 0) last_later ∙ sym (view_ends g' s.role v viewed f.items last_item.0 refl last_item.1)

  pub turn_later : at_turn g' later ≡ true
  turn_later = eq-eqb (role_at (shape g') (place g' later)) s.role (ap (role_at (shape g')) place_later ∙ viewed.ends)

  variables_are : map (λ (o : Opening). o.variable) f.openings ≡ reads g' (last_item.0).label
  variables_are = same_bytes _ _ rows.variables ∙ ap (λ o. option_map_or (reads g') (option_map (λ (i : Item). i.label) o) []) last_item.1

  committed_later : (x : ℕ) → committed x (transcript later) ≡ option_or (committed x f.items) (committed x (transcript s))
  committed_later x = ap (committed x) transcript_later ∙ committed-append x (transcript s) f.items

  known_later : (x : ℕ) → known later x ≡ option_or (opening_in f.openings x) (known s x)
  known_later x = last_opening-append x s.exchanges (Took f)

  unseen : (x : ℕ) → x < length g'.variables → list_any (λ e. is_in x (writes g' e)) since ≡ false → committed x f.items ≡ None
  unseen x l h = none_seen (length g'.variables) x l f.items (evidence_for (sender (shape g')) s.role (walked g' viewed.walk)) (ap (λ (z : View). z.items) (sym viewed.seen))
      (subst (λ es. AllByRecursion (Unwritten x) (evidence (sender (shape g')) es)) (sym (walked_after g' s.role viewed.walk)) (evidence_unwritten x (sender (shape g')) (walked g' since) (walked_unwritten g' x since h)))

  module _ (waits : own_part s ≡ transcript s) (fo : FollowsWalk sha p.graph s.sid s.role false (kept p.graph s)) where
    -- the view's walk and the role's own come to one node by the role's own last step
    same_end : end_of (shape g') 0 prefix ≡ end_of (shape g') 0 fo.walk
    same_end = end_of_same (shape g') 0 prefix fo.walk (ap (λ (z : View). z.origin) viewed.seen ∙ sym (fo.at_own refl))

    since_walk : Walk (shape g') (end_of (shape g') 0 fo.walk) since
    since_walk = subst (λ n. Walk (shape g') n since) same_end (walk-append (shape g') 0 prefix since (subst (Walk (shape g') 0) (sym parts) viewed.follows)).1

    end_now : end_of (shape g') 0 (fo.walk ++ since) ≡ end_of (shape g') 0 viewed.walk
    end_now = end_of-append (shape g') 0 fo.walk since ∙ ap (λ n. end_of (shape g') n since) (sym same_end) ∙ sym (end_of-append (shape g') 0 prefix since) ∙ ap (end_of (shape g') 0) parts

    opened_later : (x : ℕ) → knows g' s.role x (fo.walk ++ since) ≡ true → Opened sha later x
    opened_later x k = elim (cases_Bool (is_in x (reads g' (last_item.0).label))) [
      | inl h ↦ (
          let o = opening_there f.openings x (ap (is_in x) variables_are ∙ h) in
          let right : is_right sha g' s f o.0 ≡ true = opening_all (λ (o : Opening). is_right sha g' s f o ≡ true) f.openings x o.0 (all_tests (is_right sha g' s f) f.openings rows.openings) o.1 in
          let opens = same_some _ (commitment sha s.sid o.0) (and_parts (has_kind g' o.0) _ right).1 in
          record {
            opening = o.0;
            variable = o.2;
            is_known = known_later x ∙ ap (λ z. option_or z (known s x)) o.1;
            current = ap (committed x) transcript_later ∙ ap (λ l. committed x (l ++ f.items)) (sym waits) ∙ ap (λ z. committed z (own_part s ++ f.items)) (sym o.2) ∙ opens;
          })
      | inr h ↦ (
          let none = unlearned g' s.role x (end_of (shape g') 0 fo.walk) since since_walk no_own (subst (λ o. IfSome o (λ e. is_in x (reads g' e) ≡ false)) (sym since_last) h) in
          let kp = knows_past g' s.role x fo.walk since none k in
          let l = knows_below p.graph ip.is_graph s.role x fo.walk kp.0 in
          let old = of_kept sha g' s x l (fo.opened x kp.0) in
          record {
            opening = old.opening;
            variable = old.variable;
            is_known = known_later x ∙ ap (λ z. option_or z (known s x)) (opening_not f.openings x (ap (is_in x) variables_are ∙ h)) ∙ old.is_known;
            current = committed_later x ∙ ap (λ z. option_or z (committed x (transcript s))) (unseen x l kp.1) ∙ old.current;
          })
    ]

    pub takes_follows : IsFollowed sha g' later
    takes_follows = record {
      walk = fo.walk ++ since;
      follows = walk_join (shape g') 0 fo.walk since fo.follows since_walk;
      own_last = ap last (upto-more (sender (shape g')) s.role fo.walk since no_own) ∙ fo.own_last ∙ sym origin_later;
      at_place = λ e. end_now ∙ sym place_later;
      at_own = λ e. absurd (let t = turn_later in let c : true ≡ false = sym t ∙ e in cc);
      opened = λ x k. to_kept sha g' later x (knows_below p.graph ip.is_graph s.role x (fo.walk ++ since) k) (opened_later x k);
    }

-- ---- the laws

pub kept_follows_walks : (sha : Hash) → KeptFollowsWalks sha
kept_follows_walks sha = record {
  begins = new_follows sha;
  gives = λ keys p s label written is acc turn leave names fo. (
    gives_follows sha p.graph acc s label turn leave is fo written names (own_item sha keys p s label written) refl refl refl,
    waits_now sha p.graph acc s label turn leave written (own_item sha keys p s label written) refl refl,
  );
  takes = λ keys p s f ip mine waits fo none. let rows = rows_of sha keys p s f none in (takes_follows sha keys p ip s f mine rows waits fo, turn_later sha keys p ip s f mine rows);
  keeps_reads = λ g s label x is acc turn leave fo h. keeps_reads sha g acc s label turn leave is fo x h;
  opens_reads = λ keys p s label written x is acc turn leave names fo h. opens_reads sha p.graph acc s label turn leave is fo written names (own_item sha keys p s label written) refl refl refl x h;
}
