-- A frame that shows what was done since a role's last step meets every row.
use Rattle.std.specs.Prelude.{◌≡◌, ◌≢◌, ℕ, ◌+◌, ◌<◌, ◌==◌, nat_lt, ◌⊎◌, true, false, not, List, [], ◌∷◌, ◌++◌, map, filter, find, position, length, refl, Option, Some, None, option_map, unwrap_or, IfSome, bytes_eq}
use Rattle.std.specs.List.{AllByRecursion, list_all}
use Rattle.std.specs.Option.{option_or, option_map_or}
use Rattle.std.proofs.Common.{sym, ◌∙◌, ap, subst, inl, inr, arith, append_assoc, append-nil}
use Rattle.std.proofs.lemmas.Bool.{cases_Bool, eq-eqb, and_from, lt-ltb}
use Rattle.std.proofs.lemmas.List.{map-append}
use Rattle.std.proofs.lemmas.Slice.Eq.{bytes_eq-Decides}
use Rattle.std.proofs.lemmas.List.Elements.{filter_agree}
use Rattle.sg_model.specs.Last.{Map, merge, has, last, after_last, up_to_last}
use Rattle.sg_model.specs.Lists.{value_at, in_order, keys_of, is_in, same_text, first_some}
use Rattle.sg_model.specs.Shape.{Walk, end_of, role_at, target, sender, receiver}
use Rattle.sg_model.specs.Values.{Opening}
use Rattle.sg_model.proofs.Small.{clash, bytes_refl, cases_Option, all-right, no_last, first_false, second_false, keys_of_pairs}
use Rattle.sg_protocol.specs.Graph.{Graph, IsGraph, shape, writes, reads}
use Rattle.sg_protocol.specs.Evidence.{IsView, IsViewTable, has_view}
use Rattle.sg_protocol.specs.Targets.{IsTargetTable}
use Rattle.sg_protocol.specs.Frame.{Cast, Item, Frame}
use Rattle.sg_protocol.specs.Texts.{Hash, commitment, cut, hmac, item_text_of}
use Rattle.sg_protocol.specs.Keyring.{Keyring, Program, targets_of}
use Rattle.sg_protocol.specs.Schedule.{PairKey}
use Rattle.sg_protocol.specs.World.{keyring_of}
use Rattle.sg_protocol.specs.Session.{Session, principal, transcript, own_part, own_time, origin, at_turn, last_label, committed, commitments}
use Rattle.sg_protocol.specs.Sending.{tag_for, text_to, text_of}
use Rattle.sg_protocol.specs.Checks.{checked_texts, texts_checked, shown_commitments}
use Rattle.sg_protocol.specs.Calls.{BadFrameTag, NoSuchView, BadEvidence, BadOpening}
use Rattle.sg_protocol.specs.Verdict.{row, seen, has_right_tags, is_shown, has_frame_tag, bad_time, has_item_tag, has_kind, is_right, rows_of_session}
use Rattle.sg_protocol.specs.LastSteps.{bare}
use Rattle.sg_law.specs.Run as R
use Rattle.sg_law.proofs.Times as Times
use Rattle.sg_law.proofs.Cut as Cut'
use Rattle.sg_law.proofs.Upto as Upto'
use Rattle.sg_law.proofs.Lists.{last-append}
use Rattle.sg_law.proofs.Lists as Lists'
use Rattle.sg_protocol.proofs.LiveSessions.{key_same}
use Rattle.sg_law.proofs.Walks.{walk-append, end_of-append}
use Rattle.sg_protocol.proofs.Entries.{Roles, edges_same}
use Rattle.sg_protocol.proofs.Moves.{step}
use Rattle.sg_protocol.proofs.Reduced.{by_role, tags_but, lead, left_by, reduced, has-reduced, lead-lead, committed_reduced}
use Rattle.sg_protocol.proofs.KeptLaws.{value_at-in_order}
use Rattle.sg_law.proofs.Com.{value_at-merge, option_or-assoc}
use Rattle.sg_protocol.proofs.Ends.{below_same, committed-append, labels, last_bare, same_last, committed_same, after_all}
use Rattle.sg_protocol.proofs.Relay.{tag_said, TagsOk, StepsOk, OpensAt, RelayOk}
use Rattle.sg_protocol.proofs.SeenItems.{view_is, view_there}
use Rattle.sg_protocol.proofs.RowLemmas.{all_position, all_find, tags_keys, tag_kept, tag_there, lead_nil, roles_reduced, roles_test, rises_reduced, times_good, last_of_role, none5}

module _ (sha : Hash) (keys : List PairKey) (sid : List ℕ) (cast : Cast) (targets : ℕ → List ℕ) (p : Program) (x : Session) (f : Frame) (done before : List Item) (item : Item) (me : Keyring)
    (is : IsGraph p.graph) (so : StepsOk sha keys sid cast targets p.graph done) (k : RelayOk sha keys sid cast targets p.graph done x) (wait : at_turn p.graph x ≡ false) (views : IsViewTable p.graph x.role p.views) (table : IsTargetTable p.graph p.targets) (same_targets : (e : ℕ) → targets_of p e ≡ targets e)
    (same_sid : x.sid ≡ sid) (same_cast : x.cast ≡ cast) (me_is : me ≡ keyring_of keys (principal cast x.role)) (pairs : AllByRecursion (λ (k : PairKey). k.one ≢ k.two) keys)
    (done_is : done ≡ before ++ item ∷ []) (items_are : f.items ≡ reduced p.graph (after_last by_role f.receiver done)) (role_is : f.receiver ≡ x.role) (receives : receiver (shape p.graph) item.label ≡ x.role) (sender_is : f.sender ≡ item.role) (apart : item.role ≢ x.role)
    (opened : (map (λ (o : Opening). o.variable) f.openings ≡ reads p.graph item.label) × AllByRecursion (OpensAt sha keys sid cast targets p.graph done) f.openings)
    (tag_is : f.tag ≡ tag_for sha (keyring_of keys (principal cast f.sender)) cast f.receiver (text_of f)) (small : f.sender < length cast.names) (role_small : x.role < length p.graph.roles) (reads_small : (e v : ℕ) → is_in v (reads p.graph e) ≡ true → v < length p.graph.variables) where
  abbrev g : Graph
  g = p.graph

  since_is : after_last by_role f.receiver done ≡ k.since
  since_is = ap (λ r. after_last by_role r done) role_is ∙ ap (after_last by_role x.role) k.parts ∙ after_all x.role k.past k.since (k.waits wait) k.none

  items_since : f.items ≡ reduced g k.since
  items_since = items_are ∙ ap (reduced g) since_is

  last_done : last done ≡ Some item
  last_done = ap last done_is ∙ last-append before item []

  last_since : last k.since ≡ Some item
  last_since = go (cases_Option (last k.since))
    where
      go : (last k.since ≡ None) ⊎ ((i : Item) × (last k.since ≡ Some i)) → last k.since ≡ Some item
      go (inl e) =
          let n : k.since ≡ [] = no_last k.since e in
          let l : last k.past ≡ Some item = ap last (sym (k.parts ∙ ap (λ z. k.past ++ z) n ∙ append-nil k.past)) ∙ last_done in
          absurd (apart (subst (λ o. IfSome o (λ (i : Item). i.role ≡ x.role)) l (k.waits wait)))
      go (inr e) = e.1 ∙ sym (Lists'.last-append_some k.past k.since e.0 e.1) ∙ ap last (sym k.parts) ∙ last_done

  roles_since : Roles (shape g) k.since
  roles_since = all-right (λ (i : Item). i.role ≡ sender (shape g) i.label) k.past k.since (subst (Roles (shape g)) k.parts so.roles)

  keys_since : AllByRecursion (λ (i : Item). keys_of i.delta ≡ writes g i.label) k.since
  keys_since = all-right (λ (i : Item). keys_of i.delta ≡ writes g i.label) k.past k.since (subst (AllByRecursion (λ (i : Item). keys_of i.delta ≡ writes g i.label)) k.parts so.delta_keys)

  tags_since : TagsOk sha keys sid cast targets g k.past k.since
  tags_since = go [] k.past k.since (subst (TagsOk sha keys sid cast targets g []) k.parts so.tags)
    where
      go : (b xs ys : List Item) → TagsOk sha keys sid cast targets g b (xs ++ ys) → TagsOk sha keys sid cast targets g (b ++ xs) ys
      go b [] ys h = subst (λ l. TagsOk sha keys sid cast targets g l ys) (sym (append-nil b)) h
      go b (i ∷ xs) ys h = subst (λ l. TagsOk sha keys sid cast targets g l ys) (append_assoc b (i ∷ []) xs) (go (b ++ i ∷ []) xs ys h.1)

  -- what the role holds of its own part is its transcript
  own_part_is : own_part x ≡ transcript x
  own_part_is = last_of_role x.role (transcript x) (same (last (transcript x)) refl)
    where
      same : (o : Option Item) → last (transcript x) ≡ o → IfSome o (λ (i : Item). i.role ≡ x.role)
      same None e = tt
      same (Some i) e = go (cases_Option (last k.past))
        where
          bares : option_map bare (last k.past) ≡ Some (bare i)
          bares = sym (same_last g (transcript x) k.past k.held) ∙ ap (option_map bare) e

          go : (last k.past ≡ None) ⊎ ((j : Item) × (last k.past ≡ Some j)) → i.role ≡ x.role
          go (inl q) = absurd (let z : None ≡ Some (bare i) = sym (ap (option_map bare) q) ∙ bares in cc)
          go (inr q) =
              let z : Some (bare q.0) ≡ Some (bare i) = sym (ap (option_map bare) q.1) ∙ bares in
              let z' : bare q.0 ≡ bare i = cc in
              sym (ap (λ b. b.role) z') ∙ subst (λ o. IfSome o (λ (j : Item). j.role ≡ x.role)) q.1 (k.waits wait)

  own_committed : (v : ℕ) → v < length g.variables → committed v (own_part x) ≡ committed v k.past
  own_committed v l = ap (committed v) own_part_is ∙ committed_same g (transcript x) k.past k.held v l

  -- ---- the frame's tag

  key_pair : (a : ℕ) (text : List ℕ) → tag_for sha me cast a text ≡ tag_for sha (keyring_of keys (principal cast a)) cast x.role text
  key_pair a text = ap (λ (m : Keyring). tag_for sha m cast a text) me_is ∙ ap (λ o. cut cast.version (hmac sha (unwrap_or o []) text)) (key_same keys pairs (principal cast x.role) (principal cast a))

  frame_tag_ok : has_frame_tag sha me x f ≡ true
  frame_tag_ok =
      and_from (nat_lt f.sender (length x.cast.names)) (bytes_eq (tag_for sha me x.cast f.sender (text_of f)) f.tag) (subst (λ (c : Cast). nat_lt f.sender (length c.names) ≡ true) (sym same_cast) (lt-ltb f.sender (length cast.names) small))
      ((bytes_eq-Decides (tag_for sha me x.cast f.sender (text_of f)) f.tag).1 (ap (λ c. tag_for sha me c f.sender (text_of f)) same_cast ∙ key_pair f.sender (text_of f) ∙ ap (λ r. tag_for sha (keyring_of keys (principal cast f.sender)) cast r (text_of f)) (sym role_is) ∙ sym tag_is))

  -- ---- the form of the frame

  last_shown : (j : Item) × (last f.items ≡ Some j) × (bare j ≡ bare item)
  last_shown = go (cases_Option (last (reduced g k.since)))
    where
      bares : option_map bare (last (reduced g k.since)) ≡ Some (bare item)
      bares = last_bare g k.since ∙ ap (option_map bare) last_since

      go : (last (reduced g k.since) ≡ None) ⊎ ((j : Item) × (last (reduced g k.since) ≡ Some j)) → (j : Item) × (last f.items ≡ Some j) × (bare j ≡ bare item)
      go (inl q) = absurd (let z : None ≡ Some (bare item) = sym (ap (option_map bare) q) ∙ bares in cc)
      go (inr q) = let z : Some (bare q.0) ≡ Some (bare item) = sym (ap (option_map bare) q.1) ∙ bares in (q.0, ap last items_since ∙ q.1, (let z' : bare q.0 ≡ bare item = cc in z'))

  labels_done : labels done ≡ labels before ++ item.label ∷ []
  labels_done = ap labels done_is ∙ map-append (λ (i : Item). i.label) before (item ∷ [])

  ends_there : role_at (shape g) (end_of (shape g) 0 (labels done)) ≡ x.role
  ends_there = ap (λ l. role_at (shape g) (end_of (shape g) 0 l)) labels_done ∙ ap (role_at (shape g)) (end_of-append (shape g) 0 (labels before) (item.label ∷ [])) ∙ receives

  pub viewed : IsView g x.role (record { origin = origin x; items = map seen f.items })
  viewed = record {
    walk = labels done;
    follows = so.walk;
    moves = λ e. no_end (labels before) item.label (sym labels_done ∙ e);
    ends = ends_there;
    seen = view_is g x.role done so.roles (subst (AllByRecursion (λ (i : Item). keys_of i.delta ≡ writes g i.label)) (sym since_x) keys_since) (subst (Roles (shape g)) (sym since_x) roles_since)
        ∙ ap (λ l. record { origin = option_map (λ (i : Item). i.label) (last (up_to_last by_role x.role done)); items = map seen (reduced g l) }) since_x
        ∙ ap (λ o. record { origin = option_map (λ (i : Item). i.label) o; items = map seen (reduced g k.since) }) (ap (λ l. last (up_to_last by_role x.role l)) k.parts ∙ ap last (Upto'.upto-more by_role x.role k.past k.since k.none) ∙ sym k.last_own)
        ∙ ap (λ l. record { origin = origin x; items = map seen l }) (sym items_since);
  }
    where
      since_x : after_last by_role x.role done ≡ k.since
      since_x = ap (λ r. after_last by_role r done) (sym role_is) ∙ since_is

      no_end : (xs : List ℕ) (y : ℕ) → xs ++ y ∷ [] ≡ [] → ⊥
      no_end [] y e = absurd (cc)
      no_end (z ∷ xs) y e = absurd (cc)

  tags_lead : (d : Map (List ℕ)) (zs : List Item) → has_right_tags p (lead g d zs) ≡ has_right_tags p zs
  tags_lead d [] = refl
  tags_lead d (z ∷ zs) = refl

  right_tags : (b xs : List Item) → TagsOk sha keys sid cast targets g b xs → has_right_tags p (reduced g xs) ≡ true
  right_tags b [] h = refl
  right_tags b (i ∷ xs) h = elim (cases_Bool (has by_role i.role xs)) [
    | inl e ↦ rw e (tags_lead i.delta (reduced g xs) ∙ right_tags (b ++ i ∷ []) xs h.1)
    | inr e ↦ rw e (and_from (bytes_eq (keys_of (tags_but xs i.tags)) (filter (λ t. not (has by_role t (reduced g xs))) (targets_of p i.label))) (has_right_tags p (reduced g xs)) ((bytes_eq-Decides (keys_of (tags_but xs i.tags)) (filter (λ t. not (has by_role t (reduced g xs))) (targets_of p i.label))).1 (
        tags_keys xs i.tags ∙ ap (filter (λ t. not (has by_role t xs))) (ap keys_of h.0 ∙ keys_of_pairs (tag_said sha keys sid cast targets g b i) (targets i.label) ∙ sym (same_targets i.label))
        ∙ filter_agree (λ t. not (has by_role t xs)) (λ t. not (has by_role t (reduced g xs))) (λ t. ap not (sym (has-reduced g t xs))) (targets_of p i.label))) (right_tags (b ++ i ∷ []) xs h.1))
  ]

  shown_ok : is_shown p x f ≡ true
  shown_ok =
      and_from _ (bytes_eq (map (λ (o : Opening). o.variable) f.openings) (option_map_or (reads p.graph) (last_label f.items) [])) (
      and_from _ (has_right_tags p f.items) (
      and_from _ (option_map_or (λ (i : Item). i.role == f.sender) (last f.items) false) (
      and_from (has_view p.views (record { origin = origin x; items = map seen f.items })) (list_all (λ (i : Item). i.role == sender (shape p.graph) i.label) f.items)
      (view_there p.views (record { origin = origin x; items = map seen f.items }) ((views.each (record { origin = origin x; items = map seen f.items })).1 viewed))
      (subst (λ l. list_all (λ (i : Item). i.role == sender (shape p.graph) i.label) l ≡ true) (sym items_since) (roles_test g (reduced g k.since) (roles_reduced g k.since roles_since))))
      (ap (λ o. option_map_or (λ (i : Item). i.role == f.sender) o false) last_shown.1 ∙ eq-eqb (last_shown.0).role f.sender (ap (λ b. b.role) last_shown.2 ∙ sym sender_is)))
      (subst (λ l. has_right_tags p l ≡ true) (sym items_since) (right_tags k.past k.since tags_since)))
      ((bytes_eq-Decides (map (λ (o : Opening). o.variable) f.openings) (option_map_or (reads p.graph) (last_label f.items) [])).1 (opened.0 ∙ ap (reads g) (sym (ap (λ b. b.label) last_shown.2)) ∙ ap (λ o. option_map_or (reads p.graph) (option_map (λ (i : Item). i.label) o) []) (sym last_shown.1)))

  -- ---- times

  own_time_is : R.time_after 0 (map step k.past) ≡ own_time x
  own_time_is = go (cases_Option (last k.past))
    where
      go : (last k.past ≡ None) ⊎ ((i : Item) × (last k.past ≡ Some i)) → R.time_after 0 (map step k.past) ≡ own_time x
      go (inl e) =
          let n : k.past ≡ [] = no_last k.past e in
          ap (λ l. R.time_after 0 (map step l)) n ∙ sym (ap (λ o. unwrap_or (option_map (λ (i : Item). i.time) o) 0) (k.last_own ∙ ap (λ l. last (up_to_last by_role x.role l)) n))
      go (inr e) =
          Times.time_after-last 0 (map step k.past) (step e.0) (Cut'.last-option_map step k.past ∙ ap (option_map step) e.1)
          ∙ sym (ap (λ o. unwrap_or (option_map (λ (i : Item). i.time) o) 0) (k.last_own ∙ ap last (last_of_role x.role k.past (k.waits wait)) ∙ e.1))

  times_ok : bad_time 1 (own_time x) f.items ≡ None
  times_ok = ap (bad_time 1 (own_time x)) items_since ∙ times_good 1 (own_time x) (reduced g k.since) (rises_reduced g (own_time x) k.since (subst (λ t. R.RisesFrom t (map step k.since)) own_time_is (Times.rises_rest 0 (map step k.past) (map step k.since) (subst (R.RisesFrom 0) (ap (map step) k.parts ∙ map-append step k.past k.since) so.times))))

  -- ---- openings

  shown_committed : (v : ℕ) → v < length g.variables → shown_commitments x f v ≡ committed v done
  shown_committed v l =
      committed-append v (own_part x) f.items ∙ ap (λ z. option_or (committed v z) (committed v (own_part x))) items_since ∙ ap (λ o. option_or o (committed v (own_part x))) (committed_reduced g v l k.since)
      ∙ ap (option_or (committed v k.since)) (own_committed v l) ∙ sym (committed-append v k.past k.since) ∙ ap (committed v) (sym k.parts)

  opening_ok : (o : Opening) → o.variable < length g.variables → OpensAt sha keys sid cast targets g done o → is_right sha p.graph x f o ≡ true
  opening_ok o l h = and_from (has_kind p.graph o) (same_text (shown_commitments x f o.variable) (commitment sha x.sid o)) h.kind
      (ap (λ z. same_text z (commitment sha x.sid o)) (shown_committed o.variable l ∙ h.fits) ∙ ap (λ z. bytes_eq (commitment sha z o) (commitment sha x.sid o)) (sym same_sid) ∙ bytes_refl (commitment sha x.sid o))

  openings_ok : list_all (is_right sha p.graph x f) f.openings ≡ true
  openings_ok = go f.openings (λ v h. reads_small item.label v (ap (is_in v) (sym opened.0) ∙ h)) opened.1
    where
      go : (os : List Opening) → ((v : ℕ) → is_in v (map (λ (o : Opening). o.variable) os) ≡ true → v < length g.variables) → AllByRecursion (OpensAt sha keys sid cast targets p.graph done) os → list_all (is_right sha p.graph x f) os ≡ true
      go [] l h = refl
      go (o ∷ os) l h = and_from (is_right sha p.graph x f o) (list_all (is_right sha p.graph x f) os) (opening_ok o (l o.variable (rw (eq-eqb o.variable o.variable refl) refl)) h.0) (go os (λ v i. l v (later v i (cases_Bool (o.variable == v)))) h.1)
        where
          later : (v : ℕ) → is_in v (map (λ (o : Opening). o.variable) os) ≡ true → ((o.variable == v) ≡ true) ⊎ ((o.variable == v) ≡ false) → is_in v (map (λ (o : Opening). o.variable) (o ∷ os)) ≡ true
          later v i (inl e) = rw e refl
          later v i (inr e) = rw e i

  -- ---- tags of items

  -- an item that a later one follows names the role as a target
  is_target : (m : ℕ) (i j : Item) (xs : List Item) → Walk (shape g) m (labels (i ∷ j ∷ xs)) → Roles (shape g) (i ∷ j ∷ xs) → has by_role x.role (i ∷ j ∷ xs) ≡ false → has by_role i.role (j ∷ xs) ≡ false → role_at (shape g) (end_of (shape g) m (labels (i ∷ j ∷ xs))) ≡ x.role → is_in x.role (targets i.label) ≡ true
  is_target m i j xs w r n own_none e =
      subst (λ l. is_in x.role l ≡ true) (same_targets i.label) ((table.each i.label x.role (let l = w.0 in omega (arith, l, edges_same g)) role_small).1 record {
        not_sender = λ q. clash (i.role == x.role) (eq-eqb i.role x.role (r.0 ∙ sym q)) (first_false (i.role == x.role) (has by_role x.role (j ∷ xs)) n);
        not_receiver = λ q. clash (j.role == x.role) (eq-eqb j.role x.role (r.1.0 ∙ ap (role_at (shape g)) w.2.1 ∙ sym q)) (first_false (j.role == x.role) (has by_role x.role xs) (second_false (i.role == x.role) (has by_role x.role (j ∷ xs)) n));
        walk = labels (j ∷ xs);
        leads = record {
          walk = w.2;
          ends = e;
          no_a = senders x.role (j ∷ xs) r.1 (second_false (i.role == x.role) (has by_role x.role (j ∷ xs)) n);
          no_b = subst (λ z. has (sender (shape g)) z (labels (j ∷ xs)) ≡ false) r.0 (senders i.role (j ∷ xs) r.1 own_none);
        };
      })
    where
      senders : (y : ℕ) (zs : List Item) → Roles (shape g) zs → has by_role y zs ≡ false → has (sender (shape g)) y (labels zs) ≡ false
      senders y [] r h = refl
      senders y (z ∷ zs) r h = rw (ap (λ q. q == y) (sym r.0) ∙ first_false (z.role == y) (has by_role y zs) h) (senders y zs r.1 (second_false (z.role == y) (has by_role y zs) h))

  -- the tag of an item, if what was held before it is the same
  tag_right : (b prefix : List Item) (i j : Item) (xs : List Item) → i.tags ≡ map (λ t. (t, tag_said sha keys sid cast targets g b i t)) (targets i.label) → has by_role x.role xs ≡ false → is_in x.role (targets i.label) ≡ true → commitments g (prefix ++ j ∷ []) ≡ commitments g (b ++ i ∷ []) → j.role ≡ i.role → j.label ≡ i.label → j.time ≡ i.time → j.tags ≡ tags_but xs i.tags
      → has_item_tag sha me x (j, text_to g x prefix j x.role) ≡ true
  tag_right b prefix i j xs tg n target held jr jl jt jg =
      let T : ℕ → List ℕ = tag_said sha keys sid cast targets g b i in
      let found : value_at j.tags x.role ≡ Some (tag_said sha keys sid cast targets g b i x.role) = ap (λ m. value_at m x.role) jg ∙ tag_kept xs i.tags x.role n ∙ ap (λ m. value_at m x.role) tg ∙ tag_there (tag_said sha keys sid cast targets g b i) (targets i.label) x.role target in
      let text : text_to g x prefix j x.role ≡ item_text_of cast.version sid i.role x.role i.label i.time (commitments g (b ++ i ∷ [])) =
      ap (λ (c : Cast). item_text_of c.version x.sid j.role x.role j.label j.time (commitments g (prefix ++ j ∷ []))) same_cast
      ∙ ap (λ z. item_text_of cast.version z j.role x.role j.label j.time (commitments g (prefix ++ j ∷ []))) same_sid
      ∙ ap (λ z. item_text_of cast.version sid z x.role j.label j.time (commitments g (prefix ++ j ∷ []))) jr
      ∙ ap (λ z. item_text_of cast.version sid i.role x.role z j.time (commitments g (prefix ++ j ∷ []))) jl
      ∙ ap (λ z. item_text_of cast.version sid i.role x.role i.label z (commitments g (prefix ++ j ∷ []))) jt
      ∙ ap (λ z. item_text_of cast.version sid i.role x.role i.label i.time z) held in
      ap (λ o. same_text o (tag_for sha me x.cast j.role (text_to g x prefix j x.role))) found
      ∙ (bytes_eq-Decides (tag_said sha keys sid cast targets g b i x.role) (tag_for sha me x.cast j.role (text_to g x prefix j x.role))).1 (sym (
      ap (λ c. tag_for sha me c j.role (text_to g x prefix j x.role)) same_cast ∙ ap (λ z. tag_for sha me cast z (text_to g x prefix j x.role)) jr ∙ ap (tag_for sha me cast i.role) text ∙ key_pair i.role (item_text_of cast.version sid i.role x.role i.label i.time (commitments g (b ++ i ∷ [])))))

  checks : (xs : List Item) (d : Map (List ℕ)) (prefix b : List Item) (m : ℕ) → ((v : ℕ) → v < length g.variables → option_or (value_at d v) (committed v prefix) ≡ committed v b) → TagsOk sha keys sid cast targets g b xs → Roles (shape g) xs → has by_role x.role xs ≡ false → Walk (shape g) m (labels xs) → role_at (shape g) (end_of (shape g) m (labels xs)) ≡ x.role
      → list_all (has_item_tag sha me x) (checked_texts g x prefix (lead g d (reduced g xs))) ≡ true
  checks [] d prefix b m held tg r n w e = refl
  checks (i ∷ xs) d prefix b m held tg r n w e = elim (cases_Bool (has by_role i.role xs)) [
    | inl h ↦
        let held' : (v : ℕ) → v < length g.variables → option_or (value_at (in_order (length g.variables) (merge d i.delta)) v) (committed v prefix) ≡ committed v (b ++ i ∷ []) = λ v l.
        ap (λ o. option_or o (committed v prefix)) (value_at-in_order (length g.variables) (merge d i.delta) v l ∙ value_at-merge d i.delta v) ∙ option_or-assoc (value_at i.delta v) (value_at d v) (committed v prefix) ∙ ap (option_or (value_at i.delta v)) (held v l) ∙ sym (committed-append v b (i ∷ [])) in
        rw h (subst (λ l. list_all (has_item_tag sha me x) (checked_texts g x prefix l) ≡ true) (lead-lead g d i.delta (reduced g xs))
        (checks xs (in_order (length g.variables) (merge d i.delta)) prefix (b ++ i ∷ []) (target (shape g) i.label) held' tg.1 r.1 (second_false (i.role == x.role) (has by_role x.role xs) n) w.2 e))
    | inr h ↦
        let j : Item = record (left_by g xs i) { delta = in_order (length g.variables) (merge d (in_order (length g.variables) i.delta)) } in
        let held' : (v : ℕ) → v < length g.variables → committed v (prefix ++ record (left_by g xs i) { delta = in_order (length g.variables) (merge d (in_order (length g.variables) i.delta)) } ∷ []) ≡ committed v (b ++ i ∷ []) = λ v l.
        committed-append v prefix (record (left_by g xs i) { delta = in_order (length g.variables) (merge d (in_order (length g.variables) i.delta)) } ∷ [])
        ∙ ap (λ o. option_or o (committed v prefix)) (value_at-in_order (length g.variables) (merge d (in_order (length g.variables) i.delta)) v l ∙ value_at-merge d (in_order (length g.variables) i.delta) v ∙ ap (λ o. option_or o (value_at d v)) (value_at-in_order (length g.variables) i.delta v l))
        ∙ option_or-assoc (value_at i.delta v) (value_at d v) (committed v prefix) ∙ ap (option_or (value_at i.delta v)) (held v l) ∙ sym (committed-append v b (i ∷ [])) in
        let n' : has by_role x.role xs ≡ false = second_false (i.role == x.role) (has by_role x.role xs) n in
        let later : list_all (has_item_tag sha me x) (checked_texts g x (prefix ++ record (left_by g xs i) { delta = in_order (length g.variables) (merge d (in_order (length g.variables) i.delta)) } ∷ []) (reduced g xs)) ≡ true =
        subst (λ l. list_all (has_item_tag sha me x) (checked_texts g x (prefix ++ record (left_by g xs i) { delta = in_order (length g.variables) (merge d (in_order (length g.variables) i.delta)) } ∷ []) l) ≡ true) (lead_nil g xs)
        (checks xs [] (prefix ++ record (left_by g xs i) { delta = in_order (length g.variables) (merge d (in_order (length g.variables) i.delta)) } ∷ []) (b ++ i ∷ []) (target (shape g) i.label) held' tg.1 r.1 n' w.2 e) in
        rw h (one prefix (record (left_by g xs i) { delta = in_order (length g.variables) (merge d (in_order (length g.variables) i.delta)) }) (reduced g xs) later (λ some. tag_right b prefix i (record (left_by g xs i) { delta = in_order (length g.variables) (merge d (in_order (length g.variables) i.delta)) }) xs tg.0 n' (target_of xs some h n' r w e n)
        (below_same (λ v. committed v (prefix ++ record (left_by g xs i) { delta = in_order (length g.variables) (merge d (in_order (length g.variables) i.delta)) } ∷ [])) (λ v. committed v (b ++ i ∷ [])) (length g.variables) held') refl refl refl refl))
  ]
    where
      one : (prefix : List Item) (j : Item) (zs : List Item) → list_all (has_item_tag sha me x) (checked_texts g x (prefix ++ j ∷ []) zs) ≡ true → (zs ≢ [] → has_item_tag sha me x (j, text_to g x prefix j x.role) ≡ true) → list_all (has_item_tag sha me x) (checked_texts g x prefix (j ∷ zs)) ≡ true
      one prefix j [] l h = refl
      one prefix j (z ∷ zs) l h = and_from (has_item_tag sha me x (j, text_to g x prefix j x.role)) (list_all (has_item_tag sha me x) (checked_texts g x (prefix ++ j ∷ []) (z ∷ zs))) (h (λ q. (let y : z ∷ zs ≡ [] = q in absurd (cc)))) l

      target_of : (ys : List Item) → reduced g ys ≢ [] → has by_role i.role ys ≡ false → has by_role x.role ys ≡ false → Roles (shape g) (i ∷ ys) → Walk (shape g) m (labels (i ∷ ys)) → role_at (shape g) (end_of (shape g) m (labels (i ∷ ys))) ≡ x.role → has by_role x.role (i ∷ ys) ≡ false → is_in x.role (targets i.label) ≡ true
      target_of [] some h n' r w e n = absurd (some refl)
      target_of (y ∷ ys) some h n' r w e n = is_target m i y ys w r n h e

  tags_ok : list_all (has_item_tag sha me x) (texts_checked p.graph x f) ≡ true
  tags_ok = subst (λ l. list_all (has_item_tag sha me x) (checked_texts g x (own_part x) l) ≡ true) (lead_nil g k.since ∙ sym items_since)
      (checks k.since [] (own_part x) k.past (end_of (shape g) 0 (labels k.past)) own_committed tags_since roles_since k.none
      (walk-append (shape g) 0 (labels k.past) (labels k.since) (subst (Walk (shape g) 0) (ap labels k.parts ∙ map-append (λ (i : Item). i.label) k.past k.since) so.walk)).1
      (ap (role_at (shape g)) (sym (end_of-append (shape g) 0 (labels k.past) (labels k.since)) ∙ ap (end_of (shape g) 0) (sym (ap labels k.parts ∙ map-append (λ (i : Item). i.label) k.past k.since))) ∙ ends_there))

  -- no row holds
  pub rows_none : first_some (rows_of_session sha me p x f) ≡ None
  rows_none = none5 (row (not (has_frame_tag sha me x f)) BadFrameTag) (row (not (is_shown p x f)) NoSuchView) (bad_time 1 (own_time x) f.items)
      (option_map (λ n. BadEvidence (n + 1)) (position (λ c. not (has_item_tag sha me x c)) (texts_checked p.graph x f))) (option_map (λ (o : Opening). BadOpening o.variable) (find (λ o. not (is_right sha p.graph x f o)) f.openings))
      (ap (λ b. row (not b) BadFrameTag) frame_tag_ok) (ap (λ b. row (not b) NoSuchView) shown_ok) times_ok
      (ap (option_map (λ n. BadEvidence (n + 1))) (all_position (has_item_tag sha me x) (texts_checked p.graph x f) tags_ok)) (ap (option_map (λ (o : Opening). BadOpening o.variable)) (all_find (is_right sha p.graph x f) f.openings openings_ok))
