-- A role at its turn gives a step, and a frame that shows what was done, to those who hold what was done before.
use Rattle.std.specs.Prelude.{◌≡◌, ◌≢◌, ℕ, ◌+◌, ◌<◌, ◌==◌, ◌||◌, ◌&&◌, ◌⊎◌, Bool, true, false, if◌then◌else◌, List, [], ◌∷◌, ◌++◌, map, filter_map, length, refl, Option, Some, None, option_map, unwrap_or, IfSome}
use Rattle.std.specs.List.{AllByRecursion, list_all}
use Rattle.std.specs.Option.{option_or}
use Rattle.std.proofs.Common.{sym, ◌∙◌, ap, subst, inl, inr, arith, append-nil}
use Rattle.std.proofs.lemmas.Bool.{cases_Bool, eqb-true, eq-eqb, ne_eqb, and_parts}
use Rattle.std.proofs.lemmas.List.{map-append}
use Rattle.sg_model.specs.Last.{Map, has, last, after_last, up_to_last}
use Rattle.sg_model.specs.Lists.{value_at, keys_of, is_in}
use Rattle.sg_model.specs.Shape.{Walk, role_at, sender, receiver}
use Rattle.sg_model.specs.Values.{Value, Opening}
use Rattle.sg_model.proofs.Small.{cases_Option, all-append, no_last, lt_of}
use Rattle.sg_protocol.specs.Graph.{Graph, IsGraph, shape, writes, reads}
use Rattle.sg_protocol.specs.Knowledge.{learns, knows}
use Rattle.sg_protocol.specs.Frame.{Cast, Item, Frame}
use Rattle.sg_protocol.specs.Texts.{Hash, commitment, item_text_of}
use Rattle.sg_protocol.specs.Keyring.{Keyring, Program, targets_of}
use Rattle.sg_protocol.specs.Schedule.{PairKey}
use Rattle.sg_protocol.specs.World.{keyring_of}
use Rattle.sg_protocol.specs.Session.{Session, Gave, principal, items_of, transcript, time, place, at_turn, last_time, committed, commitments, opening_in, known, extended}
use Rattle.sg_protocol.specs.Sending.{tag_for, text_of, plain_item, own_item, opening_of, shown_to, frame_sent}
use Rattle.sg_protocol.specs.Verdict.{has_kind}
use Rattle.sg_law.specs.Run as R
use Rattle.sg_law.proofs.Upto as Upto'
use Rattle.sg_law.proofs.Cut as Cut'
use Rattle.sg_law.proofs.Times as Times
use Rattle.sg_law.specs.Last as B
use Rattle.sg_law.specs.Accept as A
use Rattle.sg_law.specs.Values as V
use Rattle.sg_protocol.specs.Accepted.{Accepted}
use Rattle.sg_protocol.specs.Walk.{is_typed_or_hidden}
use Rattle.sg_protocol.specs.Acting.{openings_for}
use Rattle.sg_protocol.proofs.Gives.{opened_keys, opened_values, keys_are, typed_values}
use Rattle.sg_protocol.proofs.Acts as C
use Rattle.sg_protocol.proofs.Entries.{edges_same}
use Rattle.sg_law.proofs.Lists.{last-append}
use Rattle.sg_law.proofs.Walks.{walk_join}
use Rattle.sg_protocol.proofs.Paths.{flat_map-append}
use Rattle.sg_protocol.proofs.Entries.{entry}
use Rattle.sg_protocol.proofs.Moves.{step, roles-append}
use Rattle.sg_protocol.proofs.Reduced.{by_role, tags_but, reduced, reduced_again, after_reduced, shown_reduced}
use Rattle.sg_protocol.proofs.Ends.{tags_all, committed-append, last_opening-append, labels, last_reduced, time_is, commitments_same, has_same, after_one}
use Rattle.sg_protocol.proofs.Known.{knows_more, opening_there, opening_not, opening_all, value_of_opening}
use Rattle.sg_protocol.proofs.Relay.{tag_said, tags-append, StepsOk, OpensAt, RelayOk, at_end}
use Rattle.sg_protocol.proofs.Acts.{keys_of_commits}

-- openings that are there for all variables
pub openings_there : (P : Opening → Type 0) (G : ℕ → Option Opening) (xs : List ℕ) → ((v : ℕ) → is_in v xs ≡ true → (o : Opening) × (G v ≡ Some o) × (o.variable ≡ v) × P o) → (map (λ (o : Opening). o.variable) (filter_map G xs) ≡ xs) × AllByRecursion P (filter_map G xs)
openings_there P G [] h = (refl, tt)
openings_there P G (x ∷ xs) h =
    let a = h x (rw (eq-eqb x x refl) refl) in
    let r = openings_there P G xs (λ v i. h v (later v i (cases_Bool (x == v)))) in
    rw a.1 (ap (λ z. z ∷ map (λ (o : Opening). o.variable) (filter_map G xs)) a.2 ∙ ap (λ l. x ∷ l) r.0, (a.3, r.1))
  where
    later : (v : ℕ) → is_in v xs ≡ true → ((x == v) ≡ true) ⊎ ((x == v) ≡ false) → is_in v (x ∷ xs) ≡ true
    later v i (inl e) = rw e refl
    later v i (inr e) = rw e i

kinds_of : (g : Graph) (os : List Opening) → list_all (is_typed_or_hidden g) (V.values_of os) ≡ true → AllByRecursion (λ (o : Opening). has_kind g o ≡ true) os
kinds_of g [] h = tt
kinds_of g (o ∷ os) h = let q = and_parts (has_kind g o) (list_all (is_typed_or_hidden g) (V.values_of os)) h in (q.0, kinds_of g os q.1)

module _ (sha : Hash) (keys : List PairKey) (sid : List ℕ) (cast : Cast) (targets : ℕ → List ℕ) (p : Program) (x : Session) (label : ℕ) (values : Map Value) (F : ℕ × Value → List ℕ) (done : List Item)
    (is : IsGraph p.graph) (acc : Accepted p.graph) (so : StepsOk sha keys sid cast targets p.graph done) (k : RelayOk sha keys sid cast targets p.graph done x) (same_sid : x.sid ≡ sid) (same_cast : x.cast ≡ cast)
    (rows : C.ActRows p.graph x label values) (small : AllByRecursion (λ z. z < 256) (keys_of values)) (same_targets : targets_of p label ≡ targets label) (item : Item)
    (its_last : last (frame_sent sha (keyring_of keys (principal cast x.role)) p x label (openings_for values (map F values))).items ≡ Some item)
    (is_entry : entry item ≡ entry (own_item sha (keyring_of keys (principal cast x.role)) p x label (openings_for values (map F values))))
    (wait : at_turn p.graph (extended x (Gave item (openings_for values (map F values)))) ≡ false) where
  abbrev os : List Opening
  os = openings_for values (map F values)

  abbrev me : Keyring
  me = keyring_of keys (principal cast x.role)

  abbrev oi : Item
  oi = own_item sha (keyring_of keys (principal cast x.role)) p x label os

  abbrev to : ℕ
  to = receiver (shape p.graph) label

  abbrev fr : Frame
  fr = frame_sent sha (keyring_of keys (principal cast x.role)) p x label os

  names_os : map (λ (o : Opening). o.variable) os ≡ writes p.graph label
  names_os = opened_keys F values ∙ keys_are p.graph is label values small rows.good

  kinds_os : AllByRecursion (λ (o : Opening). has_kind p.graph o ≡ true) os
  kinds_os = kinds_of p.graph os (ap (list_all (is_typed_or_hidden p.graph)) (opened_values F values) ∙ typed_values p.graph is label values small rows.good)

  by_x : sender (shape p.graph) label ≡ x.role
  by_x = ap (role_at (shape p.graph)) rows.leaves ∙ eqb-true (role_at (shape p.graph) (place p.graph x)) x.role rows.turn

  in_edges : label < length p.graph.edges
  in_edges = lt_of label (length p.graph.edges) rows.edge

  pub apart : to ≢ x.role
  apart e = acc.no_self_edge label in_edges (by_x ∙ sym e)

  not_to : (x.role == to) ≡ false
  not_to = ne_eqb x.role to (λ q. apart (sym q))

  none_since : k.since ≡ []
  none_since = k.turn rows.turn

  past_is : k.past ≡ done
  past_is = sym (k.parts ∙ ap (λ l. k.past ++ l) none_since ∙ append-nil k.past)

  held_is : reduced p.graph (transcript x) ≡ reduced p.graph done
  held_is = k.held ∙ ap (reduced p.graph) past_is

  held_more : (i : Item) → reduced p.graph (transcript x ++ i ∷ []) ≡ reduced p.graph (done ++ i ∷ [])
  held_more i = sym (reduced_again p.graph (transcript x) (i ∷ [])) ∙ ap (λ l. reduced p.graph (l ++ i ∷ [])) held_is ∙ reduced_again p.graph done (i ∷ [])

  -- the frame's items are those since the receiver's last one
  items_are : (i : Item) → shown_to p.graph to (transcript x ++ i ∷ []) ≡ reduced p.graph (after_last by_role to (done ++ i ∷ []))
  items_are i = shown_reduced p.graph to (transcript x ++ i ∷ []) ∙ sym (after_reduced p.graph to (transcript x ++ i ∷ [])) ∙ ap (after_last by_role to) (held_more i) ∙ after_reduced p.graph to (done ++ i ∷ [])

  pub item_is : item ≡ oi
  item_is =
      let r = last_reduced p.graph (after_last by_role to done) oi in
      let l : last fr.items ≡ Some (record oi { delta = r.0; tags = tags_but [] oi.tags }) = ap last (items_are oi) ∙ ap (λ z. last (reduced p.graph z)) (after_one to done oi not_to) ∙ r.1 in
      let s : Some item ≡ Some (record oi { delta = r.0; tags = tags_but [] oi.tags }) = sym its_last ∙ l in
      let s' : item ≡ record oi { delta = r.0; tags = tags_but [] oi.tags } = cc in
      let d : r.0 ≡ oi.delta = ap (λ (z : Item). z.delta) (sym s') ∙ ap (λ (z : B.Entry A.TimedLabel (List ℕ)). z.writes) is_entry in
      s' ∙ ap (λ m. record oi { delta = m; tags = tags_but [] oi.tags }) d ∙ ap (λ m. record oi { tags = m }) (tags_all oi.tags)

  abbrev after : List Item
  after = done ++ item ∷ []

  delta_is : item.delta ≡ map (λ (o : Opening). (o.variable, commitment sha x.sid o)) os
  delta_is = ap (λ (z : Item). z.delta) item_is

  keys_delta : keys_of item.delta ≡ writes p.graph label
  keys_delta = ap keys_of delta_is ∙ keys_of_commits sha x.sid os ∙ names_os

  labels_after : labels after ≡ labels done ++ label ∷ []
  labels_after = map-append (λ (i : Item). i.label) done (item ∷ []) ∙ ap (λ (z : Item). labels done ++ z.label ∷ []) item_is

  tags_are : item.tags ≡ map (λ t. (t, tag_said sha keys sid cast targets p.graph done item t)) (targets item.label)
  tags_are =
      let held : commitments p.graph (transcript x ++ plain_item sha x label os ∷ []) ≡ commitments p.graph (done ++ item ∷ []) = commitments_same p.graph (transcript x) done held_is (plain_item sha x label os) item (sym delta_is) in
      ap (λ (z : Item). z.tags) item_is
      ∙ ap (λ (c : Cast). map (λ t. (t, tag_for sha me c t (item_text_of c.version x.sid x.role t label (time x + 1) (commitments p.graph (transcript x ++ plain_item sha x label os ∷ []))))) (targets_of p label)) same_cast
      ∙ ap (λ z. map (λ t. (t, tag_for sha me cast t (item_text_of cast.version z x.role t label (time x + 1) (commitments p.graph (transcript x ++ plain_item sha x label os ∷ []))))) (targets_of p label)) same_sid
      ∙ ap (λ z. map (λ t. (t, tag_for sha me cast t (item_text_of cast.version sid x.role t label (time x + 1) z))) (targets_of p label)) held
      ∙ ap (λ l. map (λ t. (t, tag_for sha me cast t (item_text_of cast.version sid x.role t label (time x + 1) (commitments p.graph (done ++ item ∷ []))))) l) same_targets
      ∙ ap (λ (z : Item). map (λ t. (t, tag_for sha (keyring_of keys (principal cast z.role)) cast t (item_text_of cast.version sid z.role t z.label z.time (commitments p.graph (done ++ item ∷ []))))) (targets z.label)) (sym item_is)

  time_done : R.time_after 0 (map step done) ≡ time x
  time_done = go (cases_Option (last done))
    where
      time_at : time x ≡ last_time done
      time_at = time_is p.graph x done held_is

      go : (last done ≡ None) ⊎ ((i : Item) × (last done ≡ Some i)) → R.time_after 0 (map step done) ≡ time x
      go (inl e) = ap (λ l. R.time_after 0 (map step l)) (no_last done e) ∙ sym (time_at ∙ ap (λ o. unwrap_or (option_map (λ (i : Item). i.time) o) 0) e)
      go (inr e) = Times.time_after-last 0 (map step done) (step e.0) (Cut'.last-option_map step done ∙ ap (option_map step) e.1) ∙ sym (time_at ∙ ap (λ o. unwrap_or (option_map (λ (i : Item). i.time) o) 0) e.1)

  pub steps_ok : StepsOk sha keys sid cast targets p.graph (done ++ item ∷ [])
  steps_ok = record {
    walk = subst (Walk (shape p.graph) 0) (sym labels_after) (walk_join (shape p.graph) 0 (labels done) (label ∷ []) so.walk ((let l = in_edges in omega (arith, l, edges_same p.graph)), rows.leaves ∙ at_end sha keys sid cast targets p.graph done x k rows.turn, tt));
    roles = roles-append (shape p.graph) done (item ∷ []) so.roles (ap (λ (z : Item). z.role) item_is ∙ sym by_x ∙ ap (λ (z : Item). sender (shape p.graph) z.label) (sym item_is), tt);
    delta_keys = all-append (λ (i : Item). keys_of i.delta ≡ writes p.graph i.label) done (item ∷ []) so.delta_keys (keys_delta ∙ ap (λ (z : Item). writes p.graph z.label) (sym item_is), tt);
    tags = tags-append sha keys sid cast targets p.graph [] done item so.tags tags_are;
    times = subst (R.RisesFrom 0) (sym (map-append step done (item ∷ []))) (Times.rises_push 0 (map step done) (step item) so.times (let a = time_done in let b : item.time ≡ time x + 1 = ap (λ (z : Item). z.time) item_is in omega (arith, a, b)));
  }

  value_in : (v : ℕ) → value_at item.delta v ≡ option_map (commitment sha sid) (opening_in os v)
  value_in v = ap (λ m. value_at m v) delta_is ∙ value_of_opening (commitment sha x.sid) os v ∙ ap (λ z. option_map (commitment sha z) (opening_in os v)) same_sid

  committed_after : (v : ℕ) → committed v (done ++ item ∷ []) ≡ option_or (value_at item.delta v) (committed v done)
  committed_after v = committed-append v done (item ∷ [])

  -- what the role knows after the step
  new_opens : (v : ℕ) → knows p.graph x.role v (labels done ++ label ∷ []) ≡ true → (o : Opening) × (opening_of x os v ≡ Some o) × (o.variable ≡ v) × OpensAt sha keys sid cast targets p.graph (done ++ item ∷ []) o
  new_opens v kn = elim (cases_Bool (is_in v (writes p.graph label))) [
    | inl h ↦
        let o = opening_there os v (ap (is_in v) names_os ∙ h) in (
          o.0,
          ap (λ z. option_or z (known x v)) o.1,
          o.2,
          record {
            fits = ap (λ z. committed z (done ++ item ∷ [])) o.2 ∙ committed_after v ∙ ap (λ z. option_or z (committed v done)) (value_in v ∙ ap (option_map (commitment sha sid)) o.1);
            kind = opening_all (λ (o : Opening). has_kind p.graph o ≡ true) os v o.0 kinds_os o.1;
          },
        )
    | inr h ↦
        let m = knows_more p.graph x.role v (labels done) label kn (unlearns h) in
        let old = k.opens v (subst (λ l. knows p.graph x.role v (labels l) ≡ true) (sym past_is) m.0) in
        let none : opening_in os v ≡ None = opening_not os v (ap (is_in v) names_os ∙ h) in (
          old.opening,
          ap (λ z. option_or z (known x v)) none ∙ old.is_known,
          old.variable,
          record {
            fits = committed_after (old.opening).variable ∙ ap (λ z. option_or z (committed (old.opening).variable done)) (ap (value_at item.delta) old.variable ∙ value_in v ∙ ap (option_map (commitment sha sid)) none) ∙ ap (λ l. committed (old.opening).variable l) (sym past_is) ∙ old.opens.fits;
            kind = old.opens.kind;
          },
        )
  ]
    where
      unlearns : is_in v (writes p.graph label) ≡ false → learns p.graph x.role v label ≡ false
      unlearns h = rw (h, ne_eqb to x.role apart) (go (sender (shape p.graph) label == x.role))
        where
          go : (b : Bool) → ((b && false) || false) ≡ false
          go true = refl
          go false = refl

  pub gives : RelayOk sha keys sid cast targets p.graph (done ++ item ∷ []) (extended x (Gave item (openings_for values (map F values))))
  gives = record {
    past = done ++ item ∷ [];
    since = [];
    parts = sym (append-nil (done ++ item ∷ []));
    none = refl;
    held = ap (reduced p.graph) transcript_later ∙ held_more item;
    last_own = ap (λ l. last (up_to_last by_role x.role l)) transcript_later ∙ ap last (Upto'.upto-at by_role x.role (transcript x) item [] role refl) ∙ last-append (transcript x) item [] ∙ sym (ap last (Upto'.upto-at by_role x.role done item [] role refl) ∙ last-append done item []);
    turn = λ e. refl;
    waits = λ e. subst (λ o. IfSome o (λ (i : Item). i.role ≡ x.role)) (sym (last-append done item [])) role;
    opens = λ v kn. let o = new_opens v (subst (λ l. knows p.graph x.role v l ≡ true) labels_after kn) in record { opening = o.0; is_known = last_opening-append v x.exchanges (Gave item os) ∙ o.1; variable = o.2; opens = o.3 };
  }
    where
      role : item.role ≡ x.role
      role = ap (λ (z : Item). z.role) item_is

      transcript_later : transcript (extended x (Gave item os)) ≡ transcript x ++ item ∷ []
      transcript_later = flat_map-append items_of x.exchanges (Gave item os ∷ [])

  -- ---- the frame that is sent

  pub frame_items : fr.items ≡ reduced p.graph (after_last by_role to (done ++ item ∷ []))
  frame_items = items_are oi ∙ ap (λ i. reduced p.graph (after_last by_role to (done ++ i ∷ []))) (sym item_is)

  pub frame_join : fr.join ≡ (if has by_role to done then None else Some cast)
  frame_join = ap (λ b. if b then None else Some x.cast) (has_same p.graph (transcript x) done held_is to) ∙ ap (λ c. if has by_role to done then None else Some c) same_cast

  pub frame_opened : (map (λ (o : Opening). o.variable) fr.openings ≡ reads p.graph label) × AllByRecursion (OpensAt sha keys sid cast targets p.graph (done ++ item ∷ [])) fr.openings
  frame_opened = openings_there (OpensAt sha keys sid cast targets p.graph (done ++ item ∷ [])) (opening_of x os) (reads p.graph label) (λ v i. new_opens v (subst (λ r. knows p.graph r v (labels done ++ label ∷ []) ≡ true) by_x (acc.reads_known (labels done) label v (subst (Walk (shape p.graph) 0) labels_after steps_ok.walk) i)))

  pub frame_tag : fr.tag ≡ tag_for sha (keyring_of keys (principal cast x.role)) cast to (text_of fr)
  frame_tag = ap (λ c. tag_for sha me c to (text_of fr)) same_cast
