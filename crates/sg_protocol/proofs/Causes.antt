-- Where events stand on a walk, and what claims say of them.
use Rattle.std.specs.Prelude.{◌+◌, length, ◌≡◌, ℕ, Bool, true, false, ◌&&◌, ◌||◌, List, [], ◌∷◌, ◌++◌, map, flat_map, Option, Some, IsTrue, ◌⊎◌, refl}
use Rattle.std.specs.List.{list_any}
use Rattle.std.proofs.Common.{arith, length-append, sym, ◌∙◌, ap, subst, inl, inr, append_assoc, append-nil}
use Rattle.std.proofs.lemmas.Bool.{cases_Bool}
use Rattle.std.proofs.lemmas.List.{map-append}
use Rattle.sg_model.specs.Last.{Map, merge}
use Rattle.sg_model.specs.Lists.{is_in}
use Rattle.sg_model.specs.Shape.{sender, receiver}
use Rattle.sg_model.specs.Values.{Value}
use Rattle.sg_model.specs.Claims.{Claim, Needs, Bars, OccursSince, IsRight, HoldsOn, HoldsOnWalks}
use Rattle.sg_model.proofs.Small.{and_left}
use Rattle.sg_model.proofs.OneBit.{has_its_own}
use Rattle.sg_protocol.specs.Graph.{Graph, shape, reads}
use Rattle.sg_protocol.specs.Texts.{Hash, IsHash}
use Rattle.sg_protocol.specs.Calls.{Event, role_of, Started, Sent, Received}
use Rattle.sg_protocol.specs.Walk.{StoredStep, Act, Sends, Receives, labels, stored, shown, act_if, counts, honest_acts, acts_of_event, OnePath}
use Rattle.sg_protocol.specs.Claims.{label_of, does_send, store_after, IsOfStep, acts_before, IsAtStep, HasSent, HasReceived, HasCause, AreOfOneStep, AreOfTwoSteps, HaveCause, HaveSince, IsClaimKept, ClaimsAreKept, EventsOccurOnce}
use Rattle.sg_protocol.specs.Schedule.{honest_role}
use Rattle.sg_protocol.specs.Run.{run, events_of}
use Rattle.sg_protocol.proofs.Paths.{flat_map-append}
use Rattle.sg_protocol.proofs.ExplainingWalks.{sessions_follow_walks}

-- ---- lists

-- an element of two lists in a row stands in the first or in the second
split_two : {A : Type 0} (xs ys prefix : List A) (a : A) (rest : List A) → xs ++ ys ≡ prefix ++ a ∷ rest
    → ((r : List A) × (xs ≡ prefix ++ a ∷ r) × (rest ≡ r ++ ys)) ⊎ ((f : List A) × (prefix ≡ xs ++ f) × (ys ≡ f ++ a ∷ rest))
split_two [] ys prefix a rest e = inr (prefix, refl, e)
split_two (x ∷ xs) ys [] a rest e = inl (let h : x ≡ a = cc in let t : xs ++ ys ≡ rest = cc in (xs, ap (λ z. z ∷ xs) h, sym t))
split_two (x ∷ xs) ys (f ∷ prefix) a rest e =
    let h : x ≡ f = cc in
    let t : xs ++ ys ≡ prefix ++ a ∷ rest = cc in
    elim (split_two xs ys prefix a rest t) [
      | inl r ↦ inl (r.0, ap (λ z. z ∷ xs) h ∙ ap (λ z. f ∷ z) r.1, r.2)
      | inr r ↦ inr (r.0, ap (λ z. z ∷ prefix) (sym h) ∙ ap (λ z. x ∷ z) r.1, r.2)
    ]

-- what a list is mapped to is split as the list is
split_map : {A B : Type 0} (f : A → B) (xs : List A) (prefix : List B) (b : B) (rest : List B) → map f xs ≡ prefix ++ b ∷ rest
    → (u : List A) × (x : A) × (v : List A) × (xs ≡ u ++ x ∷ v) × (map f u ≡ prefix) × (f x ≡ b) × (map f v ≡ rest)
split_map f [] [] b rest e = absurd (cc)
split_map f [] (g ∷ prefix) b rest e = absurd (cc)
split_map f (x ∷ xs) [] b rest e = ([], x, xs, refl, refl, (let h : f x ≡ b = cc in h), (let t : map f xs ≡ rest = cc in t))
split_map f (x ∷ xs) (g ∷ prefix) b rest e =
    let h : f x ≡ g = cc in
    let t : map f xs ≡ prefix ++ b ∷ rest = cc in
    let r = split_map f xs prefix b rest t in
    (x ∷ r.0, r.1, r.2, ap (λ z. x ∷ z) r.3, ap (λ z. z ∷ map f r.0) h ∙ ap (λ z. g ∷ z) r.4, r.5, r.6)

-- one of a list is the one that is asked for
split_any : {A : Type 0} (p : ℕ → Bool) (f : A → ℕ) (xs : List A) → list_any p (map f xs) ≡ true → (u : List A) × (x : A) × (v : List A) × (xs ≡ u ++ x ∷ v) × (p (f x) ≡ true)
split_any p f [] e = absurd (cc)
split_any p f (x ∷ xs) e = elim (cases_Bool (p (f x))) [
  | inl y ↦ ([], x, xs, refl, y)
  | inr n ↦ (let r = split_any p f xs (sym (ap (λ (b : Bool). b || list_any p (map f xs)) n) ∙ e) in (x ∷ r.0, r.1, r.2, ap (λ z. x ∷ z) r.3, r.4))
]

-- ---- acts

-- an act of a list is that of an event
event_of : (events : List Event) (prefix : List Act) (a : Act) (rest : List Act) → flat_map acts_of_event events ≡ prefix ++ a ∷ rest
    → (before : List Event) × (e : Event) × (after : List Event) × (events ≡ before ++ e ∷ after) × (flat_map acts_of_event before ≡ prefix) × (acts_of_event e ≡ a ∷ []) × (flat_map acts_of_event after ≡ rest)
event_of [] [] a rest e = absurd (cc)
event_of [] (f ∷ prefix) a rest e = absurd (cc)
event_of (Started sid r ∷ es) prefix a rest e = let q = event_of es prefix a rest e in (Started sid r ∷ q.0, q.1, q.2, ap (λ z. Started sid r ∷ z) q.3, q.4, q.5, q.6)
event_of (Sent sid r l t vs ∷ es) [] a rest e =
    let h : Sends r l (shown vs) ≡ a = cc in
    let t' : flat_map acts_of_event es ≡ rest = cc in
    ([], Sent sid r l t vs, es, refl, refl, ap (λ z. z ∷ []) h, t')
event_of (Sent sid r l t vs ∷ es) (f ∷ prefix) a rest e =
    let h : Sends r l (shown vs) ≡ f = cc in
    let t' : flat_map acts_of_event es ≡ prefix ++ a ∷ rest = cc in
    let q = event_of es prefix a rest t' in
    (Sent sid r l t vs ∷ q.0, q.1, q.2, ap (λ z. Sent sid r l t vs ∷ z) q.3, ap (λ z. z ∷ flat_map acts_of_event q.0) h ∙ ap (λ z. f ∷ z) q.4, q.5, q.6)
event_of (Received sid r l t vs j ∷ es) [] a rest e =
    let h : Receives r l (shown vs) ≡ a = cc in
    let t' : flat_map acts_of_event es ≡ rest = cc in
    ([], Received sid r l t vs j, es, refl, refl, ap (λ z. z ∷ []) h, t')
event_of (Received sid r l t vs j ∷ es) (f ∷ prefix) a rest e =
    let h : Receives r l (shown vs) ≡ f = cc in
    let t' : flat_map acts_of_event es ≡ prefix ++ a ∷ rest = cc in
    let q = event_of es prefix a rest t' in
    (Received sid r l t vs j ∷ q.0, q.1, q.2, ap (λ z. Received sid r l t vs j ∷ z) q.3, ap (λ z. z ∷ flat_map acts_of_event q.0) h ∙ ap (λ z. f ∷ z) q.4, q.5, q.6)

-- an event with a label is one act
one_act_of : (e : Event) (l : ℕ) → label_of e ≡ Some l → (a : Act) × (acts_of_event e ≡ a ∷ [])
one_act_of (Started sid r) l e = absurd (cc)
one_act_of (Sent sid r l' t vs) l e = (Sends r l' (shown vs), refl)
one_act_of (Received sid r l' t vs j) l e = (Receives r l' (shown vs), refl)

-- the act that may be there is
act_there : (b : Bool) (x : Act) (prefix : List Act) (a : Act) (rest : List Act) → act_if b x ≡ prefix ++ a ∷ rest → (b ≡ true) × (a ≡ x) × (prefix ≡ [])
act_there false x [] a rest e = absurd (cc)
act_there false x (f ∷ prefix) a rest e = absurd (cc)
act_there true x [] a rest e = (refl, (let h : x ≡ a = cc in sym h), refl)
act_there true x (f ∷ []) a rest e = absurd (cc)
act_there true x (f ∷ g ∷ prefix) a rest e = absurd (cc)

counts_true : (ss : List StoredStep) → counts true ss ≡ true
counts_true [] = refl
counts_true (s ∷ ss) = refl

counts_more : (taken : Bool) (fs : List StoredStep) (s : StoredStep) (rest : List StoredStep) → counts taken (fs ++ s ∷ rest) ≡ true
counts_more taken [] s rest = refl
counts_more taken (f ∷ fs) s rest = refl

store_after-append : (store : Map (Option Value)) (xs ys : List StoredStep) → store_after store (xs ++ ys) ≡ store_after (store_after store xs) ys
store_after-append store [] ys = refl
store_after-append store (x ∷ xs) ys = store_after-append (merge store x.writes) xs ys

module _ (g : Graph) (h : ℕ → Bool) where
  -- what a step's sender, and its receiver, does in it
  abbrev sending : StoredStep → Act
  sending s = Sends (sender (shape g) s.label) s.label s.writes

  abbrev receiving : Map (Option Value) → StoredStep → Act
  receiving store s = Receives (receiver (shape g) s.label) s.label (stored (merge store s.writes) (reads g s.label))

  -- all that honest roles do along the steps
  abbrev acts : Map (Option Value) → List StoredStep → List Act
  acts store ss = honest_acts g h true store ss

  acts-append : (taken : Bool) (store : Map (Option Value)) (prefix : List StoredStep) (s : StoredStep) (rest : List StoredStep)
      → honest_acts g h taken store (prefix ++ s ∷ rest) ≡ acts store prefix ++ honest_acts g h taken (store_after store prefix) (s ∷ rest)
  acts-append taken store [] s rest = refl
  acts-append taken store (f ∷ fs) s rest =
      let one = act_if (h (sender (shape g) f.label)) (sending f) in
      let two = λ (b : Bool). act_if (h (receiver (shape g) f.label) && b) (receiving store f) in
      ap (λ (b : Bool). (one ++ two b) ++ honest_acts g h taken (merge store f.writes) (fs ++ s ∷ rest)) (counts_more taken fs s rest ∙ sym (counts_true fs))
      ∙ ap (λ l. (one ++ two (counts true fs)) ++ l) (acts-append taken (merge store f.writes) fs s rest)
      ∙ sym (append_assoc (one ++ two (counts true fs)) (acts (merge store f.writes) fs) (honest_acts g h taken (store_after (merge store f.writes) fs) (s ∷ rest)))

  -- an act of the list: that of a sender, before which all earlier steps were done, or that of a receiver, before which its sender's came too
  abbrev How : Map (Option Value) → List StoredStep → StoredStep → List Act → Act → Type 0
  How store prefix s before a =
      ((a ≡ sending s) × (h (sender (shape g) s.label) ≡ true) × (before ≡ acts store prefix))
      ⊎ ((a ≡ receiving (store_after store prefix) s) × (h (receiver (shape g) s.label) ≡ true) × (before ≡ acts store prefix ++ act_if (h (sender (shape g) s.label)) (sending s)))

  record ActPosition (taken : Bool) (store : Map (Option Value)) (ss : List StoredStep) (before : List Act) (a : Act) (after : List Act) : Type 0 where
    prefix : List StoredStep
    step : StoredStep
    rest : List StoredStep
    there : ss ≡ prefix ++ step ∷ rest
    how : How store prefix step before a
    own : List Act
    later : after ≡ own ++ honest_acts g h taken (merge (store_after store prefix) step.writes) rest
    whole : before ++ a ∷ own ≡ acts store prefix ++ (act_if (h (sender (shape g) step.label)) (sending step) ++ act_if (h (receiver (shape g) step.label) && counts taken rest) (receiving (store_after store prefix) step))

  act_position : (taken : Bool) (store : Map (Option Value)) (ss : List StoredStep) (before : List Act) (a : Act) (after : List Act) → honest_acts g h taken store ss ≡ before ++ a ∷ after → ActPosition taken store ss before a after
  act_position taken store [] [] a after e = absurd (cc)
  act_position taken store [] (b ∷ before) a after e = absurd (cc)
  act_position taken store (s ∷ ss) before a after e = elim (split_two (one ++ two) more before a after e) [
    | inl p ↦ here p.0 p.1 p.2
    | inr p ↦ there_ p.0 p.1 (act_position taken (merge store s.writes) ss p.0 a after p.2)
  ]
    where
      one : List Act
      one = act_if (h (sender (shape g) s.label)) (sending s)

      two : List Act
      two = act_if (h (receiver (shape g) s.label) && counts taken ss) (receiving store s)

      more : List Act
      more = honest_acts g h taken (merge store s.writes) ss

      here : (r : List Act) → one ++ two ≡ before ++ a ∷ r → after ≡ r ++ more → ActPosition taken store (s ∷ ss) before a after
      here r q l = elim (split_two one two before a r q) [
        | inl p ↦ (let t = act_there (h (sender (shape g) s.label)) (sending s) before a p.0 p.1 in
            record { prefix = []; step = s; rest = ss; there = refl; how = inl (t.1, t.0, t.2); own = r; later = l; whole = sym q })
        | inr p ↦ (let t = act_there (h (receiver (shape g) s.label) && counts taken ss) (receiving store s) p.0 a r p.2 in
            record { prefix = []; step = s; rest = ss; there = refl; how = inr (t.1, and_left (h (receiver (shape g) s.label)) (counts taken ss) t.0, p.1 ∙ ap (λ l. one ++ l) t.2 ∙ append-nil one); own = r; later = l; whole = sym q })
      ]

      there_ : (f : List Act) → before ≡ (one ++ two) ++ f → ActPosition taken (merge store s.writes) ss f a after → ActPosition taken store (s ∷ ss) before a after
      there_ f q p = record {
        prefix = s ∷ p.prefix;
        step = p.step;
        rest = p.rest;
        there = ap (λ z. s ∷ z) p.there;
        how = elim p.how [
          | inl y ↦ inl (y.0, y.1, before_is ∙ ap (λ l. prefix_acts ++ l) y.2)
          | inr y ↦ inr (y.0, y.1, before_is ∙ ap (λ l. prefix_acts ++ l) y.2 ∙ sym (append_assoc prefix_acts (acts (merge store s.writes) p.prefix) (act_if (h (sender (shape g) p.step.label)) (sending p.step))))
        ];
        own = p.own;
        later = p.later;
        whole = ap (λ l. l ++ a ∷ p.own) before_is ∙ append_assoc prefix_acts f (a ∷ p.own) ∙ ap (λ l. prefix_acts ++ l) p.whole ∙ sym (append_assoc prefix_acts (acts (merge store s.writes) p.prefix) step_acts);
      }
        where
          step_acts : List Act
          step_acts = act_if (h (sender (shape g) p.step.label)) (sending p.step) ++ act_if (h (receiver (shape g) p.step.label) && counts taken p.rest) (receiving (store_after (merge store s.writes) p.prefix) p.step)

          prefix_acts : List Act
          prefix_acts = one ++ act_if (h (receiver (shape g) s.label) && counts true p.prefix) (receiving store s)

          before_is : before ≡ prefix_acts ++ f
          before_is = q ∙ ap (λ (b : Bool). (one ++ act_if (h (receiver (shape g) s.label) && b) (receiving store s)) ++ f) (ap (counts taken) p.there ∙ counts_more taken p.prefix p.step p.rest ∙ sym (counts_true p.prefix))

  -- ---- events

  of_sending : (prefix : List StoredStep) (s : StoredStep) (e : Event) (a : Act) → acts_of_event e ≡ a ∷ [] → a ≡ sending s → (does_send e ≡ true) × IsOfStep g prefix s e
  of_sending prefix s (Started sid r) a q w = absurd (cc)
  of_sending prefix s (Sent sid r l t vs) a q w =
      let z : Sends r l (shown vs) ≡ sending s = cc in
      let i : l ≡ s.label = cc in
      let j : r ≡ sender (shape g) s.label = cc in
      let k : shown vs ≡ s.writes = cc in
      (refl, (i, j, k))
  of_sending prefix s (Received sid r l t vs j) a q w = absurd (let z : Receives r l (shown vs) ≡ sending s = cc in cc)

  of_receiving : (prefix : List StoredStep) (s : StoredStep) (e : Event) (a : Act) → acts_of_event e ≡ a ∷ [] → a ≡ receiving (store_after [] prefix) s → (does_send e ≡ false) × IsOfStep g prefix s e
  of_receiving prefix s (Started sid r) a q w = absurd (cc)
  of_receiving prefix s (Received sid r l t vs j) a q w =
      let z : Receives r l (shown vs) ≡ receiving (store_after [] prefix) s = cc in
      let i : l ≡ s.label = cc in
      let j : r ≡ receiver (shape g) s.label = cc in
      let k : shown vs ≡ stored (merge (store_after [] prefix) s.writes) (reads g s.label) = cc in
      (refl, (i, j, k))
  of_receiving prefix s (Sent sid r l t vs) a q w = absurd (let z : Sends r l (shown vs) ≡ receiving (store_after [] prefix) s = cc in cc)

  sends_as : (prefix : List StoredStep) (s : StoredStep) (e : Event) → does_send e ≡ true → IsOfStep g prefix s e → role_of e ≡ sender (shape g) s.label
  sends_as prefix s (Started sid r) d o = absurd o
  sends_as prefix s (Sent sid r l t vs) d o = o.1
  sends_as prefix s (Received sid r l t vs j) d o = absurd (let z : false ≡ true = d in cc)

  receives_as : (prefix : List StoredStep) (s : StoredStep) (e : Event) → does_send e ≡ false → IsOfStep g prefix s e → role_of e ≡ receiver (shape g) s.label
  receives_as prefix s (Started sid r) d o = absurd o
  receives_as prefix s (Sent sid r l t vs) d o = absurd (let z : true ≡ false = d in cc)
  receives_as prefix s (Received sid r l t vs j) d o = o.1

  at_sending : (prefix : List StoredStep) (s : StoredStep) (before : List Event) (e : Event) → does_send e ≡ true → IsOfStep g prefix s e → h (sender (shape g) s.label) ≡ true → flat_map acts_of_event before ≡ acts [] prefix → IsAtStep g h prefix s before e
  at_sending prefix s before e d o y x = record { is_of = o; by_honest = ap h (sends_as prefix s e d o) ∙ y; earlier = x ∙ ap (acts_before g h prefix s) (sym d) }

  at_receiving : (prefix : List StoredStep) (s : StoredStep) (before : List Event) (e : Event) → does_send e ≡ false → IsOfStep g prefix s e → h (receiver (shape g) s.label) ≡ true → flat_map acts_of_event before ≡ acts [] prefix ++ act_if (h (sender (shape g) s.label)) (sending s) → IsAtStep g h prefix s before e
  at_receiving prefix s before e d o y x = record { is_of = o; by_honest = ap h (receives_as prefix s e d o) ∙ y; earlier = x ∙ ap (acts_before g h prefix s) (sym d) }

  -- among events with these acts is the sending of an honest sender's step
  has_sent : (past events : List Event) (own : List Act) (store : Map (Option Value)) (up : List StoredStep) (s : StoredStep) (rest : List Act) (prefix : List StoredStep)
      → h (sender (shape g) s.label) ≡ true → flat_map acts_of_event past ++ (own ++ acts store up) ≡ acts [] prefix → flat_map acts_of_event events ≡ (own ++ acts store up) ++ sending s ∷ rest → HasSent g h prefix s past events
  has_sent past events own store up s rest prefix y link e =
      let q = event_of events (own ++ acts store up) (sending s) rest e in
      let o = of_sending prefix s q.1 (sending s) q.5 refl in
      record {
        prefix = q.0;
        event = q.1;
        rest = q.2;
        there = q.3;
        sends = o.0;
        is_at = at_sending prefix s (past ++ q.0) q.1 o.0 o.1 y (flat_map-append acts_of_event past q.0 ∙ ap (λ l. flat_map acts_of_event past ++ l) q.4 ∙ link);
      }

  module _ (past events : List Event) (own : List Act) (store : Map (Option Value)) (up : List StoredStep) (s : StoredStep) (down : List StoredStep) (tail : List Act) (prefix : List StoredStep)
      (link : flat_map acts_of_event past ++ (own ++ acts store up) ≡ acts [] prefix) (are : flat_map acts_of_event events ≡ own ++ (acts store (up ++ s ∷ down) ++ tail)) where
    abbrev one_ : List Act
    one_ = act_if (h (sender (shape g) s.label)) (sending s)

    abbrev two_ : List Act
    two_ = act_if (h (receiver (shape g) s.label) && counts true down) (receiving (store_after store up) s)

    abbrev more_ : List Act
    more_ = acts (merge (store_after store up) s.writes) down

    parts : flat_map acts_of_event events ≡ (own ++ acts store up) ++ (((one_ ++ two_) ++ more_) ++ tail)
    parts = are ∙ ap (λ l. own ++ (l ++ tail)) (acts-append true store up s down)
        ∙ ap (λ l. own ++ l) (append_assoc (acts store up) ((one_ ++ two_) ++ more_) tail)
        ∙ sym (append_assoc own (acts store up) (((one_ ++ two_) ++ more_) ++ tail))

    was_sent : h (sender (shape g) s.label) ≡ true → HasSent g h prefix s past events
    was_sent y = has_sent past events own store up s ((two_ ++ more_) ++ tail) prefix y link
        (parts ∙ ap (λ (b : Bool). (own ++ acts store up) ++ (((act_if b (sending s) ++ two_) ++ more_) ++ tail)) y)

    was_received : store_after [] prefix ≡ store_after store up → h (receiver (shape g) s.label) ≡ true → HasReceived g h prefix s past events
    was_received st y =
        let all = own ++ acts store up in
        let q = event_of events (all ++ one_) (receiving (store_after store up) s) (more_ ++ tail) at in
        let o = of_receiving prefix s q.1 (receiving (store_after store up) s) q.5 (ap (λ z. receiving z s) (sym st)) in
        record {
          prefix = q.0;
          event = q.1;
          rest = q.2;
          there = q.3;
          receives = o.0;
          is_at = at_receiving prefix s (past ++ q.0) q.1 o.0 o.1 y
              (flat_map-append acts_of_event past q.0 ∙ ap (λ l. flat_map acts_of_event past ++ l) q.4 ∙ sym (append_assoc (flat_map acts_of_event past) all one_) ∙ ap (λ l. l ++ one_) link);
          sent = λ z. has_sent past q.0 own store up s [] prefix z link (q.4 ∙ ap (λ (b : Bool). all ++ act_if b (sending s)) z);
        }
      where
        at : flat_map acts_of_event events ≡ ((own ++ acts store up) ++ one_) ++ receiving (store_after store up) s ∷ (more_ ++ tail)
        at = parts
            ∙ ap (λ (b : Bool). (own ++ acts store up) ++ (((one_ ++ act_if b (receiving (store_after store up) s)) ++ more_) ++ tail)) (ap (λ (b : Bool). b && counts true down) y ∙ counts_true down)
            ∙ ap (λ l. (own ++ acts store up) ++ (l ++ tail)) (append_assoc one_ (receiving (store_after store up) s ∷ []) more_)
            ∙ ap (λ l. (own ++ acts store up) ++ l) (append_assoc one_ (receiving (store_after store up) s ∷ more_) tail)
            ∙ sym (append_assoc (own ++ acts store up) one_ (receiving (store_after store up) s ∷ (more_ ++ tail)))

  -- where an event stands: the steps before, its own, and what honest roles did before
  record Position (taken : Bool) (steps : List StoredStep) (before : List Act) (e : Event) (after : List Act) : Type 0 where
    prefix : List StoredStep
    step : StoredStep
    rest : List StoredStep
    there : steps ≡ prefix ++ step ∷ rest
    is_of : IsOfStep g prefix step e
    tail : List Act
    earlier : before ≡ acts [] prefix ++ tail
    which : ((does_send e ≡ true) × (tail ≡ [])) ⊎ ((does_send e ≡ false) × (tail ≡ act_if (h (sender (shape g) step.label)) (sending step)))
    at : before ≡ acts_before g h prefix step (does_send e)
    by_honest : h (role_of e) ≡ true
    own : List Act
    later : after ≡ own ++ honest_acts g h taken (merge (store_after [] prefix) step.writes) rest
    whole : before ++ (acts_of_event e ++ own) ≡ acts [] prefix ++ (act_if (h (sender (shape g) step.label)) (sending step) ++ act_if (h (receiver (shape g) step.label) && counts taken rest) (receiving (store_after [] prefix) step))

  position : (taken : Bool) (steps : List StoredStep) (before : List Act) (a : Act) (after : List Act) (e : Event) → honest_acts g h taken [] steps ≡ before ++ a ∷ after → acts_of_event e ≡ a ∷ [] → Position taken steps before e after
  position taken steps before a after e q w = from (act_position taken [] steps before a after q)
    where
      from : ActPosition taken [] steps before a after → Position taken steps before e after
      from p = elim p.how [
        | inl y ↦ (let o = of_sending p.prefix p.step e a w y.0 in
            record { prefix = p.prefix; step = p.step; rest = p.rest; there = p.there; is_of = o.1; tail = []; earlier = y.2 ∙ sym (append-nil (acts [] p.prefix)); which = inl (o.0, refl); at = y.2 ∙ ap (acts_before g h p.prefix p.step) (sym o.0); by_honest = ap h (sends_as p.prefix p.step e o.0 o.1) ∙ y.1; own = p.own; later = p.later; whole = ap (λ z. before ++ (z ++ p.own)) w ∙ p.whole })
        | inr y ↦ (let o = of_receiving p.prefix p.step e a w y.0 in
            record { prefix = p.prefix; step = p.step; rest = p.rest; there = p.there; is_of = o.1; tail = act_if (h (sender (shape g) p.step.label)) (sending p.step); earlier = y.2; which = inr (o.0, refl); at = y.2 ∙ ap (acts_before g h p.prefix p.step) (sym o.0); by_honest = ap h (receives_as p.prefix p.step e o.0 o.1) ∙ y.1; own = p.own; later = p.later; whole = ap (λ z. before ++ (z ++ p.own)) w ∙ p.whole })
      ]

  its_label : (prefix : List StoredStep) (s : StoredStep) (e : Event) (l : ℕ) → IsOfStep g prefix s e → label_of e ≡ Some l → l ≡ s.label
  its_label prefix s (Started sid r) l o q = absurd o
  its_label prefix s (Sent sid r l' t vs) l o q = let z : l' ≡ l = cc in sym z ∙ o.0
  its_label prefix s (Received sid r l' t vs j) l o q = let z : l' ≡ l = cc in sym z ∙ o.0

  -- two events stand for one step or for two
  module _ (taken : Bool) (steps : List StoredStep) (events : List Event) (explained : flat_map acts_of_event events ≡ honest_acts g h taken [] steps) where
    -- where an event of the list stands
    occurs : (before : List Event) (e : Event) (after : List Event) (l : ℕ) → events ≡ before ++ e ∷ after → label_of e ≡ Some l → Position taken steps (flat_map acts_of_event before) e (flat_map acts_of_event after)
    occurs before e after l q n =
        let a = one_act_of e l n in
        position taken steps (flat_map acts_of_event before) a.0 (flat_map acts_of_event after) e
        (sym explained ∙ ap (flat_map acts_of_event) q ∙ flat_map-append acts_of_event before (e ∷ after) ∙ ap (λ z. flat_map acts_of_event before ++ (z ++ flat_map acts_of_event after)) a.1) a.1

    two_events : (before : List Event) (d : Event) (between : List Event) (e : Event) (after : List Event) (k l : ℕ) → events ≡ before ++ d ∷ between ++ e ∷ after → label_of d ≡ Some k → label_of e ≡ Some l
        → AreOfOneStep g h steps before d between e ⊎ AreOfTwoSteps g h steps before d between e
    two_events before d between e after k l q m n = from (occurs (before ++ d ∷ between) e after l q n)
      where
        ad : Act
        ad = (one_act_of d k m).0

        ad_is : acts_of_event d ≡ ad ∷ []
        ad_is = (one_act_of d k m).1

        b : List Act
        b = flat_map acts_of_event before

        c : List Act
        c = flat_map acts_of_event between

        from : Position taken steps (flat_map acts_of_event (before ++ d ∷ between)) e (flat_map acts_of_event after) → AreOfOneStep g h steps before d between e ⊎ AreOfTwoSteps g h steps before d between e
        from p = elim (split_two (acts [] p.prefix) p.tail b ad c (sym p.earlier ∙ flat_map-append acts_of_event before (d ∷ between) ∙ ap (λ z. b ++ (z ++ c)) ad_is)) [
          | inl r ↦ inr (apart r.0 (position true p.prefix b ad r.0 d r.1 ad_is) r.2)
          | inr r ↦ inl (one r.0 p.which r.1 r.2)
        ]
          where
            one : (f : List Act) → ((does_send e ≡ true) × (p.tail ≡ [])) ⊎ ((does_send e ≡ false) × (p.tail ≡ act_if (h (sender (shape g) p.step.label)) (sending p.step))) → b ≡ acts [] p.prefix ++ f → p.tail ≡ f ++ ad ∷ c → AreOfOneStep g h steps before d between e
            one f (inl y) z t = absurd (none f (sym y.1 ∙ t))
              where
                none : (f : List Act) → [] ≡ f ++ ad ∷ c → ⊥
                none [] z = cc
                none (x ∷ f) z = cc
            one f (inr y) z t =
                let a = act_there (h (sender (shape g) p.step.label)) (sending p.step) f ad c (sym y.1 ∙ t) in
                let o = of_sending p.prefix p.step d ad ad_is a.1 in
                record {
                  prefix = p.prefix;
                  step = p.step;
                  rest = p.rest;
                  there = p.there;
                  sends = o.0;
                  receives = y.0;
                  is_sent = at_sending p.prefix p.step before d o.0 o.1 a.0 (z ∙ ap (λ l. acts [] p.prefix ++ l) a.2 ∙ append-nil (acts [] p.prefix));
                  is_received = record { is_of = p.is_of; by_honest = p.by_honest; earlier = p.at };
                }

            apart : (r : List Act) → Position true p.prefix b d r → c ≡ r ++ p.tail → AreOfTwoSteps g h steps before d between e
            apart r o t = record {
              prefix = o.prefix;
              first = o.step;
              between = o.rest;
              second = p.step;
              rest = p.rest;
              there = p.there ∙ ap (λ z. z ++ p.step ∷ p.rest) o.there;
              is_first = record { is_of = o.is_of; by_honest = o.by_honest; earlier = o.at };
              is_second = subst (λ z. IsAtStep g h z p.step (before ++ d ∷ between) e) o.there record { is_of = p.is_of; by_honest = p.by_honest; earlier = p.at };
              sent = λ up s down z y. was_sent (before ++ d ∷ []) between o.own store up s down p.tail (o.prefix ++ o.step ∷ up) (link up) (are (up ++ s ∷ down) z) y;
              received = λ up s down z y. was_received (before ++ d ∷ []) between o.own store up s down p.tail (o.prefix ++ o.step ∷ up) (link up) (are (up ++ s ∷ down) z) (store_after-append [] o.prefix (o.step ∷ up)) y;
            }
              where
                store : Map (Option Value)
                store = merge (store_after [] o.prefix) o.step.writes

                first_sends : List Act
                first_sends = act_if (h (sender (shape g) o.step.label)) (sending o.step)

                first_receives : Bool → List Act
                first_receives c = act_if (h (receiver (shape g) o.step.label) && c) (receiving (store_after [] o.prefix) o.step)

                -- what came before the step, and what is done in it and after
                link : (up : List StoredStep) → flat_map acts_of_event (before ++ d ∷ []) ++ (o.own ++ acts store up) ≡ acts [] (o.prefix ++ o.step ∷ up)
                link up =
                    ap (λ l. l ++ (o.own ++ acts store up)) (flat_map-append acts_of_event before (d ∷ []) ∙ ap (λ l. b ++ l) (append-nil (acts_of_event d)))
                    ∙ sym (append_assoc (b ++ acts_of_event d) o.own (acts store up))
                    ∙ ap (λ l. l ++ acts store up) (append_assoc b (acts_of_event d) o.own ∙ o.whole)
                    ∙ append_assoc (acts [] o.prefix) (first_sends ++ first_receives (counts true o.rest)) (acts store up)
                    ∙ ap (λ (c : Bool). acts [] o.prefix ++ ((first_sends ++ first_receives c) ++ acts store up)) (counts_true o.rest ∙ sym (counts_true up))
                    ∙ sym (acts-append true [] o.prefix o.step up)

                are : (ss : List StoredStep) → o.rest ≡ ss → c ≡ o.own ++ (acts store ss ++ p.tail)
                are ss z = t ∙ ap (λ l. l ++ p.tail) (o.later ∙ ap (λ w. o.own ++ acts store w) z) ∙ append_assoc o.own (acts store ss) p.tail

    -- ---- what claims say

    module _ (c : Claim) (on : HoldsOn c (labels steps)) where
      -- the labels of a step's list
      label : StoredStep → ℕ
      label s = s.label

      caused : c.kind ≡ Needs → (before : List Event) (e : Event) (after : List Event) (l : ℕ) → events ≡ before ++ e ∷ after → label_of e ≡ Some l → IsTrue (is_in l c.later) → HasCause g h c steps before e
      caused kind before e after l q n i = from (occurs before e after l q n)
        where
          from : Position taken steps (flat_map acts_of_event before) e (flat_map acts_of_event after) → HasCause g h c steps before e
          from p = made (split_map (λ (s : StoredStep). s.label) p.prefix right.prefix right.label right.rest right.there)
            where
              right : OccursSince c.earlier c.since (labels p.prefix)
              right = subst (λ z. IsRight z c.earlier c.since (labels p.prefix)) kind
                  (on (labels p.prefix) p.step.label (labels p.rest) (ap labels p.there ∙ map-append (λ (s : StoredStep). s.label) p.prefix (p.step ∷ p.rest)) (subst (λ z. IsTrue (is_in z c.later)) (its_label p.prefix p.step e l p.is_of n) i))

              made : (u : List StoredStep) × (x : StoredStep) × (v : List StoredStep) × (p.prefix ≡ u ++ x ∷ v) × (labels u ≡ right.prefix) × (x.label ≡ right.label) × (labels v ≡ right.rest) → HasCause g h c steps before e
              made m = record {
                prefix = m.0;
                cause = m.1;
                between = m.2;
                step = p.step;
                rest = p.rest;
                there = p.there ∙ ap (λ z. z ++ p.step ∷ p.rest) m.3;
                is_at = subst (λ z. IsAtStep g h z p.step before e) m.3 record { is_of = p.is_of; by_honest = p.by_honest; earlier = p.at };
                is_earlier = subst (λ z. IsTrue (is_in z c.earlier)) (sym m.5) right.is_earlier;
                none_since = ap (list_any (λ l. is_in l c.since)) m.6 ∙ right.none_since;
                sent = λ y. was_sent [] before [] [] m.0 m.1 m.2 p.tail m.0 refl are y;
                received = λ y. was_received [] before [] [] m.0 m.1 m.2 p.tail m.0 refl are refl y;
              }
                where
                  are : flat_map acts_of_event before ≡ acts [] (m.0 ++ m.1 ∷ m.2) ++ p.tail
                  are = p.earlier ∙ ap (λ z. acts [] z ++ p.tail) m.3

      -- the labels of two steps' walk
      module _ {d e : Event} {before es : List Event} (t : AreOfTwoSteps g h steps before d es e) where
        their : labels steps ≡ labels (t.prefix ++ t.first ∷ t.between) ++ t.second.label ∷ labels t.rest
        their = ap labels t.there ∙ map-append (λ (s : StoredStep). s.label) (t.prefix ++ t.first ∷ t.between) (t.second ∷ t.rest)

        first_two : labels (t.prefix ++ t.first ∷ t.between) ≡ labels t.prefix ++ t.first.label ∷ labels t.between
        first_two = map-append (λ (s : StoredStep). s.label) t.prefix (t.first ∷ t.between)

        its_own : c.kind ≡ Needs → IsTrue (is_in t.first.label c.since) → IsTrue (is_in t.second.label c.later) → HaveCause c (t.first ∷ t.between)
        its_own kind i j = made (split_map (λ (s : StoredStep). s.label) (t.first ∷ t.between) right.prefix right.label right.rest right.there)
          where
            right : OccursSince c.earlier c.since (labels (t.first ∷ t.between))
            right = has_its_own c (labels t.prefix) t.first.label (labels t.between) t.second.label (labels t.rest) kind (subst (HoldsOn c) (their ∙ ap (λ z. z ++ t.second.label ∷ labels t.rest) first_two) on) i j

            made : (u : List StoredStep) × (x : StoredStep) × (v : List StoredStep) × (t.first ∷ t.between ≡ u ++ x ∷ v) × (labels u ≡ right.prefix) × (x.label ≡ right.label) × (labels v ≡ right.rest) → HaveCause c (t.first ∷ t.between)
            made m = record { prefix = m.0; cause = m.1; rest = m.2; there = m.3; is_earlier = subst (λ z. IsTrue (is_in z c.earlier)) (sym m.5) right.is_earlier; none_since = ap (list_any (λ l. is_in l c.since)) m.6 ∙ right.none_since }

        parted : c.kind ≡ Bars → IsTrue (is_in t.first.label c.earlier) → IsTrue (is_in t.second.label c.later) → HaveSince c t.between
        parted kind i j = elim (cases_Bool (list_any (λ l. is_in l c.since) (labels t.between))) [
          | inl y ↦ (let m = split_any (λ l. is_in l c.since) (λ (s : StoredStep). s.label) t.between y in record { prefix = m.0; step = m.1; rest = m.2; there = m.3; is_since = m.4 })
          | inr n ↦ absurd (bars record { prefix = labels t.prefix; label = t.first.label; rest = labels t.between; there = first_two; is_earlier = i; none_since = n })
        ]
          where
            bars : OccursSince c.earlier c.since (labels (t.prefix ++ t.first ∷ t.between)) → ⊥
            bars = subst (λ z. IsRight z c.earlier c.since (labels (t.prefix ++ t.first ∷ t.between))) kind (on (labels (t.prefix ++ t.first ∷ t.between)) t.second.label (labels t.rest) their j)

      kept : IsClaimKept g h events steps c
      kept = record { on_walk = on; caused = caused; own = own_; barred = barred_; never = never_ }
        where
          own_ : c.kind ≡ Needs → (before : List Event) (d : Event) (between : List Event) (e : Event) (after : List Event) (k l : ℕ) → events ≡ before ++ d ∷ between ++ e ∷ after → label_of d ≡ Some k → label_of e ≡ Some l → IsTrue (is_in k c.since) → IsTrue (is_in l c.later)
              → AreOfOneStep g h steps before d between e ⊎ ((t : AreOfTwoSteps g h steps before d between e) × HaveCause c (t.first ∷ t.between))
          own_ kind before d between e after k l q m n i j = elim (two_events before d between e after k l q m n) [
            | inl o ↦ inl o
            | inr t ↦ inr (t, its_own t kind (subst (λ z. IsTrue (is_in z c.since)) (its_label t.prefix t.first d k t.is_first.is_of m) i) (subst (λ z. IsTrue (is_in z c.later)) (its_label (t.prefix ++ t.first ∷ t.between) t.second e l t.is_second.is_of n) j))
          ]

          barred_ : c.kind ≡ Bars → (before : List Event) (d : Event) (between : List Event) (e : Event) (after : List Event) (k l : ℕ) → events ≡ before ++ d ∷ between ++ e ∷ after → label_of d ≡ Some k → label_of e ≡ Some l → IsTrue (is_in k c.earlier) → IsTrue (is_in l c.later)
              → AreOfOneStep g h steps before d between e ⊎ ((t : AreOfTwoSteps g h steps before d between e) × HaveSince c t.between)
          barred_ kind before d between e after k l q m n i j = elim (two_events before d between e after k l q m n) [
            | inl o ↦ inl o
            | inr t ↦ inr (t, parted t kind (subst (λ z. IsTrue (is_in z c.earlier)) (its_label t.prefix t.first d k t.is_first.is_of m) i) (subst (λ z. IsTrue (is_in z c.later)) (its_label (t.prefix ++ t.first ∷ t.between) t.second e l t.is_second.is_of n) j))
          ]

          no_since : (c.since ≡ []) → {ss : List StoredStep} → HaveSince c ss → ⊥
          no_since z h = absurd (let t : is_in h.step.label [] ≡ true = subst (λ xs. is_in h.step.label xs ≡ true) z h.is_since in cc)

          never_ : c.kind ≡ Bars → c.since ≡ [] → (before : List Event) (d : Event) (between : List Event) (e : Event) (after : List Event) (k l : ℕ) → events ≡ before ++ d ∷ between ++ e ∷ after → label_of d ≡ Some k → label_of e ≡ Some l → IsTrue (is_in k c.earlier) → IsTrue (is_in l c.later) → AreOfOneStep g h steps before d between e
          never_ kind z before d between e after k l q m n i j = elim (barred_ kind before d between e after k l q m n i j) [
            | inl o ↦ o
            | inr t ↦ absurd (no_since z t.1)
          ]

-- a claim of the graph is kept by what one path explains
pub path_keeps : (g : Graph) (h : ℕ → Bool) (events : List Event) (steps : List StoredStep) (c : Claim) → OnePath g h events steps → HoldsOnWalks (shape g) c → IsClaimKept g h events steps c
path_keeps g h events steps c path holds = kept g h path.taken steps events path.explained c (holds (labels steps) path.walk.walk)

-- if the assumptions hold, claims of a session's graph are kept
pub claims_are_kept : (sha : Hash) → IsHash sha → ClaimsAreKept sha
claims_are_kept sha hash programs s compiled sched premises sid some =
    (sessions_follow_walks sha hash programs s compiled sched premises sid some, λ x c holds. path_keeps x.graph (honest_role s x.cast) (events_of sid (run sha programs s).log) x.steps c x.path holds)

-- an event doesn't stand at a later step too
module _ (g : Graph) (h : ℕ → Bool) (f : List StoredStep) (s : StoredStep) (w : List StoredStep) (t : StoredStep) (before : List Event) (e : Event) where
  not_later : IsAtStep g h f s before e → IsAtStep g h (f ++ s ∷ w) t before e → ⊥
  not_later a b = earlier (does_send e) refl
    where
      one : List Act
      one = act_if (h (sender (shape g) s.label)) (sending g h s)

      two : List Act
      two = act_if (h (receiver (shape g) s.label) && counts true w) (receiving g h (store_after [] f) s)

      more : List Act
      more = acts g h (merge (store_after [] f) s.writes) w

      long : length (acts g h [] (f ++ s ∷ w)) ≡ length (acts g h [] f) + (length one + length two + length more)
      long = ap length (acts-append g h true [] f s w) ∙ length-append (acts g h [] f) ((one ++ two) ++ more) ∙ ap (λ n. length (acts g h [] f) + n) (length-append (one ++ two) more ∙ ap (λ n. n + length more) (length-append one two))

      same : acts_before g h f s (does_send e) ≡ acts_before g h (f ++ s ∷ w) t (does_send e)
      same = sym a.earlier ∙ b.earlier

      earlier : (d : Bool) → does_send e ≡ d → ⊥
      earlier true q =
          let n : length (acts g h [] f) ≡ length (acts g h [] (f ++ s ∷ w)) = ap length (subst (λ d. acts_before g h f s d ≡ acts_before g h (f ++ s ∷ w) t d) q same) in
          let y : h (sender (shape g) s.label) ≡ true = ap h (sym (sends_as g h f s e q a.is_of)) ∙ a.by_honest in
          let m : length one ≡ 1 = ap (λ (d : Bool). length (act_if d (sending g h s))) y in
          omega (arith, n, m, long)
      earlier false q =
          let n : length (acts g h [] f ++ one) ≡ length (acts g h [] (f ++ s ∷ w) ++ act_if (h (sender (shape g) t.label)) (sending g h t)) = ap length (subst (λ d. acts_before g h f s d ≡ acts_before g h (f ++ s ∷ w) t d) q same) in
          let y : h (receiver (shape g) s.label) ≡ true = ap h (sym (receives_as g h f s e q a.is_of)) ∙ a.by_honest in
          let m : length two ≡ 1 = ap (λ (d : Bool). length (act_if (d && counts true w) (receiving g h (store_after [] f) s))) y ∙ ap (λ (d : Bool). length (act_if d (receiving g h (store_after [] f) s))) (counts_true w) in
          let l = length-append (acts g h [] f) one in
          let k = length-append (acts g h [] (f ++ s ∷ w)) (act_if (h (sender (shape g) t.label)) (sending g h t)) in
          omega (arith, n, m, long, l, k)

-- an event stands at one step
pub occur_once : EventsOccurOnce
occur_once g h f s r f' s' r' before e q a b = elim (split_two f (s ∷ r) f' s' r' q) [
  | inl z ↦ absurd (not_later g h f' s' z.0 s before e b (subst (λ l. IsAtStep g h l s before e) z.1 a))
  | inr z ↦ equal z.0 z.1 z.2
]
  where
    equal : (l : List StoredStep) → f' ≡ f ++ l → s ∷ r ≡ l ++ s' ∷ r' → f ≡ f'
    equal [] i j = sym (i ∙ append-nil f)
    equal (x ∷ l) i j =
        let k : s ≡ x = cc in
        absurd (not_later g h f s l s' before e a (subst (λ z. IsAtStep g h z s' before e) (i ∙ ap (λ z. f ++ z ∷ l) (sym k)) b))
