-- Principals of whom each two hold one key hold the keys of a list of pairs.
use Rattle.std.specs.Prelude.{◌≡◌, ◌≢◌, ℕ, zero, suc, ◌+◌, ◌<◌, ◌==◌, ◌&&◌, ◌⊎◌, true, false, not, if◌then◌else◌, List, [], ◌∷◌, map, flat_map, filter_map, length, find, position, bytes_eq, get_or, refl, Option, Some, None, option_map, unwrap_or, nat_lt, ◌++◌}
use Rattle.std.specs.List.{AllByRecursion, cons_option, list_all, prefix_len}
use Rattle.std.proofs.Common.{sym, ◌∙◌, ap, subst, inl, inr, arith}
use Rattle.std.proofs.lemmas.Bool.{cases_Bool, and_parts, eq-eqb}
use Rattle.std.proofs.lemmas.Bool.Decides.{nat_tests}
use Rattle.sg_model.specs.Lists.{is_in, rises_from, same_text, value_at}
use Rattle.sg_model.specs.Names.{Name}
use Rattle.sg_model.specs.Shape.{receiver, sender}
use Rattle.sg_model.specs.Values.{Opening}
use Rattle.sg_model.proofs.Small.{same_bytes, bytes_same, clash, all-append}
use Rattle.sg_model.proofs.Members.{In, in_flat}
use Rattle.sg_protocol.specs.Graph.{Graph, shape}
use Rattle.sg_protocol.specs.Targets.{IsTargetTable}
use Rattle.sg_protocol.specs.Frame.{Cast, Frame, Item}
use Rattle.sg_protocol.specs.Texts.{Hash, cut, hmac}
use Rattle.sg_protocol.specs.Keyring.{Keyring, Program, key_of, targets_of}
use Rattle.sg_protocol.specs.Session.{Session, principal, transcript, own_part, own_time}
use Rattle.sg_protocol.specs.Sending.{tag_for, text_of, text_to, plain_item, plain_frame, own_item, frame_sent}
use Rattle.sg_protocol.specs.Checks.{checked_texts, texts_checked}
use Rattle.sg_protocol.specs.Calls.{BadFrameTag, NoSuchView, BadEvidence, BadOpening}
use Rattle.sg_protocol.specs.Verdict.{row, rows_of_session, has_frame_tag, has_item_tag, is_shown, bad_time, is_right}
use Rattle.sg_protocol.specs.Schedule.{PairKey}
use Rattle.sg_protocol.specs.World.{keyring_of}

pub in_at : (xs : List Name) (k : ℕ) → k < length xs → In xs (get_or xs k [])
in_at [] k l = absurd (omega (arith, l))
in_at (x ∷ xs) zero l = inl refl
in_at (x ∷ xs) (suc k) l = inr (in_at xs k (omega (arith, l)))

-- ---- the pairs of a cast

module _ (Key : Name → Name → Option (List ℕ)) where
  -- the pair of two names, if they differ and the one holds a key for the other
  abbrev pair_of : Name → Name → Option PairKey
  pair_of a b = if bytes_eq a b then None else option_map (λ key. record { one = a; two = b; key = key }) (Key a b)

  -- the pairs of the names
  abbrev pub pair_keys : List Name → List PairKey
  pair_keys ns = flat_map (λ a. filter_map (pair_of a) ns) ns

  -- a pair's key is held by both
  record Good (k : PairKey) : Type 0 where
    one : Key k.one k.two ≡ Some k.key
    two : Key k.two k.one ≡ Some k.key
    differ : k.one ≢ k.two

  module _ (a b : Name) where
    -- what the list says is right
    right : (ks : List PairKey) → AllByRecursion Good ks → (key_of (keyring_of ks a) b ≡ None) ⊎ (key_of (keyring_of ks a) b ≡ Key a b)
    right [] g = inl refl
    right (k ∷ ks) g = elim (cases_Bool (bytes_eq k.one a)) [
      | inl e ↦ elim (cases_Bool (bytes_eq k.two b)) [
        | inl f ↦ rw (e, f) (inr (sym (g.0).one ∙ ap (λ z. Key z k.two) (same_bytes k.one a e) ∙ ap (Key a) (same_bytes k.two b f)))
        | inr f ↦ rw (e, f) (right ks g.1)
      ]
      | inr e ↦ elim (cases_Bool (bytes_eq k.two a)) [
        | inl f ↦ elim (cases_Bool (bytes_eq k.one b)) [
          | inl h ↦ rw (e, f, h) (inr (sym (g.0).two ∙ ap (λ z. Key z k.one) (same_bytes k.two a f) ∙ ap (Key a) (same_bytes k.one b h)))
          | inr h ↦ rw (e, f, h) (right ks g.1)
        ]
        | inr f ↦ rw (e, f) (right ks g.1)
      ]
    ]

    -- what is in the list is found
    found : (ks : List PairKey) (k : PairKey) → In ks k → k.one ≡ a → k.two ≡ b → (key : List ℕ) × (key_of (keyring_of ks a) b ≡ Some key)
    found [] k i p q = absurd i
    found (x ∷ ks) k (inl e) p q =
        let one : bytes_eq x.one a ≡ true = bytes_same x.one a (ap (λ (z : PairKey). z.one) (sym e) ∙ p) in
        let two : bytes_eq x.two b ≡ true = bytes_same x.two b (ap (λ (z : PairKey). z.two) (sym e) ∙ q) in
        (x.key, rw (one, two) refl)
    found (x ∷ ks) k (inr i) p q =
        let r = found ks k i p q in
        elim (cases_Bool (bytes_eq x.one a)) [
          | inl e ↦ elim (cases_Bool (bytes_eq x.two b)) [ inl f ↦ (x.key, rw (e, f) refl) | inr f ↦ (r.0, rw (e, f) r.1) ]
          | inr e ↦ elim (cases_Bool (bytes_eq x.two a)) [
            | inl f ↦ elim (cases_Bool (bytes_eq x.one b)) [ inl h ↦ (x.key, rw (e, f, h) refl) | inr h ↦ (r.0, rw (e, f, h) r.1) ]
            | inr f ↦ (r.0, rw (e, f) r.1)
          ]
        ]

  in_pairs : (a b : Name) (key : List ℕ) → (a ≢ b) → Key a b ≡ Some key → (ns : List Name) → In ns b → In (filter_map (pair_of a) ns) (record { one = a; two = b; key = key })
  in_pairs a b key ne e [] i = absurd i
  in_pairs a b key ne e (n ∷ ns) (inl q) = subst (λ z. In (filter_map (pair_of a) (z ∷ ns)) (record { one = a; two = b; key = key })) q (elim (cases_Bool (bytes_eq a b)) [ inl h ↦ absurd (ne (same_bytes a b h)) | inr h ↦ rw (h, e) (inl refl) ])
  in_pairs a b key ne e (n ∷ ns) (inr i) = go (pair_of a n) (in_pairs a b key ne e ns i)
    where
      go : (o : Option PairKey) → In (filter_map (pair_of a) ns) (record { one = a; two = b; key = key }) → In (cons_option o (filter_map (pair_of a) ns)) (record { one = a; two = b; key = key })
      go None j = j
      go (Some k) j = inr j

  module _ (ns : List Name) (agree : (a b : Name) → In ns a → In ns b → Key a b ≡ Key b a) where
    good_from : (a : Name) → In ns a → (xs : List Name) → ((b : Name) → In xs b → In ns b) → AllByRecursion Good (filter_map (pair_of a) xs)
    good_from a i [] f = tt
    good_from a i (b ∷ xs) f = elim (cases_Bool (bytes_eq a b)) [
      | inl e ↦ rw e (good_from a i xs (λ c j. f c (inr j)))
      | inr e ↦ go e (Key a b) refl (good_from a i xs (λ c j. f c (inr j)))
    ]
      where
        go : bytes_eq a b ≡ false → (o : Option (List ℕ)) → Key a b ≡ o → AllByRecursion Good (filter_map (pair_of a) xs) → AllByRecursion Good (filter_map (pair_of a) (b ∷ xs))
        go e None q r = rw (e, q) r
        go e (Some key) q r = rw (e, q) (record { one = q; two = sym (agree a b i (f b (inl refl))) ∙ q; differ = λ z. clash (bytes_eq a b) (bytes_same a b z) e }, r)

    good_all : (xs : List Name) → ((a : Name) → In xs a → In ns a) → AllByRecursion Good (flat_map (λ a. filter_map (pair_of a) ns) xs)
    good_all [] f = tt
    good_all (a ∷ xs) f = all-append Good (filter_map (pair_of a) ns) (flat_map (λ a. filter_map (pair_of a) ns) xs) (good_from a (f a (inl refl)) ns (λ b j. j)) (good_all xs (λ b j. f b (inr j)))

    -- the pairs have two names each
    pub pairs_differ : AllByRecursion (λ (k : PairKey). k.one ≢ k.two) (pair_keys ns)
    pairs_differ = go (pair_keys ns) (good_all ns (λ a i. i))
      where
        go : (ks : List PairKey) → AllByRecursion Good ks → AllByRecursion (λ (k : PairKey). k.one ≢ k.two) ks
        go [] g = tt
        go (k ∷ ks) g = ((g.0).differ, go ks g.1)

    -- by the pairs a name of the list holds for another what it holds
    pub pairs_hold : (a b : Name) → In ns a → In ns b → (a ≢ b) → key_of (keyring_of (pair_keys ns) a) b ≡ Key a b
    pairs_hold a b i j ne = elim (right a b (pair_keys ns) (good_all ns (λ a i. i))) [
      | inr e ↦ e
      | inl e ↦ by_key (Key a b) refl e
    ]
      where
        by_key : (o : Option (List ℕ)) → Key a b ≡ o → key_of (keyring_of (pair_keys ns) a) b ≡ None → key_of (keyring_of (pair_keys ns) a) b ≡ Key a b
        by_key None q e = e ∙ sym q
        by_key (Some key) q e =
            let there : In (pair_keys ns) (record { one = a; two = b; key = key }) = in_flat (λ a. filter_map (pair_of a) ns) ns a (record { one = a; two = b; key = key }) i (in_pairs a b key ne q ns j) in
            let r = found a b (pair_keys ns) (record { one = a; two = b; key = key }) there refl refl in
            absurd (let z : Some r.0 ≡ None = sym r.1 ∙ e in cc)

-- ---- keyrings that hold the same keys for the others of a cast

map_agree : {A : Type 0} (f h : ℕ → A) (ts : List ℕ) → AllByRecursion (λ t. f t ≡ h t) ts → map f ts ≡ map h ts
map_agree f h [] a = refl
map_agree f h (t ∷ ts) a = ap (λ z. z ∷ map f ts) a.0 ∙ ap (λ l. h t ∷ l) (map_agree f h ts a.1)

-- a role for which both hold the same key
abbrev pub SameFor : Keyring → Keyring → Cast → ℕ → Type 0
SameFor m m' cast r = key_of m (principal cast r) ≡ key_of m' (principal cast r)

tag_same : (sha : Hash) (m m' : Keyring) (cast : Cast) (r : ℕ) (text : List ℕ) → SameFor m m' cast r → tag_for sha m cast r text ≡ tag_for sha m' cast r text
tag_same sha m m' cast r text e = ap (λ o. cut cast.version (hmac sha (unwrap_or o []) text)) e

module _ (sha : Hash) (m m' : Keyring) (p : Program) (x : Session) where
  -- the tag of an item for a role
  abbrev tag_pair : Keyring → ℕ → List Opening → ℕ → ℕ × List ℕ
  tag_pair k label os t = (t, tag_for sha k x.cast t (text_to p.graph x (transcript x) (plain_item sha x label os) t))

  pub own_item_same : (label : ℕ) (os : List Opening) → AllByRecursion (SameFor m m' x.cast) (targets_of p label) → own_item sha m p x label os ≡ own_item sha m' p x label os
  own_item_same label os a = ap (λ ts. record (plain_item sha x label os) { tags = ts }) (map_agree (tag_pair m label os) (tag_pair m' label os) (targets_of p label) (go (targets_of p label) a))
    where
      go : (ts : List ℕ) → AllByRecursion (SameFor m m' x.cast) ts → AllByRecursion (λ t. tag_pair m label os t ≡ tag_pair m' label os t) ts
      go [] a = tt
      go (t ∷ ts) a = (ap (λ z. (t, z)) (tag_same sha m m' x.cast t (text_to p.graph x (transcript x) (plain_item sha x label os) t) a.0), go ts a.1)

  pub frame_same : (label : ℕ) (os : List Opening) → AllByRecursion (SameFor m m' x.cast) (targets_of p label) → SameFor m m' x.cast (receiver (shape p.graph) label) → frame_sent sha m p x label os ≡ frame_sent sha m' p x label os
  frame_same label os a e =
      ap (λ (i : Item). record (plain_frame p x i os) { tag = tag_for sha m x.cast (receiver (shape p.graph) i.label) (text_of (plain_frame p x i os)) }) (own_item_same label os a)
      ∙ ap (λ y. record (plain_frame p x (own_item sha m' p x label os) os) { tag = y }) (tag_same sha m m' x.cast (receiver (shape p.graph) label) (text_of (plain_frame p x (own_item sha m' p x label os) os)) e)

  -- ---- what a delivery checks

  item_tags_same : (cs : List (Item × List ℕ)) → AllByRecursion (λ (c : Item × List ℕ). SameFor m m' x.cast (c.0).role) cs → prefix_len (λ c. not (not (has_item_tag sha m x c))) cs ≡ prefix_len (λ c. not (not (has_item_tag sha m' x c))) cs
  item_tags_same [] a = refl
  item_tags_same (c ∷ cs) a =
      let one : has_item_tag sha m x c ≡ has_item_tag sha m' x c = ap (same_text (value_at (c.0).tags x.role)) (tag_same sha m m' x.cast (c.0).role c.1 a.0) in
      elim (cases_Bool (has_item_tag sha m' x c)) [
        | inl e ↦ rw (one ∙ e, e) (ap (λ n. 1 + n) (item_tags_same cs a.1))
        | inr e ↦ rw (one ∙ e, e) refl
      ]

  checked_roles : (before is : List Item) → AllByRecursion (λ (i : Item). SameFor m m' x.cast i.role) is → AllByRecursion (λ (c : Item × List ℕ). SameFor m m' x.cast (c.0).role) (checked_texts p.graph x before is)
  checked_roles before [] a = tt
  checked_roles before (i ∷ []) a = tt
  checked_roles before (i ∷ j ∷ is) a = (a.0, checked_roles (before ++ i ∷ []) (j ∷ is) a.1)

  evidence_same : (f : Frame) → AllByRecursion (λ (i : Item). SameFor m m' x.cast i.role) f.items → position (λ c. not (has_item_tag sha m x c)) (texts_checked p.graph x f) ≡ position (λ c. not (has_item_tag sha m' x c)) (texts_checked p.graph x f)
  evidence_same f a = rw (item_tags_same (texts_checked p.graph x f) (checked_roles (own_part x) f.items a)) refl

  pub rows_same : (f : Frame) → SameFor m m' x.cast f.sender → AllByRecursion (λ (i : Item). SameFor m m' x.cast i.role) f.items → rows_of_session sha m p x f ≡ rows_of_session sha m' p x f
  rows_same f e a =
      ap (λ y. row (not (nat_lt f.sender (length x.cast.names) && bytes_eq y f.tag)) BadFrameTag ∷ row (not (is_shown p x f)) NoSuchView ∷ bad_time 1 (own_time x) f.items ∷ option_map (λ n. BadEvidence (n + 1)) (position (λ c. not (has_item_tag sha m x c)) (texts_checked p.graph x f)) ∷ option_map (λ o. BadOpening o.variable) (find (λ o. not (is_right sha p.graph x f o)) f.openings) ∷ []) (tag_same sha m m' x.cast f.sender (text_of f) e)
      ∙ ap (λ y. row (not (has_frame_tag sha m' x f)) BadFrameTag ∷ row (not (is_shown p x f)) NoSuchView ∷ bad_time 1 (own_time x) f.items ∷ option_map (λ n. BadEvidence (n + 1)) y ∷ option_map (λ o. BadOpening o.variable) (find (λ o. not (is_right sha p.graph x f o)) f.openings) ∷ []) (evidence_same f a)

-- ---- targets are others of the cast

in_is_in : (t : ℕ) (ts : List ℕ) → In ts t → is_in t ts ≡ true
in_is_in t [] i = absurd i
in_is_in t (s ∷ ts) (inl e) = rw (eq-eqb s t (sym e)) refl
in_is_in t (s ∷ ts) (inr i) = elim (cases_Bool (s == t)) [ inl e ↦ rw e refl | inr e ↦ rw e (in_is_in t ts i) ]

-- each target of an edge is a role other than its sender
pub targets_apart : (g : Graph) (table : List (List ℕ)) → IsTargetTable g table → (e : ℕ) → e < length g.edges → (P : ℕ → Type 0) → ((t : ℕ) → t < length g.roles → t ≢ sender (shape g) e → P t) → AllByRecursion P (get_or table e [])
targets_apart g table is e l P f = go (get_or table e []) (λ t i. i) (and_parts (rises_from 0 (get_or table e [])) (list_all (λ k. nat_lt k (length g.roles)) (get_or table e [])) (is.rising e)).1
  where
    go : (ts : List ℕ) → ((t : ℕ) → In ts t → In (get_or table e []) t) → list_all (λ k. nat_lt k (length g.roles)) ts ≡ true → AllByRecursion P ts
    go [] h b = tt
    go (t ∷ ts) h b =
        let q = and_parts (nat_lt t (length g.roles)) (list_all (λ k. nat_lt k (length g.roles)) ts) b in
        let small : t < length g.roles = (let d = q.0 in grind (arith, nat_tests)) in
        (f t small ((is.each e t l small).0 (in_is_in t (get_or table e []) (h t (inl refl)))).not_sender, go ts (λ u i. h u (inr i)) q.1)
