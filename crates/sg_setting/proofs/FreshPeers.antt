-- The other principal of a pair shares no other key with the first.
use Rattle.std.proofs.Common.{◌≡◌, ◌≢◌, ℕ, ◌+◌, ◌<◌, ◌++◌, length, take, get_or, All, ap, arith, ◌⊎◌, Bool, true, false, List, [], ◌∷◌, map, filter_map, bytes_eq, if◌then◌else◌, Option, Some, None, IfSome, refl, sym, ◌∙◌, subst, inl, inr}
use Rattle.std.specs.List.{AllByRecursion, cons_option}
use Rattle.std.proofs.lemmas.List.{get_or-take, length-take, take_more}
use Rattle.std.proofs.lemmas.List.Elements.{filter_map-append, recursion_from_All}
use Rattle.sg_model.proofs.Small.{same_bytes, same_at}
use Rattle.sg_model.specs.Lists.{has_text}
use Rattle.sg_model.specs.Names.{Name}
use Rattle.sg_protocol.specs.IsSchedule.{IsPairKey}
use Rattle.sg_protocol.specs.Keyring.{Keyring, Peer}
use Rattle.sg_protocol.specs.Schedule.{PairKey}
use Rattle.sg_protocol.specs.World.{keyring_of, peer, shared}
use Rattle.sg_keys.specs.Names.{names_of}
use Rattle.sg_setting.specs.Pairs.{AreOfTwoPairs, ArePairs}

-- the pair is of these two
IsOther : Name → Name → PairKey → Type 0
IsOther me x k = ((k.one ≡ me) × (k.two ≡ x)) ⊎ ((k.two ≡ me) × (k.one ≡ x))

-- two tests that agree with different texts
differ : (a b : List ℕ) → a ≢ b → bytes_eq a b ≡ false
differ a b ne = by (bytes_eq a b) refl
  where
    by : (t : Bool) → bytes_eq a b ≡ t → bytes_eq a b ≡ false
    by true e = absurd (ne (same_bytes a b e))
    by false e = e

-- no two pairs are of the same two
apart : (me x : Name) (j k : PairKey) → AreOfTwoPairs j k → IsOther me x j → IsOther me x k → ⊥
unfolding IsOther
apart me x j k two (inl a) (inl b) = elim two.0 [ inl n ↦ n (a.0 ∙ sym b.0) | inr n ↦ n (a.1 ∙ sym b.1) ]
apart me x j k two (inl a) (inr b) = elim two.1 [ inl n ↦ n (a.0 ∙ sym b.0) | inr n ↦ n (a.1 ∙ sym b.1) ]
apart me x j k two (inr a) (inl b) = elim two.1 [ inl n ↦ n (a.1 ∙ sym b.1) | inr n ↦ n (a.0 ∙ sym b.0) ]
apart me x j k two (inr a) (inr b) = elim two.0 [ inl n ↦ n (a.1 ∙ sym b.1) | inr n ↦ n (a.0 ∙ sym b.0) ]

-- what is shared is of the two
of_two : (me : Name) (k : PairKey) → IfSome (shared me k) (λ p. IsOther me p.name k)
unfolding IsOther
of_two me k = by (bytes_eq k.one me) (bytes_eq k.two me) refl refl
  where
    by : (a b : Bool) → bytes_eq k.one me ≡ a → bytes_eq k.two me ≡ b → IfSome (if a then Some (peer k.two k.key) else (if b then Some (peer k.one k.key) else None)) (λ p. IsOther me p.name k)
    by true b e f = inl (same_bytes k.one me e, refl)
    by false true e f = inr (same_bytes k.two me f, refl)
    by false false e f = tt

-- the name is none of those that are shared by pairs apart from its own
among : (me x : Name) (k : PairKey) → IsOther me x k → (js : List PairKey) → AllByRecursion (λ j. AreOfTwoPairs j k) js → has_text x (map (λ (p : Peer). p.name) (filter_map (shared me) js)) ≡ false
among me x k is [] all = refl
among me x k is (j ∷ js) all = by (shared me j) (of_two me j) (among me x k is js all.1)
  where
    by : (o : Option Peer) → IfSome o (λ p. IsOther me p.name j) → has_text x (map (λ (p : Peer). p.name) (filter_map (shared me) js)) ≡ false
        → has_text x (map (λ (p : Peer). p.name) (cons_option o (filter_map (shared me) js))) ≡ false
    by None h later = later
    by (Some p) h later = rw (differ x p.name (λ e. apart me x j k all.0 (subst (λ (z : Name). IsOther me z j) (sym e) h) is)) later

-- the pair's other principal is not among the names of a keyring by pairs before it
pub fresh : (me : Name) (js : List PairKey) (k : PairKey) → IsPairKey k → AllByRecursion (λ j. AreOfTwoPairs j k) js → IfSome (shared me k) (λ p. has_text p.name (names_of (keyring_of js me)) ≡ false)
unfolding IsOther
fresh me js k is all = by (shared me k) (of_two me k)
  where
    other : (x : Name) → IsOther me x k → x ≢ me
    other x (inl a) e = is.0 (a.0 ∙ sym e ∙ sym a.1)
    other x (inr a) e = is.0 (a.1 ∙ e ∙ sym a.0)

    by : (o : Option Peer) → IfSome o (λ p. IsOther me p.name k) → IfSome o (λ p. has_text p.name (names_of (keyring_of js me)) ≡ false)
    by None h = tt
    by (Some p) h = rw (differ p.name me (other p.name h)) (among me p.name k h js all)

-- the pair at an index has another principal than those before it
pub fresh_at : (me : Name) (keys : List PairKey) (i : ℕ) (k : PairKey) (ring : Keyring) → ring ≡ keyring_of (take i keys) me → ArePairs keys → i < length keys → k ≡ get_or keys i k → IfSome (shared me k) (λ p. has_text p.name (names_of ring) ≡ false)
fresh_at me keys i k ring is pairs within at = subst (λ (r : Keyring). IfSome (shared me k) (λ p. has_text p.name (names_of r) ≡ false)) (sym is)
    (fresh me (take i keys) k (subst IsPairKey (sym at) (pairs.each i k within)) (recursion_from_All (λ j. AreOfTwoPairs j k) (take i keys) earlier))
  where
    earlier : All (λ j. AreOfTwoPairs j k) (take i keys)
    earlier n d h =
        let few : n < i = omega (arith, h, length-take i keys) in
        subst (λ j. AreOfTwoPairs j k) (sym (get_or-take i keys n d few)) (subst (AreOfTwoPairs (get_or keys n d)) (same_at keys i d k within ∙ sym at) (pairs.apart n i d few within))

-- the keyring with the key of the pair at an index, if the principal is one of it
pub ring_more : (me : Name) (keys : List PairKey) (i : ℕ) (k : PairKey) (old new : Keyring) → old ≡ keyring_of (take i keys) me → i < length keys → k ≡ get_or keys i k
    → new ≡ record old { peers = old.peers ++ filter_map (shared me) (k ∷ []) } → new ≡ keyring_of (take (i + 1) keys) me
ring_more me keys i k old new is within at e =
    e ∙ ap (λ (r : Keyring). record r { peers = r.peers ++ filter_map (shared me) (k ∷ []) }) is
    ∙ ap (λ (ps : List Peer). record (keyring_of [] me) { peers = ps }) (sym (filter_map-append (shared me) (take i keys) (k ∷ [])))
    ∙ ap (λ ks. keyring_of ks me) (ap (λ (z : PairKey). take i keys ++ z ∷ []) at ∙ sym (take_more keys i k within))
