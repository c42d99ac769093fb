-- A key file is read exactly if its bytes spell a keyring.
use Rattle.std.proofs.Common.{◌≡◌, ℕ, ◌+◌, Bool, true, false, ◌⊎◌, inl, inr, List, [], ◌∷◌, ◌++◌, map, Option, Some, None, Result, Ok, Err, IfOk, IfErr, if◌then◌else◌, refl, sym, ap, subst, ◌∙◌, ◌≢◌}
use Rattle.std.proofs.lemmas.List.{map-append, append-nil, append_assoc}
use Rattle.toml.specs.Data.{Members}
use Rattle.sg_model.specs.Lists.{all_differ, has_text}
use Rattle.sg_protocol.specs.Keyring.{Keyring, Peer}
use Rattle.sg_keys.specs.declared.key_file.KeyFault.{KeyFault}
use Rattle.sg_keys.specs.declared.key_file.KeyFault.TheVariants.{NotToml, BadEntry, Twice, OutOfMemory}
use Rattle.sg_keys.specs.Names.{names_of}
use Rattle.sg_keys.specs.KeyFile.{Head, head_of, peer_of, document, SpellsKeyring, SpellsKeys, then_with, with_entries, alone, answer_to, answer_to_head, key_file}
use Rattle.sg_model.proofs.Differ.{all_differ-append, absent_before}

-- a keyring with further peers
abbrev pub with_more : Keyring → List Peer → Keyring
with_more keys more = record keys { peers = keys.peers ++ more }

-- all entries are peers, which go behind those of the keyring, and all names differ
pub record Made (keys : Keyring) (ps : List (Option Peer)) (k : Keyring) : Type 0 where
  pub more : List Peer
  pub all : ps ≡ map Some more
  pub whole : k ≡ with_more keys more
  pub differ : all_differ (names_of k) ≡ true

no_more : (keys : Keyring) → with_more keys [] ≡ keys
no_more keys = ap (λ ps. record keys { peers = ps }) (append-nil keys.peers)

one_more : (keys : Keyring) (p : Peer) (qs : List Peer) → with_more (with_more keys (p ∷ [])) qs ≡ with_more keys (p ∷ qs)
one_more keys p qs = ap (λ ps. record keys { peers = ps }) (append_assoc keys.peers (p ∷ []) qs)

differ_more : (keys : Keyring) (p : Peer) → all_differ (names_of keys) ≡ true → has_text p.name (names_of keys) ≡ false → all_differ (names_of (with_more keys (p ∷ []))) ≡ true
differ_more keys p d absent = rw (map-append (λ q. q.name) keys.peers (p ∷ [])) (all_differ-append (names_of keys) p.name d absent)

made_one : (keys : Keyring) (i : ℕ) (p : Peer) (ps : List (Option Peer)) (k : Keyring) (b : Bool) → has_text p.name (names_of keys) ≡ b → all_differ (names_of keys) ≡ true
    → (all_differ (names_of (with_more keys (p ∷ []))) ≡ true → with_entries (with_more keys (p ∷ [])) (i + 1) ps ≡ Ok k → Made (with_more keys (p ∷ [])) ps k)
    → then_with (if b then Err (Twice i) else Ok (with_more keys (p ∷ []))) (λ k. with_entries k (i + 1) ps) ≡ Ok k → Made keys (Some p ∷ ps) k
made_one keys i p ps k true e d ih h = absurd (cc)
made_one keys i p ps k false e d ih h =
    let rest = ih (differ_more keys p d e) h in
    record { more = p ∷ rest.more; all = ap (λ qs. Some p ∷ qs) rest.all; whole = rest.whole ∙ one_more keys p rest.more; differ = rest.differ }

-- what entries make, if no fault is found
pub made : (keys : Keyring) (i : ℕ) (ps : List (Option Peer)) (k : Keyring) → all_differ (names_of keys) ≡ true → with_entries keys i ps ≡ Ok k → Made keys ps k
made keys i [] k d h =
    let same : k ≡ keys = cc in
    record { more = []; all = refl; whole = same ∙ sym (no_more keys); differ = rw same d }
made keys i (None ∷ ps) k d h = absurd (cc)
made keys i (Some p ∷ ps) k d h = made_one keys i p ps k (has_text p.name (names_of keys)) refl d (λ d' h'. made (with_more keys (p ∷ [])) (i + 1) ps k d' h') h

-- entries that are peers with different names make a keyring
pub makes : (keys : Keyring) (i : ℕ) (qs : List Peer) → all_differ (names_of (with_more keys qs)) ≡ true → with_entries keys i (map Some qs) ≡ Ok (with_more keys qs)
makes keys i [] d = ap Ok (sym (no_more keys))
makes keys i (p ∷ qs) d =
    let parted : all_differ (names_of keys ++ p.name ∷ map (λ q. q.name) qs) ≡ true = rw (map-append (λ q. q.name) keys.peers (p ∷ qs)) at d in
    let absent : has_text p.name (names_of keys) ≡ false = absent_before (names_of keys) p.name (map (λ q. q.name) qs) parted in
    let later : all_differ (names_of (with_more (with_more keys (p ∷ [])) qs)) ≡ true = subst (λ n. all_differ (names_of n) ≡ true) (sym (one_more keys p qs)) d in
    rw absent (makes (with_more keys (p ∷ [])) (i + 1) qs later ∙ ap Ok (one_more keys p qs))

spells_head : (table : Members) (k : Keyring) (h : Option Head) → head_of table ≡ h → answer_to_head h ≡ Ok k → SpellsKeyring table k
spells_head table k None e h = absurd (cc)
spells_head table k (Some hd) e h =
    let m = made (alone hd) 1 (map peer_of hd.entries) k refl h in
    let there : SpellsKeyring table (with_more (alone hd) m.more) = record { entries = hd.entries; head = e; peers = m.all; differ = subst (λ n. all_differ (names_of n) ≡ true) m.whole m.differ } in
    subst (SpellsKeyring table) (sym m.whole) there

spells_document : (bs : List ℕ) (k : Keyring) (d : Option Members) → document bs ≡ d → answer_to d ≡ Ok k → SpellsKeys bs k
spells_document bs k None e h = absurd (cc)
spells_document bs k (Some table) e h = (table, e, spells_head table k (head_of table) refl h)

-- bytes that are read spell the keyring
pub spells_from_read : (bs : List ℕ) (k : Keyring) → key_file bs ≡ Ok k → SpellsKeys bs k
spells_from_read bs k h = spells_document bs k (document bs) refl h

-- bytes that spell a keyring are read
pub read_from_spells : (bs : List ℕ) (k : Keyring) → SpellsKeys bs k → key_file bs ≡ Ok k
read_from_spells bs k (table, e, s) = rw (e, s.head, s.peers) (makes (record k { peers = [] }) 1 k.peers s.differ)

-- an answer that is right unless memory ran out is the keyring if one is spelled
pub answered : (r f : Result Keyring KeyFault) (k : Keyring) → IfOk r (λ k. f ≡ Ok k) → IfErr r (λ e. e ≢ OutOfMemory → f ≡ Err e) → f ≡ Ok k → (r ≡ Ok k) ⊎ (r ≡ Err OutOfMemory)
answered (Ok k') f k ok fault h = inl (sym ok ∙ h)
answered (Err NotToml) f k ok fault h = absurd (let e : f ≡ Err NotToml = fault (λ s. cc) in cc)
answered (Err (BadEntry i)) f k ok fault h = absurd (let e : f ≡ Err (BadEntry i) = fault (λ s. cc) in cc)
answered (Err (Twice i)) f k ok fault h = absurd (let e : f ≡ Err (Twice i) = fault (λ s. cc) in cc)
answered (Err OutOfMemory) f k ok fault h = inr refl

-- a right answer spells
pub spelled : (bs : List ℕ) (r : Result Keyring KeyFault) → IfOk r (λ k. key_file bs ≡ Ok k) → IfOk r (SpellsKeys bs)
spelled bs (Ok k) ok = spells_from_read bs k ok
spelled bs (Err e) ok = tt
