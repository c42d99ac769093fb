-- Nodes by their names.
use Rattle.std.proofs.Common.{◌≡◌, ℕ, zero, suc, ◌+◌, ◌<◌, true, false, List, [], ◌∷◌, ◌++◌, map, length, position, bytes_eq, get_or, take, drop, Option, Some, None, slice_get, MatchOption, refl, sym, ◌∙◌, ap, subst, arith}
use Rattle.std.specs.Map.{lookup}
use Rattle.std.specs.Option.{option_map_or}
use Rattle.std.proofs.lemmas.List.{map_more}
use Rattle.std.proofs.lemmas.Bool.{or_parts}
use Rattle.sg_base.proofs.SameName.{same, any_same, same-bytes_eq, same-Decides}
use Rattle.sg_graph.proofs.FirstIndex.{passes_there, none_passes}
use Rattle.sg_model.proofs.Differ.{absent_before}
use Rattle.sg_model.specs.Lists.{all_differ, has_text}
use Rattle.sg_model.specs.Names.{Name}
use Rattle.sg_protocol.specs.Keyring.{Program}
use Rattle.sg_protocol.specs.NodeStates.{NodeState}
use Rattle.sg_protocol.specs.Schedule.{PairKey, Step, who_of}
use Rattle.sg_world.specs.Indices.{IsIndexOf, names_of}
use Rattle.sg_world.proofs.Begins.{new_named, names_new}
use Rattle.sg_world.proofs.Pasts.{Named, names, in_names}

-- the node at an index, by its name
name_at : (ns : List Named) (i : ℕ) (who : Name) → i < length (names ns) → who ≡ get_or (names ns) i [] → (state : NodeState) × (slice_get ns i ≡ Some (who, state))
name_at [] i who h e = absurd (omega arith)
name_at (n ∷ ns) zero who h e = (n.1, ap (λ (z : Name). Some (z, n.1)) (sym e))
name_at (n ∷ ns) (suc i) who h e = name_at ns i who (omega arith) e

-- the index at which a name is found
pub found_name : (who : Name) (ns : List Named) (o : Option ℕ) → o ≡ position (same who) (names ns) → MatchOption o (has_text who (names_of ns) ≡ false) (λ i. (state : NodeState) × (slice_get ns i ≡ Some (who, state)))
found_name who ns None e = sym (any_same who (names ns)) ∙ none_passes (same who) (names ns) (sym e)
found_name who ns (Some i) e =
    let there = passes_there (same who) (names ns) i [] (sym e) in
    name_at ns i who there.0 ((same-Decides who (get_or (names ns) i [])).0 there.1)

-- a name of different ones isn't among those before it
pub new_name : (keys : List PairKey) (programs : List Program) (ms : List Name) (i : ℕ) (m : Name) (ns : List Named) → ns ≡ map (new_named keys programs) (take i ms) → all_differ ms ≡ true → i < length ms → m ≡ get_or ms i m → has_text m (names_of ns) ≡ false
new_name keys programs ms i m ns is d within at =
    subst (λ (z : List Name). has_text m z ≡ false) (sym (ap names is ∙ names_new keys programs (take i ms)))
    (absent_before (take i ms) m (drop (suc i) ms) (subst (λ (z : List Name). all_differ z ≡ true) (parted ms i m within at) d))
  where
    parted : (xs : List Name) (i : ℕ) (m : Name) → i < length xs → m ≡ get_or xs i m → xs ≡ take i xs ++ m ∷ drop (suc i) xs
    parted [] i m h at = absurd (omega arith)
    parted (x ∷ xs) zero m h at = ap (λ (z : Name). z ∷ xs) (sym at)
    parted (x ∷ xs) (suc i) m h at = ap (λ (z : List Name). x ∷ z) (parted xs i m (omega arith) at)

-- one node more
pub nodes_more : (keys : List PairKey) (programs : List Program) (ms : List Name) (i : ℕ) (m : Name) (old now : List Named) → old ≡ map (new_named keys programs) (take i ms) → i < length ms → m ≡ get_or ms i m
    → now ≡ old ++ new_named keys programs m ∷ [] → now ≡ map (new_named keys programs) (take (i + 1) ms)
nodes_more keys programs ms i m old now is within at more = more ∙ (λ j. is j ++ new_named keys programs (at j) ∷ []) ∙ sym (map_more (new_named keys programs) ms i m within)

-- a name that has no entry isn't found
pub lookup_absent : {X : Type 0} (who : Name) (es : List (Name × X)) → has_text who (map (λ (e : Name × X). e.0) es) ≡ false → lookup (same who) es ≡ None
lookup_absent who [] h = refl
lookup_absent {X} who (e ∷ es) h =
    let parts = or_parts (bytes_eq who e.0) (has_text who (map (λ (e : Name × X). e.0) es)) h in
    rw (same-bytes_eq who e.0, parts.0) (lookup_absent who es parts.1)

-- the entry of a value at an index
pub entry_at : (ns : List Named) (i : ℕ) (v : NodeState) → slice_get (map (λ (n : Named). n.1) ns) i ≡ Some v → (who : Name) × (slice_get ns i ≡ Some (who, v))
entry_at [] i v e = absurd (cc)
entry_at (n ∷ ns) zero v e = let q : n.1 ≡ v = cc in (n.0, ap (λ (z : NodeState). Some (n.0, z)) q)
entry_at (n ∷ ns) (suc i) v e = entry_at ns i v e

-- a principal with an index has a node
pub indexed : (nodes : List Named) (x : Step) (index : Option ℕ) → IsIndexOf nodes x index → option_map_or (λ who. has_text who (names_of nodes)) (who_of x) true ≡ true
indexed nodes x None e = subst (λ (o : Option Name). option_map_or (λ n. has_text n (names_of nodes)) o true ≡ true) (sym e) refl
indexed nodes x (Some i) e = subst (λ (o : Option Name). option_map_or (λ n. has_text n (names_of nodes)) o true ≡ true) (sym e.2) (in_names nodes i e.0.0 e.0.1 e.1)
