-- Endings exclude each other: what every command on one file needs.
use Rattle.std.proofs.Common.{◌≡◌, ℕ, ◌≤◌, ◌<◌, inl, inr, false, List, [], ◌∷◌, length, Some, None, Result, Ok, Err, All, refl, sym, ap, ◌∙◌, subst, arith}
use Rattle.std.specs.Prelude.{IsSomeAnd}
use Rattle.sg_base.specs.Outside.{FileFaults, file_at}
use Rattle.sg_parse.specs.Grammar.{SpellsGraph}
use Rattle.sg_parse.specs.Reading.{read as parsed}
use Rattle.sg_parse.specs.declared.fault.ParseFault.{ParseFault}
use Rattle.sg_parse.proofs.GivesGraph.{spells-read}
use Rattle.sg_compile.specs.Compiled.{IsWhole}
use Rattle.sg_compile.specs.declared.check.CompileFault.{CompileFault}
use Rattle.sg_compile.specs.declared.check.CompileFault.TheVariants.{OutOfMemory}
use Rattle.sg_compile.proofs.Refusals.{all_or_refused}
use Rattle.sg_protocol.specs.Graph.{Graph}
use Rattle.sg_protocol.specs.IsSchedule.{AreCompiled}
use Rattle.sg_protocol.specs.Keyring.{Program}
use Rattle.sg_protocol.specs.Texts.{real}
use Rattle.sg_ending.specs.Ending.{Ending, Written, NoGraph, GraphRefused, FileFailed, NoMemory, NoSuchFile, TooLarge}
use Rattle.sg_ending.specs.Files.{IsUnread, Holds, EndsAt}
use Rattle.sg_ending.specs.Graphs.{IsFirstRefused}
use Rattle.sg_ending.specs.Laws.{EndsOnce, asked, is_of_outside}
use Rattle.sg_ending.specs.Output.{Output}

-- ---- results

pub one_ok : {A B : Type 0} (r : Result A B) (x y : A) → r ≡ Ok x → r ≡ Ok y → x ≡ y
one_ok r x y h k = cc

pub one_err : {A B : Type 0} (r : Result A B) (x y : B) → r ≡ Err x → r ≡ Err y → x ≡ y
one_err r x y h k = cc

pub ok_or_err : {A B : Type 0} (r : Result A B) (x : A) (y : B) → r ≡ Ok x → r ≡ Err y → ⊥
ok_or_err r x y h k = absurd (cc)

-- ---- bytes

-- what bytes ask for that hold a graph, or are refused before one is found
pub data Cause (Is : Graph → Type 0) (Early : Ending → Type 0) : Ending → Type 0 where
  CompiledGraph : {g : Graph} {ps : List Program} → Is g → AreCompiled real (g ∷ []) ps → All IsWhole ps → Cause Is Early Written
  Refused : {g : Graph} {f : CompileFault} → Is g → IsFirstRefused (g ∷ []) g f → Cause Is Early (GraphRefused g OutOfMemory)
  Before : {e : Ending} → Early e → Cause Is Early e

-- they hold one graph, or are refused for one cause
pub record Determined (Is : Graph → Type 0) (Early : Ending → Type 0) : Type 0 where
  pub graph : (g h : Graph) → Is g → Is h → g ≡ h
  pub early : (d e : Ending) → Early d → Early e → d ≡ e
  pub apart : (g : Graph) (e : Ending) → Is g → Early e → ⊥

-- a graph isn't accepted and refused
pub never_both : (Is : Graph → Type 0) (Early : Ending → Type 0) → Determined Is Early → (g h : Graph) (ps : List Program) (f : CompileFault)
    → Is g → Is h → AreCompiled real (g ∷ []) ps → All IsWhole ps → IsFirstRefused (h ∷ []) h f → ⊥
never_both Is Early d g h ps f i j c w (index, at, stopped) =
    all_or_refused (h ∷ []) ps index f (subst (λ (k : Graph). AreCompiled real (k ∷ []) ps) (d.graph g h i j) c) w stopped

pub one_cause : (Is : Graph → Type 0) (Early : Ending → Type 0) → Determined Is Early → (x y : Ending) → Cause Is Early x → Cause Is Early y → x ≡ y
one_cause Is Early d _ _ (CompiledGraph i c w) (CompiledGraph j b v) = refl
one_cause Is Early d _ _ (CompiledGraph {g} {ps} i c w) (Refused {g = h} {f = f} j r) = absurd (never_both Is Early d g h ps f i j c w r)
one_cause Is Early d _ y (CompiledGraph {g} i c w) (Before e) = absurd (d.apart g y i e)
one_cause Is Early d _ _ (Refused {g = h} {f = f} j r) (CompiledGraph {g} {ps} i c w) = absurd (never_both Is Early d g h ps f i j c w r)
one_cause Is Early d _ _ (Refused {g} i r) (Refused {g = h} j s) = ap (λ (k : Graph). GraphRefused k OutOfMemory) (d.graph g h i j)
one_cause Is Early d _ y (Refused {g} i r) (Before e) = absurd (d.apart g y i e)
one_cause Is Early d x _ (Before e) (CompiledGraph {g} i c w) = absurd (d.apart g x i e)
one_cause Is Early d x _ (Before e) (Refused {g} i r) = absurd (d.apart g x i e)
one_cause Is Early d x y (Before e) (Before f) = d.early x y e f

-- ---- files

-- what is asked for of a file that isn't read: it is missing, or too long
data Unread (files : List (List ℕ × List ℕ)) (most : ℕ) (file : List ℕ) : Ending → Type 0 where
  Missing : file_at files file ≡ None → Unread files most file (NoSuchFile file)
  TooLong : IsSomeAnd (file_at files file) (λ bytes. most < length bytes) → Unread files most file (TooLarge file)

unread : (files : List (List ℕ × List ℕ)) (most : ℕ) (file : List ℕ) (m m' : FileFaults) (e : Ending) → IsUnread most file (Some files) m m' e → is_of_outside e ≡ false → Unread files most file (asked e)
unread files most file m m' (FileFailed arg) h n = absurd (cc)
unread files most file m m' NoMemory h n = absurd (cc)
unread files most file m m' (NoSuchFile arg) h n = subst (λ w. Unread files most file (NoSuchFile w)) (sym h.0) (Missing (h.1 files refl))
unread files most file m m' (TooLarge arg) h n = subst (λ w. Unread files most file (TooLarge w)) (sym h.0) (TooLong (h.1 files refl))
unread files most file m m' _ h n = absurd h

-- what is read isn't unread
read_or_unread : (files : List (List ℕ × List ℕ)) (most : ℕ) (file bytes : List ℕ) (e : Ending) → file_at files file ≡ Some bytes → length bytes ≤ most → Unread files most file e → ⊥
read_or_unread files most file bytes _ at few (Missing none) = absurd (let both : Some bytes ≡ None = sym at ∙ none in cc)
read_or_unread files most file bytes _ at few (TooLong long) =
    let more : most < length bytes = subst (λ o. IsSomeAnd o (λ (b : List ℕ). most < length b)) at long in
    absurd (omega (arith, few, more))

-- a file isn't missing and too long
missing_or_long : (files : List (List ℕ × List ℕ)) (most : ℕ) (file : List ℕ) → file_at files file ≡ None → IsSomeAnd (file_at files file) (λ bytes. most < length bytes) → ⊥
missing_or_long files most file none long = subst (λ o. IsSomeAnd o (λ (b : List ℕ). most < length b)) none long

one_unread : (files : List (List ℕ × List ℕ)) (most : ℕ) (file : List ℕ) (x y : Ending) → Unread files most file x → Unread files most file y → x ≡ y
one_unread files most file _ _ (Missing h) (Missing k) = refl
one_unread files most file _ _ (Missing h) (TooLong k) = absurd (missing_or_long files most file h k)
one_unread files most file _ _ (TooLong h) (Missing k) = absurd (missing_or_long files most file k h)
one_unread files most file _ _ (TooLong h) (TooLong k) = refl

-- what two texts hold of one file are its bytes
pub held_once : (files : List (List ℕ × List ℕ)) (most much : ℕ) (file : List ℕ) (S T : List ℕ → Type 0) → Holds (Some files) most file S → Holds (Some files) much file T → (bytes : List ℕ) × S bytes × T bytes
held_once files most much file S T (bytes, at, few, s) (others, at', few', t) =
    let same : bytes ≡ others = (let both : Some bytes ≡ Some others = sym (at files refl) ∙ at' files refl in cc) in
    (others, subst S same s, t)

-- a file that holds something is read
pub held_is_read : (files : List (List ℕ × List ℕ)) (most : ℕ) (file : List ℕ) (m m' : FileFaults) (S : List ℕ → Type 0) (e : Ending) → Holds (Some files) most file S → IsUnread most file (Some files) m m' e → is_of_outside e ≡ false → ⊥
held_is_read files most file m m' S e (bytes, at, few, s) u p = read_or_unread files most file bytes (asked e) (at files refl) few (unread files most file m m' e u p)

-- a file that isn't read asks for one ending
pub unread_once : (files : List (List ℕ × List ℕ)) (most : ℕ) (file : List ℕ) (m m' n n' : FileFaults) (x y : Ending) → IsUnread most file (Some files) m m' x → IsUnread most file (Some files) n n' y
    → is_of_outside x ≡ false → is_of_outside y ≡ false → asked x ≡ asked y
unread_once files most file m m' n n' x y u v p q = one_unread files most file (asked x) (asked y) (unread files most file m m' x u p) (unread files most file n n' y v q)

-- bytes are refused in one way, or are such, and not both
pub record RefusedOnce (Such : List ℕ → Type 0) (Refuses : List ℕ → Ending → Type 0) : Type 0 where
  pub once : (bytes : List ℕ) (x y : Ending) → Refuses bytes x → Refuses bytes y → is_of_outside x ≡ false → is_of_outside y ≡ false → asked x ≡ asked y
  pub apart : (bytes : List ℕ) (x : Ending) → Such bytes → Refuses bytes x → is_of_outside x ≡ false → ⊥

-- so a file is refused in one way, or holds such bytes, and not both
module _ (files : List (List ℕ × List ℕ)) (most : ℕ) (file : List ℕ) (Such : List ℕ → Type 0) (Refuses : List ℕ → Ending → Type 0) (r : RefusedOnce Such Refuses) where
  pub ends_once : (m m' n n' : FileFaults) (x y : Ending) → EndsAt (Some files) m m' most file Refuses x → EndsAt (Some files) n n' most file Refuses y → is_of_outside x ≡ false → is_of_outside y ≡ false → asked x ≡ asked y
  ends_once m m' n n' x y (inl u) (inl v) p q = unread_once files most file m m' n n' x y u v p q
  ends_once m m' n n' x y (inl u) (inr h) p q = absurd (held_is_read files most file m m' (λ bytes. Refuses bytes y × (n' ≡ n)) x h u p)
  ends_once m m' n n' x y (inr h) (inl v) p q = absurd (held_is_read files most file n n' (λ bytes. Refuses bytes x × (m' ≡ m)) y h v q)
  ends_once m m' n n' x y (inr h) (inr k) p q = (let (bytes, s, t) = held_once files most most file (λ bytes. Refuses bytes x × (m' ≡ m)) (λ bytes. Refuses bytes y × (n' ≡ n)) h k in r.once bytes x y s.0 t.0 p q)

  pub holds_or_ends : (m m' : FileFaults) (x : Ending) → Holds (Some files) most file Such → EndsAt (Some files) m m' most file Refuses x → is_of_outside x ≡ false → ⊥
  holds_or_ends m m' x h (inl u) p = held_is_read files most file m m' Such x h u p
  holds_or_ends m m' x h (inr k) p = (let (bytes, s, t) = held_once files most most file Such (λ bytes. Refuses bytes x × (m' ≡ m)) h k in r.apart bytes x s t.0 p)

-- what is asked for of a file, if its bytes ask for one ending
pub file_once : (Does : List ℕ → (old new : Output) → Ending → Type 0) (most : ℕ)
    → ((bytes : List ℕ) (a a' b b' : Output) (x y : Ending) → Does bytes a a' x → Does bytes b b' y → is_of_outside x ≡ false → is_of_outside y ≡ false → asked x ≡ asked y)
    → EndsOnce Does most
file_once Does most once files file m m' n n' a a' b b' x y (inl h) (inl k) p q =
    (let (bytes, does, does') = held_once files most most file (λ bytes. Does bytes a a' x × (m' ≡ m)) (λ bytes. Does bytes b b' y × (n' ≡ n)) h k in once bytes a a' b b' x y does.0 does'.0 p q)
file_once Does most once files file m m' n n' a a' b b' x y (inl h) (inr (same, u)) p q = absurd (held_is_read files most file n n' (λ bytes. Does bytes a a' x × (m' ≡ m)) y h u q)
file_once Does most once files file m m' n n' a a' b b' x y (inr (same, u)) (inl h) p q = absurd (held_is_read files most file m m' (λ bytes. Does bytes b b' y × (n' ≡ n)) x h u p)
file_once Does most once files file m m' n n' a a' b b' x y (inr (same, u)) (inr (same', v)) p q = unread_once files most file m m' n n' x y u v p q

-- ---- graphs

abbrev pub no_graph : List ℕ → Ending → Type 0
no_graph bytes e = (f : ParseFault) × (e ≡ NoGraph f) × (parsed bytes ≡ Err f)

pub of_graph : (bytes : List ℕ) → Determined (SpellsGraph bytes) (no_graph bytes)
of_graph bytes = record {
  graph = λ g h s t. one_ok (parsed bytes) g h (spells-read bytes g s) (spells-read bytes h t);
  early = λ d e p q. p.1 ∙ ap NoGraph (one_err (parsed bytes) p.0 q.0 p.2 q.2) ∙ sym q.1;
  apart = λ g e s p. ok_or_err (parsed bytes) g p.0 (spells-read bytes g s) p.2;
}
