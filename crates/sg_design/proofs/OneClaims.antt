-- The endings of a command on a graph and its claims exclude each other.
use Rattle.std.proofs.Common.{◌≡◌, ℕ, ◌⊎◌, inl, inr, Bool, true, false, ◌&&◌, if◌then◌else◌, List, [], ◌∷◌, ◌++◌, Option, Some, None, Err, All, is_none, refl, sym, ap, ◌∙◌, subst}
use Rattle.std.proofs.lemmas.List.Elements.{All-nil, All-pop, All-push}
use Rattle.sg_base.specs.Outside.{FileFaults}
use Rattle.sg_claims.specs.declared.claim.NamedClaim.{NamedClaim}
use Rattle.sg_claims_text.specs.Grammar.{SpellsClaims}
use Rattle.sg_claims_text.specs.Reading.{read}
use Rattle.sg_claims_text.specs.declared.fault.ClaimsFault.{ClaimsFault}
use Rattle.sg_claims_text.proofs.GivesClaims.{spells-read}
use Rattle.sg_model.specs.Claims.{HoldsOnWalks}
use Rattle.sg_model.specs.Limits.{most_graph_file}
use Rattle.sg_parse.specs.Grammar.{SpellsGraph}
use Rattle.sg_protocol.specs.Graph.{Graph, IsGraph, shape}
use Rattle.sg_ending.specs.Ending.{Ending, Written, NoGraph, GraphRefused, ClaimsRefused, ClaimFails, WriteFailed, NoMemory}
use Rattle.sg_ending.specs.Files.{Holds}
use Rattle.sg_ending.specs.Laws.{asked, is_of_outside}
use Rattle.sg_ending.specs.Output.{Output}
use Rattle.sg_design.specs.Claimed.{AreAnswered, NoClaims, OneMore, Decides, IsAcceptedText, IsAgainst, IsDecision, OnClaims, OnClaimsIn, RefusesClaims, RefusesGraph, most_claims_file}
use Rattle.sg_design.specs.Laws.{ClaimsEndOnce, IsCutOff}
use Rattle.sg_ending.proofs.OneEnding.{one_ok, one_err, ok_or_err, Cause, Refused, Before, RefusedOnce, never_both, one_cause, ends_once, held_is_read, held_once, holds_or_ends, of_graph, no_graph, unread_once}

-- ---- whether all claims hold

-- the bit tells whether P holds
abbrev Tells : Bool → Type 0 → Type 0
Tells true P = P
Tells false P = P → ⊥

one_bit : (P : Type 0) (b c : Bool) → Tells b P → Tells c P → b ≡ c
one_bit P true true p q = refl
one_bit P true false p q = absurd (q p)
one_bit P false true p q = absurd (p q)
one_bit P false false p q = refl

both_tell : (P Q R : Type 0) (b c : Bool) → (P → Q → R) → (R → P × Q) → Tells b P → Tells c Q → Tells (b && c) R
both_tell P Q R true true to from p q = to p q
both_tell P Q R true false to from p q = λ r. q (from r).1
both_tell P Q R false true to from p q = λ r. p (from r).0
both_tell P Q R false false to from p q = λ r. p (from r).0

module _ (g : Graph) where
  abbrev holds : NamedClaim → Type 0
  holds c = HoldsOnWalks (shape g) c.claim

  -- a walk that breaks a claim is one on which it doesn't hold
  one_tells : (c : NamedClaim) (against : Option (List ℕ)) → IsAgainst g c against → Tells (is_none against) (holds c)
  one_tells c None h = h
  one_tells c (Some walk) f = λ h. (f.breaks).wrong (h walk (f.breaks).follows (f.breaks).before (f.breaks).label [] (f.breaks).there (f.breaks).is_later)

  all_tell : (cs : List NamedClaim) (text : List ℕ) (all : Bool) → AreAnswered g cs text all → Tells all (All holds cs)
  all_tell _ _ _ NoClaims = All-nil holds
  all_tell _ _ _ (OneMore {cs} {text} {all} c against more right) =
      both_tell (All holds cs) (holds c) (All holds (cs ++ c ∷ [])) all (is_none against) (λ xs x. All-push holds cs c xs x) (λ ys. All-pop holds (cs ++ c ∷ []) cs (Some c) refl ys)
      (all_tell cs text all more) (one_tells c against right)

  one_all : (cs ds : List NamedClaim) (text other : List ℕ) (b c : Bool) → cs ≡ ds → AreAnswered g cs text b → AreAnswered g ds other c → b ≡ c
  one_all cs ds text other b c same s t = one_bit (All holds ds) b c (subst (λ xs. Tells b (All holds xs)) same (all_tell cs text b s)) (all_tell ds other c t)

-- ---- bytes of claims

-- the endings ask for the same, or are those of answers of which some weren't written whole
abbrev Agree : Ending → Ending → Type 0
Agree x y = (asked x ≡ asked y) ⊎ IsCutOff x y ⊎ IsCutOff y x

-- how the program ends if the answers are written
abbrev said : Bool → Ending
said all = if all then Written else ClaimFails

agree : (x y : Ending) (b c : Bool) → b ≡ c → (x ≡ WriteFailed) ⊎ (x ≡ said b) → (y ≡ WriteFailed) ⊎ (y ≡ said c) → Agree x y
agree x y b c e (inl i) (inl j) = inl (ap asked (i ∙ sym j))
agree x y b c e (inr i) (inr j) = inl (ap asked (i ∙ ap said e ∙ sym j))
agree x y b true e (inl i) (inr j) = inl (ap asked i ∙ sym (ap asked j))
agree x y b false e (inl i) (inr j) = inr (inl (i, j))
agree x y true c e (inr i) (inl j) = inl (ap asked i ∙ sym (ap asked j))
agree x y false c e (inr i) (inl j) = inr (inr (j, i))

module _ (g : Graph) (is : IsGraph g) (bytes : List ℕ) where
  -- what the bytes ask for
  data ClaimsCause : Ending → Type 0 where
    Answered : {text : List ℕ} {all : Bool} {e : Ending} → IsDecision g bytes text all → (e ≡ WriteFailed) ⊎ (e ≡ said all) → ClaimsCause e
    NotRead : {f : ClaimsFault} → read g bytes ≡ Err f → ClaimsCause (ClaimsRefused f)

  refused_cause : (e : Ending) → RefusesClaims g bytes e → is_of_outside e ≡ false → ClaimsCause e
  refused_cause (ClaimsRefused fault) h n = NotRead h.1
  refused_cause NoMemory h n = absurd (cc)
  refused_cause _ h n = absurd h

  decided_cause : (a a' : Output) (e : Ending) → Decides g bytes a a' e → is_of_outside e ≡ false → ClaimsCause e
  decided_cause a a' WriteFailed (text, all, d, w) n = Answered d (inl refl)
  decided_cause a a' NoMemory h n = absurd (cc)
  decided_cause a a' _ (text, all, d, w) n = Answered d (inr w.1)

  claims_cause : (a a' : Output) (e : Ending) → OnClaimsIn g bytes a a' e → is_of_outside e ≡ false → ClaimsCause e
  claims_cause a a' e (inl (same, r)) n = refused_cause e r n
  claims_cause a a' e (inr d) n = decided_cause a a' e d n

  spelled_or_not : (cs : List NamedClaim) (f : ClaimsFault) → SpellsClaims g bytes cs → read g bytes ≡ Err f → ⊥
  spelled_or_not cs f s h = ok_or_err (read g bytes) cs f (spells-read g bytes cs is s) h

  one_claims : (x y : Ending) → ClaimsCause x → ClaimsCause y → Agree x y
  one_claims x y (Answered {text} {all} (cs, s, a) v) (Answered {text = other} {all = whole} (ds, t, b) w) =
      agree x y all whole (one_all g cs ds text other all whole (one_ok (read g bytes) cs ds (spells-read g bytes cs is s) (spells-read g bytes ds is t)) a b) v w
  one_claims x _ (Answered (cs, s, a) v) (NotRead {f} h) = absurd (spelled_or_not cs f s h)
  one_claims _ y (NotRead {f} h) (Answered (cs, s, a) v) = absurd (spelled_or_not cs f s h)
  one_claims _ _ (NotRead {f} h) (NotRead {f = k} j) = inl (ap ClaimsRefused (one_err (read g bytes) f k h j))

-- ---- the two files

refused_graph : (bytes : List ℕ) (e : Ending) → RefusesGraph bytes e → is_of_outside e ≡ false → Cause (SpellsGraph bytes) (no_graph bytes) (asked e)
refused_graph bytes (NoGraph fault) h n = Before (fault, refl, h)
refused_graph bytes (GraphRefused g fault) h n = Refused h.0 h.1
refused_graph bytes NoMemory h n = absurd (cc)
refused_graph bytes _ h n = absurd h

abbrev accepts : List ℕ → Type 0
accepts bytes = (g : Graph) × IsAcceptedText bytes g

refused_or_accepted : (bytes : List ℕ) (e : Ending) → accepts bytes → RefusesGraph bytes e → is_of_outside e ≡ false → ⊥
refused_or_accepted bytes (NoGraph fault) (g, s) h n = (of_graph bytes).apart g (NoGraph fault) s.spelled (fault, refl, h)
refused_or_accepted bytes (GraphRefused h fault) (g, s) r n = never_both (SpellsGraph bytes) (no_graph bytes) (of_graph bytes) g h s.programs fault s.spelled r.0 s.compiled s.few r.1
refused_or_accepted bytes NoMemory s h n = absurd (cc)
refused_or_accepted bytes _ s h n = absurd h

graphs_once : RefusedOnce accepts RefusesGraph
graphs_once = record {
  once = λ bytes x y h k p q. one_cause (SpellsGraph bytes) (no_graph bytes) (of_graph bytes) (asked x) (asked y) (refused_graph bytes x h p) (refused_graph bytes y k q);
  apart = refused_or_accepted;
}

module _ (files : List (List ℕ × List ℕ)) (claims : List ℕ) where
  on_claims : (g : Graph) (m m' n n' : FileFaults) (a a' b b' : Output) (x y : Ending) → IsGraph g → OnClaims g claims (Some files) m m' a a' x → OnClaims g claims (Some files) n n' b b' y
      → is_of_outside x ≡ false → is_of_outside y ≡ false → Agree x y
  on_claims g m m' n n' a a' b b' x y is (inl (same, u)) (inl (same', v)) p q = inl (unread_once files most_claims_file claims m m' n n' x y u v p q)
  on_claims g m m' n n' a a' b b' x y is (inl (same, u)) (inr h) p q = absurd (held_is_read files most_claims_file claims m m' (λ bytes. OnClaimsIn g bytes b b' y × (n' ≡ n)) x h u p)
  on_claims g m m' n n' a a' b b' x y is (inr h) (inl (same, u)) p q = absurd (held_is_read files most_claims_file claims n n' (λ bytes. OnClaimsIn g bytes a a' x × (m' ≡ m)) y h u q)
  on_claims g m m' n n' a a' b b' x y is (inr h) (inr k) p q =
      let (bytes, s, t) = held_once files most_claims_file most_claims_file claims (λ bytes. OnClaimsIn g bytes a a' x × (m' ≡ m)) (λ bytes. OnClaimsIn g bytes b b' y × (n' ≡ n)) h k in
      one_claims g is bytes x y (claims_cause g is bytes a a' x s.0 p) (claims_cause g is bytes b b' y t.0 q)

accepting : (files : List (List ℕ × List ℕ)) (graph : List ℕ) (g : Graph) → Holds (Some files) most_graph_file graph (λ bytes. IsAcceptedText bytes g) → Holds (Some files) most_graph_file graph accepts
accepting files graph g (bytes, at, few, s) = (bytes, at, few, (g, s))

pub claims_once : ClaimsEndOnce
claims_once files graph claims m m' n n' a a' b b' x y (inl (same, u)) (inl (same', v)) p q = inl (ends_once files most_graph_file graph accepts RefusesGraph graphs_once m m' n n' x y u v p q)
claims_once files graph claims m m' n n' a a' b b' x y (inl (same, u)) (inr (g, h, on)) p q =
    absurd (holds_or_ends files most_graph_file graph accepts RefusesGraph graphs_once m m' x (accepting files graph g h) u p)
claims_once files graph claims m m' n n' a a' b b' x y (inr (g, h, on)) (inl (same, u)) p q =
    absurd (holds_or_ends files most_graph_file graph accepts RefusesGraph graphs_once n n' y (accepting files graph g h) u q)
claims_once files graph claims m m' n n' a a' b b' x y (inr (g, h, on)) (inr (k, j, off)) p q =
    let (bytes, s, t) = held_once files most_graph_file most_graph_file graph (λ bytes. IsAcceptedText bytes g) (λ bytes. IsAcceptedText bytes k) h j in
    let same : g ≡ k = (of_graph bytes).graph g k s.spelled t.spelled in
    on_claims files claims k m m' n n' a a' b b' x y (t.spelled).is_graph (subst (λ (f : Graph). OnClaims f claims (Some files) m m' a a' x) same on) off p q
