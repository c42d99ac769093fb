-- The live sessions of one sid, and those of others.
use Rattle.std.specs.Prelude.{◌≡◌, Bool, true, false, List, [], ◌∷◌, filter, refl, bytes_eq, ℕ, ◌==◌, if◌then◌else◌}
use Rattle.std.proofs.Common.{ap, inl, inr}
use Rattle.std.proofs.lemmas.List.Elements.{filter-append}
use Rattle.std.proofs.lemmas.Bool.{cases_Bool, and_parts}
use Rattle.sg_model.proofs.Small.{same_bytes}
use Rattle.sg_protocol.specs.Session.{Session}
use Rattle.sg_protocol.specs.Keyring.{Program}
use Rattle.sg_protocol.specs.NodeAfter.{replace, still, is_over}
use Rattle.sg_protocol.specs.Frame.{Frame}
use Rattle.sg_protocol.specs.Node.{is_for}

abbrev pub of_sid : List ℕ → Session → Bool
of_sid sid s = bytes_eq s.sid sid

pub replace-other : {q : Session → Bool} (which : Session → Bool) (now : Session → List Session) → ((s : Session) → which s ≡ true → q s ≡ false) → ((s : Session) → which s ≡ true → filter q (now s) ≡ []) → (ss : List Session) → filter q (replace which now ss) ≡ filter q ss
replace-other which now h k [] = refl
replace-other {q = q} which now h k (s ∷ ss) = elim (cases_Bool (which s)) [
  | inl e ↦ rw (e, filter-append q (now s) ss, k s e, h s e) refl
  | inr e ↦ rw e (elim (cases_Bool (q s)) [ inl f ↦ rw f (ap (λ l. s ∷ l) (replace-other which now h k ss)) | inr f ↦ rw f (replace-other which now h k ss) ])
]

pub replace-own : {q : Session → Bool} (which : Session → Bool) (now : Session → List Session) → ((s : Session) → which s ≡ true → q s ≡ true) → ((s : Session) → which s ≡ true → filter q (now s) ≡ now s) → (ss : List Session) → replace which now (filter q ss) ≡ filter q (replace which now ss)
replace-own which now h k [] = refl
replace-own {q = q} which now h k (s ∷ ss) = elim (cases_Bool (which s)) [
  | inl e ↦ rw (h s e, e, filter-append q (now s) ss, k s e) refl
  | inr e ↦ elim (cases_Bool (q s)) [ inl f ↦ rw (f, e) (rw f (ap (λ l. s ∷ l) (replace-own which now h k ss))) | inr f ↦ rw (f, e) (rw f (replace-own which now h k ss)) ]
]

-- what is left of a session has its sid
pub still-own : (sid : List ℕ) (ps : List Program) (s : Session) → bytes_eq s.sid sid ≡ true → filter (of_sid sid) (still ps s) ≡ still ps s
still-own sid ps s h = elim (cases_Bool (is_over ps s)) [ inl e ↦ rw e refl | inr e ↦ rw e (rw h refl) ]

pub still-other : (sid : List ℕ) (ps : List Program) (s : Session) → bytes_eq s.sid sid ≡ false → filter (of_sid sid) (still ps s) ≡ []
still-other sid ps s h = elim (cases_Bool (is_over ps s)) [ inl e ↦ rw e refl | inr e ↦ rw e (rw h refl) ]

-- so these sessions are all of the sid, or none is
pub still-part : (sid : List ℕ) (own : Bool) (ps : List Program) (s : Session) → bytes_eq s.sid sid ≡ own → filter (of_sid sid) (still ps s) ≡ (if own then still ps s else [])
still-part sid true ps s h = still-own sid ps s h
still-part sid false ps s h = still-other sid ps s h

pub one-part : (sid : List ℕ) (own : Bool) (s : Session) → bytes_eq s.sid sid ≡ own → filter (of_sid sid) (s ∷ []) ≡ (if own then s ∷ [] else [])
one-part sid true s h = rw h refl
one-part sid false s h = rw h refl

-- a session that a frame is for has its sid
pub for_sid : (f : Frame) (z : Session) → is_for f z ≡ true → z.sid ≡ f.sid
for_sid f z e = same_bytes z.sid f.sid (and_parts _ (z.role == f.receiver) (and_parts _ (z.cast.version == f.version) e).0).0
