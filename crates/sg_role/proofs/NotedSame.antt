-- What is noted by what is kept is what the definition notes, in each session that the state represents.
use Rattle.std.proofs.Common.{◌≡◌, ℕ, ◌<◌, ◌⊎◌, nat_lt, if◌then◌else◌, Bool, true, false, not, List, [], ◌∷◌, ◌++◌, map, length, take_while, refl, sym, ap, subst, ◌∙◌, Option, Some, None, inl, inr}
use Rattle.std.specs.List.{AllByRecursion}
use Rattle.std.proofs.lemmas.Bool.{cases_Bool}
use Rattle.sg_model.specs.Lists.{first_some}
use Rattle.sg_model.specs.Values.{Opening}
use Rattle.sg_protocol.specs.Calls.{Refusal, BadFrameTag, NoSuchView}
use Rattle.sg_protocol.specs.Frame.{Item, Frame}
use Rattle.sg_protocol.specs.IsSchedule.{IsProgram}
use Rattle.sg_protocol.specs.Keyring.{Keyring, Program}
use Rattle.sg_protocol.specs.Notes.{note_of, row_number, hashed_openings, notes_in_session}
use Rattle.sg_protocol.specs.Sending.{text_of}
use Rattle.sg_protocol.specs.Session.{Session, transcript, own_part, origin, principal, commitments}
use Rattle.sg_protocol.specs.Spelling.{HasSpelling}
use Rattle.sg_protocol.specs.Representation.{Held, held, RepresentsBefore}
use Rattle.sg_protocol.specs.Texts.{real, commitment_text_of}
use Rattle.sg_protocol.specs.Verdict.{row, has_frame_tag, has_item_tag, has_kind, is_right, rows_of_session}
use Rattle.sg_role.specs.Looking.{is_seen, overwritten_by, hashed_from, rows_from, notes_from}
use Rattle.sg_role.specs.Model.{RoleState}
use Rattle.sg_role.proofs.Shown.{seen_frame}
use Rattle.sg_role.proofs.Translated.{texts_now, opens_same, rows_same}

module _ (keys : Keyring) (p : Program) (ip : IsProgram real p) (s : Session) (f : Frame) (mine : p.role ≡ s.role) (ends : own_part s ≡ transcript s) (sp : HasSpelling f) where
  abbrev h : Held
  h = held p.graph s

  abbrev hashed : List Opening → List Opening
  hashed os = hashed_from p.graph s.sid (overwritten_by (commitments p.graph (transcript s)) f.items) os

  hashed_same : (os : List Opening) → AllByRecursion (λ (o : Opening). o.variable < length p.graph.variables) os → hashed os ≡ hashed_openings real p.graph s f os
  hashed_same [] a = refl
  hashed_same (o ∷ os) a = ap (λ b. if b then (o ∷ hashed os) else (if has_kind p.graph o then o ∷ [] else [])) (opens_same keys p ip s f mine ends sp o a.0)
      ∙ ap (λ l. if is_right real p.graph s f o then (o ∷ l) else (if has_kind p.graph o then o ∷ [] else [])) (hashed_same os a.1)

  -- no opening was hashed unless the frame shows a view
  abbrev number : ℕ
  number = row_number (first_some (rows_from keys p h f))

  early : is_seen p (origin s) f ≡ false → nat_lt 14 number ≡ false
  early e = go (row (not (has_frame_tag real keys s f)) BadFrameTag) (is_seen p (origin s) f) _ e (first_row (has_frame_tag real keys s f))
    where
      first_row : (b : Bool) → (row (not b) BadFrameTag ≡ None) ⊎ (row (not b) BadFrameTag ≡ Some BadFrameTag)
      first_row true = inl refl
      first_row false = inr refl

      go : (o : Option Refusal) (b : Bool) (rest : List (Option Refusal)) → b ≡ false → (o ≡ None) ⊎ (o ≡ Some BadFrameTag) → nat_lt 14 (row_number (first_some (o ∷ row (not b) NoSuchView ∷ rest))) ≡ false
      go o b rest e (inl q) = rw (q, e) refl
      go o b rest e (inr q) = rw q refl

  hashed_then : (if nat_lt 14 number then map (commitment_text_of s.sid) (hashed f.openings) else []) ≡ (if nat_lt 14 number then map (commitment_text_of s.sid) (hashed_openings real p.graph s f f.openings) else [])
  hashed_then = elim (cases_Bool (is_seen p (origin s) f)) [
    | inl e ↦ ap (λ l. if nat_lt 14 number then map (commitment_text_of s.sid) l else []) (hashed_same f.openings (seen_frame p ip (origin s) f e).variables)
    | inr e ↦ neither (nat_lt 14 number) (map (commitment_text_of s.sid) (hashed f.openings)) (map (commitment_text_of s.sid) (hashed_openings real p.graph s f f.openings)) [] (early e)
  ]
    where
      neither : {A : Type 0} (b : Bool) (x y z : A) → b ≡ false → (if b then x else z) ≡ (if b then y else z)
      neither b x y z e = rw e refl

  notes_number : notes_from keys p h f number ≡ notes_in_session real keys p s f number
  notes_number = λ i. record {
    made = [];
    found = (if nat_lt 11 number then note_of keys.me (principal s.cast f.sender) (text_of f) ∷ [] else [])
        ++ (if nat_lt 13 number then map (λ (c : Item × List ℕ). note_of keys.me (principal s.cast (c.0).role) c.1) (take_while (has_item_tag real keys s) (texts_now keys p ip s f mine ends sp i)) else []);
    hashed = hashed_then i;
  }

  pub notes_same : notes_from keys p h f number ≡ notes_in_session real keys p s f (row_number (first_some (rows_of_session real keys p s f)))
  notes_same = notes_number ∙ ap (λ o. notes_in_session real keys p s f (row_number o)) (rows_same keys p ip s f mine ends sp)

-- ---- by the state

module _ (keys : Keyring) (p : Program) (ip : IsProgram real p) (h : Held) (mine : h.role ≡ p.role) (s : Session) (b : RepresentsBefore p.graph h s) (f : Frame) (sp : HasSpelling f) where
  its_role : p.role ≡ s.role
  its_role = sym mine ∙ ap (λ (z : Held). z.role) b.holds

  pub rows_held : first_some (rows_from keys p h f) ≡ first_some (rows_of_session real keys p s f)
  rows_held = ap (λ (z : Held). first_some (rows_from keys p z f)) b.holds ∙ rows_same keys p ip s f its_role b.ends sp

  pub notes_held : notes_from keys p h f (row_number (first_some (rows_from keys p h f))) ≡ notes_in_session real keys p s f (row_number (first_some (rows_of_session real keys p s f)))
  notes_held = ap (λ (z : Held). notes_from keys p z f (row_number (first_some (rows_from keys p z f)))) b.holds ∙ notes_same keys p ip s f its_role b.ends sp

-- ---- by a state that is the one before

module _ (keys : Keyring) (z before : RoleState) (e : z ≡ before) (ip : IsProgram real z.program) (mine : z.held.role ≡ z.program.role) (s : Session) (b : RepresentsBefore before.program.graph before.held s) (f : Frame) (sp : HasSpelling f) where
  represents : RepresentsBefore z.program.graph z.held s
  represents = subst (λ (y : RoleState). RepresentsBefore y.program.graph y.held s) (sym e) b

  pub rows_before : first_some (rows_from keys z.program z.held f) ≡ first_some (rows_of_session real keys before.program s f)
  rows_before = rows_held keys z.program ip z.held mine s represents f sp ∙ ap (λ (y : RoleState). first_some (rows_of_session real keys y.program s f)) e

  pub notes_before : notes_from keys z.program z.held f (row_number (first_some (rows_from keys z.program z.held f))) ≡ notes_in_session real keys before.program s f (row_number (first_some (rows_of_session real keys before.program s f)))
  notes_before = notes_held keys z.program ip z.held mine s represents f sp ∙ ap (λ (y : RoleState). notes_in_session real keys y.program s f (row_number (first_some (rows_of_session real keys y.program s f)))) e
