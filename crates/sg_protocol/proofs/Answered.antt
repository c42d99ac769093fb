-- Each entry of a run with a call is what a principal answered when it was asked.
use Rattle.std.specs.Prelude.{◌≡◌, ℕ, suc, ◌+◌, ◌⊎◌, List, [], ◌∷◌, ◌++◌, length, refl, Option, Some, None}
use Rattle.std.specs.Option.{option_map_or}
use Rattle.std.proofs.Common.{sym, ◌∙◌, ap, subst, inl, inr, arith, append_assoc, append-nil}
use Rattle.sg_model.specs.Names.{Name}
use Rattle.sg_protocol.specs.Texts.{Hash}
use Rattle.sg_protocol.specs.Calls.{Call}
use Rattle.sg_protocol.specs.Acting.{answer}
use Rattle.sg_protocol.specs.Notes.{notes}
use Rattle.sg_protocol.specs.Past.{Past, node_of}
use Rattle.sg_protocol.specs.World.{World, Logged, Answered, past_of}
use Rattle.sg_protocol.specs.Run.{called, frame_in}
use Rattle.sg_protocol.proofs.Happenings.{Happening, Asked, Idle, happens, all_happen, suffix_course}
use Rattle.sg_protocol.proofs.Progressing.{Suffix}

module _ (sha : Hash) where
  -- the entry of number k, of the call that a principal with this past is asked
  abbrev pub entry_of : ℕ → Name → Past → Call → Logged
  entry_of k who past c = record { number = k; who = Some who; call = Some c; outcome = Answered (answer sha (node_of past) c); frame = frame_in (answer sha (node_of past) c); notes = notes sha (node_of past) c }

  -- after the first happenings, whose log is this, a principal is asked the call, and the entry is of its answer
  pub record WasAsked (w : World) (k : ℕ) (course : List Happening) (before : List Logged) (l : Logged) (c : Call) : Type 0 where
    pub first : List Happening
    pub who : Name
    pub rest : List Happening
    pub parts : course ≡ first ++ Asked who c ∷ rest
    pub log : (all_happen sha w k first).log ≡ before
    pub past : Past
    pub is_past : past_of (all_happen sha w k first) who ≡ Some past
    pub is : l ≡ entry_of (k + length first) who past c

  asked_later : (w : World) (k : ℕ) (h : Happening) (hs : List Happening) (before : List Logged) (l : Logged) (c : Call) → WasAsked (happens sha w k h) (k + 1) hs before l c → WasAsked w k (h ∷ hs) before l c
  asked_later w k h hs before l c a = record {
    first = h ∷ a.first;
    who = a.who;
    rest = a.rest;
    parts = ap (λ z. h ∷ z) a.parts;
    log = a.log;
    past = a.past;
    is_past = a.is_past;
    is = subst (λ n. l ≡ entry_of n a.who a.past c) (let q : (k + 1) + length a.first ≡ k + suc (length a.first) = omega arith in q) a.is;
  }

  -- the entry is the answer of a principal that is asked now, if it has a call
  abbrev IsAsked : World → ℕ → Happening → Logged → Type 0
  IsAsked w k h m = (c : Call) → m.call ≡ Some c → (who : Name) × (past : Past) × (h ≡ Asked who c) × (past_of w who ≡ Some past) × (m ≡ entry_of k who past c)

  -- what happens adds no entry, or one
  added : (w : World) (k : ℕ) (h : Happening) → ((happens sha w k h).log ≡ w.log) ⊎ ((m : Logged) × ((happens sha w k h).log ≡ w.log ++ m ∷ []) × IsAsked w k h m)
  added w k (Idle who o fr) = inr (_, refl, λ c e. absurd (cc))
  added w k (Asked who d) = by_past (past_of w who) refl
    where
      by_past : (o : Option Past) → past_of w who ≡ o → ((option_map_or (called sha w k who d) o w).log ≡ w.log) ⊎ ((m : Logged) × ((option_map_or (called sha w k who d) o w).log ≡ w.log ++ m ∷ []) × IsAsked w k (Asked who d) m)
      by_past None e = inl refl
      by_past (Some past) e = inr (entry_of k who past d, refl, λ c q. (let same : d ≡ c = cc in (who, past, ap (λ z. Asked who z) same, e, ap (entry_of k who past) same)))

  -- a log that goes on by an entry has it where another splits it, or before
  next_entry : (log more : List Logged) (m : Logged) (rest : List Logged) (l : Logged) (after : List Logged) → (log ++ m ∷ []) ++ rest ≡ log ++ more ++ l ∷ after → ((more ≡ []) × (m ≡ l)) ⊎ ((others : List Logged) × (more ≡ m ∷ others))
  next_entry [] [] m rest l after e = inl (refl, cc)
  next_entry [] (b ∷ more) m rest l after e = inr (more, (let q : m ≡ b = cc in ap (λ z. z ∷ more) (sym q)))
  next_entry (x ∷ log) more m rest l after e = next_entry log more m rest l after (cc)

  not_longer : (log more : List Logged) (l : Logged) (after : List Logged) → log ≡ log ++ more ++ l ∷ after → ⊥
  not_longer [] [] l after e = cc
  not_longer [] (b ∷ more) l after e = cc
  not_longer (x ∷ log) more l after e = not_longer log more l after (cc)

  module _ (w : World) (k : ℕ) (h : Happening) (more : List Logged) (l : Logged) (c : Call) where
    abbrev next : World
    next = happens sha w k h

    asked_now : (hs : List Happening) → l.call ≡ Some c → (m : Logged) → IsAsked w k h m → more ≡ [] → m ≡ l → WasAsked w k (h ∷ hs) (w.log ++ more) l c
    asked_now hs call m asked none same =
        let q = asked c (ap (λ (z : Logged). z.call) same ∙ call) in
        record {
          first = [];
          who = q.0;
          rest = hs;
          parts = ap (λ z. z ∷ hs) q.2;
          log = sym (append-nil w.log) ∙ ap (λ z. w.log ++ z) (sym none);
          past = q.1;
          is_past = q.3;
          is = sym same ∙ q.4 ∙ ap (λ n. entry_of n q.0 q.1 c) (let i : k ≡ k + 0 = omega arith in i);
        }

    joined : (m : Logged) → next.log ≡ w.log ++ m ∷ [] → (others : List Logged) → more ≡ m ∷ others → next.log ++ others ≡ w.log ++ more
    joined m e others d = ap (λ z. z ++ others) e ∙ append_assoc w.log (m ∷ []) others ∙ ap (λ z. w.log ++ z) (sym d)

  pub was_asked : (w : World) (k : ℕ) (course : List Happening) (more : List Logged) (l : Logged) (after : List Logged) (c : Call) → (all_happen sha w k course).log ≡ w.log ++ more ++ l ∷ after → l.call ≡ Some c → WasAsked w k course (w.log ++ more) l c
  was_asked w k [] more l after c e call = absurd (not_longer w.log more l after e)
  was_asked w k (h ∷ hs) more l after c e call =
      let next : World = happens sha w k h in
      elim (added w k h) [
        | inl same ↦ asked_later w k h hs (w.log ++ more) l c (subst (λ z. WasAsked next (k + 1) hs (z ++ more) l c) same (was_asked next (k + 1) hs more l after c (e ∙ ap (λ z. z ++ more ++ l ∷ after) (sym same)) call))
        | inr m ↦
            let s : Suffix (k + 1) next.log (all_happen sha next (k + 1) hs).log = suffix_course sha next (k + 1) hs in
            elim (next_entry w.log more m.0 s.rest l after (ap (λ z. z ++ s.rest) (sym m.1) ∙ sym s.is ∙ e)) [
              | inl n ↦ asked_now w k h more l c hs call m.0 m.2 n.0 n.1
              | inr n ↦ asked_later w k h hs (w.log ++ more) l c (subst (λ z. WasAsked next (k + 1) hs z l c) (joined w k h more l c m.0 m.1 n.0 n.1) (was_asked next (k + 1) hs n.0 l after c (e ∙ ap (λ z. z ++ l ∷ after) (sym (joined w k h more l c m.0 m.1 n.0 n.1))) call))
            ]
      ]
