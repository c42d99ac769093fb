-- What the forms read is what their words say.
use Rattle.std.specs.Prelude.{◌≡◌, ℕ, ◌==◌, Bool, true, false, not, ◌&&◌, if◌then◌else◌, [], ◌∷◌, length, codes, bytes_eq, refl, Option, Some, None, option_map, option_and_then}
use Rattle.std.proofs.Common.{sym, ◌∙◌, ap, subst, arith}
use Rattle.std.proofs.lemmas.Grind.{common_steps}
use Rattle.std.proofs.lemmas.Slice.Eq.{bytes_eq-Decides}
use Rattle.sg_model.specs.Names.{Name, is_name}
use Rattle.sg_model.proofs.Small.{and_left, and_right, some_same}
use Rattle.sg_base.specs.Words.{name}
use Rattle.sg_sched.specs.Format.LineContents.{Word, LineContent, BlockLine, HonestLine, KeyLine, StartLine, AbandonLine, line_words}
use Rattle.sg_sched.specs.Format.Forms.{is_form, are_names}
use Rattle.sg_sched.specs.Format.Values.{is_hex_of}
use Rattle.sg_sched.specs.Format.Reading.{WordsLeft, word, after, ended, hex_of, block_form, honest_form, key_form, key_of, in_session, start_form, abandon_form}
use Rattle.sg_sched.proofs.FormatWords.{both}

-- ---- steps

-- nothing is there where something is
pub none_some : {A : Type 0} {P : Type 0} {x : A} → None ≡ Some x → P
none_some h = absurd (cc h)

-- a word was read, and then the words behind it
pub record Step {A B : Type 0} (read : Word → Option A) (next : A → WordsLeft → Option B) (ws : WordsLeft) (y : B) : Type 0 where
  pub first : Word
  pub value : A
  pub rest : WordsLeft
  pub all : ws ≡ first ∷ rest
  pub was : read first ≡ Some value
  pub more : next value rest ≡ Some y

pub step : {A B : Type 0} (read : Word → Option A) (next : A → WordsLeft → Option B) (ws : WordsLeft) (y : B) → after (word read) next ws ≡ Some y → Step read next ws y
unfolding word
step read next [] y h = none_some h
step {A} {B} read next (w ∷ ws) y h = by (read w) refl h
  where
    by : (o : Option A) → read w ≡ o → option_and_then (λ (p : A × WordsLeft). next p.0 p.1) (option_map (λ x. (x, ws)) o) ≡ Some y → Step read next (w ∷ ws) y
    by None e h = none_some h
    by (Some x) e h = record { first = w; value = x; rest = ws; all = refl; was = e; more = h }

-- no word was left
pub ended_is : {A : Type 0} (statement : Option A) (ws : WordsLeft) (y : A) → ended statement ws ≡ Some y → (ws ≡ []) × (statement ≡ Some y)
ended_is statement [] y h = (refl, h)
ended_is statement (w ∷ ws) y h = let some : (length (w ∷ ws) == 0) ≡ false = grind (arith, common_steps) in none_some (sym (ap (λ b. if b then statement else None) some) ∙ h)

-- the words, one more in front
pub line_up : {w x : Word} {ws rest others : WordsLeft} → ws ≡ w ∷ rest → w ≡ x → rest ≡ others → ws ≡ x ∷ others
line_up a b c = a ∙ (λ i. b i ∷ c i)

-- ---- words

-- a word that passes a test
pub tested_is : (test : Word → Bool) (w x : Word) → (if test w then Some w else None) ≡ Some x → (w ≡ x) × (test x ≡ true)
tested_is test w x h = by (test w) refl h
  where
    by : (b : Bool) → test w ≡ b → (if b then Some w else None) ≡ Some x → (w ≡ x) × (test x ≡ true)
    by true e h = (some_same h, subst (λ v. test v ≡ true) (some_same h) e)
    by false e h = none_some h

pub record NameIs (w n : Word) : Type 0 where
  pub same : w ≡ n
  pub name : is_name n ≡ true

pub name_is : (w n : Word) → name w ≡ Some n → NameIs w n
unfolding name
name_is w n h = let t = tested_is is_name w n h in record { same = t.0; name = t.1 }

pub name_ok : (n : Name) → is_name n ≡ true → name n ≡ Some n
unfolding name
name_ok n h = rw h refl

-- ---- forms

-- the words of the line are those of what it says, and each field holds what it may hold
pub record Fits (ws : WordsLeft) (s : LineContent) : Type 0 where
  pub words : ws ≡ line_words s
  pub form : is_form s ≡ true

pub fits : {ws : WordsLeft} {s t : LineContent} → ws ≡ line_words s → is_form s ≡ true → Some s ≡ Some t → Fits ws t
fits {ws} w f h = subst (λ s. Fits ws s) (some_same h) (record { words = w; form = f })

pub honest_sound : (ws : WordsLeft) (s : LineContent) → honest_form ws ≡ Some s → Fits (codes "honest" ∷ ws) s
unfolding honest_form
honest_sound ws s h =
    let a = step name (λ who. ended (Some (HonestLine who))) ws s h in
    let e = ended_is (Some (HonestLine a.value)) a.rest s a.more in
    let n = name_is a.first a.value a.was in
    fits {s = HonestLine a.value} (ap (λ r. codes "honest" ∷ r) (line_up a.all n.same e.0)) n.name e.1

pub honest_complete : (who : Name) → is_form (HonestLine who) ≡ true → honest_form (who ∷ []) ≡ Some (HonestLine who)
unfolding honest_form word
honest_complete who h = rw (name_ok who h) refl

in_session_is : (ws : WordsLeft) (p : Name × Name) → in_session ws ≡ Some p → (ws ≡ p.0 ∷ p.1 ∷ []) × (are_names (p.0 ∷ p.1 ∷ []) ≡ true)
unfolding in_session
in_session_is ws p h =
    let a = step name (λ who. after (word name) λ session. ended (Some (who, session))) ws p h in
    let b = step name (λ session. ended (Some (a.value, session))) a.rest p a.more in
    let e = ended_is (Some (a.value, b.value)) b.rest p b.more in
    let m = name_is a.first a.value a.was in
    let n = name_is b.first b.value b.was in
    subst (λ (p : Name × Name). (ws ≡ p.0 ∷ p.1 ∷ []) × (are_names (p.0 ∷ p.1 ∷ []) ≡ true)) (some_same e.1) (line_up a.all m.same (line_up b.all n.same e.0), both m.name (both n.name refl))

in_session_ok : (who session : Name) → are_names (who ∷ session ∷ []) ≡ true → in_session (who ∷ session ∷ []) ≡ Some (who, session)
unfolding in_session word
in_session_ok who session h = rw (name_ok who (and_left (is_name who) (is_name session && true) h), name_ok session (and_left (is_name session) true (and_right (is_name who) (is_name session && true) h))) refl

-- what a principal does in a session
does_sound : (first : Word) (does : Name → Name → LineContent) → ((who session : Name) → first ∷ who ∷ session ∷ [] ≡ line_words (does who session)) → ((who session : Name) → are_names (who ∷ session ∷ []) ≡ true → is_form (does who session) ≡ true)
    → (ws : WordsLeft) (s : LineContent) → option_map (λ (p : Name × Name). does p.0 p.1) (in_session ws) ≡ Some s → Fits (first ∷ ws) s
does_sound first does spelled form ws s h = by (in_session ws) refl h
  where
    by : (o : Option (Name × Name)) → in_session ws ≡ o → option_map (λ (p : Name × Name). does p.0 p.1) o ≡ Some s → Fits (first ∷ ws) s
    by None e h = none_some h
    by (Some p) e h = let i = in_session_is ws p e in fits {s = does p.0 p.1} (ap (λ r. first ∷ r) i.0 ∙ spelled p.0 p.1) (form p.0 p.1 i.1) h

pub start_sound : (ws : WordsLeft) (s : LineContent) → start_form ws ≡ Some s → Fits (codes "start" ∷ ws) s
unfolding start_form
start_sound = does_sound (codes "start") StartLine (λ who session. refl) (λ who session h. h)

pub abandon_sound : (ws : WordsLeft) (s : LineContent) → abandon_form ws ≡ Some s → Fits (codes "abandon" ∷ ws) s
unfolding abandon_form
abandon_sound = does_sound (codes "abandon") AbandonLine (λ who session. refl) (λ who session h. h)

pub start_complete : (who session : Name) → is_form (StartLine who session) ≡ true → start_form (who ∷ session ∷ []) ≡ Some (StartLine who session)
unfolding start_form
start_complete who session h = ap (option_map (λ (p : Name × Name). StartLine p.0 p.1)) (in_session_ok who session h)

pub abandon_complete : (who session : Name) → is_form (AbandonLine who session) ≡ true → abandon_form (who ∷ session ∷ []) ≡ Some (AbandonLine who session)
unfolding abandon_form
abandon_complete who session h = ap (option_map (λ (p : Name × Name). AbandonLine p.0 p.1)) (in_session_ok who session h)

pub block_sound : (ws : WordsLeft) (s : LineContent) → block_form ws ≡ Some s → Fits (codes "graph" ∷ ws) s
unfolding block_form
block_sound [] s h = none_some h
block_sound (w ∷ ws) s h = by (bytes_eq w (codes "{")) refl h
  where
    by : (b : Bool) → bytes_eq w (codes "{") ≡ b → (if b then ended (Some BlockLine) ws else None) ≡ Some s → Fits (codes "graph" ∷ w ∷ ws) s
    by true e h =
        let end = ended_is (Some BlockLine) ws s h in
        fits {s = BlockLine} (ap (λ r. codes "graph" ∷ r) (line_up refl ((bytes_eq-Decides w (codes "{")).0 e) end.0)) refl end.1
    by false e h = none_some h

-- ---- keys

pub hex_is : (n : ℕ) (w d : Word) → hex_of n w ≡ Some d → (w ≡ d) × (is_hex_of n d ≡ true)
unfolding hex_of
hex_is n w d h = tested_is (is_hex_of n) w d h

pub hex_ok : (n : ℕ) (d : Word) → is_hex_of n d ≡ true → hex_of n d ≡ Some d
unfolding hex_of
hex_ok n d h = rw h refl

pub key_sound : (ws : WordsLeft) (s : LineContent) → key_form ws ≡ Some s → Fits (codes "key" ∷ ws) s
unfolding key_form
key_sound ws s h =
    let a = step name (λ one. after (word name) λ two. after (word (hex_of 32)) λ digits. ended (key_of one two digits)) ws s h in
    let b = step name (λ two. after (word (hex_of 32)) λ digits. ended (key_of a.value two digits)) a.rest s a.more in
    let d = step (hex_of 32) (λ digits. ended (key_of a.value b.value digits)) b.rest s b.more in
    let e = ended_is (key_of a.value b.value d.value) d.rest s d.more in
    let m = name_is a.first a.value a.was in
    let n = name_is b.first b.value b.was in
    let x = hex_is 32 d.first d.value d.was in
    by a.value b.value d.value (ap (λ r. codes "key" ∷ r) (line_up a.all m.same (line_up b.all n.same (line_up d.all x.0 e.0)))) m.name n.name x.1 (bytes_eq a.value b.value) refl e.1
  where
    by : (one two digits : Word) → codes "key" ∷ ws ≡ codes "key" ∷ one ∷ two ∷ digits ∷ [] → is_name one ≡ true → is_name two ≡ true → is_hex_of 32 digits ≡ true
        → (same : Bool) → bytes_eq one two ≡ same → (if same then None else Some (KeyLine one two digits)) ≡ Some s → Fits (codes "key" ∷ ws) s
    by one two digits w m n x true q h = none_some h
    by one two digits w m n x false q h = fits {s = KeyLine one two digits} w (both {a = is_name one && is_name two && not (bytes_eq one two)} (both {a = is_name one && is_name two} (both m n) (ap not q)) x) h
