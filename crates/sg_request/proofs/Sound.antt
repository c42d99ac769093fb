-- What a form reads is what its words say.
use Rattle.std.specs.Prelude.{◌≡◌, ℕ, Bool, true, false, ◌&&◌, if◌then◌else◌, List, [], ◌∷◌, map, codes, bytes_eq, refl, Option, Some, None, option_map}
use Rattle.std.proofs.Common.{sym, ◌∙◌, ap, subst, arith}
use Rattle.std.proofs.lemmas.Slice.Eq.{bytes_eq-Decides}
use Rattle.sg_model.specs.Names.{Name, is_name}
use Rattle.sg_model.proofs.Small.{some_same}
use Rattle.sg_base.specs.Words.{name, number}
use Rattle.sg_sched.specs.Format.LineContents.{Word, Assignment, assignment_word}
use Rattle.sg_sched.specs.Format.Reading.{WordsLeft, word, after, ended, assignments}
use Rattle.sg_sched.specs.Format.CraftReading.{cast}
use Rattle.sg_sched.proofs.FormatWords.{both}
use Rattle.sg_sched.proofs.FormLaws.{none_some, step, ended_is, line_up, name_is}
use Rattle.sg_sched.proofs.NumberLaws.{number_is}
use Rattle.sg_sched.proofs.PartLaws.{assignments_are}
use Rattle.sg_sched.proofs.CraftLaws.{cast_is}
use Rattle.sg_request.specs.declared.request.Request.{Request}
use Rattle.sg_request.specs.declared.request.Request.TheVariants.{Start, Act, Abandon, Receive, Again, Turn, Id, Quit}
use Rattle.sg_request.specs.Request.{session, version, start_form, act_form, receive_form, session_form, quit_form, short_form, form, request_words, session_word, is_request, is_session}
use Rattle.sg_request.proofs.WordLaws.{session_is, version_is}

-- the words are those of the request, and each field holds what it may hold
pub record Says (ws : WordsLeft) (r : Request) : Type 0 where
  pub words : ws ≡ request_words r
  pub indices : is_request r ≡ true

says : {ws : WordsLeft} {r s : Request} → ws ≡ request_words r → is_request r ≡ true → Some r ≡ Some s → Says ws s
says {ws} w p h = subst (λ r. Says ws r) (some_same h) (record { words = w; indices = p })

start_sound : (ws : WordsLeft) (r : Request) → start_form ws ≡ Some r → Says (codes "start" ∷ ws) r
unfolding start_form
start_sound ws r h =
    let a = step name (λ graph. after (word version) λ version. after (word cast) λ names. ended (Some (Start graph version names))) ws r h in
    let b = step version (λ version. after (word cast) λ names. ended (Some (Start a.value version names))) a.rest r a.more in
    let d = step cast (λ names. ended (Some (Start a.value b.value names))) b.rest r b.more in
    let e = ended_is (Some (Start a.value b.value d.value)) d.rest r d.more in
    let g = name_is a.first a.value a.was in
    let v = version_is b.first b.value b.was in
    let n = cast_is d.first d.value d.was in
    says {r = Start a.value b.value d.value} (ap (λ t. codes "start" ∷ t) (line_up a.all g.same (line_up b.all v.0 (line_up d.all n.0 e.0))))
    (both (both g.name v.1) n.1) e.1

act_sound : (ws : WordsLeft) (r : Request) → act_form ws ≡ Some r → Says (codes "act" ∷ ws) r
unfolding act_form
act_sound ws r h =
    let a = step session (λ n. after (word name) λ label. λ ws. option_map (Act n label) (assignments ws)) ws r h in
    let b = step name (λ label. λ ws. option_map (Act a.value label) (assignments ws)) a.rest r a.more in
    let s = session_is a.first a.value a.was in
    let l = name_is b.first b.value b.was in
    by a.value b.value b.rest (λ (t : WordsLeft) e. ap (λ t. codes "act" ∷ t) (line_up a.all s.0 (line_up b.all l.same e))) (both s.1 l.name) (assignments b.rest) refl b.more
  where
    by : (n : ℕ) (label : Name) (rest : WordsLeft) → ((t : WordsLeft) → rest ≡ t → (codes "act" ∷ ws) ≡ codes "act" ∷ session_word n ∷ label ∷ t) → (is_session n && is_name label) ≡ true
        → (o : Option (List Assignment)) → assignments rest ≡ o → option_map (Act n label) o ≡ Some r → Says (codes "act" ∷ ws) r
    by n label rest w p None e h = none_some h
    by n label rest w p (Some vs) e h = let g = assignments_are rest vs e in says {r = Act n label vs} (w (map assignment_word vs) g.0) (both p g.1) h

receive_sound : (ws : WordsLeft) (r : Request) → receive_form ws ≡ Some r → Says (codes "recv" ∷ ws) r
unfolding receive_form
receive_sound [] r h = says {r = Receive None} refl refl h
receive_sound (w ∷ ws) r h =
    let a = step (number 86400000) (λ ms. ended (Some (Receive (Some ms)))) (w ∷ ws) r h in
    let e = ended_is (Some (Receive (Some a.value))) a.rest r a.more in
    let n = number_is 86400000 a.first a.value (omega arith) a.was in
    says {r = Receive (Some a.value)} (ap (λ t. codes "recv" ∷ t) (line_up a.all n.same e.0)) n.within e.1

session_form_is : (ws : WordsLeft) (n : ℕ) → session_form ws ≡ Some n → (ws ≡ session_word n ∷ []) × (is_session n ≡ true)
unfolding session_form
session_form_is ws n h =
    let a = step session (λ n. ended (Some n)) ws n h in
    let e = ended_is (Some a.value) a.rest n a.more in
    let s = session_is a.first a.value a.was in
    subst (λ m. (ws ≡ session_word m ∷ []) × (is_session m ≡ true)) (some_same e.1) (line_up a.all s.0 e.0, s.1)

-- a request that names a session alone
of_session : (first : Word) (ask : ℕ → Request) → ((n : ℕ) → request_words (ask n) ≡ first ∷ session_word n ∷ []) → ((n : ℕ) → is_request (ask n) ≡ is_session n)
    → (ws : WordsLeft) (r : Request) → option_map ask (session_form ws) ≡ Some r → Says (first ∷ ws) r
of_session first ask spelled indices ws r h = by (session_form ws) refl h
  where
    by : (o : Option ℕ) → session_form ws ≡ o → option_map ask o ≡ Some r → Says (first ∷ ws) r
    by None e h = none_some h
    by (Some n) e h =
        let s = session_form_is ws n e in
        says {r = ask n} (ap (λ t. first ∷ t) s.0 ∙ sym (spelled n)) (indices n ∙ s.1) h

quit_sound : (ws : WordsLeft) (r : Request) → quit_form ws ≡ Some r → Says (codes "quit" ∷ ws) r
unfolding quit_form
quit_sound ws r h = let e = ended_is (Some Quit) ws r h in says {r = Quit} (ap (λ t. codes "quit" ∷ t) e.0) refl e.1

-- the first word, which is this one
with_first : {w first : Word} {ws : WordsLeft} {r : Request} → bytes_eq w first ≡ true → Says (first ∷ ws) r → Says (w ∷ ws) r
with_first {w} {first} {ws} {r} e s = subst (λ v. Says (v ∷ ws) r) (sym ((bytes_eq-Decides w first).0 e)) s

-- one of two forms
either : {A : Type 0} {P : Type 0} (b : Bool) (here there : Option A) (x : A) → (if b then here else there) ≡ Some x → (b ≡ true → here ≡ Some x → P) → (there ≡ Some x → P) → P
either true here there x h f g = f refl h
either false here there x h f g = g h

short_sound : (w : Word) (ws : WordsLeft) (r : Request) → short_form w ws ≡ Some r → Says (w ∷ ws) r
unfolding short_form
short_sound w ws r h =
    either (bytes_eq w (codes "recv")) _ _ r h (λ e k. with_first e (receive_sound ws r k)) λ h.
    either (bytes_eq w (codes "turn")) _ _ r h (λ e k. with_first e (of_session (codes "turn") Turn (λ n. refl) (λ n. refl) ws r k)) λ h.
    either (bytes_eq w (codes "abandon")) _ _ r h (λ e k. with_first e (of_session (codes "abandon") Abandon (λ n. refl) (λ n. refl) ws r k)) λ h.
    either (bytes_eq w (codes "again")) _ _ r h (λ e k. with_first e (of_session (codes "again") Again (λ n. refl) (λ n. refl) ws r k)) λ h.
    either (bytes_eq w (codes "id")) _ _ r h (λ e k. with_first e (of_session (codes "id") Id (λ n. refl) (λ n. refl) ws r k)) λ h.
    either (bytes_eq w (codes "quit")) _ _ r h (λ e k. with_first e (quit_sound ws r k)) λ h.
    none_some h

pub form_sound : (ws : WordsLeft) (r : Request) → form ws ≡ Some r → Says ws r
unfolding form
form_sound [] r h = none_some h
form_sound (w ∷ ws) r h =
    either (bytes_eq w (codes "start")) _ _ r h (λ e k. with_first e (start_sound ws r k)) λ h.
    either (bytes_eq w (codes "act")) _ _ r h (λ e k. with_first e (act_sound ws r k)) λ h.
    short_sound w ws r h
