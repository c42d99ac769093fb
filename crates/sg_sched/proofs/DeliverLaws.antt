-- What the form of a delivery reads is what its words say.
use Rattle.std.specs.Prelude.{◌≡◌, ℕ, Bool, true, false, ◌&&◌, if◌then◌else◌, [], ◌∷◌, codes, bytes_eq, refl, Option, Some, None, option_and_then}
use Rattle.std.specs.Fmt.{decimal}
use Rattle.std.proofs.Common.{sym, ◌∙◌, ap, subst, arith}
use Rattle.std.proofs.lemmas.Slice.Eq.{bytes_eq-Decides}
use Rattle.sg_model.specs.Names.{Name, is_name}
use Rattle.sg_model.proofs.Small.{and_left, and_right, some_same}
use Rattle.sg_base.specs.Words.{name, number}
use Rattle.sg_sched.specs.Words.{frame}
use Rattle.sg_sched.specs.Format.LineContents.{Word, Delivered, LineContent, DeliverLine, TheFrame, TheFlipped, TheCut, TheBytes, delivered_words, frame_word}
use Rattle.sg_sched.specs.Format.Forms.{is_form, is_delivered, is_frame, is_short}
use Rattle.sg_sched.specs.Format.Values.{is_hex}
use Rattle.sg_sched.specs.Format.Reading.{WordsLeft, word, after, ended, hex, short, frame_form, what_form, deliver_form}
use Rattle.sg_sched.proofs.FormatWords.{both}
use Rattle.sg_sched.proofs.FormLaws.{none_some, step, ended_is, line_up, tested_is, name_is, name_ok, Fits, fits}
use Rattle.sg_sched.proofs.NumberLaws.{number_is, number_ok, frame_is, frame_ok, short_is, is_short_of}

-- the words behind the name
record Gives (who : Name) (ws : WordsLeft) (s : LineContent) : Type 0 where
  pub what : Delivered
  pub words : ws ≡ delivered_words what
  pub form : is_delivered what ≡ true
  pub statement : DeliverLine who what ≡ s

gives : {who : Name} {ws : WordsLeft} {s : LineContent} (what : Delivered) → ws ≡ delivered_words what → is_delivered what ≡ true → Some (DeliverLine who what) ≡ Some s → Gives who ws s
gives what w f h = record { what = what; words = w; form = f; statement = some_same h }

-- flip I and cut I
change_is : (who : Name) (n : ℕ) (make : ℕ → Delivered) (w mark : Word) (ws : WordsLeft) (s : LineContent) → ((i : ℕ) → frame_word n ∷ mark ∷ decimal i ∷ [] ≡ delivered_words (make i)) → ((i : ℕ) → is_short i ≡ true → is_delivered (make i) ≡ true) → w ≡ mark
    → after short (λ i. ended (Some (DeliverLine who (make i)))) ws ≡ Some s → Gives who (frame_word n ∷ w ∷ ws) s
change_is who n make w mark ws s spell ok e h =
    let a = step (number 4294967295) (λ i. ended (Some (DeliverLine who (make i)))) ws s h in
    let end = ended_is (Some (DeliverLine who (make a.value))) a.rest s a.more in
    let k = number_is 4294967295 a.first a.value (omega arith) a.was in
    gives (make a.value) ((λ i. frame_word n ∷ e i ∷ line_up a.all k.same end.0 i) ∙ spell a.value) (ok a.value (short_is a.value k.within)) end.1

frame_gives : (who : Name) (n : ℕ) (ws : WordsLeft) (s : LineContent) → is_frame n ≡ true → frame_form who n ws ≡ Some s → Gives who (frame_word n ∷ ws) s
unfolding frame_form
frame_gives who n [] s f h = gives (TheFrame n) refl f h
frame_gives who n (w ∷ ws) s f h = by (bytes_eq w (codes "flip")) (bytes_eq w (codes "cut")) refl refl h
  where
    by : (p q : Bool) → bytes_eq w (codes "flip") ≡ p → bytes_eq w (codes "cut") ≡ q
        → (if p then after short (λ at. ended (Some (DeliverLine who (TheFlipped n at)))) ws else if q then after short (λ len. ended (Some (DeliverLine who (TheCut n len)))) ws else None) ≡ Some s → Gives who (frame_word n ∷ w ∷ ws) s
    by true q e g h = change_is who n (λ i. TheFlipped n i) w (codes "flip") ws s (λ i. refl) (λ i k. both f k) ((bytes_eq-Decides w (codes "flip")).0 e) h
    by false true e g h = change_is who n (λ i. TheCut n i) w (codes "cut") ws s (λ i. refl) (λ i k. both f k) ((bytes_eq-Decides w (codes "cut")).0 g) h
    by false false e g h = none_some h

digits_are : (w d : Word) → hex w ≡ Some d → (w ≡ d) × (is_hex d ≡ true)
unfolding hex
digits_are w d h = tested_is is_hex w d h

digits_ok : (d : Word) → is_hex d ≡ true → hex d ≡ Some d
unfolding hex
digits_ok d h = rw h refl

what_gives : (who : Name) (ws : WordsLeft) (s : LineContent) → what_form who ws ≡ Some s → Gives who ws s
unfolding what_form
what_gives who [] s h = none_some h
what_gives who (w ∷ ws) s h = by (bytes_eq w (codes "hex")) refl h
  where
    framed : (o : Option ℕ) → frame w ≡ o → option_and_then (λ n. frame_form who n ws) o ≡ Some s → Gives who (w ∷ ws) s
    framed None e h = none_some h
    framed (Some n) e h = let f = frame_is w n e in subst (λ x. Gives who (x ∷ ws) s) (sym f.0) (frame_gives who n ws s f.1 h)

    by : (b : Bool) → bytes_eq w (codes "hex") ≡ b → (if b then after (word hex) (λ digits. ended (Some (DeliverLine who (TheBytes digits)))) ws else option_and_then (λ n. frame_form who n ws) (frame w)) ≡ Some s → Gives who (w ∷ ws) s
    by true e h =
        let a = step hex (λ digits. ended (Some (DeliverLine who (TheBytes digits)))) ws s h in
        let end = ended_is (Some (DeliverLine who (TheBytes a.value))) a.rest s a.more in
        let d = digits_are a.first a.value a.was in
        gives (TheBytes a.value) (λ i. (bytes_eq-Decides w (codes "hex")).0 e i ∷ line_up a.all d.0 end.0 i) d.1 end.1
    by false e h = framed (frame w) refl h

pub deliver_sound : (ws : WordsLeft) (s : LineContent) → deliver_form ws ≡ Some s → Fits (codes "deliver" ∷ ws) s
unfolding deliver_form
deliver_sound ws s h =
    let a = step name what_form ws s h in
    let n = name_is a.first a.value a.was in
    let g = what_gives a.value a.rest s a.more in
    fits {s = DeliverLine a.value g.what} (ap (λ r. codes "deliver" ∷ r) (line_up a.all n.same g.words)) (both n.name g.form) (ap Some g.statement)

-- ---- nothing is left out

pub deliver_complete : (who : Name) (what : Delivered) → is_form (DeliverLine who what) ≡ true → deliver_form (who ∷ delivered_words what) ≡ Some (DeliverLine who what)
unfolding deliver_form what_form frame_form word
deliver_complete who (TheFrame n) h = rw (name_ok who (and_left (is_name who) (is_frame n) h), frame_ok n (and_right (is_name who) (is_frame n) h)) refl
deliver_complete who (TheFlipped n i) h =
    let w = and_right (is_name who) (is_frame n && is_short i) h in
    rw (name_ok who (and_left (is_name who) (is_frame n && is_short i) h), frame_ok n (and_left (is_frame n) (is_short i) w), number_ok 4294967295 i (omega arith) (is_short_of i (and_right (is_frame n) (is_short i) w))) refl
deliver_complete who (TheCut n i) h =
    let w = and_right (is_name who) (is_frame n && is_short i) h in
    rw (name_ok who (and_left (is_name who) (is_frame n && is_short i) h), frame_ok n (and_left (is_frame n) (is_short i) w), number_ok 4294967295 i (omega arith) (is_short_of i (and_right (is_frame n) (is_short i) w))) refl
deliver_complete who (TheBytes ds) h = rw (name_ok who (and_left (is_name who) (is_hex ds) h), digits_ok ds (and_right (is_name who) (is_hex ds) h)) refl
