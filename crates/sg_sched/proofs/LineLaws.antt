-- What the form of a line reads is what its words say, and nothing is left out.
use Rattle.std.specs.Prelude.{◌≡◌, ℕ, Bool, true, false, if◌then◌else◌, List, [], ◌∷◌, codes, bytes_eq, refl, Option, Some, None, option_map, MatchOption}
use Rattle.std.proofs.Common.{sym, ◌∙◌, ap}
use Rattle.std.proofs.lemmas.Slice.Eq.{bytes_eq-Decides}
use Rattle.sg_model.proofs.Small.{some_same}
use Rattle.sg_sched.specs.Format.LineContents.{Word, LineContent, BlockLine, EdgeLine, HonestLine, KeyLine, SessionLine, StartLine, ActLine, AbandonLine, DeliverLine, MakeLine, line_words}
use Rattle.sg_sched.specs.Format.Forms.{is_form, SaysLine}
use Rattle.sg_sched.specs.Format.Model.{statement}
use Rattle.sg_sched.specs.declared.line.Line.{Line}
use Rattle.sg_sched.specs.Text.{words, content}
use Rattle.sg_sched.specs.Format.Reading.{WordsLeft, block_form, edge_form, honest_form, key_form, session_form, start_form, act_form, abandon_form, deliver_form}
use Rattle.sg_sched.specs.Format.CraftReading.{craft_form}
use Rattle.sg_sched.specs.Format.Form.{form}
use Rattle.sg_sched.proofs.FormLaws.{none_some, Fits, honest_sound, honest_complete, start_sound, start_complete, abandon_sound, abandon_complete, block_sound, key_sound}
use Rattle.sg_sched.proofs.PartLaws.{edge_sound, session_sound, act_sound}
use Rattle.sg_sched.proofs.DeliverLaws.{deliver_sound, deliver_complete}
use Rattle.sg_sched.proofs.CompleteLaws.{edge_complete, key_complete, session_complete, act_complete}
use Rattle.sg_sched.proofs.CraftLaws.{craft_sound}
use Rattle.sg_sched.proofs.WholeCraft.{craft_reads}

-- a form's words behind its first word
first_is : {first w : Word} {ws : WordsLeft} {s : LineContent} → bytes_eq w first ≡ true → Fits (first ∷ ws) s → Fits (w ∷ ws) s
first_is {first} {w} {ws} e f = record { words = ap (λ x. x ∷ ws) ((bytes_eq-Decides w first).0 e) ∙ f.words; form = f.form }

pub form_sound : (ws : WordsLeft) (s : LineContent) → form ws ≡ Some s → Fits ws s
unfolding form
form_sound [] s h = none_some h
form_sound (w ∷ ws) s h =
    by (bytes_eq w (codes "start")) (bytes_eq w (codes "act")) (bytes_eq w (codes "deliver")) (bytes_eq w (codes "craft")) (bytes_eq w (codes "abandon")) (bytes_eq w (codes "session")) (bytes_eq w (codes "key")) (bytes_eq w (codes "honest")) (bytes_eq w (codes "edge")) (bytes_eq w (codes "graph"))
    refl refl refl refl refl refl refl refl refl refl h
  where
    by : (b1 b2 b3 b4 b5 b6 b7 b8 b9 b10 : Bool) → bytes_eq w (codes "start") ≡ b1 → bytes_eq w (codes "act") ≡ b2 → bytes_eq w (codes "deliver") ≡ b3 → bytes_eq w (codes "craft") ≡ b4 → bytes_eq w (codes "abandon") ≡ b5 → bytes_eq w (codes "session") ≡ b6
        → bytes_eq w (codes "key") ≡ b7 → bytes_eq w (codes "honest") ≡ b8 → bytes_eq w (codes "edge") ≡ b9 → bytes_eq w (codes "graph") ≡ b10
        → (if b1 then start_form ws else if b2 then act_form ws else if b3 then deliver_form ws else if b4 then craft_form ws else if b5 then abandon_form ws else if b6 then session_form ws
        else if b7 then key_form ws else if b8 then honest_form ws else if b9 then edge_form ws else if b10 then block_form ws else None) ≡ Some s → Fits (w ∷ ws) s
    by true b2 b3 b4 b5 b6 b7 b8 b9 b10 e1 e2 e3 e4 e5 e6 e7 e8 e9 e10 h = first_is e1 (start_sound ws s h)
    by false true b3 b4 b5 b6 b7 b8 b9 b10 e1 e2 e3 e4 e5 e6 e7 e8 e9 e10 h = first_is e2 (act_sound ws s h)
    by false false true b4 b5 b6 b7 b8 b9 b10 e1 e2 e3 e4 e5 e6 e7 e8 e9 e10 h = first_is e3 (deliver_sound ws s h)
    by false false false true b5 b6 b7 b8 b9 b10 e1 e2 e3 e4 e5 e6 e7 e8 e9 e10 h = first_is e4 (craft_sound ws s h)
    by false false false false true b6 b7 b8 b9 b10 e1 e2 e3 e4 e5 e6 e7 e8 e9 e10 h = first_is e5 (abandon_sound ws s h)
    by false false false false false true b7 b8 b9 b10 e1 e2 e3 e4 e5 e6 e7 e8 e9 e10 h = first_is e6 (session_sound ws s h)
    by false false false false false false true b8 b9 b10 e1 e2 e3 e4 e5 e6 e7 e8 e9 e10 h = first_is e7 (key_sound ws s h)
    by false false false false false false false true b9 b10 e1 e2 e3 e4 e5 e6 e7 e8 e9 e10 h = first_is e8 (honest_sound ws s h)
    by false false false false false false false false true b10 e1 e2 e3 e4 e5 e6 e7 e8 e9 e10 h = first_is e9 (edge_sound ws s h)
    by false false false false false false false false false true e1 e2 e3 e4 e5 e6 e7 e8 e9 e10 h = first_is e10 (block_sound ws s h)
    by false false false false false false false false false false e1 e2 e3 e4 e5 e6 e7 e8 e9 e10 h = none_some h

pub form_complete : (s : LineContent) → is_form s ≡ true → form (line_words s) ≡ Some s
unfolding form block_form
form_complete BlockLine h = refl
form_complete (EdgeLine label from to) h = edge_complete label from to h
form_complete (HonestLine who) h = honest_complete who h
form_complete (KeyLine one two ds) h = key_complete one two ds h
form_complete (SessionLine name graph nonce ns v) h = session_complete name graph nonce ns v h
form_complete (StartLine who session) h = start_complete who session h
form_complete (ActLine who session label vs) h = act_complete who session label vs h
form_complete (AbandonLine who session) h = abandon_complete who session h
form_complete (DeliverLine who what) h = deliver_complete who what h
form_complete (MakeLine c) h = craft_reads c h

-- ---- lines

-- nothing is of a form
pub says_none : (line : List ℕ) → form (words (content line)) ≡ None → (s : LineContent) → SaysLine line s → ⊥
says_none line h s says = none_some {P = ⊥} (sym h ∙ ap form says.spelled ∙ form_complete s says.form)

-- a line says one thing at most
pub says_one : (line : List ℕ) (s t : LineContent) → SaysLine line s → SaysLine line t → s ≡ t
says_one line s t p q = some_same (sym (form_complete s p.form) ∙ ap form (sym p.spelled ∙ q.spelled) ∙ form_complete t q.form)

-- what is read is said
pub says_some : (line : List ℕ) (s : LineContent) → form (words (content line)) ≡ Some s → SaysLine line s
says_some line s h = let f = form_sound (words (content line)) s h in record { spelled = f.words; form = f.form }

-- what the reader of a line answers, in either case
pub says : (line : List ℕ) (o : Option Line) → option_map statement o ≡ form (words (content line)) → MatchOption o ((s : LineContent) → SaysLine line s → ⊥) (λ l. SaysLine line (statement l))
says line None h = says_none line (sym h)
says line (Some l) h = says_some line (statement l) (sym h)
