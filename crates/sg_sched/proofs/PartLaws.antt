-- What the forms with numbers, names, values and frames read is what their words say.
use Rattle.std.specs.Prelude.{◌≡◌, ℕ, ◌%◌, ◌==◌, nat_le, Bool, true, false, not, ◌&&◌, ◌||◌, if◌then◌else◌, List, [], ◌∷◌, ◌++◌, map, length, codes, bytes_eq, refl, Option, Some, None, option_map, option_and_then}
use Rattle.std.specs.List.{list_all, onto_first}
use Rattle.std.specs.Fmt.{decimal}
use Rattle.std.proofs.Common.{sym, ◌∙◌, ap, subst, arith, append-nil, true≢false}
use Rattle.std.proofs.lemmas.Grind.{common_steps}
use Rattle.std.proofs.lemmas.Bool.{le-leb, eqb-true}
use Rattle.std.proofs.lemmas.List.Splits.{slice_split-cons_yes, slice_split-cons_no}
use Rattle.std.proofs.lemmas.Slice.Eq.{bytes_eq-Decides}
use Rattle.sg_model.specs.Names.{Name, is_name, reserved}
use Rattle.sg_model.specs.Lists.{has_text, all_differ}
use Rattle.sg_model.proofs.Small.{and_left, and_right, some_same}
use Rattle.sg_base.specs.Words.{name, number}
use Rattle.sg_sched.specs.Words.{names}
use Rattle.sg_sched.specs.Format.LineContents.{Word, Assignment, LineContent, EdgeLine, SessionLine, ActLine, joined_names, assignment_word, version_words}
use Rattle.sg_sched.specs.Format.Forms.{is_assignment, are_names}
use Rattle.sg_sched.specs.Format.Values.{is_value}
use Rattle.sg_sched.specs.Format.Reading.{WordsLeft, word, after, ended, edge_form, edge_of, session_form, version, act_form, given, assignment_of, assignments, split_at}
use Rattle.sg_sched.proofs.FormatWords.{both, lacks, name_lacks, name_list}
use Rattle.sg_sched.proofs.FormLaws.{none_some, step, ended_is, line_up, name_is, Fits, fits}
use Rattle.sg_sched.proofs.NumberLaws.{number_is, wide_is}

-- ---- edges

edge_by : (ws : WordsLeft) (label : Name) (from to : ℕ) (s : LineContent) → ws ≡ label ∷ decimal from ∷ decimal to ∷ [] → is_name label ≡ true → nat_le from 255 ≡ true → nat_le to 255 ≡ true
    → (taken same : Bool) → has_text label reserved ≡ taken → (from % 2 == to % 2) ≡ same → (if taken then None else if same then None else Some (EdgeLine label from to)) ≡ Some s → Fits (codes "edge" ∷ ws) s
edge_by ws label from to s w n f t true same p q h = none_some h
edge_by ws label from to s w n f t false true p q h = none_some h
edge_by ws label from to s w n f t false false p q h = fits {s = EdgeLine label from to} (ap (λ r. codes "edge" ∷ r) w) (both (both (both (both n (ap not p)) f) t) (ap not q)) h

pub edge_sound : (ws : WordsLeft) (s : LineContent) → edge_form ws ≡ Some s → Fits (codes "edge" ∷ ws) s
unfolding edge_form
edge_sound ws s h =
    let a = step name (λ label. after (word (number 255)) λ from. after (word (number 255)) λ to. ended (edge_of label from to)) ws s h in
    let b = step (number 255) (λ from. after (word (number 255)) λ to. ended (edge_of a.value from to)) a.rest s a.more in
    let d = step (number 255) (λ to. ended (edge_of a.value b.value to)) b.rest s b.more in
    let e = ended_is (edge_of a.value b.value d.value) d.rest s d.more in
    let n = name_is a.first a.value a.was in
    let f = number_is 255 b.first b.value (omega arith) b.was in
    let t = number_is 255 d.first d.value (omega arith) d.was in
    edge_by ws a.value b.value d.value s (line_up a.all n.same (line_up b.all f.same (line_up d.all t.same e.0))) n.name f.within t.within (has_text a.value reserved) (b.value % 2 == d.value % 2) refl refl e.1

-- ---- names with commas

pub record Parts (w : Word) : Type 0 where
  pub first : Word
  pub more : List Word
  pub all : name_list w ≡ first ∷ more

parts_of : (w : Word) → Parts w
parts_of [] = record { first = []; more = []; all = refl }
parts_of (c ∷ cs) = by (c == 44) refl (parts_of cs)
  where
    by : (b : Bool) → (c == 44) ≡ b → Parts cs → Parts (c ∷ cs)
    by true e p = record { first = []; more = name_list cs; all = slice_split-cons_yes (λ b. b == 44) c cs e }
    by false e p = record { first = c ∷ p.first; more = p.more; all = slice_split-cons_no (λ b. b == 44) c cs e ∙ ap (onto_first c) p.all }

pub joined_onto : (c : ℕ) (p : Word) (ps : List Word) → joined_names ((c ∷ p) ∷ ps) ≡ c ∷ joined_names (p ∷ ps)
joined_onto c p [] = refl
joined_onto c p (q ∷ qs) = refl

pub joined_back : (w : Word) → joined_names (name_list w) ≡ w
joined_back [] = refl
joined_back (c ∷ cs) = by (c == 44) refl (parts_of cs) (joined_back cs)
  where
    by : (b : Bool) → (c == 44) ≡ b → Parts cs → joined_names (name_list cs) ≡ cs → joined_names (name_list (c ∷ cs)) ≡ c ∷ cs
    by true e p ih =
        ap joined_names (slice_split-cons_yes (λ b. b == 44) c cs e) ∙ ap (λ ps. joined_names ([] ∷ ps)) p.all ∙ ap (λ (r : Word). 44 ∷ r) (sym (ap joined_names p.all) ∙ ih) ∙ ap (λ x. x ∷ cs) (sym (eqb-true c 44 e))
    by false e p ih =
        ap joined_names (slice_split-cons_no (λ b. b == 44) c cs e ∙ ap (onto_first c) p.all) ∙ joined_onto c p.first p.more ∙ ap (λ (r : Word). c ∷ r) (sym (ap joined_names p.all) ∙ ih)

pub record NamesAre (w : Word) (ns : List Name) : Type 0 where
  pub same : w ≡ joined_names ns
  pub some : nat_le 1 (length ns) ≡ true
  pub names : list_all is_name ns ≡ true
  pub differ : all_differ ns ≡ true

pub names_are : (w : Word) (ns : List Name) → names w ≡ Some ns → NamesAre w ns
unfolding names
names_are w ns h = by (list_all is_name (name_list w) && all_differ (name_list w)) refl h
  where
    some_parts : (p : Parts w) → nat_le 1 (length (name_list w)) ≡ true
    some_parts p = ap (λ (ps : List Word). nat_le 1 (length ps)) p.all ∙ le-leb 1 (length (p.first ∷ p.more)) (omega arith)

    by : (b : Bool) → (list_all is_name (name_list w) && all_differ (name_list w)) ≡ b → (if b then Some (name_list w) else None) ≡ Some ns → NamesAre w ns
    by true e h = subst (λ (ns : List Name). NamesAre w ns) (some_same h) (record { same = sym (joined_back w); some = some_parts (parts_of w); names = and_left (list_all is_name (name_list w)) (all_differ (name_list w)) e; differ = and_right (list_all is_name (name_list w)) (all_differ (name_list w)) e })
    by false e h = none_some h

-- ---- sessions

record VersionIs (ws : WordsLeft) (v : ℕ) (rest : WordsLeft) : Type 0 where
  pub all : ws ≡ version_words v ++ rest
  pub known : (v == 1 || v == 2) ≡ true

-- version 2, and the words that are left
abbrev second : WordsLeft → Option (ℕ × WordsLeft)
second ws = Some (2, ws)

version_is : (ws rest : WordsLeft) (v : ℕ) → version ws ≡ Some (v, rest) → VersionIs ws v rest
unfolding version
version_is [] rest v h = let e = some_same h in subst (λ (p : ℕ × WordsLeft). VersionIs [] p.0 p.1) e (record { all = refl; known = refl })
version_is (w ∷ ws) rest v h = by (bytes_eq w (codes "v2")) refl h
  where
    by : (b : Bool) → bytes_eq w (codes "v2") ≡ b → (if b then second ws else None) ≡ Some (v, rest) → VersionIs (w ∷ ws) v rest
    by true e h = subst (λ (p : ℕ × WordsLeft). VersionIs (w ∷ ws) p.0 p.1) (some_same h) (record { all = ap (λ x. x ∷ ws) ((bytes_eq-Decides w (codes "v2")).0 e); known = refl })
    by false e h = none_some h

-- after a version, the words behind it
record Versioned (next : ℕ → WordsLeft → Option LineContent) (ws : WordsLeft) (s : LineContent) : Type 0 where
  pub version : ℕ
  pub rest : WordsLeft
  pub is : VersionIs ws version rest
  pub more : next version rest ≡ Some s

versioned : (next : ℕ → WordsLeft → Option LineContent) (ws : WordsLeft) (s : LineContent) → after version next ws ≡ Some s → Versioned next ws s
versioned next ws s h = by (version ws) refl h
  where
    by : (o : Option (ℕ × WordsLeft)) → version ws ≡ o → option_and_then (λ (p : ℕ × WordsLeft). next p.0 p.1) o ≡ Some s → Versioned next ws s
    by None e h = none_some h
    by (Some p) e h = record { version = p.0; rest = p.1; is = version_is ws p.1 p.0 e; more = h }

nothing_behind : (xs : WordsLeft) {ws rest : WordsLeft} → ws ≡ xs ++ rest → rest ≡ [] → ws ≡ xs
nothing_behind xs e h = e ∙ ap (λ (r : WordsLeft). xs ++ r) h ∙ append-nil xs

pub session_sound : (ws : WordsLeft) (s : LineContent) → session_form ws ≡ Some s → Fits (codes "session" ∷ ws) s
unfolding session_form
session_sound ws s h =
    let a = step name (λ session. after (word name) λ graph. after (word (number 18446744073709551615)) λ nonce. after (word names) λ cast. after version λ version. ended (Some (SessionLine session graph nonce cast version))) ws s h in
    let b = step name (λ graph. after (word (number 18446744073709551615)) λ nonce. after (word names) λ cast. after version λ version. ended (Some (SessionLine a.value graph nonce cast version))) a.rest s a.more in
    let d = step (number 18446744073709551615) (λ nonce. after (word names) λ cast. after version λ version. ended (Some (SessionLine a.value b.value nonce cast version))) b.rest s b.more in
    let f = step names (λ cast. after version λ version. ended (Some (SessionLine a.value b.value d.value cast version))) d.rest s d.more in
    let v = versioned (λ version. ended (Some (SessionLine a.value b.value d.value f.value version))) f.rest s f.more in
    let e = ended_is (Some (SessionLine a.value b.value d.value f.value v.version)) v.rest s v.more in
    let m = name_is a.first a.value a.was in
    let n = name_is b.first b.value b.was in
    let k = number_is 18446744073709551615 d.first d.value (omega arith) d.was in
    let ns = names_are f.first f.value f.was in
    fits {s = SessionLine a.value b.value d.value f.value v.version}
    (ap (λ r. codes "session" ∷ r) (line_up a.all m.same (line_up b.all n.same (line_up d.all k.same (line_up f.all ns.same (nothing_behind (version_words v.version) v.is.all e.0))))))
    (both (both (both (both (both (both m.name n.name) (wide_is d.value k.within)) ns.some) ns.names) ns.differ) v.is.known) e.1

-- ---- acts

-- a byte before the prefix
abbrev in_prefix : ℕ → Word × Word → Word × Word
in_prefix c p = (c ∷ p.0, p.1)

split_before : (mark c : ℕ) (cs f b : Word) → (o : Option (Word × Word)) → ((f b : Word) → o ≡ Some (f, b) → cs ≡ f ++ mark ∷ b) → option_map (in_prefix c) o ≡ Some (f, b) → (c ∷ cs) ≡ f ++ mark ∷ b
split_before mark c cs f b None ih h = none_some h
split_before mark c cs f b (Some p) ih h = ap (λ (r : Word). c ∷ r) (ih p.0 p.1 refl) ∙ ap (λ (q : Word × Word). q.0 ++ mark ∷ q.1) (some_same h)

-- what is found before an empty prefix
abbrev found_first : Word → Option (Word × Word)
found_first cs = Some ([], cs)

pub split_is : (mark : ℕ) (w f b : Word) → split_at mark w ≡ Some (f, b) → w ≡ f ++ mark ∷ b
split_is mark [] f b h = none_some h
split_is mark (c ∷ cs) f b h = by (c == mark) refl (λ f b h. split_is mark cs f b h) h
  where
    by : (q : Bool) → (c == mark) ≡ q → ((f b : Word) → split_at mark cs ≡ Some (f, b) → cs ≡ f ++ mark ∷ b) → (if q then found_first cs else option_map (in_prefix c) (split_at mark cs)) ≡ Some (f, b) → (c ∷ cs) ≡ f ++ mark ∷ b
    by true e ih h = ap (λ x. x ∷ cs) (eqb-true c mark e) ∙ ap (λ (q : Word × Word). q.0 ++ mark ∷ q.1) (some_same h)
    by false e ih h = split_before mark c cs f b (split_at mark cs) ih h

pub split_ok : (mark : ℕ) (n v : Word) → lacks mark n ≡ true → split_at mark (n ++ mark ∷ v) ≡ Some (n, v)
split_ok mark [] v h = let same : (mark == mark) ≡ true = grind (arith, common_steps) in rw same refl
split_ok mark (c ∷ cs) v h = by (c == mark) refl (split_ok mark cs v (and_right (not (c == mark)) (lacks mark cs) h)) (and_left (not (c == mark)) (lacks mark cs) h)
  where
    by : (b : Bool) → (c == mark) ≡ b → split_at mark (cs ++ mark ∷ v) ≡ Some (cs, v) → not (c == mark) ≡ true → split_at mark (c ∷ (cs ++ mark ∷ v)) ≡ Some (c ∷ cs, v)
    by false e ih l = ap (λ b. if b then found_first (cs ++ mark ∷ v) else option_map (in_prefix c) (split_at mark (cs ++ mark ∷ v))) e ∙ ap (option_map (in_prefix c)) ih
    by true e ih l = absurd (true≢false (sym l ∙ ap not e))

pub assignment_is : (w : Word) (v : Assignment) → given w ≡ Some v → (w ≡ assignment_word v) × (is_assignment v ≡ true)
unfolding given
assignment_is w v h = found (split_at 61 w) refl h
  where
    by : (p : Word × Word) → split_at 61 w ≡ Some p → (b : Bool) → (is_name p.0 && is_value p.1) ≡ b → (if b then Some (record { variable = p.0; value = p.1 }) else None) ≡ Some v → (w ≡ assignment_word v) × (is_assignment v ≡ true)
    by p e true q h = subst (λ (v : Assignment). (w ≡ assignment_word v) × (is_assignment v ≡ true)) (some_same h) (split_is 61 w p.0 p.1 e, q)
    by p e false q h = none_some h

    found : (o : Option (Word × Word)) → split_at 61 w ≡ o → option_and_then assignment_of o ≡ Some v → (w ≡ assignment_word v) × (is_assignment v ≡ true)
    found None e h = none_some h
    found (Some p) e h = by p e (is_name p.0 && is_value p.1) refl h

pub assignment_ok : (v : Assignment) → is_assignment v ≡ true → given (assignment_word v) ≡ Some v
unfolding given
assignment_ok v h = ap (option_and_then assignment_of) (split_ok 61 v.variable v.value (name_lacks 61 v.variable refl (and_left (is_name v.variable) (is_value v.value) h))) ∙ ap (λ b. if b then Some v else None) h

pub assignments_are : (ws : WordsLeft) (vs : List Assignment) → assignments ws ≡ Some vs → (ws ≡ map assignment_word vs) × (list_all is_assignment vs ≡ true)
assignments_are [] vs h = subst (λ (vs : List Assignment). ([] ≡ map assignment_word vs) × (list_all is_assignment vs ≡ true)) (some_same h) (refl, refl)
assignments_are (w ∷ ws) vs h = first (given w) refl (λ us f. assignments_are ws us f) h
  where
    rest : ((us : List Assignment) → assignments ws ≡ Some us → (ws ≡ map assignment_word us) × (list_all is_assignment us ≡ true)) → (v : Assignment) → given w ≡ Some v → (o : Option (List Assignment)) → assignments ws ≡ o → option_map (λ vs. v ∷ vs) o ≡ Some vs → ((w ∷ ws) ≡ map assignment_word vs) × (list_all is_assignment vs ≡ true)
    rest ih v e None f h = none_some h
    rest ih v e (Some us) f h =
        let g = assignment_is w v e in
        let r = ih us f in
        subst (λ (vs : List Assignment). ((w ∷ ws) ≡ map assignment_word vs) × (list_all is_assignment vs ≡ true)) (some_same h) ((λ i. g.0 i ∷ r.0 i), both g.1 r.1)

    first : (o : Option Assignment) → given w ≡ o → ((us : List Assignment) → assignments ws ≡ Some us → (ws ≡ map assignment_word us) × (list_all is_assignment us ≡ true)) → option_and_then (λ v. option_map (λ vs. v ∷ vs) (assignments ws)) o ≡ Some vs → ((w ∷ ws) ≡ map assignment_word vs) × (list_all is_assignment vs ≡ true)
    first None e ih h = none_some h
    first (Some v) e ih h = rest ih v e (assignments ws) refl h

pub assignments_ok : (vs : List Assignment) → list_all is_assignment vs ≡ true → assignments (map assignment_word vs) ≡ Some vs
assignments_ok [] h = refl
assignments_ok (v ∷ vs) h = rw (assignment_ok v (and_left (is_assignment v) (list_all is_assignment vs) h), assignments_ok vs (and_right (is_assignment v) (list_all is_assignment vs) h)) refl

pub act_sound : (ws : WordsLeft) (s : LineContent) → act_form ws ≡ Some s → Fits (codes "act" ∷ ws) s
unfolding act_form
act_sound ws s h =
    let a = step name (λ who. after (word name) λ session. after (word name) λ label. λ ws. option_map (ActLine who session label) (assignments ws)) ws s h in
    let b = step name (λ session. after (word name) λ label. λ ws. option_map (ActLine a.value session label) (assignments ws)) a.rest s a.more in
    let d = step name (λ label. λ ws. option_map (ActLine a.value b.value label) (assignments ws)) b.rest s b.more in
    let l = name_is a.first a.value a.was in
    let m = name_is b.first b.value b.was in
    let n = name_is d.first d.value d.was in
    by a.value b.value d.value d.rest (λ (r : WordsLeft) e. ap (λ r. codes "act" ∷ r) (line_up a.all l.same (line_up b.all m.same (line_up d.all n.same e)))) (both l.name (both m.name (both n.name refl))) (assignments d.rest) refl d.more
  where
    by : (who session label : Name) (rest : WordsLeft) → ((r : WordsLeft) → rest ≡ r → (codes "act" ∷ ws) ≡ codes "act" ∷ who ∷ session ∷ label ∷ r) → are_names (who ∷ session ∷ label ∷ []) ≡ true
        → (o : Option (List Assignment)) → assignments rest ≡ o → option_map (ActLine who session label) o ≡ Some s → Fits (codes "act" ∷ ws) s
    by who session label rest w n None e h = none_some h
    by who session label rest w n (Some vs) e h = let g = assignments_are rest vs e in fits {s = ActLine who session label vs} (w (map assignment_word vs) g.0) (both n g.1) h
