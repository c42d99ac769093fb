-- What the form of a craft reads is what its words say.
use Rattle.std.specs.Prelude.{◌≡◌, ℕ, ◌==◌, nat_le, Bool, true, false, not, ◌&&◌, if◌then◌else◌, List, [], ◌∷◌, ◌++◌, flat_map, length, codes, bytes_eq, refl, Option, Some, None, option_map, option_and_then}
use Rattle.std.specs.List.{list_all}
use Rattle.std.specs.Option.{option_map_or}
use Rattle.std.specs.Fmt.{decimal}
use Rattle.std.proofs.Common.{sym, ◌∙◌, ap, subst, arith, append-nil, append_assoc}
use Rattle.std.proofs.lemmas.Grind.{common_steps}
use Rattle.std.proofs.lemmas.Bool.{le-leb}
use Rattle.std.proofs.lemmas.Slice.Eq.{bytes_eq-Decides}
use Rattle.sg_model.specs.Names.{Name, is_name}
use Rattle.sg_model.proofs.Small.{some_same}
use Rattle.sg_protocol.specs.Schedule.{CraftJoin}
use Rattle.sg_base.specs.Words.{name, number}
use Rattle.sg_sched.specs.Format.LineContents.{Word, Committed, TagSource, ItemContent, CraftContent, LineContent, MakeLine, from_words, item_words, join_words, list_words, option_words, joined_names}
use Rattle.sg_sched.specs.Format.Forms.{is_committed, is_source, is_item, are_committed, is_join, is_wide, are_names}
use Rattle.sg_sched.specs.Format.Reading.{WordsLeft, word, after, ended}
use Rattle.sg_sched.specs.Format.CraftReading.{run, few, some_of, listed, source, repeated, item, all_names, name_list, sixteen, cast, optional, join_parts, join, opened, exactly, ends, ends_of, seal_form, some_items, items, lists, craft_form}
use Rattle.sg_sched.proofs.FormatWords.{both, name_list as pieces}
use Rattle.sg_sched.proofs.FormLaws.{none_some, step, ended_is, line_up, name_is, Fits, fits}
use Rattle.sg_sched.proofs.NumberLaws.{number_is, wide_is}
use Rattle.sg_sched.proofs.PartLaws.{joined_back}
use Rattle.sg_sched.proofs.TakerLaws.{took_then_is, took_then_of, Took, took, run_words, run_is, source_is, repeated_is}
use Rattle.sg_sched.proofs.ItemLaws.{few_is, item_print, item_is}

-- ---- lists behind a word

some_of_is : (r q : List Committed × WordsLeft) → some_of r ≡ Some q → (r ≡ q) × ((length r.0 == 0) ≡ false)
some_of_is r q h = by (length r.0 == 0) refl h
  where
    by : (b : Bool) → (length r.0 == 0) ≡ b → (if b then None else Some r) ≡ Some q → (r ≡ q) × ((length r.0 == 0) ≡ false)
    by true e h = none_some h
    by false e h = (some_same h, e)

list_some : (first : List ℕ) (cs : List Committed) → (length cs == 0) ≡ false → list_words first cs ≡ first ∷ run_words cs
list_some first [] e = absurd (cc e)
list_some first (c ∷ cs) e = refl

pub listed_is : (first : List ℕ) (ws : WordsLeft) (cs : List Committed) (rest : WordsLeft) → listed first ws ≡ took_then_of cs rest → Took (list_words first) (list_all is_committed) ws cs rest
unfolding listed
listed_is first [] cs rest h = took (list_words first) (list_all is_committed) {x = []} {r = []} refl refl h
listed_is first (w ∷ ws) cs rest h = by (bytes_eq w first) refl h
  where
    by : (b : Bool) → bytes_eq w first ≡ b → (if b then some_of (run ws) else took_then_of [] (w ∷ ws)) ≡ took_then_of cs rest → Took (list_words first) (list_all is_committed) (w ∷ ws) cs rest
    by true e h =
        let s = some_of_is (run ws) (cs, rest) h in
        let r = run_is ws in
        let words : (w ∷ ws) ≡ list_words first (run ws).0 ++ (run ws).1 = (λ i. (bytes_eq-Decides w first).0 e i ∷ r.words i) ∙ ap (λ (xs : WordsLeft). xs ++ (run ws).1) (sym (list_some first (run ws).0 s.1)) in
        took (list_words first) (list_all is_committed) {x = (run ws).0} {r = (run ws).1} words r.form (ap Some s.0)
    by false e h = took (list_words first) (list_all is_committed) {x = []} {r = w ∷ ws} refl refl h

pub opened_is : (ws : WordsLeft) (cs : List Committed) (rest : WordsLeft) → opened ws ≡ took_then_of cs rest → Took (list_words (codes "open")) are_committed ws cs rest
opened_is ws cs rest h = first (listed (codes "open") ws) refl h
  where
    first : (o : Option (List Committed × WordsLeft)) → listed (codes "open") ws ≡ o → option_and_then few o ≡ took_then_of cs rest → Took (list_words (codes "open")) are_committed ws cs rest
    first None e h = none_some h
    first (Some p) e h =
        let f = few_is p (cs, rest) h in
        let t = listed_is (codes "open") ws p.0 p.1 e in
        took (list_words (codes "open")) are_committed {x = p.0} {r = p.1} t.words (both f.1 t.form) (ap Some f.0)

-- ---- join

abbrev option_ok : {A : Type 0} → (A → Bool) → Option A → Bool
option_ok ok o = option_map_or ok o true

optional_is : {A : Type 0} (first : List ℕ) (read : Word → Option A) (print : A → Word) (ok : A → Bool) → ((w : Word) (x : A) → read w ≡ Some x → (w ≡ print x) × (ok x ≡ true))
    → (ws : WordsLeft) (o : Option A) (rest : WordsLeft) → optional first read ws ≡ took_then_of o rest → Took (λ o. option_words first (option_map print o)) (option_ok ok) ws o rest
optional_is first read print ok is [] o rest h = took (λ o. option_words first (option_map print o)) (option_ok ok) {x = None} {r = []} refl refl h
optional_is {A} first read print ok is (w ∷ ws) o rest h = by (bytes_eq w first) refl h
  where
    by : (b : Bool) → bytes_eq w first ≡ b → (if b then after (word read) (λ x rest. took_then_of (Some x) rest) ws else took_then_of None (w ∷ ws)) ≡ took_then_of o rest → Took (λ o. option_words first (option_map print o)) (option_ok ok) (w ∷ ws) o rest
    by true e h =
        let a = step read (λ x rest. took_then_of (Some x) rest) ws (o, rest) h in
        let r = is a.first a.value a.was in
        took (λ o. option_words first (option_map print o)) (option_ok ok) {x = Some a.value} {r = a.rest} (λ i. (bytes_eq-Decides w first).0 e i ∷ line_up a.all r.0 refl i) r.1 a.more
    by false e h = took (λ o. option_words first (option_map print o)) (option_ok ok) {x = None} {r = w ∷ ws} refl refl h

wide_of : (w : Word) (n : ℕ) → number 18446744073709551615 w ≡ Some n → (w ≡ decimal n) × (is_wide n ≡ true)
wide_of w n h = let k = number_is 18446744073709551615 w n (omega arith) h in (k.same, wide_is n k.within)

-- 2 to 16 names
abbrev pub are_cast : List Name → Bool
are_cast ns = nat_le 2 (length ns) && nat_le (length ns) 16 && are_names ns

pub cast_is : (w : Word) (ns : List Name) → cast w ≡ Some ns → (w ≡ joined_names ns) × (are_cast ns ≡ true)
unfolding cast
cast_is w ns h = first (name_list w) refl h
  where
    parts : (ps ms : List Name) → all_names ps ≡ Some ms → (ps ≡ ms) × (are_names ps ≡ true)
    parts ps ms h = in_parts (list_all is_name ps) refl h
      where
        in_parts : (b : Bool) → list_all is_name ps ≡ b → (if b then Some ps else None) ≡ Some ms → (ps ≡ ms) × (are_names ps ≡ true)
        in_parts true e h = (some_same h, e)
        in_parts false e h = none_some h

    by : (ms : List Name) → (w ≡ joined_names ms) × (are_names ms ≡ true) → (b : Bool) → (nat_le 2 (length ms) && nat_le (length ms) 16) ≡ b → (if b then Some ms else None) ≡ Some ns → (w ≡ joined_names ns) × (are_cast ns ≡ true)
    by ms f true e h = subst (λ (ns : List Name). (w ≡ joined_names ns) × (are_cast ns ≡ true)) (some_same h) (f.0, both e f.1)
    by ms f false e h = none_some h

    first : (o : Option (List Name)) → name_list w ≡ o → option_and_then sixteen o ≡ Some ns → (w ≡ joined_names ns) × (are_cast ns ≡ true)
    first None e h = none_some h
    first (Some ms) e h =
        let p = parts (pieces w) ms e in
        by ms (subst (λ (ns : List Name). (w ≡ joined_names ns) × (are_names ns ≡ true)) p.0 (sym (joined_back w), p.1)) (nat_le 2 (length ms) && nat_le (length ms) 16) refl h

abbrev join_of : Option ℕ → Option (List Name) → Option CraftJoin
join_of nonce names = Some (record { nonce = nonce; names = names })

abbrev join_ok : Option CraftJoin → Bool
join_ok j = option_map_or is_join j true

join_is : (ws : WordsLeft) (j : Option CraftJoin) (rest : WordsLeft) → join ws ≡ took_then_of j rest → Took join_words join_ok ws j rest
unfolding join join_parts
join_is [] j rest h = took join_words join_ok {x = None} {r = []} refl refl h
join_is (w ∷ ws) j rest h = by (bytes_eq w (codes "join")) refl h
  where
    -- the word, and what is behind it
    by : (b : Bool) → bytes_eq w (codes "join") ≡ b → (if b then after (optional (codes "nonce") (number 18446744073709551615)) (λ nonce. after (optional (codes "cast") cast) (λ names rest. took_then_of (join_of nonce names) rest)) ws else took_then_of None (w ∷ ws)) ≡ took_then_of j rest
        → Took join_words join_ok (w ∷ ws) j rest
    by true e h =
        let a = took_then_is (optional (codes "nonce") (number 18446744073709551615)) (λ nonce. after (optional (codes "cast") cast) (λ names rest. took_then_of (join_of nonce names) rest)) ws (j, rest) h in
        let b = took_then_is (optional (codes "cast") cast) (λ names rest. took_then_of (join_of a.value names) rest) a.rest (j, rest) a.more in
        let m = optional_is (codes "nonce") (number 18446744073709551615) decimal is_wide wide_of ws a.value a.rest a.was in
        let n = optional_is (codes "cast") cast joined_names are_cast cast_is a.rest b.value b.rest b.was in
        let prefix = option_words (codes "nonce") (option_map decimal a.value) in
        let back = option_words (codes "cast") (option_map joined_names b.value) in
        let words : ws ≡ (prefix ++ back) ++ b.rest = m.words ∙ ap (λ (r : WordsLeft). prefix ++ r) n.words ∙ sym (append_assoc prefix back b.rest) in
        took join_words join_ok {x = join_of a.value b.value} {r = b.rest} (λ i. (bytes_eq-Decides w (codes "join")).0 e i ∷ words i) (both m.form n.form) b.more
    by false e h = took join_words join_ok {x = None} {r = w ∷ ws} refl refl h

-- ---- the whole

exactly_is : (first w : Word) (u : Unit {0}) → exactly first w ≡ Some u → w ≡ first
exactly_is first w u h = by (bytes_eq w first) refl h
  where
    by : (b : Bool) → bytes_eq w first ≡ b → (if b then Some tt else None) ≡ Some u → w ≡ first
    by true e h = (bytes_eq-Decides w first).0 e
    by false e h = none_some h

abbrev Ends : Type 0
Ends = Name × Name × Name

abbrev ends_print : Ends → WordsLeft
ends_print e = e.0 ∷ codes "from" ∷ e.1 ∷ codes "to" ∷ e.2 ∷ []

abbrev ends_ok : Ends → Bool
ends_ok e = are_names (e.0 ∷ e.1 ∷ e.2 ∷ []) && not (bytes_eq e.1 e.2)

ends_are : (ws : WordsLeft) (e : Ends) (rest : WordsLeft) → ends ws ≡ took_then_of e rest → Took ends_print ends_ok ws e rest
unfolding ends
ends_are ws e rest h =
    let a = step name (λ session. after (word (exactly (codes "from"))) λ _. after (word name) λ from. after (word (exactly (codes "to"))) λ _. after (word name) λ to. ends_of session from to) ws (e, rest) h in
    let b = step (exactly (codes "from")) (λ _. after (word name) λ from. after (word (exactly (codes "to"))) λ _. after (word name) λ to. ends_of a.value from to) a.rest (e, rest) a.more in
    let c = step name (λ from. after (word (exactly (codes "to"))) λ _. after (word name) λ to. ends_of a.value from to) b.rest (e, rest) b.more in
    let d = step (exactly (codes "to")) (λ _. after (word name) λ to. ends_of a.value c.value to) c.rest (e, rest) c.more in
    let f = step name (λ to. ends_of a.value c.value to) d.rest (e, rest) d.more in
    let l = name_is a.first a.value a.was in
    let m = name_is c.first c.value c.was in
    let n = name_is f.first f.value f.was in
    by a.value c.value f.value f.rest
    (line_up a.all l.same (line_up b.all (exactly_is (codes "from") b.first b.value b.was) (line_up c.all m.same (line_up d.all (exactly_is (codes "to") d.first d.value d.was) (line_up f.all n.same refl)))))
    (both l.name (both m.name (both n.name refl))) (bytes_eq c.value f.value) refl f.more
  where
    by : (session from to : Name) (r : WordsLeft) → ws ≡ ends_print (session, from, to) ++ r → are_names (session ∷ from ∷ to ∷ []) ≡ true → (b : Bool) → bytes_eq from to ≡ b
        → (if b then None else took_then_of (session, from, to) r) ≡ took_then_of e rest → Took ends_print ends_ok ws e rest
    by session from to r w n true q h = none_some h
    by session from to r w n false q h = took ends_print ends_ok {x = (session, from, to)} {r = r} w (both n (ap not q)) h

record SealIs (ws : WordsLeft) (s : TagSource) : Type 0 where
  pub words : ws ≡ codes "seal" ∷ from_words s
  pub form : is_source s ≡ true

seal_is : (ws : WordsLeft) (s : TagSource) → seal_form ws ≡ Some s → SealIs ws s
unfolding seal_form
seal_is ws s h =
    let a = step (exactly (codes "seal")) (λ _. after source λ seal. ended (Some seal)) ws s h in
    let b = took_then_is source (λ seal. ended (Some seal)) a.rest s a.more in
    let e = ended_is (Some b.value) b.rest s b.more in
    let t = source_is a.rest b.value b.rest b.was in
    subst (λ s. SealIs ws s) (some_same e.1) (record { words = line_up a.all (exactly_is (codes "seal") a.first a.value a.was) (t.words ∙ ap (λ (r : WordsLeft). from_words b.value ++ r) e.0 ∙ append-nil (from_words b.value)); form = t.form })

-- a craft of its parts
abbrev made : Ends → Option CraftJoin → List Committed → List ItemContent → List Committed → TagSource → CraftContent
made e j know items openings seal = record { session = e.0; from = e.1; to = e.2; join = j; know = know; items = items; openings = openings; seal = seal }

-- the lists of a craft
abbrev Lists : Type 0
Lists = List Committed × List ItemContent × List Committed

-- the seal, behind the lists
abbrev sealing : Ends → Option CraftJoin → Lists → WordsLeft → Option LineContent
sealing e j l ws = option_map (λ seal. MakeLine (made e j l.0 l.1 l.2 seal)) (seal_form ws)

record Sealed (e : Ends) (j : Option CraftJoin) (know : List Committed) (items : List ItemContent) (openings : List Committed) (ws : WordsLeft) (s : LineContent) : Type 0 where
  pub seal : TagSource
  pub is : SealIs ws seal
  pub statement : Some (MakeLine (made e j know items openings seal)) ≡ Some s

sealed : (e : Ends) (j : Option CraftJoin) (know : List Committed) (items : List ItemContent) (openings : List Committed) (ws : WordsLeft) (s : LineContent) → option_map (λ seal. MakeLine (made e j know items openings seal)) (seal_form ws) ≡ Some s → Sealed e j know items openings ws s
sealed e j know items openings ws s h = by (seal_form ws) refl h
  where
    by : (o : Option TagSource) → seal_form ws ≡ o → option_map (λ seal. MakeLine (made e j know items openings seal)) o ≡ Some s → Sealed e j know items openings ws s
    by None q h = none_some h
    by (Some seal) q h = record { seal = seal; is = seal_is ws seal q; statement = h }

record ItemsAre (ws : WordsLeft) (items : List ItemContent) (rest : WordsLeft) : Type 0 where
  pub some : nat_le 1 (length items) ≡ true
  pub was : repeated (codes "item") item 65535 ws ≡ took_then_of items rest

items_are : (ws : WordsLeft) (is : List ItemContent) (rest : WordsLeft) → items ws ≡ took_then_of is rest → ItemsAre ws is rest
items_are ws is rest h = by (repeated (codes "item") item 65535 ws) refl h
  where
    tested : (js : List ItemContent) (r : WordsLeft) → repeated (codes "item") item 65535 ws ≡ took_then_of js r → some_items (js, r) ≡ took_then_of is rest → ItemsAre ws is rest
    tested [] r e h = none_some h
    tested (j ∷ js) r e h =
        let some : (length (j ∷ js) == 0) ≡ false = grind (arith, common_steps) in
        let same : took_then_of (j ∷ js) r ≡ took_then_of is rest = sym (ap (λ b. if b then None else Some (j ∷ js, r)) some) ∙ h in
        subst (λ (p : List ItemContent × WordsLeft). ItemsAre ws p.0 p.1) (some_same same) (record { some = le-leb 1 (length (j ∷ js)) (omega arith); was = e })

    by : (o : Option (List ItemContent × WordsLeft)) → repeated (codes "item") item 65535 ws ≡ o → option_and_then some_items o ≡ took_then_of is rest → ItemsAre ws is rest
    by None e h = none_some h
    by (Some p) e h = tested p.0 p.1 e h

record ListsAre (ws : WordsLeft) (l : Lists) (rest : WordsLeft) : Type 0 where
  pub words : ws ≡ list_words (codes "know") l.0 ++ (flat_map item_words l.1 ++ (list_words (codes "open") l.2 ++ rest))
  pub know : list_all is_committed l.0 ≡ true
  pub some : nat_le 1 (length l.1) ≡ true
  pub few : nat_le (length l.1) 65535 ≡ true
  pub items : list_all is_item l.1 ≡ true
  pub openings : are_committed l.2 ≡ true

lists_are : (ws : WordsLeft) (l : Lists) (rest : WordsLeft) → lists ws ≡ took_then_of l rest → ListsAre ws l rest
unfolding lists
lists_are ws l rest h =
    let c = took_then_is (listed (codes "know")) (λ know. after items λ is. after opened λ openings rest. took_then_of (know, is, openings) rest) ws (l, rest) h in
    let d = took_then_is items (λ is. after opened λ openings rest. took_then_of (c.value, is, openings) rest) c.rest (l, rest) c.more in
    let f = took_then_is opened (λ openings rest. took_then_of (c.value, d.value, openings) rest) d.rest (l, rest) d.more in
    let n = items_are c.rest d.value d.rest d.was in
    let kc = listed_is (codes "know") ws c.value c.rest c.was in
    let id = repeated_is (codes "item") item item_print is_item item_is 65535 c.rest d.value d.rest n.was in
    let of = opened_is d.rest f.value f.rest f.was in
    subst (λ (p : Lists × WordsLeft). ListsAre ws p.0 p.1) (some_same f.more) (record {
      words = kc.words ∙ ap (λ (r : WordsLeft). list_words (codes "know") c.value ++ r) (id.words ∙ ap (λ (r : WordsLeft). flat_map item_words d.value ++ r) of.words);
      know = kc.form;
      some = n.some;
      few = le-leb (length d.value) 65535 id.few;
      items = id.form;
      openings = of.form;
    })

pub craft_sound : (ws : WordsLeft) (s : LineContent) → craft_form ws ≡ Some s → Fits (codes "craft" ∷ ws) s
unfolding craft_form
craft_sound ws s h =
    let a = took_then_is ends (λ e. after join λ j. after lists (sealing e j)) ws s h in
    let b = took_then_is join (λ j. after lists (sealing a.value j)) a.rest s a.more in
    let c = took_then_is lists (sealing a.value b.value) b.rest s b.more in
    let g = sealed a.value b.value c.value.0 c.value.1 c.value.2 c.rest s c.more in
    let ea = ends_are ws a.value a.rest a.was in
    let jb = join_is a.rest b.value b.rest b.was in
    let lc = lists_are b.rest c.value c.rest c.was in
    let tail : b.rest ≡ list_words (codes "know") c.value.0 ++ (flat_map item_words c.value.1 ++ (list_words (codes "open") c.value.2 ++ codes "seal" ∷ from_words g.seal)) =
    lc.words ∙ ap (λ (r : WordsLeft). list_words (codes "know") c.value.0 ++ (flat_map item_words c.value.1 ++ (list_words (codes "open") c.value.2 ++ r))) g.is.words in
    fits {s = MakeLine (made a.value b.value c.value.0 c.value.1 c.value.2 g.seal)}
    (ap (λ (r : WordsLeft). codes "craft" ∷ r) (ea.words ∙ ap (λ (r : WordsLeft). ends_print a.value ++ r) (jb.words ∙ ap (λ (r : WordsLeft). join_words b.value ++ r) tail)))
    (both (both (both (both (both (both (both ea.form jb.form) lc.know) lc.some) lc.few) lc.items) lc.openings) g.is.form) g.statement
