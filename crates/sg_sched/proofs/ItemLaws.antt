-- What the takers of items and of a craft's parts take off is what the words say.
use Rattle.std.specs.Prelude.{◌≡◌, ℕ, nat_le, Bool, true, false, if◌then◌else◌, List, ◌∷◌, ◌++◌, map, flat_map, length, codes, refl, Option, Some, None, option_and_then}
use Rattle.std.specs.Fmt.{decimal}
use Rattle.std.proofs.Common.{sym, ◌∙◌, ap, subst, arith, append_assoc}
use Rattle.std.proofs.lemmas.Bool.{le-leb}
use Rattle.sg_model.specs.Names.{Name}
use Rattle.sg_model.proofs.Small.{some_same}
use Rattle.sg_base.specs.Words.{name, number}
use Rattle.sg_sched.specs.Format.LineContents.{Word, Committed, TagSource, ItemContent, committed_word, from_words, tag_words}
use Rattle.sg_sched.specs.Format.Forms.{is_tag, is_item, are_committed}
use Rattle.sg_sched.specs.Format.Reading.{WordsLeft, word, after}
use Rattle.sg_sched.specs.Format.CraftReading.{time, run, few, source, repeated, tag, item}
use Rattle.sg_sched.proofs.FormatWords.{both}
use Rattle.sg_sched.proofs.FormLaws.{none_some, step, line_up, name_is}
use Rattle.sg_sched.proofs.NumberLaws.{number_is}
use Rattle.sg_sched.proofs.TakerLaws.{took_then_is, took_then_of, Took, took, run_words, run_is, source_is, repeated_is}

-- ---- tags

abbrev pub tag_print : Name × TagSource → WordsLeft
tag_print t = t.0 ∷ from_words t.1

abbrev tag_with : Name → TagSource → WordsLeft → Option ((Name × TagSource) × WordsLeft)
tag_with role s rest = Some ((role, s), rest)

pub tag_is : (ws : WordsLeft) (t : Name × TagSource) (rest : WordsLeft) → tag ws ≡ Some (t, rest) → Took tag_print is_tag ws t rest
unfolding tag
tag_is ws t rest h =
    let a = step name (λ role. after source λ s rest. tag_with role s rest) ws (t, rest) h in
    let b = took_then_is source (λ s rest. tag_with a.value s rest) a.rest (t, rest) a.more in
    let n = name_is a.first a.value a.was in
    let s = source_is a.rest b.value b.rest b.was in
    took tag_print is_tag {x = (a.value, b.value)} {r = b.rest} (line_up a.all n.same s.words) (both n.name s.form) b.more

-- ---- items

record TimeIs (w : Word) (t : ℕ) : Type 0 where
  pub same : w ≡ decimal t
  pub low : nat_le 1 t ≡ true
  pub high : nat_le t 1000000 ≡ true

time_is : (w : Word) (t : ℕ) → time w ≡ Some t → TimeIs w t
unfolding time
time_is w t h = first (number 1000000 w) refl h
  where
    by : (k : ℕ) → number 1000000 w ≡ Some k → (b : Bool) → nat_le 1 k ≡ b → (if b then Some k else None) ≡ Some t → TimeIs w t
    by k e true q h = let n = number_is 1000000 w k (omega arith) e in subst (λ t. TimeIs w t) (some_same h) (record { same = n.same; low = q; high = n.within })
    by k e false q h = none_some h

    first : (o : Option ℕ) → number 1000000 w ≡ o → option_and_then (λ t. if nat_le 1 t then Some t else None) o ≡ Some t → TimeIs w t
    first None e h = none_some h
    first (Some k) e h = by k e (nat_le 1 k) refl h

pub few_is : (r q : List Committed × WordsLeft) → few r ≡ Some q → (r ≡ q) × (nat_le (length r.0) 32 ≡ true)
few_is r q h = by (nat_le (length r.0) 32) refl h
  where
    by : (b : Bool) → nat_le (length r.0) 32 ≡ b → (if b then Some r else None) ≡ Some q → (r ≡ q) × (nat_le (length r.0) 32 ≡ true)
    by true e h = (some_same h, e)
    by false e h = none_some h

record Few (ws : WordsLeft) (cs : List Committed) (rest : WordsLeft) : Type 0 where
  pub words : ws ≡ run_words cs ++ rest
  pub form : are_committed cs ≡ true

few_run : (ws : WordsLeft) (cs : List Committed) (rest : WordsLeft) → few (run ws) ≡ took_then_of cs rest → Few ws cs rest
few_run ws cs rest h =
    let f = few_is (run ws) (cs, rest) h in
    let r = run_is ws in
    subst (λ (q : List Committed × WordsLeft). Few ws q.0 q.1) f.0 (record { words = r.words; form = both f.1 r.form })

abbrev pub item_print : ItemContent → WordsLeft
item_print i = i.label ∷ decimal i.time ∷ (map committed_word i.delta ++ flat_map tag_words i.tags)

abbrev pub item_of : Name → ℕ → List Committed → List (Name × TagSource) → ItemContent
item_of label t delta tags = record { label = label; time = t; delta = delta; tags = tags }

pub item_is : (ws : WordsLeft) (i : ItemContent) (rest : WordsLeft) → item ws ≡ Some (i, rest) → Took item_print is_item ws i rest
unfolding item
item_is ws i rest h =
    let a = step name (λ label. after (word time) λ t. after (λ ws. few (run ws)) λ delta. after (repeated (codes "tag") tag 14) λ tags rest. took_then_of (item_of label t delta tags) rest) ws (i, rest) h in
    let b = step time (λ t. after (λ ws. few (run ws)) λ delta. after (repeated (codes "tag") tag 14) λ tags rest. took_then_of (item_of a.value t delta tags) rest) a.rest (i, rest) a.more in
    let d = took_then_is (λ ws. few (run ws)) (λ delta. after (repeated (codes "tag") tag 14) λ tags rest. took_then_of (item_of a.value b.value delta tags) rest) b.rest (i, rest) b.more in
    let e = took_then_is (repeated (codes "tag") tag 14) (λ tags rest. took_then_of (item_of a.value b.value d.value tags) rest) d.rest (i, rest) d.more in
    let n = name_is a.first a.value a.was in
    let t = time_is b.first b.value b.was in
    let f = few_run b.rest d.value d.rest d.was in
    let g = repeated_is (codes "tag") tag tag_print is_tag tag_is 14 d.rest e.value e.rest e.was in
    took item_print is_item {x = item_of a.value b.value d.value e.value} {r = e.rest}
    (line_up a.all n.same (line_up b.all t.same (f.words ∙ ap (λ (r : WordsLeft). run_words d.value ++ r) g.words ∙ sym (append_assoc (run_words d.value) (flat_map tag_words e.value) e.rest))))
    (both (both (both (both (both n.name t.low) t.high) f.form) (le-leb (length e.value) 14 g.few)) g.form) e.more
