-- A whole craft of a form is read.
use Rattle.std.specs.Prelude.{◌≡◌, ℕ, ◌≤◌, ◌==◌, nat_le, true, false, not, ◌&&◌, if◌then◌else◌, List, [], ◌∷◌, ◌++◌, flat_map, length, codes, bytes_eq, refl, Option, Some, None, option_map, option_and_then}
use Rattle.std.specs.List.{list_all}
use Rattle.std.specs.Option.{option_map_or}
use Rattle.std.specs.Fmt.{decimal}
use Rattle.std.proofs.Common.{sym, ◌∙◌, ap, arith, append-nil, append_assoc}
use Rattle.std.proofs.lemmas.Grind.{common_steps}
use Rattle.std.proofs.lemmas.Bool.{leb-true, not-true}
use Rattle.sg_model.specs.Names.{Name, is_name}
use Rattle.sg_model.proofs.Small.{and_left, and_right}
use Rattle.sg_protocol.specs.Schedule.{CraftJoin}
use Rattle.sg_base.specs.Words.{number}
use Rattle.sg_sched.specs.Format.LineContents.{Word, Committed, TagSource, ItemContent, CraftContent, LineContent, MakeLine, from_words, item_words, join_words, list_words, option_words, joined_names}
use Rattle.sg_sched.specs.Format.Forms.{is_committed, is_source, is_item, are_committed, is_join, is_wide, are_names, is_craft}
use Rattle.sg_sched.specs.Format.Reading.{WordsLeft, Taker, word, after, ended}
use Rattle.sg_sched.specs.Format.CraftReading.{committed, run, few, some_of, listed, source, repeated, item, is_next, all_names, sixteen, cast, optional, join_parts, join, opened, ends, seal_form, some_items, lists, craft_form}
use Rattle.sg_sched.proofs.FormatWords.{both, same_self, name_list-joined}
use Rattle.sg_sched.proofs.FormLaws.{name_ok}
use Rattle.sg_sched.proofs.NumberLaws.{number_ok, is_wide_of}
use Rattle.sg_sched.proofs.RunLaws.{join_other, listed_other}
use Rattle.sg_sched.proofs.ItemLaws.{item_print}
use Rattle.sg_sched.proofs.CraftComplete.{source_ok, run_ok, repeated_ok, item_repeats, item_behind, Behind}

-- ---- lists behind a word

listed_ok : (first : List ℕ) (cs : List Committed) (rest : WordsLeft) → list_all is_committed cs ≡ true → is_next first rest ≡ false → run rest ≡ ([], rest) → listed first (list_words first cs ++ rest) ≡ Some (cs, rest)
unfolding listed
listed_ok first [] rest h e r = listed_other first rest e
listed_ok first (c ∷ cs) rest h e r =
    let some : (length (c ∷ cs) == 0) ≡ false = grind (arith, common_steps) in
    rw (same_self first) (ap some_of (run_ok (c ∷ cs) rest h r) ∙ ap (λ b. if b then None else Some (c ∷ cs, rest)) some)

opened_ok : (cs : List Committed) (rest : WordsLeft) → are_committed cs ≡ true → is_next (codes "open") rest ≡ false → run rest ≡ ([], rest) → opened (list_words (codes "open") cs ++ rest) ≡ Some (cs, rest)
opened_ok cs rest h e r =
    ap (option_and_then few) (listed_ok (codes "open") cs rest (and_right (nat_le (length cs) 32) (list_all is_committed cs) h) e r)
    ∙ ap (λ b. if b then Some (cs, rest) else None) (and_left (nat_le (length cs) 32) (list_all is_committed cs) h)

-- ---- join

optional_ok : {A : Type 0} (first : List ℕ) (read : Word → Option A) (print : A → Word) (o : Option A) (rest : WordsLeft) → ((x : A) → o ≡ Some x → read (print x) ≡ Some x) → is_next first rest ≡ false
    → optional first read (option_words first (option_map print o) ++ rest) ≡ Some (o, rest)
unfolding word
optional_ok first read print None [] r e = refl
optional_ok first read print None (w ∷ ws) r e = rw e refl
optional_ok first read print (Some x) rest r e = rw (same_self first, r x refl) refl

pub cast_ok : (ns : List Name) → (nat_le 2 (length ns) && nat_le (length ns) 16 && are_names ns) ≡ true → cast (joined_names ns) ≡ Some ns
unfolding cast
cast_ok [] h = absurd (cc h)
cast_ok (n ∷ ns) h =
    let names = and_right (nat_le 2 (length (n ∷ ns)) && nat_le (length (n ∷ ns)) 16) (are_names (n ∷ ns)) h in
    let count = and_left (nat_le 2 (length (n ∷ ns)) && nat_le (length (n ∷ ns)) 16) (are_names (n ∷ ns)) h in
    ap (λ (ps : List Name). option_and_then sixteen (all_names ps)) (name_list-joined n ns names)
    ∙ ap (λ b. option_and_then sixteen (if b then Some (n ∷ ns) else None)) names
    ∙ ap (λ b. if b then Some (n ∷ ns) else None) count

-- no part of a join begins the words
record After (rest : WordsLeft) : Type 0 where
  pub no_join : is_next (codes "join") rest ≡ false
  pub no_nonce : is_next (codes "nonce") rest ≡ false
  pub no_cast : is_next (codes "cast") rest ≡ false

nonce_next : (names : Option (List Name)) (rest : WordsLeft) → After rest → is_next (codes "nonce") (option_words (codes "cast") (option_map joined_names names) ++ rest) ≡ false
nonce_next None rest a = a.no_nonce
nonce_next (Some ns) rest a = refl

nonce_read : (o : Option ℕ) → option_map_or is_wide o true ≡ true → (n : ℕ) → o ≡ Some n → number 18446744073709551615 (decimal n) ≡ Some n
nonce_read None h n e = absurd (cc e)
nonce_read (Some m) h n e = number_ok 18446744073709551615 n (omega arith) (is_wide_of n (ap (λ (o : Option ℕ). option_map_or is_wide o true) (sym e) ∙ h))

cast_read : (o : Option (List Name)) → option_map_or (λ ns. nat_le 2 (length ns) && nat_le (length ns) 16 && are_names ns) o true ≡ true → (ns : List Name) → o ≡ Some ns → cast (joined_names ns) ≡ Some ns
cast_read o h ns e = cast_ok ns (ap (λ (o : Option (List Name)). option_map_or (λ ns. nat_le 2 (length ns) && nat_le (length ns) 16 && are_names ns) o true) (sym e) ∙ h)

join_ok : (j : Option CraftJoin) (rest : WordsLeft) → option_map_or is_join j true ≡ true → After rest → join (join_words j ++ rest) ≡ Some (j, rest)
unfolding join join_parts
join_ok None rest h a = join_other rest a.no_join
join_ok (Some j) rest h a =
    let w = and_left (option_map_or is_wide j.nonce true) (option_map_or (λ ns. nat_le 2 (length ns) && nat_le (length ns) 16 && are_names ns) j.names true) h in
    let n = and_right (option_map_or is_wide j.nonce true) (option_map_or (λ ns. nat_le 2 (length ns) && nat_le (length ns) 16 && are_names ns) j.names true) h in
    rw (
      append_assoc (option_words (codes "nonce") (option_map decimal j.nonce)) (option_words (codes "cast") (option_map joined_names j.names)) rest,
      optional_ok (codes "nonce") (number 18446744073709551615) decimal j.nonce (option_words (codes "cast") (option_map joined_names j.names) ++ rest) (nonce_read j.nonce w) (nonce_next j.names rest a),
      optional_ok (codes "cast") cast joined_names j.names rest (cast_read j.names n) a.no_cast,
    ) refl

-- ---- the end and the ends

seal_ok : (s : TagSource) → is_source s ≡ true → seal_form (codes "seal" ∷ from_words s) ≡ Some s
unfolding seal_form word
seal_ok s h = ap (λ o. option_and_then (λ (p : TagSource × WordsLeft). ended (Some p.0) p.1) o) (ap source (sym (append-nil (from_words s))) ∙ source_ok s [] h)

ends_ok : (session from to : Name) (rest : WordsLeft) → are_names (session ∷ from ∷ to ∷ []) ≡ true → not (bytes_eq from to) ≡ true → ends (session ∷ codes "from" ∷ from ∷ codes "to" ∷ to ∷ rest) ≡ Some ((session, from, to), rest)
unfolding ends word
ends_ok session from to rest h d =
    let m = and_right (is_name session) (is_name from && (is_name to && true)) h in
    rw (
      name_ok session (and_left (is_name session) (is_name from && (is_name to && true)) h),
      name_ok from (and_left (is_name from) (is_name to && true) m),
      name_ok to (and_left (is_name to) true (and_right (is_name from) (is_name to && true) m)),
      not-true (bytes_eq from to) d,
    ) refl

-- ---- the whole

-- the words from behind craft
abbrev pub craft_rest : CraftContent → List Word
craft_rest c = c.session ∷ codes "from" ∷ c.from ∷ codes "to" ∷ c.to ∷ (join_words c.join ++ (list_words (codes "know") c.know
    ++ (flat_map item_words c.items ++ (list_words (codes "open") c.openings ++ codes "seal" ∷ from_words c.seal))))

-- what a craft of a form has
record CraftFacts (c : CraftContent) : Type 0 where
  pub names : are_names (c.session ∷ c.from ∷ c.to ∷ []) ≡ true
  pub differ : not (bytes_eq c.from c.to) ≡ true
  pub join : option_map_or is_join c.join true ≡ true
  pub know : list_all is_committed c.know ≡ true
  pub some : nat_le 1 (length c.items) ≡ true
  pub count : length c.items ≤ 65535
  pub items : list_all is_item c.items ≡ true
  pub few_openings : nat_le (length c.openings) 32 ≡ true
  pub openings : list_all is_committed c.openings ≡ true
  pub seal : is_source c.seal ≡ true

craft_facts : (c : CraftContent) → is_craft c ≡ true → CraftFacts c
craft_facts c h =
    let names = are_names (c.session ∷ c.from ∷ c.to ∷ []) in
    let differ = not (bytes_eq c.from c.to) in
    let t0 = names && differ in
    let t1 = t0 && option_map_or is_join c.join true in
    let t2 = t1 && list_all is_committed c.know in
    let t3 = t2 && nat_le 1 (length c.items) in
    let t4 = t3 && nat_le (length c.items) 65535 in
    let t5 = t4 && list_all is_item c.items in
    let t6 = t5 && are_committed c.openings in
    let h6 : t6 ≡ true = and_left t6 (is_source c.seal) h in
    let h5 : t5 ≡ true = and_left t5 (are_committed c.openings) h6 in
    let h4 : t4 ≡ true = and_left t4 (list_all is_item c.items) h5 in
    let h3 : t3 ≡ true = and_left t3 (nat_le (length c.items) 65535) h4 in
    let h2 : t2 ≡ true = and_left t2 (nat_le 1 (length c.items)) h3 in
    let h1 : t1 ≡ true = and_left t1 (list_all is_committed c.know) h2 in
    let h0 : t0 ≡ true = and_left t0 (option_map_or is_join c.join true) h1 in
    record {
      names = and_left names differ h0;
      differ = and_right names differ h0;
      join = and_right t0 (option_map_or is_join c.join true) h1;
      know = and_right t1 (list_all is_committed c.know) h2;
      some = and_right t2 (nat_le 1 (length c.items)) h3;
      count = leb-true (length c.items) 65535 (and_right t3 (nat_le (length c.items) 65535) h4);
      items = and_right t4 (list_all is_item c.items) h5;
      few_openings = and_left (nat_le (length c.openings) 32) (list_all is_committed c.openings) (and_right t5 (are_committed c.openings) h6);
      openings = and_right (nat_le (length c.openings) 32) (list_all is_committed c.openings) (and_right t5 (are_committed c.openings) h6);
      seal = and_right t6 (is_source c.seal) h;
    }

seal_next : (ws : WordsLeft) → Behind (codes "seal" ∷ ws)
unfolding committed
seal_next ws = record { no_run = refl; no_tag = refl }

open_next : (cs : List Committed) (ws : WordsLeft) → Behind (list_words (codes "open") cs ++ codes "seal" ∷ ws)
unfolding committed
open_next [] ws = record { no_run = refl; no_tag = refl }
open_next (c ∷ cs) ws = record { no_run = refl; no_tag = refl }

open_no_item : (cs : List Committed) (ws : WordsLeft) → is_next (codes "item") (list_words (codes "open") cs ++ codes "seal" ∷ ws) ≡ false
open_no_item [] ws = refl
open_no_item (c ∷ cs) ws = refl

know_after : (cs : List Committed) (ws : WordsLeft) → After (list_words (codes "know") cs ++ codes "item" ∷ ws)
know_after [] ws = record { no_join = refl; no_nonce = refl; no_cast = refl }
know_after (c ∷ cs) ws = record { no_join = refl; no_nonce = refl; no_cast = refl }

-- up to n items, one or more
abbrev items_up_to : ℕ → Taker (List ItemContent)
items_up_to n ws = option_and_then some_items (repeated (codes "item") item n ws)

-- the lists of a craft with up to n items
abbrev lists_up_to : ℕ → Taker (List Committed × List ItemContent × List Committed)
lists_up_to n =
    after (listed (codes "know")) λ know.
    after (items_up_to n) λ is.
    after opened λ openings rest.
    Some ((know, is, openings), rest)

-- the words of a craft with up to n items
abbrev craft_up_to : ℕ → WordsLeft → Option LineContent
craft_up_to n =
    after ends λ e.
    after join λ j.
    after (lists_up_to n) λ l.
    λ ws. option_map (λ seal. MakeLine (record { session = e.0; from = e.1; to = e.2; join = j; know = l.0; items = l.1; openings = l.2; seal = seal })) (seal_form ws)

craft_with : (n : ℕ) (c : CraftContent) (i : ItemContent) (is : List ItemContent) → CraftFacts c → length (i ∷ is) ≤ n → list_all is_item (i ∷ is) ≡ true
    → craft_up_to n (craft_rest (record c { items = i ∷ is })) ≡ Some (MakeLine (record c { items = i ∷ is }))
craft_with n c i is f l a =
    let tail = list_words (codes "open") c.openings ++ codes "seal" ∷ from_words c.seal in
    let more = (item_print i ++ flat_map item_words is) ++ tail in
    let some : (length (i ∷ is) == 0) ≡ false = grind (arith, common_steps) in
    rw (
      ends_ok c.session c.from c.to (join_words c.join ++ (list_words (codes "know") c.know ++ codes "item" ∷ more)) f.names f.differ,
      join_ok c.join (list_words (codes "know") c.know ++ codes "item" ∷ more) f.join (know_after c.know more),
      listed_ok (codes "know") c.know (codes "item" ∷ more) f.know refl ((item_behind more).no_run),
      repeated_ok (codes "item") item item_print is_item Behind item_repeats n (i ∷ is) tail l a (open_next c.openings (from_words c.seal)) (open_no_item c.openings (from_words c.seal)),
      some,
      opened_ok c.openings (codes "seal" ∷ from_words c.seal) (both f.few_openings f.openings) refl ((seal_next (from_words c.seal)).no_run),
      seal_ok c.seal f.seal,
    ) refl

craft_found : (n : ℕ) (c : CraftContent) (is : List ItemContent) → CraftFacts c → nat_le 1 (length is) ≡ true → length is ≤ n → list_all is_item is ≡ true
    → craft_up_to n (craft_rest (record c { items = is })) ≡ Some (MakeLine (record c { items = is }))
craft_found n c [] f some l a = absurd (cc some)
craft_found n c (i ∷ is) f some l a = craft_with n c i is f l a

pub craft_reads : (c : CraftContent) → is_craft c ≡ true → craft_form (craft_rest c) ≡ Some (MakeLine c)
unfolding craft_form lists
craft_reads c h = let f = craft_facts c h in craft_found 65535 c c.items f f.some f.count f.items
