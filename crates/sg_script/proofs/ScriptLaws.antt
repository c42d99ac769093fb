-- A script is read exactly if its bytes spell it.
use Rattle.std.proofs.Common.{◌≡◌, ◌≢◌, ℕ, ◌+◌, Bool, true, false, ◌⊎◌, inl, inr, List, [], ◌∷◌, map, Option, Some, None, Result, Ok, Err, IfOk, IfErr, if◌then◌else◌, refl, sym, ap, ◌∙◌, codes}
use Rattle.toml.specs.Data.{Data, Members, get_member}
use Rattle.sg_keys.specs.KeyFile.{document, has_keys_alone, tables_of}
use Rattle.sg_protocol.specs.Keyring.{Program}
use Rattle.sg_script.specs.Script.{Start, Choice, Script}
use Rattle.sg_script.specs.Format.{script_keys, start_of, choice_of, starts_of, then_with, each_from, entries, answer_to, answer_to_table, script_file, SpellsTable, SpellsScript}
use Rattle.sg_script.specs.declared.fault.ScriptFault.{ScriptFault}
use Rattle.sg_script.specs.declared.fault.ScriptFault.TheVariants.{NotToml, BadStart, BadChoice, OutOfMemory}

-- ---- entries

-- all are there
pub each_is : {A : Type 0} (fault : ℕ → ScriptFault) (i : ℕ) (os : List (Option A)) (xs : List A) → each_from fault i os ≡ Ok xs → os ≡ map Some xs
each_is fault i [] xs h = let e : xs ≡ [] = cc in rw e refl
each_is fault i (None ∷ os) xs h = absurd (cc)
each_is {A} fault i (Some x ∷ os) xs h = by (each_from fault (i + 1) os) (λ ys e. each_is fault (i + 1) os ys e) h
  where
    by : (r : Result (List A) ScriptFault) → ((ys : List A) → r ≡ Ok ys → os ≡ map Some ys) → then_with r (λ ys. Ok (x ∷ ys)) ≡ Ok xs → (Some x ∷ os) ≡ map Some xs
    by (Ok ys) ih k =
        let whole : (x ∷ ys) ≡ xs = cc in
        rw (← whole) (ap (λ ps. Some x ∷ ps) (ih ys refl))
    by (Err f) ih k = absurd (cc)

-- all that are there are read
pub each_reads : {A : Type 0} (fault : ℕ → ScriptFault) (i : ℕ) (xs : List A) → each_from fault i (map Some xs) ≡ Ok xs
each_reads fault i [] = refl
each_reads fault i (x ∷ xs) = rw (each_reads fault (i + 1) xs) refl

-- the list is there, and each entry
pub record Read {A : Type 0} (read : Data → Option A) (o : Option (List Data)) (xs : List A) : Type 0 where
  pub listed : List Data
  pub there : o ≡ Some listed
  pub each : map read listed ≡ map Some xs

pub entries_are : {A : Type 0} (fault : ℕ → ScriptFault) (read : Data → Option A) (o : Option (List Data)) (xs : List A) → entries fault read o ≡ Ok xs → Read read o xs
entries_are fault read None xs h = absurd (cc)
entries_are fault read (Some ds) xs h = record { listed = ds; there = refl; each = each_is fault 1 (map read ds) xs h }

pub entries_read : {A : Type 0} (fault : ℕ → ScriptFault) (read : Data → Option A) (o : Option (List Data)) (xs : List A) → Read read o xs → entries fault read o ≡ Ok xs
entries_read fault read o xs r = rw (r.there, r.each) (each_reads fault 1 xs)

-- ---- tables

both_steps : (starts : Result (List Start) ScriptFault) (choices : Result (List Choice) ScriptFault) (s : Script)
    → then_with starts (λ xs. then_with choices (λ ys. Ok (record { starts = xs; choices = ys }))) ≡ Ok s → (starts ≡ Ok s.starts) × (choices ≡ Ok s.choices)
both_steps (Err f) choices s h = absurd (cc)
both_steps (Ok xs) (Err f) s h = absurd (cc)
both_steps (Ok xs) (Ok ys) s h =
    let whole : record { starts = xs; choices = ys } ≡ s = cc in
    (ap (λ (t : Script). Ok t.starts) whole, ap (λ (t : Script). Ok t.choices) whole)

-- the list of starts is there if nothing else is
starts_there : (table : Members) (ds : List Data) → starts_of table ≡ Some ds → (has_keys_alone script_keys table ≡ true) × (tables_of (get_member (codes "start") table) ≡ Some ds)
starts_there table ds h = by (has_keys_alone script_keys table) refl h
  where
    by : (b : Bool) → has_keys_alone script_keys table ≡ b → (if b then tables_of (get_member (codes "start") table) else None) ≡ Some ds
        → (has_keys_alone script_keys table ≡ true) × (tables_of (get_member (codes "start") table) ≡ Some ds)
    by true e k = (e, k)
    by false e k = absurd (cc)

pub spells_table : (programs : List Program) (table : Members) (s : Script) → answer_to_table programs table ≡ Ok s → SpellsTable programs table s
spells_table programs table s h =
    let steps = both_steps (entries BadStart (start_of programs) (starts_of table)) (entries BadChoice (choice_of programs) (tables_of (get_member (codes "choice") table))) s h in
    let starts = entries_are BadStart (start_of programs) (starts_of table) s.starts steps.0 in
    let choices = entries_are BadChoice (choice_of programs) (tables_of (get_member (codes "choice") table)) s.choices steps.1 in
    let there = starts_there table starts.listed starts.there in
    record { alone = there.0; starts = starts.listed; choices = choices.listed; start_list = there.1; choice_list = choices.there; each_start = starts.each; each_choice = choices.each }

pub table_answers : (programs : List Program) (table : Members) (s : Script) → SpellsTable programs table s → answer_to_table programs table ≡ Ok s
table_answers programs table s t =
    let alone : has_keys_alone script_keys table ≡ true = t.alone in
    let there : starts_of table ≡ Some t.starts = rw alone t.start_list in
    let starts = entries_read BadStart (start_of programs) (starts_of table) s.starts (record { listed = t.starts; there = there; each = t.each_start }) in
    let choices = entries_read BadChoice (choice_of programs) (tables_of (get_member (codes "choice") table)) s.choices (record { listed = t.choices; there = t.choice_list; each = t.each_choice }) in
    ap (λ r. then_with r (λ xs. then_with (entries BadChoice (choice_of programs) (tables_of (get_member (codes "choice") table))) (λ ys. Ok (record { starts = xs; choices = ys })))) starts
    ∙ ap (λ r. then_with r (λ ys. Ok (record { starts = s.starts; choices = ys }))) choices

-- ---- bytes

spells_document : (programs : List Program) (bytes : List ℕ) (s : Script) (d : Option Members) → document bytes ≡ d → answer_to programs d ≡ Ok s → SpellsScript programs bytes s
spells_document programs bytes s None e h = absurd (cc)
spells_document programs bytes s (Some table) e h = (table, e, spells_table programs table s h)

-- bytes that are read spell the script
pub spells_from_read : (programs : List Program) (bytes : List ℕ) (s : Script) → script_file programs bytes ≡ Ok s → SpellsScript programs bytes s
spells_from_read programs bytes s h = spells_document programs bytes s (document bytes) refl h

-- bytes that spell a script are read
pub read_from_spells : (programs : List Program) (bytes : List ℕ) (s : Script) → SpellsScript programs bytes s → script_file programs bytes ≡ Ok s
read_from_spells programs bytes s (table, e, t) = ap (answer_to programs) e ∙ table_answers programs table s t

-- an answer that is right unless memory ran out is the script if one is spelled
pub answered : (r f : Result Script ScriptFault) (s : Script) → IfOk r (λ s. f ≡ Ok s) → IfErr r (λ e. e ≢ OutOfMemory → f ≡ Err e) → f ≡ Ok s → (r ≡ Ok s) ⊎ (r ≡ Err OutOfMemory)
answered (Ok t) f s ok fault h = inl (sym ok ∙ h)
answered (Err NotToml) f s ok fault h = absurd (let e : f ≡ Err NotToml = fault (λ s. cc) in cc)
answered (Err (BadStart i)) f s ok fault h = absurd (let e : f ≡ Err (BadStart i) = fault (λ s. cc) in cc)
answered (Err (BadChoice i)) f s ok fault h = absurd (let e : f ≡ Err (BadChoice i) = fault (λ s. cc) in cc)
answered (Err OutOfMemory) f s ok fault h = inr refl

-- a right answer spells
pub spelled : (programs : List Program) (bytes : List ℕ) (r : Result Script ScriptFault) → IfOk r (λ s. script_file programs bytes ≡ Ok s) → IfOk r (SpellsScript programs bytes)
spelled programs bytes (Ok s) ok = spells_from_read programs bytes s ok
spelled programs bytes (Err e) ok = tt
