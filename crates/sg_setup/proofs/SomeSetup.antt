-- Files hold a setup, or there is a cause for which they hold none.
use Rattle.std.proofs.Common.{◌≡◌, ◌≢◌, ℕ, ◌+◌, ◌⊎◌, inl, inr, false, List, [], ◌∷◌, ◌++◌, map, length, codes, Option, Some, None, Result, Ok, Err, refl, sym, ap, ◌∙◌, subst, append-nil, append_assoc}
use Rattle.std.specs.List.{list_any}
use Rattle.std.proofs.lemmas.Bool.{cases_Bool}
use Rattle.sg_base.specs.Outside.{FileFaults}
use Rattle.sg_compile.specs.Laws.{Surely}
use Rattle.sg_compile.specs.Loading.{IsLoadFault}
use Rattle.sg_compile.specs.declared.loader.LoadFault.{LoadFault}
use Rattle.sg_compile.specs.declared.loader.LoadFault.TheVariants as Load
use Rattle.sg_compile.proofs.Sure.{so, sure}
use Rattle.sg_compile.proofs.Texts.{text_or_refused}
use Rattle.sg_keys.specs.KeyFile.{Head, SpellsKeys, alone, answer_to, answer_to_head, document, head_of, key_file, peer_of, tables_of, then_with as then_keys, with_entries, with_entry}
use Rattle.sg_keys.specs.Names.{names_of}
use Rattle.sg_keys.specs.declared.key_file.KeyFault.{KeyFault}
use Rattle.sg_keys.specs.declared.key_file.KeyFault.TheVariants.{Twice as TwiceInKeys, OutOfMemory as NoMemoryForKeys}
use Rattle.sg_keys.proofs.KeyFileLaws.{spells_from_read}
use Rattle.sg_model.specs.Limits.{most_program_file, most_script_file}
use Rattle.sg_program.specs.Together.{clashes}
use Rattle.sg_model.specs.Lists.{has_text}
use Rattle.sg_protocol.specs.Keyring.{Keyring, Peer, Program}
use Rattle.toml.specs.Data.{Data, Members, get_member}
use Rattle.sg_script.specs.Format.{SpellsScript, answer_to as script_answer, choice_of, each_from, entries, script_file, start_of, starts_of, then_with as then_script}
use Rattle.sg_script.specs.Script.{Choice, Script, Start}
use Rattle.sg_script.specs.declared.fault.ScriptFault.{ScriptFault}
use Rattle.sg_script.specs.declared.fault.ScriptFault.TheVariants.{BadStart, BadChoice, OutOfMemory as NoMemoryForScripts}
use Rattle.sg_script.proofs.ScriptLaws.{spells_from_read as script_from_read}
use Rattle.sg_ending.specs.Ending.{Ending, GraphRefused, KeysRefused, ProgramRefused, ScriptRefused}
use Rattle.sg_ending.specs.Files.{Holds}
use Rattle.sg_ending.specs.Laws.{IsAsked}
use Rattle.sg_ending.specs.declared.ending.BadProgram.TheVariants.{Malformed, NotTheTable, Twice}
use Rattle.sg_ending.proofs.SomeEnding.{holds_or_ends, ok_or_not}
use Rattle.sg_setup.specs.Laws.{PrincipalsAreThereOrNot, SetupsAreThereOrNot}
use Rattle.sg_setup.specs.Setup.{RunFiles, Principal, Setup, HasPrincipal, HasSetup, HoldPrograms, NoPrograms, OneMore, IsTextOf, LacksPrincipal, AtKeys, AtProgram, LacksSetup, AtPrincipal, AtScript, RefusesKeys, RefusesProgram, RefusesScript, StopsAtProgram}

-- ---- keys

-- a fault of a key file isn't want of memory
entry_fault : (keys : Keyring) (i : ℕ) (o : Option Peer) (f : KeyFault) → with_entry keys i o ≡ Err f → f ≢ NoMemoryForKeys
entry_fault keys i None f h e = absurd (cc)
entry_fault keys i (Some p) f h e =
    elim (cases_Bool (has_text p.name (names_of keys))) [
      | inl y ↦ (let twice : with_entry keys i (Some p) ≡ Err (TwiceInKeys i) = rw y refl in cc)
      | inr n ↦ (let there : with_entry keys i (Some p) ≡ Ok (record keys { peers = keys.peers ++ p ∷ [] }) = rw n refl in cc)
    ]

entries_fault : (ps : List (Option Peer)) (keys : Keyring) (i : ℕ) (f : KeyFault) → with_entries keys i ps ≡ Err f → f ≢ NoMemoryForKeys
entries_fault [] keys i f h e = absurd (cc)
entries_fault (p ∷ ps) keys i f h e = by (λ k. entries_fault ps k (i + 1) f) (with_entry keys i p) refl h
  where
    by : ((k : Keyring) → with_entries k (i + 1) ps ≡ Err f → f ≢ NoMemoryForKeys) → (r : Result Keyring KeyFault) → with_entry keys i p ≡ r → then_keys r (λ k. with_entries k (i + 1) ps) ≡ Err f → ⊥
    by later (Ok k) is h = later k h e
    by later (Err g) is h = entry_fault keys i p f (is ∙ h) e

keys_fault : (bytes : List ℕ) (f : KeyFault) → key_file bytes ≡ Err f → f ≢ NoMemoryForKeys
keys_fault bytes f h e = of_document (document bytes) h
  where
    of_head : (o : Option Head) → answer_to_head o ≡ Err f → ⊥
    of_head None h = absurd (cc)
    of_head (Some head) h = entries_fault (map peer_of head.entries) (alone head) 1 f h e

    of_document : (o : Option Members) → answer_to o ≡ Err f → ⊥
    of_document None h = absurd (cc)
    of_document (Some table) h = of_head (head_of table) h

-- bytes are a key file, or are refused as one
keys_or_none : (bytes : List ℕ) → Surely (((k : Keyring) × SpellsKeys bytes k) ⊎ ((e : Ending) × IsAsked e × RefusesKeys bytes e))
keys_or_none bytes =
    elim (ok_or_not (key_file bytes)) [
      | inl k ↦ sure (inl (k.0, spells_from_read bytes k.0 k.1))
      | inr f ↦ sure (inr (KeysRefused f.0, (refl, λ e. cc), (keys_fault bytes f.0 f.1, f.1)))
    ]

-- ---- a script

-- a fault of a script isn't want of memory
each_fault : {A : Type 0} (fault : ℕ → ScriptFault) → ((n : ℕ) → fault n ≢ NoMemoryForScripts) → (os : List (Option A)) (i : ℕ) (f : ScriptFault) → each_from fault i os ≡ Err f → f ≢ NoMemoryForScripts
each_fault fault is [] i f h e = absurd (cc)
each_fault fault is (None ∷ os) i f h e = is i (let same : fault i ≡ f = cc in same ∙ e)
each_fault {A} fault is (Some x ∷ os) i f h e = by (each_fault fault is os (i + 1) f) (each_from fault (i + 1) os) refl h
  where
    by : (each_from fault (i + 1) os ≡ Err f → f ≢ NoMemoryForScripts) → (r : Result (List A) ScriptFault) → each_from fault (i + 1) os ≡ r → then_script r (λ xs. Ok (x ∷ xs)) ≡ Err f → ⊥
    by later (Ok xs) same h = absurd (cc)
    by later (Err g) same h = later (same ∙ (let one : g ≡ f = cc in ap Err one)) e

list_fault : {A : Type 0} (fault : ℕ → ScriptFault) → ((n : ℕ) → fault n ≢ NoMemoryForScripts) → (read : Data → Option A) (o : Option (List Data)) (f : ScriptFault) → entries fault read o ≡ Err f → f ≢ NoMemoryForScripts
list_fault fault is read None f h e = is 0 (let same : fault 0 ≡ f = cc in same ∙ e)
list_fault fault is read (Some ds) f h e = each_fault fault is (map read ds) 1 f h e

script_fault : (programs : List Program) (bytes : List ℕ) (f : ScriptFault) → script_file programs bytes ≡ Err f → f ≢ NoMemoryForScripts
script_fault programs bytes f h e = of_document (document bytes) h
  where
    of_choices : (table : Members) (starts : List Start) (r : Result (List Choice) ScriptFault) → entries BadChoice (choice_of programs) (tables_of (get_member (codes "choice") table)) ≡ r
        → then_script {B = Script} r (λ choices. Ok (record { starts = starts; choices = choices })) ≡ Err f → ⊥
    of_choices table starts (Ok choices) same h = absurd (cc)
    of_choices table starts (Err g) same h =
        list_fault BadChoice (λ n q. cc) (choice_of programs) (tables_of (get_member (codes "choice") table)) f (same ∙ (let one : g ≡ f = cc in ap Err one)) e

    of_starts : (table : Members) (r : Result (List Start) ScriptFault) → entries BadStart (start_of programs) (starts_of table) ≡ r
        → then_script {B = Script} r (λ starts. then_script {B = Script} (entries BadChoice (choice_of programs) (tables_of (get_member (codes "choice") table))) (λ choices. Ok (record { starts = starts; choices = choices }))) ≡ Err f → ⊥
    of_starts table (Ok starts) same h = of_choices table starts (entries BadChoice (choice_of programs) (tables_of (get_member (codes "choice") table))) refl h
    of_starts table (Err g) same h = list_fault BadStart (λ n q. cc) (start_of programs) (starts_of table) f (same ∙ (let one : g ≡ f = cc in ap Err one)) e

    of_document : (o : Option Members) → script_answer programs o ≡ Err f → ⊥
    of_document None h = absurd (cc)
    of_document (Some table) h = of_starts table (entries BadStart (start_of programs) (starts_of table)) refl h

script_or_none : (programs : List Program) (bytes : List ℕ) → Surely (((s : Script) × SpellsScript programs bytes s) ⊎ ((e : Ending) × IsAsked e × RefusesScript programs bytes e))
script_or_none programs bytes =
    elim (ok_or_not (script_file programs bytes)) [
      | inl s ↦ sure (inl (s.0, script_from_read programs bytes s.0 s.1))
      | inr f ↦ sure (inr (ScriptRefused f.0, (refl, λ e. cc), (script_fault programs bytes f.0 f.1, f.1)))
    ]

-- ---- programs

module _ (before : List Program) (bytes : List ℕ) where
  -- the fault of the bytes refuses them
  refused : (f : LoadFault) → IsLoadFault bytes f → f ≢ Load.OutOfMemory → (e : Ending) × IsAsked e × RefusesProgram before bytes e
  refused (Load.Malformed at) h m = (ProgramRefused (length before + 1) (Malformed at), (refl, λ e. cc), (refl, h))
  refused (Load.NotTheTable n) h m = (ProgramRefused (length before + 1) (NotTheTable n), (refl, λ e. cc), (refl, h))
  refused (Load.Graph g f) h m = (GraphRefused g f, (refl, λ e. cc), h)
  refused Load.OutOfMemory h m = absurd (m refl)

  -- the bytes are the text of a program that clashes with none before it, or are refused
  next_or_none : Surely (((p : Program) × IsTextOf p bytes × (list_any (clashes p) before ≡ false)) ⊎ ((e : Ending) × IsAsked e × RefusesProgram before bytes e))
  next_or_none =
      so (text_or_refused bytes)
      (λ a. elim a [
        | inr f ↦ sure (inr (refused f.0 f.1 f.2))
        | inl p ↦
            elim (cases_Bool (list_any (clashes p.0) before)) [
              | inl clash ↦ sure (inr (ProgramRefused (length before + 1) Twice, (refl, λ e. cc), (refl, (p.0, (p.1, p.2), clash))))
              | inr alone ↦ sure (inl (p.0, (p.1, p.2), alone))
            ]
      ])

module _ (known : List (List ℕ × List ℕ)) (n : FileFaults) where
  -- files hold programs behind those that are held, or it ends at one of them
  programs_or_none : (rest before : List (List ℕ)) (programs : List Program) → HoldPrograms (Some known) before programs
      → Surely (((ps : List Program) × HoldPrograms (Some known) (before ++ rest) ps) ⊎ ((e : Ending) × IsAsked e × StopsAtProgram (Some known) n n (before ++ rest) e))
  programs_or_none [] before programs held = sure (inl (programs, subst (λ fs. HoldPrograms (Some known) fs programs) (sym (append-nil before)) held))
  programs_or_none (file ∷ rest) before programs held =
      so (holds_or_ends known most_program_file file n (λ bytes. (p : Program) × IsTextOf p bytes × (list_any (clashes p) programs ≡ false)) (RefusesProgram programs) (next_or_none programs))
      (λ a. elim a [
        | inr r ↦ sure (inr (r.0, r.1, record { before = before; file = file; behind = rest; programs = programs; are = refl; held = held; ends = r.2 }))
        | inl h ↦
            (let p = (h.3).0 in
            let more : HoldPrograms (Some known) (before ++ file ∷ []) (programs ++ p ∷ []) = OneMore held (h.0, h.1, h.2, (h.3).1) (h.3).2 in
            subst (λ fs. Surely (((ps : List Program) × HoldPrograms (Some known) fs ps) ⊎ ((e : Ending) × IsAsked e × StopsAtProgram (Some known) n n fs e))) (append_assoc before (file ∷ []) rest)
            (programs_or_none rest (before ++ file ∷ []) (programs ++ p ∷ []) more))
      ])

  -- ---- a principal

  principal_or_none : (keys : List ℕ) (files : List (List ℕ))
      → Surely (((p : Principal) × HasPrincipal (Some known) keys files p) ⊎ ((e : Ending) × IsAsked e × LacksPrincipal (Some known) n n keys files e))
  principal_or_none keys files =
      so (holds_or_ends known most_script_file keys n (λ bytes. (k : Keyring) × SpellsKeys bytes k) RefusesKeys keys_or_none)
      (λ a. elim a [
        | inr r ↦ sure (inr (r.0, r.1, AtKeys r.2))
        | inl h ↦
            (let k = (h.3).0 in
            let there : Holds (Some known) most_script_file keys (λ bytes. SpellsKeys bytes k) = (h.0, h.1, h.2, (h.3).1) in
            so (programs_or_none files [] [] NoPrograms)
            (λ b. elim b [
              | inl ps ↦ sure (inl (record { keys = k; programs = ps.0 }, record { has_keys = there; has_programs = ps.1 }))
              | inr r ↦ sure (inr (r.0, r.1, AtProgram there r.2))
            ]))
      ])

  -- ---- a setup

  setup_or_none : (named : RunFiles) → Surely (((s : Setup) × HasSetup (Some known) named s) ⊎ ((e : Ending) × IsAsked e × LacksSetup (Some known) n n named e))
  setup_or_none named =
      so (principal_or_none named.keys named.programs)
      (λ a. elim a [
        | inr r ↦ sure (inr (r.0, r.1, AtPrincipal r.2))
        | inl p ↦
            so (holds_or_ends known most_script_file named.script n (λ bytes. (s : Script) × SpellsScript (p.0).programs bytes s) (RefusesScript (p.0).programs) (script_or_none (p.0).programs))
            (λ b. elim b [
              | inr r ↦ sure (inr (r.0, r.1, AtScript p.1 r.2))
              | inl h ↦
                  sure (inl (record { keys = (p.0).keys; programs = (p.0).programs; script = (h.3).0 }, record { principal = p.1; script = (h.0, h.1, h.2, (h.3).1) }))
            ])
      ])

pub principals_there : PrincipalsAreThereOrNot
principals_there files keys programs n = principal_or_none files n keys programs

pub setups_there : SetupsAreThereOrNot
setups_there files named n = setup_or_none files n named
