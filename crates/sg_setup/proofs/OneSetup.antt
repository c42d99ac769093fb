-- The same files hold one setup, or none for one cause.
use Rattle.std.proofs.Common.{◌≡◌, ◌≢◌, ℕ, zero, suc, ◌+◌, ◌<◌, ◌≤◌, inl, inr, false, List, [], ◌∷◌, ◌++◌, length, take, get_or, Some, Ok, Err, refl, sym, ap, ◌∙◌, subst, arith, length-append, add-one}
use Rattle.std.specs.List.{list_any}
use Rattle.std.proofs.Math.Seq.{take-append_seam, get_or-append_seam}
use Rattle.std.proofs.lemmas.Bool.{cases_lt}
use Rattle.std.proofs.lemmas.List.{take_all, take_more}
use Rattle.sg_base.specs.Outside.{FileFaults}
use Rattle.sg_compile.specs.Loading.{IsLoadFault}
use Rattle.sg_compile.specs.declared.check.CompileFault.{CompileFault}
use Rattle.sg_compile.specs.declared.check.CompileFault.TheVariants.{OutOfMemory as CompileMemory}
use Rattle.sg_compile.specs.declared.loader.LoadFault.{LoadFault}
use Rattle.sg_compile.specs.declared.loader.LoadFault.TheVariants as Load
use Rattle.sg_compile.proofs.Once.{loaded_or_memory}
use Rattle.sg_compile.proofs.OneFault.{one_fault}
use Rattle.sg_keys.specs.KeyFile.{SpellsKeys, key_file}
use Rattle.sg_keys.specs.declared.key_file.KeyFault.{KeyFault}
use Rattle.sg_keys.proofs.KeyFileLaws.{read_from_spells}
use Rattle.sg_model.specs.Limits.{most_program_file, most_script_file}
use Rattle.sg_program.specs.Together.{clashes}
use Rattle.sg_protocol.specs.Graph.{Graph}
use Rattle.sg_protocol.specs.Keyring.{Keyring, Program}
use Rattle.sg_script.specs.Format.{SpellsScript, script_file}
use Rattle.sg_script.specs.Script.{Script}
use Rattle.sg_script.specs.declared.fault.ScriptFault.{ScriptFault}
use Rattle.sg_script.proofs.ScriptLaws.{read_from_spells as script_from_spells}
use Rattle.sg_ending.specs.Ending.{Ending, GraphRefused, KeysRefused, NoMemory, ProgramRefused, ScriptRefused}
use Rattle.sg_ending.specs.Files.{Holds, EndsAt}
use Rattle.sg_ending.specs.Laws.{asked, is_of_outside}
use Rattle.sg_ending.specs.declared.ending.BadProgram.{BadProgram}
use Rattle.sg_ending.specs.declared.ending.BadProgram.TheVariants.{Malformed, NotTheTable, Twice}
use Rattle.sg_setup.specs.Laws.{PrincipalsAreOne, SetupsAreOne}
use Rattle.sg_setup.specs.Setup.{RunFiles, Principal, Setup, HasPrincipal, HasSetup, HoldPrograms, NoPrograms, OneMore, IsBadProgram, IsTextOf, LacksPrincipal, AtKeys, AtProgram, LacksSetup, AtPrincipal, AtScript, RefusesKeys, RefusesProgram, RefusesScript, StopsAtProgram}
use Rattle.sg_ending.proofs.OneEnding.{RefusedOnce, ends_once, held_once, holds_or_ends, ok_or_err, one_err, one_ok}

-- ---- lists

no_snoc : {A : Type 0} (xs : List A) (x : A) → [] ≡ xs ++ x ∷ [] → ⊥
no_snoc [] x e = absurd (cc)
no_snoc (y ∷ ys) x e = absurd (cc)

-- lists with a last element are one only if what is before it is one
snoc_parts : {A : Type 0} (xs ys : List A) (x y : A) → xs ++ x ∷ [] ≡ ys ++ y ∷ [] → (xs ≡ ys) × (x ≡ y)
snoc_parts [] [] x y e = (refl, (cc))
snoc_parts [] (b ∷ ys) x y e = absurd (no_snoc ys y (cc))
snoc_parts (a ∷ xs) [] x y e = (let back : [] ≡ xs ++ x ∷ [] = cc in absurd (no_snoc xs x back))
snoc_parts (a ∷ xs) (b ∷ ys) x y e =
    let head : a ≡ b = cc in
    let rest = snoc_parts xs ys x y (cc) in
    (ap (λ z. z ∷ xs) head ∙ ap (λ zs. b ∷ zs) rest.0, rest.1)

-- ---- the bytes of a key file and of a script

abbrev spells_keys : List ℕ → Type 0
spells_keys bytes = (k : Keyring) × SpellsKeys bytes k

keys_fault : (bytes : List ℕ) (e : Ending) → RefusesKeys bytes e → is_of_outside e ≡ false → (f : KeyFault) × (e ≡ KeysRefused f) × (key_file bytes ≡ Err f)
keys_fault bytes (KeysRefused fault) h p = (fault, refl, h.1)
keys_fault bytes NoMemory h p = absurd (cc)
keys_fault bytes _ h p = absurd h

keys_once : RefusedOnce spells_keys RefusesKeys
keys_once = record { once = once; apart = apart }
  where
    once : (bytes : List ℕ) (x y : Ending) → RefusesKeys bytes x → RefusesKeys bytes y → is_of_outside x ≡ false → is_of_outside y ≡ false → asked x ≡ asked y
    once bytes x y h k p q =
        let (f, is, e) = keys_fault bytes x h p in
        let (g, has, d) = keys_fault bytes y k q in
        ap asked (is ∙ ap KeysRefused (one_err (key_file bytes) f g e d) ∙ sym has)

    apart : (bytes : List ℕ) (x : Ending) → spells_keys bytes → RefusesKeys bytes x → is_of_outside x ≡ false → ⊥
    apart bytes x (k, s) h p = (let (f, is, e) = keys_fault bytes x h p in ok_or_err (key_file bytes) k f (read_from_spells bytes k s) e)

one_keyring : (bytes : List ℕ) (k l : Keyring) → SpellsKeys bytes k → SpellsKeys bytes l → k ≡ l
one_keyring bytes k l s t = one_ok (key_file bytes) k l (read_from_spells bytes k s) (read_from_spells bytes l t)

module _ (programs : List Program) where
  abbrev spells_script : List ℕ → Type 0
  spells_script bytes = (s : Script) × SpellsScript programs bytes s

  script_fault : (bytes : List ℕ) (e : Ending) → RefusesScript programs bytes e → is_of_outside e ≡ false → (f : ScriptFault) × (e ≡ ScriptRefused f) × (script_file programs bytes ≡ Err f)
  script_fault bytes (ScriptRefused fault) h p = (fault, refl, h.1)
  script_fault bytes NoMemory h p = absurd (cc)
  script_fault bytes _ h p = absurd h

  scripts_once : RefusedOnce spells_script (RefusesScript programs)
  scripts_once = record { once = once; apart = apart }
    where
      once : (bytes : List ℕ) (x y : Ending) → RefusesScript programs bytes x → RefusesScript programs bytes y → is_of_outside x ≡ false → is_of_outside y ≡ false → asked x ≡ asked y
      once bytes x y h k p q =
          let (f, is, e) = script_fault bytes x h p in
          let (g, has, d) = script_fault bytes y k q in
          ap asked (is ∙ ap ScriptRefused (one_err (script_file programs bytes) f g e d) ∙ sym has)

      apart : (bytes : List ℕ) (x : Ending) → spells_script bytes → RefusesScript programs bytes x → is_of_outside x ≡ false → ⊥
      apart bytes x (s, is) h p = (let (f, has, e) = script_fault bytes x h p in ok_or_err (script_file programs bytes) s f (script_from_spells programs bytes s is) e)

  one_script : (bytes : List ℕ) (s t : Script) → SpellsScript programs bytes s → SpellsScript programs bytes t → s ≡ t
  one_script bytes s t h k = one_ok (script_file programs bytes) s t (script_from_spells programs bytes s h) (script_from_spells programs bytes t k)

-- ---- the bytes of a program

one_text : (bytes : List ℕ) (p q : Program) → IsTextOf p bytes → IsTextOf q bytes → p ≡ q
one_text bytes p q (v, e) (w, f) = (loaded_or_memory bytes q w f (Ok p) v e tt).0

text_or_fault : (bytes : List ℕ) (p : Program) (f : LoadFault) → IsTextOf p bytes → IsLoadFault bytes f → f ≡ Load.OutOfMemory
text_or_fault bytes p f (w, e) h = (loaded_or_memory bytes p w e (Err f) tt tt h).1

module _ (before : List Program) (bytes : List ℕ) where
  -- the bytes are the text of a program that clashes with none before it
  abbrev is_next : Type 0
  is_next = (p : Program) × IsTextOf p bytes × (list_any (clashes p) before ≡ false)

  -- why the bytes are not taken
  data ProgramCause : Ending → Type 0 where
    Numbered : {c : BadProgram} → IsBadProgram before bytes c → ProgramCause (ProgramRefused (length before + 1) c)
    OfGraph : {g : Graph} {f : CompileFault} → IsLoadFault bytes (Load.Graph g f) → ProgramCause (GraphRefused g CompileMemory)

  program_cause : (e : Ending) → RefusesProgram before bytes e → is_of_outside e ≡ false → ProgramCause (asked e)
  program_cause (ProgramRefused n c) (number, bad) p = subst (λ k. ProgramCause (ProgramRefused k c)) (sym number) (Numbered bad)
  program_cause (GraphRefused g f) h p = OfGraph h
  program_cause NoMemory h p = absurd (cc)
  program_cause _ h p = absurd h

  no_fault : (f : LoadFault) → f ≢ Load.OutOfMemory → (p : Program) → IsTextOf p bytes → IsLoadFault bytes f → ⊥
  no_fault f other p t h = other (text_or_fault bytes p f t h)

  one_bad : (c d : BadProgram) → IsBadProgram before bytes c → IsBadProgram before bytes d → c ≡ d
  one_bad (Malformed i) (Malformed j) h k =
      let same : Load.Malformed i ≡ Load.Malformed j = one_fault bytes (Load.Malformed i) (Load.Malformed j) h k (λ e. absurd (cc)) (λ e. absurd (cc)) in
      let offset : i ≡ j = cc in
      ap Malformed offset
  one_bad (Malformed i) (NotTheTable n) h k =
      let same : Load.Malformed i ≡ Load.NotTheTable n = one_fault bytes (Load.Malformed i) (Load.NotTheTable n) h k (λ e. absurd (cc)) (λ e. absurd (cc)) in
      absurd (cc)
  one_bad (Malformed i) Twice h (p, t, clash) = absurd (no_fault (Load.Malformed i) (λ e. absurd (cc)) p t h)
  one_bad (NotTheTable n) (Malformed i) k h =
      let same : Load.Malformed i ≡ Load.NotTheTable n = one_fault bytes (Load.Malformed i) (Load.NotTheTable n) h k (λ e. absurd (cc)) (λ e. absurd (cc)) in
      absurd (cc)
  one_bad (NotTheTable m) (NotTheTable n) h k =
      let same : Load.NotTheTable m ≡ Load.NotTheTable n = one_fault bytes (Load.NotTheTable m) (Load.NotTheTable n) h k (λ e. absurd (cc)) (λ e. absurd (cc)) in
      let line : m ≡ n = cc in
      ap NotTheTable line
  one_bad (NotTheTable n) Twice h (p, t, clash) = absurd (no_fault (Load.NotTheTable n) (λ e. absurd (cc)) p t h)
  one_bad Twice (Malformed i) (p, t, clash) h = absurd (no_fault (Load.Malformed i) (λ e. absurd (cc)) p t h)
  one_bad Twice (NotTheTable n) (p, t, clash) h = absurd (no_fault (Load.NotTheTable n) (λ e. absurd (cc)) p t h)
  one_bad Twice Twice h k = refl

  bad_or_graph : (c : BadProgram) (g : Graph) (f : CompileFault) → IsBadProgram before bytes c → IsLoadFault bytes (Load.Graph g f) → ⊥
  bad_or_graph (Malformed i) g f h k =
      let same : Load.Malformed i ≡ Load.Graph g CompileMemory = one_fault bytes (Load.Malformed i) (Load.Graph g f) h k (λ e. absurd (cc)) (λ e. absurd (cc)) in
      absurd (cc)
  bad_or_graph (NotTheTable n) g f h k =
      let same : Load.NotTheTable n ≡ Load.Graph g CompileMemory = one_fault bytes (Load.NotTheTable n) (Load.Graph g f) h k (λ e. absurd (cc)) (λ e. absurd (cc)) in
      absurd (cc)
  bad_or_graph Twice g f (p, t, clash) k = no_fault (Load.Graph g f) (λ e. absurd (cc)) p t k

  one_refused : (g h : Graph) (f k : CompileFault) → IsLoadFault bytes (Load.Graph g f) → IsLoadFault bytes (Load.Graph h k) → g ≡ h
  one_refused g h f k a b =
      let same : Load.Graph g CompileMemory ≡ Load.Graph h CompileMemory = one_fault bytes (Load.Graph g f) (Load.Graph h k) a b (λ e. absurd (cc)) (λ e. absurd (cc)) in
      cc

  one_program_cause : (x y : Ending) → ProgramCause x → ProgramCause y → x ≡ y
  one_program_cause _ _ (Numbered {c} h) (Numbered {c = d} k) = ap (ProgramRefused (length before + 1)) (one_bad c d h k)
  one_program_cause _ _ (Numbered {c} h) (OfGraph {g} {f} k) = absurd (bad_or_graph c g f h k)
  one_program_cause _ _ (OfGraph {g} {f} k) (Numbered {c} h) = absurd (bad_or_graph c g f h k)
  one_program_cause _ _ (OfGraph {g} {f} h) (OfGraph {g = j} {f = k} i) = ap (λ (x : Graph). GraphRefused x CompileMemory) (one_refused g j f k h i)

  next_or_cause : (x : Ending) → is_next → ProgramCause x → ⊥
  next_or_cause _ (p, t, alone) (Numbered {c = Malformed i} h) = no_fault (Load.Malformed i) (λ e. absurd (cc)) p t h
  next_or_cause _ (p, t, alone) (Numbered {c = NotTheTable n} h) = no_fault (Load.NotTheTable n) (λ e. absurd (cc)) p t h
  next_or_cause _ (p, t, alone) (Numbered {c = Twice} (q, u, clash)) =
      let free : list_any (clashes q) before ≡ false = subst (λ (r : Program). list_any (clashes r) before ≡ false) (one_text bytes p q t u) alone in
      absurd (cc)
  next_or_cause _ (p, t, alone) (OfGraph {g} {f} h) = no_fault (Load.Graph g f) (λ e. absurd (cc)) p t h

programs_once : (before : List Program) → RefusedOnce (is_next before) (RefusesProgram before)
programs_once before = record {
  once = λ bytes x y h k p q. one_program_cause before bytes (asked x) (asked y) (program_cause before bytes x h p) (program_cause before bytes y k q);
  apart = λ bytes x next h p. next_or_cause before bytes (asked x) next (program_cause before bytes x h p);
}

-- ---- the files of programs

module _ (known : List (List ℕ × List ℕ)) where
  one_held : (file : List ℕ) (p q : Program) → Holds (Some known) most_program_file file (IsTextOf p) → Holds (Some known) most_program_file file (IsTextOf q) → p ≡ q
  one_held file p q h k = (let (bytes, s, t) = held_once known most_program_file most_program_file file (IsTextOf p) (IsTextOf q) h k in one_text bytes p q s t)

  -- these programs are those of some files and of one more
  record Last (files : List (List ℕ)) (file : List ℕ) (programs : List Program) : Type 0 where
    before : List Program
    program : Program
    held : HoldPrograms (Some known) files before
    there : Holds (Some known) most_program_file file (IsTextOf program)
    alone : list_any (clashes program) before ≡ false
    is : programs ≡ before ++ program ∷ []

  last_of : (files : List (List ℕ)) (file : List ℕ) (all : List (List ℕ)) (programs : List Program) → HoldPrograms (Some known) all programs → all ≡ files ++ file ∷ [] → Last files file programs
  last_of files file _ _ NoPrograms e = absurd (no_snoc files file e)
  last_of files file _ _ (OneMore {files = xs} {programs} {file = x} {p} held there alone) e =
      let same = snoc_parts xs files x file e in
      record {
        before = programs;
        program = p;
        held = subst (λ ys. HoldPrograms (Some known) ys programs) same.0 held;
        there = subst (λ y. Holds (Some known) most_program_file y (IsTextOf p)) same.1 there;
        alone = alone;
        is = refl;
      }

  no_programs : (files : List (List ℕ)) (programs : List Program) → HoldPrograms (Some known) files programs → files ≡ [] → programs ≡ []
  no_programs _ _ NoPrograms e = refl
  no_programs _ _ (OneMore {files = xs} {file = x} held there alone) e = absurd (no_snoc xs x (sym e))

  one_list : (files : List (List ℕ)) (ps qs : List Program) → HoldPrograms (Some known) files ps → HoldPrograms (Some known) files qs → ps ≡ qs
  one_list _ _ qs NoPrograms k = sym (no_programs [] qs k refl)
  one_list _ _ qs (OneMore {files = xs} {programs} {file = x} {p} held there alone) k =
      let last = last_of xs x (xs ++ x ∷ []) qs k refl in
      let same : programs ≡ last.before = one_list xs programs last.before held last.held in
      let program : p ≡ last.program = one_held x p last.program there last.there in
      ap (λ rs. rs ++ p ∷ []) same ∙ ap (λ (r : Program). last.before ++ r ∷ []) program ∙ sym last.is

  -- it ends at the program of this number, counted from 0
  record StopsAt (files : List (List ℕ)) (m m' : FileFaults) (e : Ending) (i : ℕ) : Type 0 where
    within : i < length files
    programs : List Program
    held : HoldPrograms (Some known) (take i files) programs
    ends : EndsAt (Some known) m m' most_program_file (get_or files i []) (RefusesProgram programs) e

  stops_at : (files : List (List ℕ)) (m m' : FileFaults) (e : Ending) (s : StopsAtProgram (Some known) m m' files e) → StopsAt files m m' e (length s.before)
  stops_at files m m' e s =
      let size : length files ≡ length s.before + length (s.file ∷ s.behind) = ap (λ (fs : List (List ℕ)). length fs) s.are ∙ length-append s.before (s.file ∷ s.behind) in
      let front : take (length s.before) files ≡ s.before = ap (take (length s.before)) s.are ∙ take-append_seam s.before (s.file ∷ s.behind) in
      let there : get_or files (length s.before) [] ≡ s.file = ap (λ (fs : List (List ℕ)). get_or fs (length s.before) []) s.are ∙ get_or-append_seam s.before s.file s.behind [] in
      record {
        within = omega (arith, size);
        programs = s.programs;
        held = subst (λ fs. HoldPrograms (Some known) fs s.programs) (sym front) s.held;
        ends = subst (λ f. EndsAt (Some known) m m' most_program_file f (RefusesProgram s.programs) e) (sym there) s.ends;
      }

  -- a program that is taken isn't refused
  taken : (files : List (List ℕ)) (i : ℕ) (programs : List Program) (m m' : FileFaults) (e : Ending) → Last (take i files) (get_or files i []) programs → StopsAt files m m' e i → is_of_outside e ≡ false → ⊥
  taken files i programs m m' e last s p =
      let same : last.before ≡ s.programs = one_list (take i files) last.before s.programs last.held s.held in
      let (bytes, at, few, text) = last.there in
      let next : is_next s.programs bytes = (last.program, text, subst (λ ps. list_any (clashes last.program) ps ≡ false) same last.alone) in
      holds_or_ends known most_program_file (get_or files i []) (is_next s.programs) (RefusesProgram s.programs) (programs_once s.programs) m m' e (bytes, at, few, next) s.ends p

  -- where the first files hold programs, it doesn't end at one of them
  never_there : (files : List (List ℕ)) (j : ℕ) (programs : List Program) (i : ℕ) (m m' : FileFaults) (e : Ending) → j ≤ length files → HoldPrograms (Some known) (take j files) programs → i < j → StopsAt files m m' e i
      → is_of_outside e ≡ false → ⊥
  never_there files zero programs i m m' e l h n s p = absurd (omega (arith, n))
  never_there files (suc k) programs i m m' e l h n s p =
      let more : take (suc k) files ≡ take k files ++ get_or files k [] ∷ [] = ap (λ z. take z files) (sym (add-one k)) ∙ take_more files k [] (omega (arith, l)) in
      let last = last_of (take k files) (get_or files k []) (take (suc k) files) programs h more in
      elim (cases_lt i k) [
        | inl y ↦ never_there files k last.before i m m' e (omega (arith, l)) last.held y s p
        | inr z ↦ (let same : i ≡ k = omega (arith, n, z) in taken files k programs m m' e last (subst (StopsAt files m m' e) same s) p)
      ]

  stops_once : (files : List (List ℕ)) (m m' n n' : FileFaults) (d e : Ending) (i : ℕ) → StopsAt files m m' d i → StopsAt files n n' e i → is_of_outside d ≡ false → is_of_outside e ≡ false → asked d ≡ asked e
  stops_once files m m' n n' d e i s t p q =
      let same : t.programs ≡ s.programs = one_list (take i files) t.programs s.programs t.held s.held in
      let ends : EndsAt (Some known) n n' most_program_file (get_or files i []) (RefusesProgram s.programs) e =
      subst (λ ps. EndsAt (Some known) n n' most_program_file (get_or files i []) (RefusesProgram ps) e) same t.ends in
      ends_once known most_program_file (get_or files i []) (is_next s.programs) (RefusesProgram s.programs) (programs_once s.programs) m m' n n' d e s.ends ends p q

  stops_same : (files : List (List ℕ)) (m m' n n' : FileFaults) (d e : Ending) (i j : ℕ) → StopsAt files m m' d i → StopsAt files n n' e j → is_of_outside d ≡ false → is_of_outside e ≡ false → asked d ≡ asked e
  stops_same files m m' n n' d e i j s t p q =
      elim (cases_lt i j) [
        | inl y ↦ absurd (never_there files j t.programs i m m' d (let l = t.within in omega (arith, l)) t.held y s p)
        | inr z ↦
            elim (cases_lt j i) [
              | inl y ↦ absurd (never_there files i s.programs j n n' e (let l = s.within in omega (arith, l)) s.held y t q)
              | inr w ↦ (let same : j ≡ i = omega (arith, z, w) in stops_once files m m' n n' d e i s (subst (StopsAt files n n' e) same t) p q)
            ]
      ]

  -- ---- a principal

  module _ (keys : List ℕ) (files : List (List ℕ)) where
    has_keys : (k : Keyring) → Holds (Some known) most_script_file keys (λ bytes. SpellsKeys bytes k) → Holds (Some known) most_script_file keys spells_keys
    has_keys k (bytes, at, few, s) = (bytes, at, few, (k, s))

    one_principal : (a b : Principal) → HasPrincipal (Some known) keys files a → HasPrincipal (Some known) keys files b → a ≡ b
    one_principal a b h k =
        let (bytes, s, t) = held_once known most_script_file most_script_file keys (λ bytes. SpellsKeys bytes a.keys) (λ bytes. SpellsKeys bytes b.keys) h.has_keys k.has_keys in
        let ring : a.keys ≡ b.keys = one_keyring bytes a.keys b.keys s t in
        let programs : a.programs ≡ b.programs = one_list files a.programs b.programs h.has_programs k.has_programs in
        λ i. record { keys = ring i; programs = programs i }

    principal_or_none : (a : Principal) (m m' : FileFaults) (e : Ending) → HasPrincipal (Some known) keys files a → LacksPrincipal (Some known) m m' keys files e → is_of_outside e ≡ false → ⊥
    principal_or_none a m m' e h (AtKeys ends) p = holds_or_ends known most_script_file keys spells_keys RefusesKeys keys_once m m' e (has_keys a.keys h.has_keys) ends p
    principal_or_none a m m' e h (AtProgram found stops) p =
        let s = stops_at files m m' e stops in
        let all : HoldPrograms (Some known) (take (length files) files) a.programs =
        subst (λ fs. HoldPrograms (Some known) fs a.programs) (sym (take_all (length files) files (omega arith))) h.has_programs in
        never_there files (length files) a.programs (length stops.before) m m' e (omega arith) all s.within s p

    principal_cause : (m m' n n' : FileFaults) (d e : Ending) → LacksPrincipal (Some known) m m' keys files d → LacksPrincipal (Some known) n n' keys files e → is_of_outside d ≡ false → is_of_outside e ≡ false → asked d ≡ asked e
    principal_cause m m' n n' d e (AtKeys s) (AtKeys t) p q = ends_once known most_script_file keys spells_keys RefusesKeys keys_once m m' n n' d e s t p q
    principal_cause m m' n n' d e (AtKeys s) (AtProgram {found} h t) p q = absurd (holds_or_ends known most_script_file keys spells_keys RefusesKeys keys_once m m' d (has_keys found h) s p)
    principal_cause m m' n n' d e (AtProgram {found} h s) (AtKeys t) p q = absurd (holds_or_ends known most_script_file keys spells_keys RefusesKeys keys_once n n' e (has_keys found h) t q)
    principal_cause m m' n n' d e (AtProgram h s) (AtProgram k t) p q = stops_same files m m' n n' d e (length s.before) (length t.before) (stops_at files m m' d s) (stops_at files n n' e t) p q

  -- ---- a setup

  module _ (named : RunFiles) where
    abbrev principal_of : Setup → Principal
    principal_of s = record { keys = s.keys; programs = s.programs }

    has_script : (programs : List Program) (s : Script) → Holds (Some known) most_script_file named.script (λ bytes. SpellsScript programs bytes s) → Holds (Some known) most_script_file named.script (spells_script programs)
    has_script programs s (bytes, at, few, h) = (bytes, at, few, (s, h))

    one_setup : (a b : Setup) → HasSetup (Some known) named a → HasSetup (Some known) named b → a ≡ b
    one_setup a b h k =
        let same : principal_of a ≡ principal_of b = one_principal named.keys named.programs (principal_of a) (principal_of b) h.principal k.principal in
        let keys : a.keys ≡ b.keys = ap (λ (p : Principal). p.keys) same in
        let programs : a.programs ≡ b.programs = ap (λ (p : Principal). p.programs) same in
        let (bytes, s, t) = held_once known most_script_file most_script_file named.script (λ bytes. SpellsScript a.programs bytes a.script) (λ bytes. SpellsScript b.programs bytes b.script) h.script k.script in
        let script : a.script ≡ b.script = one_script b.programs bytes a.script b.script (subst (λ ps. SpellsScript ps bytes a.script) programs s) t in
        λ i. record { keys = keys i; programs = programs i; script = script i }

    setup_or_none : (a : Setup) (m m' : FileFaults) (e : Ending) → HasSetup (Some known) named a → LacksSetup (Some known) m m' named e → is_of_outside e ≡ false → ⊥
    setup_or_none a m m' e h (AtPrincipal lacks) p = principal_or_none named.keys named.programs (principal_of a) m m' e h.principal lacks p
    setup_or_none a m m' e h (AtScript {p = b} has ends) p =
        let same : b.programs ≡ a.programs = ap (λ (x : Principal). x.programs) (one_principal named.keys named.programs b (principal_of a) has h.principal) in
        holds_or_ends known most_script_file named.script (spells_script a.programs) (RefusesScript a.programs) (scripts_once a.programs) m m' e (has_script a.programs a.script h.script)
        (subst (λ ps. EndsAt (Some known) m m' most_script_file named.script (RefusesScript ps) e) same ends) p

    setup_cause : (m m' n n' : FileFaults) (d e : Ending) → LacksSetup (Some known) m m' named d → LacksSetup (Some known) n n' named e → is_of_outside d ≡ false → is_of_outside e ≡ false → asked d ≡ asked e
    setup_cause m m' n n' d e (AtPrincipal s) (AtPrincipal t) p q = principal_cause named.keys named.programs m m' n n' d e s t p q
    setup_cause m m' n n' d e (AtPrincipal s) (AtScript {p = b} has t) p q = absurd (principal_or_none named.keys named.programs b m m' d has s p)
    setup_cause m m' n n' d e (AtScript {p = a} has s) (AtPrincipal t) p q = absurd (principal_or_none named.keys named.programs a n n' e has t q)
    setup_cause m m' n n' d e (AtScript {p = a} h s) (AtScript {p = b} k t) p q =
        let same : b.programs ≡ a.programs = ap (λ (x : Principal). x.programs) (one_principal named.keys named.programs b a k h) in
        ends_once known most_script_file named.script (spells_script a.programs) (RefusesScript a.programs) (scripts_once a.programs) m m' n n' d e s
        (subst (λ ps. EndsAt (Some known) n n' most_script_file named.script (RefusesScript ps) e) same t) p q

pub principals_once : PrincipalsAreOne
principals_once files keys programs = record { one = one_principal files keys programs; apart = principal_or_none files keys programs; cause = principal_cause files keys programs }

pub setups_once : SetupsAreOne
setups_once files named = record { one = one_setup files named; apart = setup_or_none files named; cause = setup_cause files named }
