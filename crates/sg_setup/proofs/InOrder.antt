-- What files hold that are read one after another.
use Rattle.std.proofs.Common.{◌≡◌, ℕ, ◌+◌, ◌<◌, ◌≤◌, List, [], ◌∷◌, ◌++◌, Some, Result, Bor, map, take, drop, length, get_or, sym, ap, subst, ◌∙◌}
use Rattle.std.specs.Prelude.{IfErr, IfOk, OnOk}
use Rattle.std.proofs.lemmas.List.{drop_more, map_more, map-append, take-append-drop, take_all}
use Rattle.std.proofs.lemmas.Result.{IfErr-weaker, IfOk-weaker, on_ok_weaker}
use Rattle.sg_base.specs.Outside.{FileFaults}
use Rattle.sg_model.specs.Limits.{most_program_file, most_script_file}
use Rattle.sg_keys.specs.KeyFile.{SpellsKeys}
use Rattle.sg_protocol.specs.Keyring.{Keyring, Program}
use Rattle.sg_script.specs.Format.{SpellsScript}
use Rattle.sg_script.specs.Script.{Script}
use Rattle.sg_ending.specs.Ending.{Ending}
use Rattle.sg_ending.specs.Files.{KnownFiles, Has, EndsAt, Holds}
use Rattle.sg_setup.specs.Setup.{RunFiles, Principal, Adds, HasPrincipal, HasSetup, HoldPrograms, OneMore, IsTextOf, LacksPrincipal, AtProgram, LacksSetup, AtScript, RefusesProgram, RefusesScript, StopsAtProgram}
use Rattle.sg_ending.proofs.Files.{ends_later, holds, refuses}

-- what is done with the bytes of a file that was read
module _ {A E : Type 0} (r : Result A E) (known : KnownFiles) (most : ℕ) (file : List ℕ) {bytes read : List ℕ}
    (same : read ≡ bytes) (has : Has known file (Some bytes)) (few : length bytes ≤ most) where
  -- the file holds what its bytes are
  pub found : (Such : A → List ℕ → Type 0) → IfOk r (λ a. Such a read) → IfOk r (λ a. Holds known most file (Such a))
  found Such h = IfOk-weaker r (λ a. Such a read) (λ a. Holds known most file (Such a)) (λ a s. holds known most file bytes read (Such a) same has few s) h

  -- if they are refused, it ends at the file
  pub refused : (ending : E → Ending) (Refuses : List ℕ → Ending → Type 0) → {f0 f1 : FileFaults} → f1 ≡ f0
      → IfErr r (λ e. Refuses read (ending e)) → IfErr r (λ e. EndsAt known f0 f1 most file Refuses (ending e))
  refused ending Refuses {f0 = f0} {f1 = f1} none h =
      IfErr-weaker r (λ e. Refuses read (ending e)) (λ e. EndsAt known f0 f1 most file Refuses (ending e))
      (λ e s. refuses known f0 f1 most file bytes read Refuses (ending e) same has few none s) h

-- the names of files
abbrev pub names : Bor (List (Bor (List ℕ))) → List (List ℕ)
names files = map (λ (f : Bor (List ℕ)). f.now) files.now

-- the files before one, it, and those behind it
parts : {X : Type 0} (f : X → List ℕ) (names : List X) (i : ℕ) (d : X) → i < length names → map f names ≡ map f (take i names) ++ f (get_or names i d) ∷ map f (drop (i + 1) names)
parts f names i d l =
    ap (map f) (sym (take-append-drop i names)) ∙ map-append f (take i names) (drop i names)
    ∙ ap (λ ys. map f (take i names) ++ map f ys) (drop_more names i d l)

-- such a program that is of another kind too
pub adds_weaker : (S T : Program → Type 0) (before after : List Program) → ((p : Program) → S p → T p) → Adds S before after → Adds T before after
adds_weaker S T before after f a = record { program = a.program; such = f a.program a.such; alone = a.alone; is = a.is }

-- the program of a file is added, if its bytes were
pub adds_held : {E : Type 0} (r : Result (Unit {0}) E) (known : KnownFiles) (file bytes read : List ℕ) (before after : List Program) → read ≡ bytes → Has known file (Some bytes) → length bytes ≤ most_program_file
    → OnOk r (Adds (λ p. IsTextOf p read) before after) → OnOk r (Adds (λ p. Holds known most_program_file file (IsTextOf p)) before after)
adds_held r known file bytes read before after same has few h =
    on_ok_weaker r (adds_weaker (λ p. IsTextOf p read) (λ p. Holds known most_program_file file (IsTextOf p)) before after (λ p t. holds known most_program_file file bytes read (IsTextOf p) same has few t)) h

-- one more program
pub one_more : {X : Type 0} (f : X → List ℕ) (known known' : KnownFiles) (names : List X) (i : ℕ) (d : X) (before after : List Program) → i < length names
    → known' ≡ known → HoldPrograms known (map f (take i names)) before → Adds (λ p. Holds known' most_program_file (f (get_or names i d)) (IsTextOf p)) before after → HoldPrograms known (map f (take (i + 1) names)) after
one_more f known known' names i d before after l same held added =
    subst (λ files. HoldPrograms known files after) (sym (map_more f names i d l))
    (subst (HoldPrograms known (map f (take i names) ++ f (get_or names i d) ∷ [])) (sym added.is)
    (OneMore held (subst (λ t. Holds t most_program_file (f (get_or names i d)) (IsTextOf added.program)) same added.such) added.alone))

-- all of them
pub all_held : {X : Type 0} (f : X → List ℕ) (known : KnownFiles) (names : List X) (i : ℕ) (programs : List Program) → length names ≤ i → HoldPrograms known (map f (take i names)) programs → HoldPrograms known (map f names) programs
all_held f known names i programs l held = subst (λ ns. HoldPrograms known (map f ns) programs) (take_all i names l) held

-- it ends at a program
pub stops : {X : Type 0} (f : X → List ℕ) (known known' : KnownFiles) (f0 f1 f2 : FileFaults) (names : List X) (i : ℕ) (d : X) (programs : List Program) (e : Ending) → i < length names
    → known' ≡ known → f1 ≡ f0 → HoldPrograms known (map f (take i names)) programs → EndsAt known' f1 f2 most_program_file (f (get_or names i d)) (RefusesProgram programs) e → StopsAtProgram known f0 f2 (map f names) e
stops f known known' f0 f1 f2 names i d programs e l same none held h = record {
  before = map f (take i names);
  file = f (get_or names i d);
  behind = map f (drop (i + 1) names);
  programs = programs;
  are = parts f names i d l;
  held = held;
  ends = ends_later most_program_file (f (get_or names i d)) (RefusesProgram programs) known known' f0 f1 f2 e same none h;
}

-- it ends at a program of these files after others
stops_later : (known known' : KnownFiles) (f0 f1 f2 : FileFaults) (files : List (List ℕ)) (e : Ending) → known' ≡ known → f1 ≡ f0 → StopsAtProgram known' f1 f2 files e → StopsAtProgram known f0 f2 files e
stops_later known known' f0 f1 f2 files e same none h = record {
  before = h.before;
  file = h.file;
  behind = h.behind;
  programs = h.programs;
  are = h.are;
  held = subst (λ t. HoldPrograms t h.before h.programs) same h.held;
  ends = ends_later most_program_file h.file (RefusesProgram h.programs) known known' f0 f1 f2 e same none h.ends;
}

-- ---- a principal: the keys are read first, then the programs

module _ (file : List ℕ) (files : List (List ℕ)) (keys : Keyring) (known known1 : KnownFiles) (same1 : known1 ≡ known) (held : Holds known most_script_file file (λ bytes. SpellsKeys bytes keys)) where
  -- it ends at a program
  pub lacks_program : (f0 f1 f2 : FileFaults) (e : Ending) → f1 ≡ f0 → StopsAtProgram known1 f1 f2 files e → LacksPrincipal known f0 f2 file files e
  lacks_program f0 f1 f2 e none h = AtProgram held (stops_later known known1 f0 f1 f2 files e same1 none h)

  -- it is there
  pub has_principal : (programs : List Program) → HoldPrograms known1 files programs → HasPrincipal known file files (record { keys = keys; programs = programs })
  has_principal programs all = record { has_keys = held; has_programs = subst (λ t. HoldPrograms t files programs) same1 all }

-- ---- a setup: the principal is read first, then the script

module _ (named : RunFiles) (p : Principal) (known known1 : KnownFiles) (same1 : known1 ≡ known) (has : HasPrincipal known named.keys named.programs p) where
  -- it ends at the script
  pub lacks_script : (f0 f1 f2 : FileFaults) (e : Ending) → f1 ≡ f0 → EndsAt known1 f1 f2 most_script_file named.script (RefusesScript p.programs) e → LacksSetup known f0 f2 named e
  lacks_script f0 f1 f2 e none h = AtScript has (ends_later most_script_file named.script (RefusesScript p.programs) known known1 f0 f1 f2 e same1 none h)

  -- it is there
  pub has_setup : (script : Script) → Holds known1 most_script_file named.script (λ bytes. SpellsScript p.programs bytes script) → HasSetup known named (record { keys = p.keys; programs = p.programs; script = script })
  has_setup script h = record {
    principal = has;
    script = subst (λ t. Holds t most_script_file named.script (λ bytes. SpellsScript p.programs bytes script)) same1 h;
  }
