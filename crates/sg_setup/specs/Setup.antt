-- What a run is given: the files that its arguments name, and the keys, the programs and the script that they hold.
use Rattle.std.specs.Prelude.{◌≡◌, ◌≢◌, ℕ, ◌+◌, true, false, List, [], ◌∷◌, ◌++◌, length, Err, ⊤}
use Rattle.std.specs.List.{list_any}
use Rattle.sg_base.specs.Outside.{FileFaults}
use Rattle.sg_base.specs.declared.address.Addr.{Addr}
use Rattle.sg_model.specs.Limits.{most_program_file, most_script_file}
use Rattle.sg_protocol.specs.Keyring.{Keyring, Program}
use Rattle.sg_keys.specs.KeyFile.{SpellsKeys, key_file}
use Rattle.sg_keys.specs.declared.key_file.KeyFault.TheVariants.{OutOfMemory as NoMemoryForKeys}
use Rattle.sg_compile.specs.Compiled.{IsWhole}
use Rattle.sg_compile.specs.Loading.{IsLoadFault}
use Rattle.sg_compile.specs.Text.{program_text}
use Rattle.sg_program.specs.Together.{clashes}
use Rattle.sg_compile.specs.declared.loader.LoadFault.TheVariants as Load
use Rattle.sg_script.specs.Format.{SpellsScript, script_file}
use Rattle.sg_script.specs.Script.{Script}
use Rattle.sg_script.specs.declared.fault.ScriptFault.TheVariants.{OutOfMemory as NoMemoryForScripts}
use Rattle.sg_ending.specs.Ending.{Ending, KeysRefused, ScriptRefused, ProgramRefused, GraphRefused, NoMemory}
use Rattle.sg_ending.specs.Files.{KnownFiles, Holds, EndsAt}
use Rattle.sg_ending.specs.declared.ending.BadProgram.{BadProgram}
use Rattle.sg_ending.specs.declared.ending.BadProgram.TheVariants.{Malformed, NotTheTable, Twice}

-- the files that a run names
pub record RunFiles : Type 0 where
  pub keys : List ℕ
  pub programs : List (List ℕ)
  pub script : List ℕ

-- the keys and the programs of a principal
pub record Principal : Type 0 where
  pub keys : Keyring
  pub programs : List Program

-- what a run plays by
pub record Setup : Type 0 where
  pub keys : Keyring
  pub programs : List Program
  pub script : Script

-- the address at which the principal of these keys waits
abbrev pub waits_at : Keyring → Addr
waits_at keys = record { ip = keys.ip; port = keys.port }

-- ---- what the files hold

-- the bytes are the text of the program
abbrev pub IsTextOf : Program → List ℕ → Type 0
IsTextOf p bytes = IsWhole p × (program_text p ≡ bytes)

-- such a program was put after these, none of which has its graph's name with its role, or with another graph
pub record Adds (Such : Program → Type 0) (before after : List Program) : Type 0 where
  pub program : Program
  pub such : Such program
  pub alone : list_any (clashes program) before ≡ false
  pub is : after ≡ before ++ program ∷ []

-- the files hold these programs, in order, none of which is of another graph with the name of one before it, or of the same graph and role
pub data HoldPrograms (known : KnownFiles) : (files : List (List ℕ)) → List Program → Type 0 where
  NoPrograms : HoldPrograms known [] []
  OneMore : {files : List (List ℕ)} {programs : List Program} {file : List ℕ} {p : Program} → HoldPrograms known files programs
      → Holds known most_program_file file (IsTextOf p) → list_any (clashes p) programs ≡ false → HoldPrograms known (files ++ file ∷ []) (programs ++ p ∷ [])

-- the files hold the principal
pub record HasPrincipal (known : KnownFiles) (keys : List ℕ) (programs : List (List ℕ)) (p : Principal) : Type 0 where
  pub has_keys : Holds known most_script_file keys (λ bytes. SpellsKeys bytes p.keys)
  pub has_programs : HoldPrograms known programs p.programs

-- the files hold the setup
pub record HasSetup (known : KnownFiles) (named : RunFiles) (s : Setup) : Type 0 where
  pub principal : HasPrincipal known named.keys named.programs (record { keys = s.keys; programs = s.programs })
  pub script : Holds known most_script_file named.script (λ bytes. SpellsScript s.programs bytes s.script)

-- ---- what is refused

-- the bytes are no key file, as its first fault says, or memory ran out
abbrev pub RefusesKeys : List ℕ → Ending → Type 0
RefusesKeys bytes (KeysRefused fault) = (fault ≢ NoMemoryForKeys) × (key_file bytes ≡ Err fault)
RefusesKeys bytes NoMemory = ⊤
RefusesKeys bytes ending = ⊥

-- why bytes are not taken as a program beside those before it
abbrev pub IsBadProgram : List Program → List ℕ → BadProgram → Type 0
IsBadProgram before bytes (Malformed at) = IsLoadFault bytes (Load.Malformed at)
IsBadProgram before bytes (NotTheTable n) = IsLoadFault bytes (Load.NotTheTable n)
IsBadProgram before bytes Twice = (p : Program) × IsTextOf p bytes × (list_any (clashes p) before ≡ true)

-- the bytes are not taken as the program after these, which is named by its number, counted from 1, or by the fault of its graph; or memory ran out
abbrev pub RefusesProgram : List Program → List ℕ → Ending → Type 0
RefusesProgram before bytes (ProgramRefused n cause) = (n ≡ length before + 1) × IsBadProgram before bytes cause
RefusesProgram before bytes (GraphRefused g fault) = IsLoadFault bytes (Load.Graph g fault)
RefusesProgram before bytes NoMemory = ⊤
RefusesProgram before bytes ending = ⊥

-- the bytes are no script beside these programs, as its first fault says, or memory ran out
abbrev pub RefusesScript : List Program → List ℕ → Ending → Type 0
RefusesScript programs bytes (ScriptRefused fault) = (fault ≢ NoMemoryForScripts) × (script_file programs bytes ≡ Err fault)
RefusesScript programs bytes NoMemory = ⊤
RefusesScript programs bytes ending = ⊥

-- it ends at a program of these files, those before it being read and taken
pub record StopsAtProgram (known : KnownFiles) (faults faults' : FileFaults) (files : List (List ℕ)) (ending : Ending) : Type 0 where
  pub before : List (List ℕ)
  pub file : List ℕ
  pub behind : List (List ℕ)
  pub programs : List Program
  pub are : files ≡ before ++ file ∷ behind
  pub held : HoldPrograms known before programs
  pub ends : EndsAt known faults faults' most_program_file file (RefusesProgram programs) ending

-- there is no principal, by the first cause: the keys are looked at first, then the programs in order
pub data LacksPrincipal (known : KnownFiles) (faults faults' : FileFaults) (keys : List ℕ) (programs : List (List ℕ)) (ending : Ending) : Type 0 where
  AtKeys : EndsAt known faults faults' most_script_file keys RefusesKeys ending → LacksPrincipal known faults faults' keys programs ending
  AtProgram : {found : Keyring} → Holds known most_script_file keys (λ bytes. SpellsKeys bytes found) → StopsAtProgram known faults faults' programs ending
      → LacksPrincipal known faults faults' keys programs ending

-- there is no setup, by the first cause: the principal is looked at first, then the script
pub data LacksSetup (known : KnownFiles) (faults faults' : FileFaults) (named : RunFiles) (ending : Ending) : Type 0 where
  AtPrincipal : LacksPrincipal known faults faults' named.keys named.programs ending → LacksSetup known faults faults' named ending
  AtScript : {p : Principal} → HasPrincipal known named.keys named.programs p → EndsAt known faults faults' most_script_file named.script (RefusesScript p.programs) ending
      → LacksSetup known faults faults' named ending
