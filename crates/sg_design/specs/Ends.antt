-- What a command on one file of a graph leaves, and why it ends as it does.
use Rattle.std.specs.Prelude.{◌≡◌, ◌≢◌, ℕ, ◌<◌, ◌⊎◌, List, [], ◌∷◌, All, Ok, Err, length, IsTrue, ⊤}
use Rattle.sg_protocol.specs.Accepted.{Accepted}
use Rattle.sg_model.specs.Lists.{has_text}
use Rattle.sg_protocol.specs.Graph.{Graph, canonical, role_name}
use Rattle.sg_protocol.specs.IsSchedule.{AreCompiled}
use Rattle.sg_protocol.specs.Keyring.{Program}
use Rattle.sg_protocol.specs.Texts.{real}
use Rattle.sg_parse.specs.Grammar.{SpellsGraph}
use Rattle.sg_parse.specs.Parts.{Part}
use Rattle.sg_parse.specs.PartsGrammar.{SpellsParts}
use Rattle.sg_parse.specs.PartsReading.{read as parts_read}
use Rattle.sg_parse.specs.Reading.{read as parsed}
use Rattle.sg_compose.specs.Expansion.{expansion}
use Rattle.sg_compose.specs.Laws.{IsComposed}
use Rattle.sg_compile.specs.Compiled.{IsCompiled, IsRefused, IsWhole}
use Rattle.sg_compile.specs.Refused.{IsRefusal}
use Rattle.sg_compile.specs.Text.{program_text}
use Rattle.sg_compile.specs.declared.check.CompileFault.{CompileFault}
use Rattle.sg_compile.specs.declared.check.CompileFault.TheVariants.{OutOfMemory}
use Rattle.sg_ending.specs.Ending.{Ending, NoGraph, NoExpansion, GraphRefused, NoRole, NoMemory}
use Rattle.sg_ending.specs.Graphs.{IsFirstRefused}
use Rattle.sg_ending.specs.Output.{Output, Writes}
use Rattle.sg_design.specs.Accepted.{check_text}

-- ---- check

-- the text says of the graph that the bytes spell that it is accepted, and how many views each role has
pub record IsCheck (bytes text : List ℕ) : Type 0 where
  pub graph : Graph
  pub programs : List Program
  pub spelled : SpellsGraph bytes graph
  pub compiled : AreCompiled real (graph ∷ []) programs
  pub few : All IsWhole programs
  pub says : text ≡ check_text graph programs

-- a check of these bytes ends so: the graph that they spell is accepted and its text written; else nothing is written, and the bytes are refused at their first wrong token, or their graph at its first fault, or memory ran out
abbrev pub Checks : List ℕ → (old new : Output) → Ending → Type 0
Checks bytes old new NoMemory = new ≡ old
Checks bytes old new (NoGraph fault) = (new ≡ old) × (parsed bytes ≡ Err fault)
Checks bytes old new (GraphRefused g fault) = (new ≡ old) × SpellsGraph bytes g × IsFirstRefused (g ∷ []) g fault
Checks bytes old new ending = (text : List ℕ) × IsCheck bytes text × Writes old new text ending

-- ---- compile

-- the text is that of the program of the graph that the bytes spell for its role of this name
pub record IsCompilation (bytes name text : List ℕ) : Type 0 where
  pub graph : Graph
  pub role : ℕ
  pub program : Program
  pub spelled : SpellsGraph bytes graph
  pub named : role_name graph role ≡ name
  pub compiled : IsCompiled graph role program
  pub says : text ≡ program_text program

-- the graph isn't accepted, or it has this role, and too many views can reach it
abbrev pub IsRefusedFor : Graph → (name : List ℕ) → CompileFault → Type 0
IsRefusedFor g name fault = (fault ≢ OutOfMemory) × (IsRefusal g fault ⊎ ((r : ℕ) × (r < length g.roles) × (role_name g r ≡ name) × IsRefused g r fault))

-- a graph without a role of this name is refused: as a graph, or for the role if it is accepted; or memory ran out
abbrev pub RefusesRole : Graph → (name : List ℕ) → Ending → Type 0
RefusesRole g name (GraphRefused h fault) = (h ≡ g) × (fault ≢ OutOfMemory) × IsRefusal g fault
RefusesRole g name (NoRole role) = (role ≡ name) × Accepted g
RefusesRole g name NoMemory = ⊤
RefusesRole g name ending = ⊥

-- the bytes spell an accepted graph that has no role of this name
pub record LacksRole (bytes name : List ℕ) : Type 0 where
  pub graph : Graph
  pub spelled : SpellsGraph bytes graph
  pub accepted : Accepted graph
  pub lacks : IsTrue (has_text name graph.roles) → ⊥

-- a compilation of these bytes for this name ends so: the program's text is written; else nothing is written, and the bytes are refused at their first wrong token, or their graph at its first fault, or it has no such role, or memory ran out
abbrev pub Compiles : (name bytes : List ℕ) → (old new : Output) → Ending → Type 0
Compiles name bytes old new NoMemory = new ≡ old
Compiles name bytes old new (NoGraph fault) = (new ≡ old) × (parsed bytes ≡ Err fault)
Compiles name bytes old new (GraphRefused g fault) = (new ≡ old) × SpellsGraph bytes g × IsRefusedFor g name fault
Compiles name bytes old new (NoRole role) = (new ≡ old) × (role ≡ name) × LacksRole bytes name
Compiles name bytes old new ending = (text : List ℕ) × IsCompilation bytes name text × Writes old new text ending

-- ---- compose

-- the text is the canonical text of the expansion of the parts that the bytes spell, which is accepted and whose walks are those that the parts allow
pub record IsComposition (bytes text : List ℕ) : Type 0 where
  pub parts : List Part
  pub graph : Graph
  pub programs : List Program
  pub spelled : SpellsParts bytes parts
  pub expanded : expansion parts ≡ Ok graph
  pub keeps : IsComposed parts graph
  pub compiled : AreCompiled real (graph ∷ []) programs
  pub few : All IsWhole programs
  pub says : text ≡ canonical graph

-- a composition of these bytes ends so: the text of the expansion is written; else nothing is written, and the bytes are refused at their first wrong token, or the parts at the first use that can't be expanded, or the expansion at its first fault, or memory ran out
abbrev pub Composes : List ℕ → (old new : Output) → Ending → Type 0
Composes bytes old new NoMemory = new ≡ old
Composes bytes old new (NoGraph fault) = (new ≡ old) × (parts_read bytes ≡ Err fault)
Composes bytes old new (NoExpansion fault) = (new ≡ old) × ((ps : List Part) × SpellsParts bytes ps × (expansion ps ≡ Err fault))
Composes bytes old new (GraphRefused g fault) = (new ≡ old) × ((ps : List Part) × SpellsParts bytes ps × (expansion ps ≡ Ok g) × IsFirstRefused (g ∷ []) g fault)
Composes bytes old new ending = (text : List ℕ) × IsComposition bytes text × Writes old new text ending
