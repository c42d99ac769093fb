-- What is written of claims of a graph, which claims are suggested, and how the program ends by it.
use Rattle.std.specs.Prelude.{◌≡◌, ◌≢◌, ℕ, ◌⊎◌, Bool, true, ◌&&◌, if◌then◌else◌, List, [], ◌∷◌, ◌++◌, All, Err, Option, Some, None, is_none, codes, length, ⊤}
use Rattle.sg_base.specs.Outside.{FileFaults}
use Rattle.sg_claims.specs.Breaks.{IsFirstBreak}
use Rattle.sg_claims.specs.Suggestions.{AreSuggested}
use Rattle.sg_claims.specs.declared.claim.NamedClaim.{NamedClaim}
use Rattle.sg_claims.specs.declared.decision.Answer.{Answer}
use Rattle.sg_claims.specs.declared.decision.Answer.TheVariants.{Holds as HoldsOfAll, Fails}
use Rattle.sg_claims_text.specs.Grammar.{SpellsClaims}
use Rattle.sg_claims_text.specs.Reading.{read}
use Rattle.sg_claims_text.specs.Written.{written}
use Rattle.sg_claims_text.specs.declared.fault.ClaimsFault.TheVariants.{Text}
use Rattle.sg_graph.specs.NamesOfGraph.{walk_text}
use Rattle.sg_model.specs.Claims.{HoldsOnWalks}
use Rattle.sg_model.specs.Limits.{most_graph_file}
use Rattle.sg_parse.specs.Grammar.{SpellsGraph}
use Rattle.sg_parse.specs.Reading.{read as parsed}
use Rattle.sg_parse.specs.declared.fault.ParseFault.TheVariants.{OutOfMemory}
use Rattle.sg_protocol.specs.Graph.{Graph, shape}
use Rattle.sg_protocol.specs.IsSchedule.{AreCompiled}
use Rattle.sg_protocol.specs.Keyring.{Program}
use Rattle.sg_protocol.specs.Texts.{real}
use Rattle.sg_compile.specs.Compiled.{IsWhole}
use Rattle.sg_ending.specs.Ending.{Ending, Written, NoGraph, GraphRefused, ClaimsRefused, ClaimFails, WriteFailed, NoMemory}
use Rattle.sg_ending.specs.Files.{KnownFiles, IsUnread, Holds, EndsAt}
use Rattle.sg_ending.specs.Graphs.{IsFirstRefused}
use Rattle.sg_ending.specs.Output.{Output, Writes}

-- a file of claims has at most 1 MiB
abbrev pub most_claims_file : ℕ
most_claims_file = 1048576

-- ---- answers

-- what there is against a claim: the first walk that breaks it, or nothing, and the claim holds of the graph
abbrev pub IsAgainst : Graph → NamedClaim → Option (List ℕ) → Type 0
IsAgainst g c None = HoldsOnWalks (shape g) c.claim
IsAgainst g c (Some walk) = IsFirstBreak (shape g) c.claim walk

-- the line of a claim: that it holds, or the labels of a walk that breaks it
abbrev pub answer_line : Graph → NamedClaim → Option (List ℕ) → List ℕ
answer_line g c None = codes "claim " ++ c.name ++ codes " holds\n"
answer_line g c (Some walk) = codes "claim " ++ c.name ++ codes " fails:" ++ walk_text g walk ++ 10 ∷ []

-- the text is the lines of true answers to these claims, in their order, and this is whether all of them hold
pub data AreAnswered (g : Graph) : List NamedClaim → List ℕ → Bool → Type 0 where
  NoClaims : AreAnswered g [] [] true
  OneMore : {cs : List NamedClaim} {text : List ℕ} {all : Bool} (c : NamedClaim) (against : Option (List ℕ)) → AreAnswered g cs text all → IsAgainst g c against
      → AreAnswered g (cs ++ c ∷ []) (text ++ answer_line g c against) (all && is_none against)

-- the walk of an answer
abbrev pub walk_in : Answer → Option (List ℕ)
walk_in HoldsOfAll = None
walk_in (Fails walk) = Some walk.items

-- ---- graphs that are accepted

-- the bytes spell the graph, and it is accepted for each of its roles
pub record IsAcceptedText (bytes : List ℕ) (g : Graph) : Type 0 where
  pub programs : List Program
  pub spelled : SpellsGraph bytes g
  pub compiled : AreCompiled real (g ∷ []) programs
  pub few : All IsWhole programs

-- the bytes are no graph, or the one that they spell is refused, by its first fault; or memory ran out
abbrev pub RefusesGraph : List ℕ → Ending → Type 0
RefusesGraph bytes (NoGraph fault) = parsed bytes ≡ Err fault
RefusesGraph bytes (GraphRefused g fault) = SpellsGraph bytes g × IsFirstRefused (g ∷ []) g fault
RefusesGraph bytes NoMemory = ⊤
RefusesGraph bytes ending = ⊥

-- ---- claims that are suggested

-- the text is that of the claims that are suggested for the graph, and spells them
pub record IsSuggestion (g : Graph) (text : List ℕ) : Type 0 where
  pub claims : List NamedClaim
  pub suggested : AreSuggested g (length g.edges) claims
  pub says : text ≡ written g claims
  pub spelled : SpellsClaims g text claims

-- the bytes spell a graph that is accepted, and the text is the suggestion for it
pub record IsSuggestionFor (bytes text : List ℕ) : Type 0 where
  pub graph : Graph
  pub accepted : IsAcceptedText bytes graph
  pub suggestion : IsSuggestion graph text

-- claims are suggested for these bytes so: the text of the claims is written; else nothing is written, and the bytes are refused at their first wrong token, or their graph at its first fault, or memory ran out
abbrev pub Suggests : List ℕ → (old new : Output) → Ending → Type 0
Suggests bytes old new NoMemory = new ≡ old
Suggests bytes old new (NoGraph fault) = (new ≡ old) × (parsed bytes ≡ Err fault)
Suggests bytes old new (GraphRefused g fault) = (new ≡ old) × SpellsGraph bytes g × IsFirstRefused (g ∷ []) g fault
Suggests bytes old new ending = (text : List ℕ) × IsSuggestionFor bytes text × Writes old new text ending

-- ---- claims that are decided

-- the bytes are no claims of the graph, as their first fault says, or memory ran out
abbrev pub RefusesClaims : Graph → List ℕ → Ending → Type 0
RefusesClaims g bytes (ClaimsRefused fault) = (fault ≢ Text OutOfMemory) × (read g bytes ≡ Err fault)
RefusesClaims g bytes NoMemory = ⊤
RefusesClaims g bytes ending = ⊥

-- the bytes spell claims of the graph, whose answers are the text, and this is whether all of them hold
abbrev pub IsDecision : Graph → (bytes text : List ℕ) → Bool → Type 0
IsDecision g bytes text all = (cs : List NamedClaim) × SpellsClaims g bytes cs × AreAnswered g cs text all

-- the text is written whole, and the program ends by whether all claims hold; or a prefix of it is written, and a write failed
abbrev pub WritesAnswers : (old new : Output) → List ℕ → (all : Bool) → Ending → Type 0
WritesAnswers old new text all WriteFailed = Writes old new text WriteFailed
WritesAnswers old new text all ending = Writes old new text Written × (ending ≡ (if all then Written else ClaimFails))

-- the claims in these bytes are decided, and the answers written; or memory ran out and nothing is written
abbrev pub Decides : Graph → List ℕ → (old new : Output) → Ending → Type 0
Decides g bytes old new NoMemory = new ≡ old
Decides g bytes old new ending = (text : List ℕ) × (all : Bool) × IsDecision g bytes text all × WritesAnswers old new text all ending

-- what is done with the claims of an accepted graph in these bytes: they are refused, and nothing is written, or they are decided
abbrev pub OnClaimsIn : Graph → List ℕ → (old new : Output) → Ending → Type 0
OnClaimsIn g bytes old new ending = ((new ≡ old) × RefusesClaims g bytes ending) ⊎ Decides g bytes old new ending

-- the same of a file, which is not read, and nothing is written, or holds such bytes
abbrev pub OnClaims : Graph → (claims : List ℕ) → KnownFiles → (faults faults' : FileFaults) → (old new : Output) → Ending → Type 0
OnClaims g claims known faults faults' old new ending =
    ((new ≡ old) × IsUnread most_claims_file claims known faults faults' ending)
    ⊎ Holds known most_claims_file claims (λ bytes. OnClaimsIn g bytes old new ending × (faults' ≡ faults))

-- the claims of a file are decided on the graph of another so: the graph is read and checked first, and if it is refused nothing is written
abbrev pub DecidesClaims : (graph claims : List ℕ) → KnownFiles → (faults faults' : FileFaults) → (old new : Output) → Ending → Type 0
DecidesClaims graph claims known faults faults' old new ending =
    ((new ≡ old) × EndsAt known faults faults' most_graph_file graph RefusesGraph ending)
    ⊎ ((g : Graph) × Holds known most_graph_file graph (λ bytes. IsAcceptedText bytes g) × OnClaims g claims known faults faults' old new ending)
