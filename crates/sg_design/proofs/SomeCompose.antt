-- The command `compose` always has an ending.
use Rattle.std.proofs.Common.{◌≡◌, ℕ, inl, inr, List, Ok, refl}
use Rattle.sg_compile.proofs.Sure.{so, sure}
use Rattle.sg_compose.specs.Expansion.{expansion}
use Rattle.sg_compose.proofs.Keeps.{composed, two_roles}
use Rattle.sg_model.specs.Limits.{most_graph_file}
use Rattle.sg_parse.specs.Parts.{Part}
use Rattle.sg_parse.specs.PartsGrammar.{SpellsParts}
use Rattle.sg_parse.specs.PartsReading.{read}
use Rattle.sg_parse.proofs.TookParts.{read-spells}
use Rattle.sg_protocol.specs.Graph.{Graph, canonical}
use Rattle.sg_ending.specs.Ending.{Written, NoGraph, NoExpansion, GraphRefused}
use Rattle.sg_ending.specs.Laws.{EndsAlways, SomeEnding}
use Rattle.sg_ending.specs.Output.{Output}
use Rattle.sg_ending.proofs.SomeEnding.{always, compiled_or_refused, ok_or_not, text_written, with_text}
use Rattle.sg_design.specs.Ends.{Composes}
use Rattle.sg_design.proofs.Expanded.{expansion-graph}

module _ (bytes : List ℕ) (old : Output) (ps : List Part) (spelled : SpellsParts bytes ps) where
  -- the expansion of parts is accepted or refused
  expansion_some : (g : Graph) → expansion ps ≡ Ok g → SomeEnding (λ new e. Composes bytes old new e)
  expansion_some g e =
      so (compiled_or_refused g (expansion-graph ps g spelled.parts e) (two_roles ps g spelled.parts e))
      (λ a. elim a [
        | inl w ↦
            (let text : List ℕ = canonical g in
            sure (
              with_text old text,
              Written,
              (refl, λ e. cc),
              (text, record { parts = ps; graph = g; programs = w.0; spelled = spelled; expanded = e; keeps = composed ps g spelled.parts e; compiled = w.1; few = w.2; says = refl }, text_written old text),
            ))
        | inr f ↦ sure (old, GraphRefused g f.0, (refl, λ e. cc), (refl, (ps, spelled, e, f.1)))
      ])

  -- parts have an expansion, or a first use that can't be expanded
  parts_some : SomeEnding (λ new e. Composes bytes old new e)
  parts_some = elim (ok_or_not (expansion ps)) [
    | inr f ↦ sure (old, NoExpansion f.0, (refl, λ e. cc), (refl, (ps, spelled, f.1)))
    | inl g ↦ expansion_some g.0 g.1
  ]

-- bytes spell parts, or have a first wrong token
compose_some : (bytes : List ℕ) (old : Output) → SomeEnding (λ new e. Composes bytes old new e)
compose_some bytes old =
    elim (ok_or_not (read bytes)) [
      | inr f ↦ sure (old, NoGraph f.0, (refl, λ e. cc), (refl, f.1))
      | inl ps ↦ parts_some bytes old ps.0 (read-spells bytes ps.0 ps.1)
    ]

pub compose_always : EndsAlways Composes most_graph_file
compose_always = always Composes most_graph_file compose_some
