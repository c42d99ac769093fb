-- The command `claims` on a graph and claims always has an ending.
use Rattle.std.proofs.Common.{ℕ, ◌⊎◌, inl, inr, Bool, true, false, List, [], Some, refl}
use Rattle.sg_base.specs.Outside.{FileFaults}
use Rattle.sg_claims.specs.declared.claim.NamedClaim.{NamedClaim}
use Rattle.sg_claims_text.specs.Grammar.{SpellsClaims}
use Rattle.sg_claims_text.specs.Reading.{read}
use Rattle.sg_claims_text.proofs.TookClaims.{read-spells}
use Rattle.sg_compile.specs.Laws.{Surely}
use Rattle.sg_compile.proofs.Sure.{so, sure}
use Rattle.sg_model.specs.Limits.{most_graph_file}
use Rattle.sg_protocol.specs.Graph.{Graph}
use Rattle.sg_ending.specs.Ending.{Ending, Written, NoGraph, GraphRefused, ClaimsRefused, ClaimFails}
use Rattle.sg_ending.specs.Laws.{IsAsked, SomeEnding}
use Rattle.sg_ending.specs.Output.{Output}
use Rattle.sg_ending.proofs.SomeEnding.{compiled_or_refused, graph_or_none, holds_or_ends, ok_or_not, read_or_unread, text_written, with_text}
use Rattle.sg_design.specs.Claimed.{AreAnswered, NoClaims, IsAcceptedText, OnClaims, OnClaimsIn, RefusesGraph, most_claims_file}
use Rattle.sg_design.specs.Laws.{ClaimsEndAlways}
use Rattle.sg_design.proofs.Answered.{answers}
use Rattle.sg_design.proofs.NeverMemory.{claims_fault}

-- a graph that is accepted, or why there is none
graph_of : (bytes : List ℕ) → Surely (((g : Graph) × IsAcceptedText bytes g) ⊎ ((e : Ending) × IsAsked e × RefusesGraph bytes e))
graph_of bytes =
    elim (graph_or_none bytes) [
      | inr f ↦ sure (inr (NoGraph f.0, (refl, λ e. cc), f.1))
      | inl g ↦
          so (compiled_or_refused g.0 (g.1).is_graph (g.1).two_roles)
          (λ a. elim a [
            | inl w ↦ sure (inl (g.0, record { programs = w.0; spelled = g.1; compiled = w.1; few = w.2 }))
            | inr f ↦ sure (inr (GraphRefused g.0 f.0, (refl, λ e. cc), (g.1, f.1)))
          ])
    ]

-- claims of a graph are decided, or refused
decided : (g : Graph) (bytes : List ℕ) (old : Output) → SomeEnding (λ new e. OnClaimsIn g bytes old new e)
decided g bytes old =
    elim (ok_or_not (read g bytes)) [
      | inr f ↦ sure (old, ClaimsRefused f.0, (refl, λ e. cc), inl (refl, (claims_fault g bytes f.0 f.1, f.1)))
      | inl cs ↦ so (answers g cs.0 [] [] true NoClaims) (λ w. sure (by cs.0 (read-spells g bytes cs.0 cs.1) w.0 w.1 w.2))
    ]
  where
    by : (cs : List NamedClaim) → SpellsClaims g bytes cs → (text : List ℕ) (all : Bool) → AreAnswered g cs text all → (new : Output) × (e : Ending) × IsAsked e × OnClaimsIn g bytes old new e
    by cs s text true h = (with_text old text, Written, (refl, λ e. cc), inr (text, true, (cs, s, h), (text_written old text, refl)))
    by cs s text false h = (with_text old text, ClaimFails, (refl, λ e. cc), inr (text, false, (cs, s, h), (text_written old text, refl)))

-- ---- the two files

module _ (files : List (List ℕ × List ℕ)) (n : FileFaults) (old : Output) where
  on_claims : (claims : List ℕ) (g : Graph) → SomeEnding (λ new e. OnClaims g claims (Some files) n n old new e)
  on_claims claims g =
      elim (read_or_unread files most_claims_file claims n) [
        | inr u ↦ sure (old, u.0, u.1, inl (refl, u.2))
        | inl b ↦ so (decided g b.0 old) (λ a. sure (a.0, a.1, a.2, inr (b.0, b.1, b.2, (a.3, refl))))
      ]

pub claims_always : ClaimsEndAlways
claims_always files graph claims n old =
    so (holds_or_ends files most_graph_file graph n (λ bytes. (g : Graph) × IsAcceptedText bytes g) RefusesGraph graph_of)
    (λ a. elim a [
      | inr r ↦ sure (old, r.0, r.1, inl (refl, r.2))
      | inl h ↦
          (let g = (h.3).0 in
          so (on_claims files n old claims g) (λ b. sure (b.0, b.1, b.2, inr (g, (h.0, h.1, h.2, (h.3).1), b.3))))
    ])
