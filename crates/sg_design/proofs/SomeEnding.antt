-- A command on one file of a graph always has an ending.
use Rattle.std.proofs.Common.{◌≡◌, ℕ, zero, suc, ◌+◌, ◌<◌, if◌then◌else◌, inl, inr, Bool, true, false, List, [], ◌∷◌, ◌++◌, length, get_or, Option, Some, None, Err, refl, sym, subst, arith, add-one}
use Rattle.std.specs.Prelude.{IsTrue, ◌↔◌, bytes_eq}
use Rattle.std.specs.Fmt.{decimal}
use Rattle.std.proofs.lemmas.Bool.{cases_Bool}
use Rattle.std.proofs.lemmas.Slice.Eq.{bytes_eq-Decides}
use Rattle.sg_claims.specs.Dominators.{IsNearest, IsNearestOf}
use Rattle.sg_claims.specs.Suggestions.{AreFor, AreSuggested, Adds, bars_itself, can_be_named, itself, needs_nearest}
use Rattle.sg_claims.specs.declared.claim.NamedClaim.{NamedClaim}
use Rattle.sg_claims.proofs.Suggesting.{adds_none, adds_on, adds_one, are_for, suggests_next, suggests_none}
use Rattle.sg_claims_text.specs.Written.{written}
use Rattle.sg_claims_text.proofs.Suggested.{suggestion-spells}
use Rattle.sg_compile.specs.Laws.{Surely}
use Rattle.sg_compile.specs.declared.check.CompileFault.{CompileFault}
use Rattle.sg_compile.specs.Text.{program_text}
use Rattle.sg_compile.proofs.Decided.{accepted_or_refused}
use Rattle.sg_compile.proofs.Sure.{or_not, so, sure}
use Rattle.sg_compile.proofs.Whole.{role_or_refused}
use Rattle.sg_model.specs.Claims.{Claim, HoldsOnWalks}
use Rattle.sg_model.specs.Limits.{most_graph_file}
use Rattle.sg_model.specs.Lists.{has_text}
use Rattle.sg_parse.specs.Grammar.{SpellsGraph}
use Rattle.sg_parse.specs.Reading.{read as parsed}
use Rattle.sg_parse.specs.declared.fault.ParseFault.{ParseFault}
use Rattle.sg_protocol.specs.Graph.{Graph, IsGraph, shape}
use Rattle.sg_ending.specs.Ending.{Ending, Written, NoGraph, GraphRefused, NoRole}
use Rattle.sg_ending.specs.Graphs.{IsFirstRefused}
use Rattle.sg_ending.specs.Laws.{EndsAlways, SomeEnding}
use Rattle.sg_ending.specs.Output.{Output}
use Rattle.sg_ending.proofs.SomeEnding.{always, compiled_or_refused, graph_or_none, text_written, with_text}
use Rattle.sg_design.specs.Accepted.{check_text}
use Rattle.sg_design.specs.Claimed.{IsAcceptedText, IsSuggestion, Suggests}
use Rattle.sg_design.specs.Ends.{Checks, Compiles}

-- ---- graphs

-- a command on a graph may end if it may on an accepted one: else the bytes are refused at their first wrong token, or their graph at its first fault
graph_some : (Does : List ℕ → (old new : Output) → Ending → Type 0) (bytes : List ℕ) (old : Output)
    → ((f : ParseFault) → parsed bytes ≡ Err f → Does bytes old old (NoGraph f))
    → ((g : Graph) (f : CompileFault) → SpellsGraph bytes g → IsFirstRefused (g ∷ []) g f → Does bytes old old (GraphRefused g f))
    → ((g : Graph) → IsAcceptedText bytes g → SomeEnding (λ new e. Does bytes old new e))
    → SomeEnding (λ new e. Does bytes old new e)
graph_some Does bytes old none refused accepted =
    elim (graph_or_none bytes) [
      | inr f ↦ sure (old, NoGraph f.0, (refl, λ e. cc), none f.0 f.1)
      | inl g ↦
          so (compiled_or_refused g.0 (g.1).is_graph (g.1).two_roles)
          (λ a. elim a [
            | inl w ↦ accepted g.0 (record { programs = w.0; spelled = g.1; compiled = w.1; few = w.2 })
            | inr f ↦ sure (old, GraphRefused g.0 f.0, (refl, λ e. cc), refused g.0 f.0 g.1 f.1)
          ])
    ]

-- ---- check

check_some : (bytes : List ℕ) (old : Output) → SomeEnding (λ new e. Checks bytes old new e)
check_some bytes old =
    graph_some Checks bytes old (λ f h. (refl, h)) (λ g f spelled first. (refl, spelled, first))
    (λ g a.
    (let text : List ℕ = check_text g a.programs in
    sure (
      with_text old text,
      Written,
      (refl, λ e. cc),
      (text, record { graph = g; programs = a.programs; spelled = a.spelled; compiled = a.compiled; few = a.few; says = refl }, text_written old text),
    )))

pub check_always : EndsAlways Checks most_graph_file
check_always = always Checks most_graph_file check_some

-- ---- compile

-- the role of a name, if a graph has it
named : (name : List ℕ) (names : List (List ℕ)) → has_text name names ≡ true → (r : ℕ) × (r < length names) × (get_or names r [] ≡ name)
named name [] h = absurd (cc)
named name (n ∷ names) h =
    elim (cases_Bool (bytes_eq name n)) [
      | inl y ↦ (0, omega arith, sym ((bytes_eq-Decides name n).0 y))
      | inr z ↦ (let more = named name names (rw z at h) in (suc more.0, (let l = more.1 in omega (arith, l)), more.2))
    ]

module _ (name bytes : List ℕ) (old : Output) (g : Graph) (spelled : SpellsGraph bytes g) where
  compile_role : has_text name g.roles ≡ true → SomeEnding (λ new e. Compiles name bytes old new e)
  compile_role there =
      let r = named name g.roles there in
      so (role_or_refused g r.0 spelled.is_graph spelled.two_roles r.1)
      (λ a. elim a [
        | inl p ↦
            (let text : List ℕ = program_text p.0 in
            sure (
              with_text old text,
              Written,
              (refl, λ e. cc),
              (text, record { graph = g; role = r.0; program = p.0; spelled = spelled; named = r.2; compiled = p.1; says = refl }, text_written old text),
            ))
        | inr f ↦ sure (old, GraphRefused g f.0, (refl, λ e. cc), (refl, spelled, (f.2, inr (r.0, r.1, r.2, f.1))))
      ])

  compile_none : has_text name g.roles ≡ false → SomeEnding (λ new e. Compiles name bytes old new e)
  compile_none lacks =
      so (accepted_or_refused g spelled.two_roles)
      (λ a. elim a [
        | inl accepted ↦
            sure (old, NoRole name, (refl, λ e. cc), (refl, refl, record { graph = g; spelled = spelled; accepted = accepted; lacks = λ has. cc }))
        | inr f ↦ sure (old, GraphRefused g f.0, (refl, λ e. cc), (refl, spelled, (f.2, inl f.1)))
      ])

compile_some : (name bytes : List ℕ) (old : Output) → SomeEnding (λ new e. Compiles name bytes old new e)
compile_some name bytes old =
    elim (graph_or_none bytes) [
      | inr f ↦ sure (old, NoGraph f.0, (refl, λ e. cc), (refl, f.1))
      | inl g ↦
          elim (cases_Bool (has_text name (g.0).roles)) [
            | inl there ↦ compile_role name bytes old g.0 g.1 there
            | inr lacks ↦ compile_none name bytes old g.0 g.1 lacks
          ]
    ]

pub compile_always : (name : List ℕ) → EndsAlways (Compiles name) most_graph_file
compile_always name = always (Compiles name) most_graph_file (compile_some name)

-- ---- claims that are suggested

module _ (g : Graph) where
  nearest : (a : ℕ) → Surely ((near : Option ℕ) × IsNearestOf (shape g) a near)
  nearest a =
      so (or_not ((b : ℕ) × IsNearest (shape g) a b))
      (λ x. elim x [ inl b ↦ sure (Some b.0, b.1) | inr none ↦ sure (None, λ b is. none (b, is)) ])

  bars : (a : ℕ) → Surely ((once : Bool) × (IsTrue once ↔ HoldsOnWalks (shape g) (bars_itself a)))
  bars a =
      so (or_not (HoldsOnWalks (shape g) (bars_itself a)))
      (λ x. elim x [ inl holds ↦ sure (true, ((λ t. holds), (λ h. refl))) | inr other ↦ sure (false, ((λ t. absurd (cc)), (λ h. absurd (other h)))) ])

  for_label : (a : ℕ) → Surely ((claims : List Claim) × AreFor g a claims)
  for_label a =
      so (nearest a)
      (λ near. so (bars a)
      (λ once. sure ((if can_be_named g a then needs_nearest g a near.0 ++ itself a once.0 else []), are_for g a (can_be_named g a) near.0 once.0 near.1 once.1 refl)))

  -- the claims are added, each under the next name
  add_all : (claims : List Claim) (old : List NamedClaim) → (new : List NamedClaim) × Adds old new claims
  add_all [] old = (old, adds_none old)
  add_all (c ∷ cs) old =
      let first : NamedClaim = record { name = 99 ∷ decimal (length old + 1); claim = c } in
      let more = add_all cs (old ++ first ∷ []) in
      (more.0, adds_on old (old ++ first ∷ []) more.0 (c ∷ []) cs (adds_one old (old ++ first ∷ []) first refl refl) more.1)

  suggested : (k : ℕ) → Surely ((named : List NamedClaim) × AreSuggested g k named)
  suggested zero = sure ([], suggests_none g [] refl)
  suggested (suc k) =
      so (suggested k)
      (λ x. so (for_label k)
      (λ y. (let more = add_all y.0 x.0 in sure (more.0, subst (λ n. AreSuggested g n more.0) (add-one k) (suggests_next g k x.0 more.0 y.0 x.1 more.1 y.1)))))

  suggestion : IsGraph g → Surely ((text : List ℕ) × IsSuggestion g text)
  suggestion is =
      so (suggested (length g.edges))
      (λ x. sure (written g x.0, record { claims = x.0; suggested = x.1; says = refl; spelled = suggestion-spells g x.0 is x.1 }))

suggest_some : (bytes : List ℕ) (old : Output) → SomeEnding (λ new e. Suggests bytes old new e)
suggest_some bytes old =
    graph_some Suggests bytes old (λ f h. (refl, h)) (λ g f spelled first. (refl, spelled, first))
    (λ g a. so (suggestion g (a.spelled).is_graph)
    (λ text. sure (
      with_text old text.0,
      Written,
      (refl, λ e. cc),
      (text.0, record { graph = g; accepted = a; suggestion = text.1 }, text_written old text.0),
    )))

pub suggest_always : EndsAlways Suggests most_graph_file
suggest_always = always Suggests most_graph_file suggest_some
