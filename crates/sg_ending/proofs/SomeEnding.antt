-- An ending applies, whatever files hold: what every command needs.
use Rattle.std.proofs.Common.{◌≡◌, ◌≢◌, ℕ, zero, suc, ◌+◌, ◌<◌, ◌≤◌, ◌⊎◌, inl, inr, List, [], ◌∷◌, ◌++◌, length, Option, Some, None, Result, Ok, Err, All, slice_get, refl, sym, ap, ◌∙◌, subst, arith}
use Rattle.std.specs.Option.{option_map}
use Rattle.std.specs.Prelude.{IsSomeAnd}
use Rattle.std.proofs.lemmas.Bool.{cases_lt}
use Rattle.sg_base.specs.Outside.{FileFaults, file_at}
use Rattle.sg_parse.specs.Grammar.{SpellsGraph}
use Rattle.sg_parse.specs.Reading.{read as parsed}
use Rattle.sg_parse.specs.declared.fault.ParseFault.{ParseFault}
use Rattle.sg_parse.proofs.TookGraph.{read-spells}
use Rattle.sg_compile.specs.All.{IsAllFault}
use Rattle.sg_compile.specs.Compiled.{IsWhole}
use Rattle.sg_compile.specs.Laws.{Surely}
use Rattle.sg_compile.specs.declared.all.AllFault.TheVariants.{Refused}
use Rattle.sg_compile.specs.declared.check.CompileFault.{CompileFault}
use Rattle.sg_compile.proofs.Sure.{so, sure}
use Rattle.sg_compile.proofs.Whole.{all_or_one_refused}
use Rattle.sg_protocol.specs.Graph.{Graph, IsGraph}
use Rattle.sg_protocol.specs.IsSchedule.{AreCompiled}
use Rattle.sg_protocol.specs.Keyring.{Program}
use Rattle.sg_protocol.specs.Texts.{real}
use Rattle.sg_ending.specs.Ending.{Ending, Written, NoSuchFile, TooLarge}
use Rattle.sg_ending.specs.Files.{EndsAt, Has, Holds, IsUnread}
use Rattle.sg_ending.specs.Graphs.{IsFirstRefused}
use Rattle.sg_ending.specs.Laws.{EndsAlways, IsAsked, SomeEnding}
use Rattle.sg_ending.specs.Output.{Output, Writes}

-- ---- results

pub ok_or_not : {A B : Type 0} (r : Result A B) → ((x : A) × (r ≡ Ok x)) ⊎ ((y : B) × (r ≡ Err y))
ok_or_not (Ok x) = inl (x, refl)
ok_or_not (Err y) = inr (y, refl)

-- ---- what is written

-- the text is written
abbrev pub with_text : Output → List ℕ → Output
with_text o text = record { bytes = option_map (λ bytes. bytes ++ text) o.bytes; faults = o.faults }

pub text_written : (o : Output) (text : List ℕ) → Writes o (with_text o text) text Written
text_written o text = ((λ before is. ap (option_map (λ bytes. bytes ++ text)) is), refl)

-- ---- files

module _ (files : List (List ℕ × List ℕ)) (most : ℕ) (file : List ℕ) (n : FileFaults) where
  has : (found : Option (List ℕ)) → file_at files file ≡ found → Has (Some files) file found
  has found is others same = (let one : files ≡ others = cc in subst (λ fs. file_at fs file ≡ found) one is)

  -- a file is read, or it is missing or too long
  pub read_or_unread : ((bytes : List ℕ) × Has (Some files) file (Some bytes) × (length bytes ≤ most)) ⊎ ((e : Ending) × IsAsked e × IsUnread most file (Some files) n n e)
  read_or_unread = by (file_at files file) refl
    where
      by : (found : Option (List ℕ)) → file_at files file ≡ found
          → ((bytes : List ℕ) × Has (Some files) file (Some bytes) × (length bytes ≤ most)) ⊎ ((e : Ending) × IsAsked e × IsUnread most file (Some files) n n e)
      by None is = inr (NoSuchFile file, (refl, λ e. cc), (refl, has None is, refl))
      by (Some bytes) is =
          elim (cases_lt most (length bytes)) [
            | inl l ↦ inr (TooLarge file, (refl, λ e. cc), (refl, λ others same. subst (λ o. IsSomeAnd o (λ (b : List ℕ). most < length b)) (sym (has (Some bytes) is others same)) l, refl))
            | inr m ↦ inl (bytes, has (Some bytes) is, omega (arith, m))
          ]

  -- a file holds what it is to hold, or it ends there
  pub holds_or_ends : (Such : List ℕ → Type 0) (Refuses : List ℕ → Ending → Type 0) → ((bytes : List ℕ) → Surely (Such bytes ⊎ ((e : Ending) × IsAsked e × Refuses bytes e)))
      → Surely (Holds (Some files) most file Such ⊎ ((e : Ending) × IsAsked e × EndsAt (Some files) n n most file Refuses e))
  holds_or_ends Such Refuses each =
      elim read_or_unread [
        | inr u ↦ sure (inr (u.0, u.1, inl u.2))
        | inl b ↦
            so (each b.0)
            (λ a. elim a [
              | inl such ↦ sure (inl (b.0, b.1, b.2, such))
              | inr r ↦ sure (inr (r.0, r.1, inr (b.0, b.1, b.2, (r.2, refl))))
            ])
      ]

pub always : (Does : List ℕ → (old new : Output) → Ending → Type 0) (most : ℕ) → ((bytes : List ℕ) (old : Output) → SomeEnding (λ new e. Does bytes old new e)) → EndsAlways Does most
always Does most each files file n old =
    elim (read_or_unread files most file n) [
      | inr u ↦ sure (old, u.0, u.1, inr (refl, u.2))
      | inl b ↦ so (each b.0 old) (λ a. sure (a.0, a.1, a.2, inl (b.0, b.1, b.2, (a.3, refl))))
    ]

-- ---- graphs

-- bytes spell a graph, or have a first wrong token
pub graph_or_none : (bytes : List ℕ) → ((g : Graph) × SpellsGraph bytes g) ⊎ ((f : ParseFault) × (parsed bytes ≡ Err f))
graph_or_none bytes = elim (ok_or_not (parsed bytes)) [ inl g ↦ inl (g.0, read-spells bytes g.0 g.1) | inr f ↦ inr f ]

-- the only graph is the first that is refused
first_refused : (g : Graph) (index : ℕ) (f : CompileFault) → IsAllFault (g ∷ []) (Refused index f) → IsFirstRefused (g ∷ []) g f
first_refused g zero f h = (0, refl, h)
first_refused g (suc index) f (k, at, stopped) = absurd (cc)

-- a graph has programs for all its roles, or it is refused
pub compiled_or_refused : (g : Graph) → IsGraph g → 2 ≤ length g.roles → Surely (((ps : List Program) × AreCompiled real (g ∷ []) ps × All IsWhole ps) ⊎ ((f : CompileFault) × IsFirstRefused (g ∷ []) g f))
compiled_or_refused g is two =
    so (all_or_one_refused (g ∷ []) one)
    (λ a. elim a [
      | inl w ↦ sure (inl w)
      | inr f ↦ sure (inr (f.1, first_refused g f.0 f.1 f.2))
    ])
  where
    one : All (λ (h : Graph). IsGraph h × (2 ≤ length h.roles)) (g ∷ [])
    one zero d l = (is, two)
    one (suc k) d l = absurd (omega (arith, l))
