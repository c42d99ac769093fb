use Rattle.std.proofs.Common.{◌≡◌, ◌∷◌, ◌++◌, [], ℕ, Option, Some, None, false, map, Vec, Global, refl, sym, ap, subst, ◌∙◌}
use Rattle.std.specs.Option.{is_some}
use Rattle.std.specs.Map.{lookup}
use Rattle.std.proofs.lemmas.List.{map-append}
use Rattle.std.proofs.lemmas.List.Elements.{All-push}
use Rattle.indexmap.proofs.CallerLemmas.{insert_entry-new}
use Rattle.sg_views.specs.Keys.{key_of, AreSets, AreKeyed}
use Rattle.sg_views.specs.declared.states.State.{State}
use Rattle.sg_views.proofs.Keyed.{same_as, there, away}
use Rattle.sg_views.proofs.states.put.Goals as goal

nothing_there : {A : Type 0} (o : Option A) → is_some o ≡ false → o ≡ None
nothing_there None h = refl
nothing_there (Some x) h = absurd (cc)

pub returns-then-contains_key-clause-put : goal.returns-then-contains_key-clause-put
returns-then-contains_key-clause-put c = (
  there c.args.found.now.entries c.args.key c.args.state.node c.args.state.view c.requires.keyed c.requires.key c.requires.sets (c.args.key, c.args.state)
      (sym c.contains_key.ensures ∙ c.if-contains_key.true),
  refl,
)

pub returns-clause-keyed : goal.returns-clause-keyed
returns-clause-keyed c =
    let missing : is_some (lookup (same_as c.args.key) c.args.found.now.entries) ≡ false = sym c.contains_key.ensures ∙ c.if-contains_key.false in
    let last : c.insert.new.self.entries ≡ c.args.found.now.entries ++ (c.args.key, c.args.state) ∷ [] =
    c.in_ok-insert.ensures.entries
    ∙ insert_entry-new same_as c.args.found.now c.args.key c.args.state (nothing_there (lookup (same_as c.args.key) c.args.found.now.entries) missing) in
    subst AreKeyed (sym last)
    (All-push (λ (e : Vec ℕ Global × State). (e.0.items ≡ key_of e.1.node e.1.view) × AreSets e.1.view.items) c.args.found.now.entries (c.args.key, c.args.state)
    c.requires.keyed (c.requires.key, c.requires.sets))

pub returns-clause-put : goal.returns-clause-put
returns-clause-put c =
    let missing : is_some (lookup (same_as c.args.key) c.args.found.now.entries) ≡ false = sym c.contains_key.ensures ∙ c.if-contains_key.false in
    let last : c.insert.new.self.entries ≡ c.args.found.now.entries ++ (c.args.key, c.args.state) ∷ [] =
    c.in_ok-insert.ensures.entries
    ∙ insert_entry-new same_as c.args.found.now c.args.key c.args.state (nothing_there (lookup (same_as c.args.key) c.args.found.now.entries) missing) in (
      away c.args.found.now.entries c.args.key c.args.state.node c.args.state.view c.requires.keyed c.requires.key c.requires.sets (c.args.key, c.args.state) missing,
      ap (map (λ (e : Vec ℕ Global × State). e.1)) last ∙ map-append (λ (e : Vec ℕ Global × State). e.1) c.args.found.now.entries ((c.args.key, c.args.state) ∷ []),
    )
