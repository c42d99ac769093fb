-- What an item says to a role is of one session, role, step and list of commitments.
use Rattle.std.specs.Prelude.{◌≡◌, ℕ, ◌==◌, Bool, true, false, if◌then◌else◌, List, [], ◌∷◌, ◌++◌, length, map, Option, Some, None, IfSome}
use Rattle.std.specs.Option.{option_or}
use Rattle.std.specs.List.{AllByRecursion}
use Rattle.sg_model.specs.Last.{Map}
use Rattle.sg_model.specs.Lists.{value_at, below}
use Rattle.sg_protocol.specs.Graph.{Graph}
use Rattle.sg_protocol.specs.Frame.{Item}
use Rattle.sg_protocol.specs.Session.{Session, committed, commitments}
use Rattle.sg_protocol.specs.TextLaws.{AreHeld, ItemFits, DeltaFits, TextFits, OneTextTo}
use Rattle.sg_protocol.proofs.TextLaws.{one_item}

abbrev Fits32 : Option (List ℕ) → Type 0
Fits32 o = IfSome o (λ c. length c ≡ 32)

value_fits : (x : ℕ) (m : Map (List ℕ)) → AllByRecursion (λ (d : ℕ × List ℕ). length d.1 ≡ 32) m → Fits32 (value_at m x)
value_fits x [] h = tt
value_fits x (w ∷ ws) h = go (w.0 == x) (value_fits x ws h.1)
  where
    go : (b : Bool) → Fits32 (value_at ws x) → Fits32 (if b then Some w.1 else value_at ws x)
    go true k = h.0
    go false k = k

committed_fits : (x : ℕ) (items : List Item) → AllByRecursion DeltaFits items → Fits32 (committed x items)
committed_fits x [] h = tt
committed_fits x (i ∷ is) h = go (committed x is) (committed_fits x is h.1)
  where
    go : (o : Option (List ℕ)) → Fits32 o → Fits32 (option_or o (value_at i.delta x))
    go None k = value_fits x i.delta h.0
    go (Some c) k = k

-- the commitments among items whose new ones have 32 bytes
pub held_fits : (g : Graph) (items : List Item) → AllByRecursion DeltaFits items → AreHeld (commitments g items)
held_fits g items h = go (below (length g.variables))
  where
    go : (xs : List ℕ) → AreHeld (map (λ x. committed x items) xs)
    go [] = tt
    go (x ∷ xs) = (committed_fits x items h, go xs)

-- what the text says
says : (g : Graph) (s : Session) (before : List Item) (i : Item) → TextFits s before i → ItemFits s.cast.version s.sid i.label i.time (commitments g (before ++ i ∷ []))
says g s before i h = record { version = h.version; sid = h.sid; label = h.label; time = h.time; held = held_fits g (before ++ i ∷ []) (go before h.before_fits) }
  where
    go : (is : List Item) → AllByRecursion DeltaFits is → AllByRecursion DeltaFits (is ++ i ∷ [])
    go [] k = (h.item_fits, tt)
    go (j ∷ js) k = (k.0, go js k.1)

-- equal texts to roles are of one session, role, step and list of commitments
pub text_to_same : OneTextTo
text_to_same g h s t before before' i j a b p q e =
    one_item s.cast.version t.cast.version s.sid t.sid i.role j.role a b i.label j.label i.time j.time _ _ (says g s before i p) (says h t before' j q) e
