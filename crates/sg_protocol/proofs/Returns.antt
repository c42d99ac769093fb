-- A role that waits comes to a node again exactly if its table has a view from its own last label.
use Rattle.std.specs.Prelude.{◌≡◌, ℕ, ◌<◌, ◌==◌, ◌||◌, true, false, List, [], ◌∷◌, ◌++◌, length, refl, Option, Some, None, Contains, Any, IsTrue, ◌↔◌}
use Rattle.std.proofs.Common.{sym, ◌∙◌, ap, subst, inl, inr, arith}
use Rattle.std.proofs.lemmas.Bool.{cases_Bool, eqb-true, eq-eqb}
use Rattle.std.proofs.lemmas.List.Folds.{list_any-from_Any, Any-from_list_any}
use Rattle.sg_model.specs.Last.{has, last, up_to_last, after_last}
use Rattle.sg_model.specs.Shape.{Shape, Walk, end_of, role_at, source, sender, target}
use Rattle.sg_model.proofs.LastOf.{has-append, eqb_same}
use Rattle.sg_model.proofs.Small.{or_true, not_empty}
use Rattle.sg_law.proofs.Walks.{walk-append, walk_join, end_of-append, end_of_same}
use Rattle.sg_protocol.specs.Graph.{Graph, IsGraph, shape}
use Rattle.sg_protocol.specs.Evidence.{View, IsView, view_of, same_origin}
use Rattle.sg_protocol.specs.Texts.{Hash}
use Rattle.sg_protocol.specs.Keyring.{Program, may_return}
use Rattle.sg_protocol.specs.Accepted.{Reached}
use Rattle.sg_protocol.specs.IsSchedule.{IsProgram}
use Rattle.sg_protocol.specs.Returns.{Returns, TablesShowReturns}
use Rattle.sg_protocol.proofs.Bridge.{up_to_last-after}
use Rattle.sg_protocol.proofs.Entries.{edges_same}
use Rattle.sg_protocol.proofs.Sent.{ends_in}

-- the walk up to its first node of the role
record ToTurn (g : Shape) (m r : ℕ) : Type 0 where
  walk : List ℕ
  follows : Walk g m walk
  ends : role_at g (end_of g m walk) ≡ r
  no_own : has (sender g) r walk ≡ false

to_turn : (g : Shape) (m r : ℕ) (es : List ℕ) → Walk g m es → role_at g (end_of g m es) ≡ r → ToTurn g m r
to_turn g m r [] w e = record { walk = []; follows = tt; ends = e; no_own = refl }
to_turn g m r (x ∷ xs) w e =
    elim (cases_Bool (sender g x == r)) [
      | inl own ↦ record { walk = []; follows = tt; ends = ap (role_at g) (sym w.1) ∙ eqb-true (sender g x) r own; no_own = refl }
      | inr other ↦ later (to_turn g (target g x) r xs w.2 e) other
    ]
  where
    later : ToTurn g (target g x) r → (sender g x == r) ≡ false → ToTurn g m r
    later t other = record { walk = x ∷ t.walk; follows = (w.0, w.1, t.follows); ends = t.ends; no_own = ap (λ b. b || has (sender g) r t.walk) other ∙ t.no_own }

-- the part up to the last of a key ends with it
up_to-cut : {A : Type 0} (key : A → ℕ) (k : ℕ) (xs : List A) (y : A) (ys : List A) → key y ≡ k → has key k ys ≡ false → last (up_to_last key k (xs ++ y ∷ ys)) ≡ Some y
up_to-cut key k [] y ys own free = rw (free, eq-eqb (key y) k own) refl
up_to-cut {A = A} key k (x ∷ xs) y ys own free = rw is (more (up_to_last key k (xs ++ y ∷ ys)) (up_to-cut key k xs y ys own free))
  where
    is : has key k (xs ++ y ∷ ys) ≡ true
    is = has-append key k xs (y ∷ ys) ∙ ap (λ b. has key k xs || (b || has key k ys)) (eq-eqb (key y) k own) ∙ or_true (has key k xs)

    more : (zs : List A) → last zs ≡ Some y → last (x ∷ zs) ≡ Some y
    more [] e = absurd (cc)
    more (z ∷ zs) e = e

same_origin-some : (o : Option ℕ) (e : ℕ) → same_origin o (Some e) ≡ true → o ≡ Some e
same_origin-some None e h = absurd (cc)
same_origin-some (Some a) e h = ap Some (eqb-true a e h)

edge_in : (g : Graph) (e : ℕ) → e < length g.edges → e < length (shape g).edges
edge_in g e h = omega (arith, h, edges_same g)

-- an edge leaves a node of the graph
source_in : (g : Graph) → IsGraph g → (e : ℕ) → e < length g.edges → source (shape g) e < length g.nodes
source_in g is e h = (ends_in (length g.nodes) g.edges is.ends e h).0

module _ (sha : Hash) (p : Program) (e : ℕ) (is : IsProgram sha p) (edge : e < length p.graph.edges) (own : sender (shape p.graph) e ≡ p.role) where
  abbrev g : Shape
  g = shape p.graph

  -- a view from e is of a walk that goes on after e
  seen_returns : (v : View) → IsView p.graph p.role v → v.origin ≡ Some e → Returns p.graph p.role e
  seen_returns v i o =
      let prefix : List ℕ = up_to_last (sender g) p.role i.walk in
      let rest : List ℕ = after_last (sender g) p.role i.walk in
      let parts : prefix ++ rest ≡ i.walk = up_to_last-after (sender g) p.role i.walk in
      let at : last prefix ≡ Some e = ap (λ (x : View). x.origin) i.seen ∙ o in
      let here : end_of g 0 prefix ≡ target g e = end_of_same g 0 prefix (e ∷ []) at in
      let both : Walk g 0 prefix × Walk g (end_of g 0 prefix) rest = walk-append g 0 prefix rest (subst (λ z. Walk g 0 z) (sym parts) i.follows) in
      (rest, subst (λ n. Walk g n rest) here both.1, ap (λ n. role_at g (end_of g n rest)) (sym here) ∙ ap (role_at g) (sym (end_of-append g 0 prefix rest)) ∙ ap (λ z. role_at g (end_of g 0 z)) parts ∙ i.ends)

  -- a walk to e that goes on to the role's next node has a view from e
  return_seen : Returns p.graph p.role e → (v : View) × IsView p.graph p.role v × (v.origin ≡ Some e)
  return_seen r =
      let there : Reached p.graph (source g e) = is.accepted.all_reached (source g e) (source_in p.graph is.is_graph e edge) in
      let on : ToTurn g (target g e) p.role = to_turn g (target g e) p.role r.0 r.1 r.2 in
      let walk : List ℕ = there.0 ++ e ∷ on.walk in (
        view_of p.graph p.role walk,
        record {
          walk = walk;
          follows = walk_join g 0 there.0 (e ∷ on.walk) there.1 (edge_in p.graph e edge, sym there.2, on.follows);
          moves = not_empty there.0 e on.walk;
          ends = ap (role_at g) (end_of-append g 0 there.0 (e ∷ on.walk)) ∙ on.ends;
          seen = refl;
        },
        up_to-cut (sender g) p.role there.0 e on.walk own on.no_own,
      )

  any_view : (v : View) → Contains p.views v → v.origin ≡ Some e → IsTrue (may_return p e)
  any_view v c o = list_any-from_Any (λ (v : View). same_origin v.origin (Some e)) p.views (c.0, v, c.1, c.2, ap (λ x. same_origin x (Some e)) o ∙ eqb_same e)

  shows : IsTrue (may_return p e) ↔ Returns p.graph p.role e
  shows = (λ h. seen_from (Any-from_list_any (λ (v : View). same_origin v.origin (Some e)) p.views h), λ r. let v = return_seen r in any_view v.0 ((is.views.each v.0).1 v.1) v.2)
    where
      seen_from : Any (λ (v : View). same_origin v.origin (Some e) ≡ true) p.views → Returns p.graph p.role e
      seen_from a = seen_returns a.1 ((is.views.each a.1).0 (a.0, a.2, a.3)) (same_origin-some (a.1).origin e a.4)

pub tables_show_returns : (sha : Hash) → TablesShowReturns sha
tables_show_returns sha p e is edge own = shows sha p e is edge own
