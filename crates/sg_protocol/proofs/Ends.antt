-- Where items end, and what they commit to, is where what they reduce to ends, and what it commits to.
use Rattle.std.specs.Prelude.{◌≡◌, ℕ, ◌<◌, ◌==◌, ◌⊎◌, true, false, List, [], ◌∷◌, ◌++◌, map, length, refl, Option, Some, None, option_map, unwrap_or, IfSome}
use Rattle.std.specs.Option.{option_or}
use Rattle.std.proofs.Common.{sym, ◌∙◌, ap, subst, inl, inr, arith}
use Rattle.std.proofs.lemmas.Bool.{cases_Bool}
use Rattle.sg_model.specs.Last.{Map, has, last, last_or, after_last}
use Rattle.sg_model.specs.Lists.{value_at, in_order, below}
use Rattle.sg_model.specs.Shape.{end_of, target}
use Rattle.sg_protocol.specs.Graph.{Graph, shape}
use Rattle.sg_protocol.specs.Frame.{Item}
use Rattle.sg_protocol.specs.Session.{Session, Exchange, openings_of, transcript, time, place, last_label, last_time, committed, commitments, opening_in, last_opening}
use Rattle.sg_protocol.specs.LastSteps.{Bare, bare}
use Rattle.sg_model.specs.Last as Last'
use Rattle.sg_model.proofs.Evidence as Evid
use Rattle.sg_model.proofs.Small.{cases_Option, no_last, range_same}
use Rattle.sg_law.proofs.Upto as Upto'
use Rattle.sg_law.proofs.Cut.{split_end}
use Rattle.sg_law.proofs.Walks.{end_of-last}
use Rattle.sg_law.proofs.Com.{option_or-none, option_or-assoc}
use Rattle.sg_protocol.proofs.Reduced.{by_role, tags_but, lead, left_by, reduced, has-reduced, committed_reduced}

pub tags_all : (ts : Map (List ℕ)) → tags_but [] ts ≡ ts
tags_all [] = refl
tags_all (t ∷ ts) = ap (λ l. t ∷ l) (tags_all ts)

pub below_same : {A : Type 0} (f h : ℕ → A) (n : ℕ) → ((x : ℕ) → x < n → f x ≡ h x) → map f (below n) ≡ map h (below n)
below_same f h n e = range_same f h 0 n (λ x l. e x (omega (arith, l)))

pub committed-append : (x : ℕ) (xs ys : List Item) → committed x (xs ++ ys) ≡ option_or (committed x ys) (committed x xs)
committed-append x [] ys = sym (option_or-none (committed x ys))
committed-append x (i ∷ xs) ys = ap (λ o. option_or o (value_at i.delta x)) (committed-append x xs ys) ∙ option_or-assoc (committed x ys) (committed x xs) (value_at i.delta x)

pub last_opening-append : (x : ℕ) (es : List Exchange) (e : Exchange) → last_opening x (es ++ e ∷ []) ≡ option_or (opening_in (openings_of e) x) (last_opening x es)
last_opening-append x [] e = sym (option_or-none (opening_in (openings_of e) x))
last_opening-append x (d ∷ es) e = ap (λ o. option_or o (opening_in (openings_of d) x)) (last_opening-append x es e) ∙ option_or-assoc (opening_in (openings_of e) x) (last_opening x es) (opening_in (openings_of d) x)

-- the labels of items
abbrev pub labels : List Item → List ℕ
labels is = map (λ (i : Item). i.label) is

module _ (g : Graph) where
  pub last_reduced : (xs : List Item) (i : Item) → (d : Map (List ℕ)) × (last (reduced g (xs ++ i ∷ [])) ≡ Some (record i { delta = d; tags = tags_but [] i.tags }))
  last_reduced [] i = (in_order (length g.variables) i.delta, refl)
  last_reduced (y ∷ xs) i = go (last_reduced xs i) (cases_Bool (has by_role y.role (xs ++ i ∷ [])))
    where
      led : (zs : List Item) (d : Map (List ℕ)) → last zs ≡ Some (record i { delta = d; tags = tags_but [] i.tags }) → (d' : Map (List ℕ)) × (last (lead g y.delta zs) ≡ Some (record i { delta = d'; tags = tags_but [] i.tags }))
      led [] d e = absurd (cc)
      led (z ∷ []) d e = let q : z ≡ record i { delta = d; tags = tags_but [] i.tags } = cc in subst (λ (u : Item). (d' : Map (List ℕ)) × (Some (record u { delta = in_order (length g.variables) (Last'.merge y.delta u.delta) }) ≡ Some (record i { delta = d'; tags = tags_but [] i.tags }))) (sym q) (in_order (length g.variables) (Last'.merge y.delta d), refl)
      led (z ∷ w ∷ ws) d e = (d, e)

      behind : (a : Item) (zs : List Item) (d : Map (List ℕ)) → last zs ≡ Some (record i { delta = d; tags = tags_but [] i.tags }) → last (a ∷ zs) ≡ Some (record i { delta = d; tags = tags_but [] i.tags })
      behind a [] d e = absurd (cc)
      behind a (z ∷ zs) d e = e

      go : (d : Map (List ℕ)) × (last (reduced g (xs ++ i ∷ [])) ≡ Some (record i { delta = d; tags = tags_but [] i.tags })) → (has by_role y.role (xs ++ i ∷ []) ≡ true) ⊎ (has by_role y.role (xs ++ i ∷ []) ≡ false) → (d : Map (List ℕ)) × (last (reduced g (y ∷ (xs ++ i ∷ []))) ≡ Some (record i { delta = d; tags = tags_but [] i.tags }))
      go r (inl h) = rw h (led (reduced g (xs ++ i ∷ [])) r.0 r.1)
      go r (inr h) = rw h (r.0, behind (left_by g (xs ++ i ∷ []) y) (reduced g (xs ++ i ∷ [])) r.0 r.1)

  pub last_bare : (xs : List Item) → option_map bare (last (reduced g xs)) ≡ option_map bare (last xs)
  last_bare xs = go (cases_Option (last xs))
    where
      go : (last xs ≡ None) ⊎ ((x : Item) × (last xs ≡ Some x)) → option_map bare (last (reduced g xs)) ≡ option_map bare (last xs)
      go (inl e) = let n : xs ≡ [] = no_last xs e in subst (λ l. option_map bare (last (reduced g l)) ≡ option_map bare (last l)) (sym n) refl
      go (inr e) =
          let c = split_end xs e.0 e.1 in
          let r = last_reduced c.0 e.0 in
          ap (λ l. option_map bare (last (reduced g l))) c.1 ∙ ap (option_map bare) r.1 ∙ ap (option_map bare) (sym e.1)

  pub same_last : (xs ys : List Item) → reduced g xs ≡ reduced g ys → option_map bare (last xs) ≡ option_map bare (last ys)
  same_last xs ys e = sym (last_bare xs) ∙ ap (λ l. option_map bare (last l)) e ∙ last_bare ys

  -- the node to which the last item leads
  abbrev led_to : Option Bare → ℕ
  led_to o = unwrap_or (option_map (λ (b : Bare). target (shape g) b.label) o) 0

  led_place : (is : List Item) → unwrap_or (option_map (target (shape g)) (last_label is)) 0 ≡ led_to (option_map bare (last is))
  led_place is = go (last is)
    where
      go : (o : Option Item) → unwrap_or (option_map (target (shape g)) (option_map (λ (i : Item). i.label) o)) 0 ≡ led_to (option_map bare o)
      go None = refl
      go (Some i) = refl

  end_place : (is : List Item) → unwrap_or (option_map (target (shape g)) (last_label is)) 0 ≡ end_of (shape g) 0 (labels is)
  end_place [] = refl
  end_place (i ∷ is) = sym (end_of-last (shape g) 0 i.label (labels is) ∙ ap (target (shape g)) (go i is))
    where
      go : (i : Item) (is : List Item) → last_or i.label (labels is) ≡ (last_or i is).label
      go i [] = refl
      go i (j ∷ is) = go j is

  -- a session's place is where the steps that it holds end
  pub place_is : (x : Session) (past : List Item) → reduced g (transcript x) ≡ reduced g past → place g x ≡ end_of (shape g) 0 (labels past)
  place_is x past e = led_place (transcript x) ∙ ap led_to (same_last (transcript x) past e) ∙ sym (led_place past) ∙ end_place past

  pub time_is : (x : Session) (past : List Item) → reduced g (transcript x) ≡ reduced g past → time x ≡ last_time past
  time_is x past e = go (transcript x) ∙ ap (λ (o : Option Bare). unwrap_or (option_map (λ (b : Bare). b.time) o) 0) (same_last (transcript x) past e) ∙ sym (go past)
    where
      at : (o : Option Item) → unwrap_or (option_map (λ (i : Item). i.time) o) 0 ≡ unwrap_or (option_map (λ (b : Bare). b.time) (option_map bare o)) 0
      at None = refl
      at (Some i) = refl

      go : (is : List Item) → last_time is ≡ unwrap_or (option_map (λ (b : Bare). b.time) (option_map bare (last is))) 0
      go is = at (last is)

  pub committed_same : (xs ys : List Item) → reduced g xs ≡ reduced g ys → (x : ℕ) → x < length g.variables → committed x xs ≡ committed x ys
  committed_same xs ys e x h = sym (committed_reduced g x h xs) ∙ ap (committed x) e ∙ committed_reduced g x h ys

  pub commitments_same : (xs ys : List Item) → reduced g xs ≡ reduced g ys → (i j : Item) → i.delta ≡ j.delta → commitments g (xs ++ i ∷ []) ≡ commitments g (ys ++ j ∷ [])
  commitments_same xs ys e i j d = below_same (λ x. committed x (xs ++ i ∷ [])) (λ x. committed x (ys ++ j ∷ [])) (length g.variables) (λ x h.
      committed-append x xs (i ∷ []) ∙ ap (option_or (committed x (i ∷ []))) (committed_same xs ys e x h) ∙ ap (λ m. option_or (value_at m x) (committed x ys)) d ∙ sym (committed-append x ys (j ∷ [])))

  pub has_same : (xs ys : List Item) → reduced g xs ≡ reduced g ys → (k : ℕ) → has by_role k xs ≡ has by_role k ys
  has_same xs ys e k = sym (has-reduced g k xs) ∙ ap (has by_role k) e ∙ has-reduced g k ys

-- the part of a list after the last of a role, and up to it
pub after_all : (k : ℕ) (xs ys : List Item) → IfSome (last xs) (λ i. i.role ≡ k) → has by_role k ys ≡ false → after_last by_role k (xs ++ ys) ≡ ys
after_all k xs ys l n = Evid.after_last-append by_role k xs ys n l

pub after_one : (k : ℕ) (xs : List Item) (i : Item) → (i.role == k) ≡ false → after_last by_role k (xs ++ i ∷ []) ≡ after_last by_role k xs ++ i ∷ []
after_one k xs i ne = Upto'.after-more by_role k xs (i ∷ []) (rw ne refl)
