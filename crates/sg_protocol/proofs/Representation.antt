-- What is held after a step or an accepted frame represents the session with it.
use Rattle.std.specs.Prelude.{◌≡◌, ◌≢◌, ℕ, ◌==◌, true, false, List, [], ◌∷◌, ◌++◌, map, length, get_or, refl, Option, Some, None, option_map, unwrap_or, IfSome}
use Rattle.std.specs.Option.{option_or}
use Rattle.std.proofs.Common.{sym, ◌∙◌, ap, subst, inl, inr, append-nil}
use Rattle.std.proofs.lemmas.Bool.{cases_Bool, eq-eqb, ne_eqb}
use Rattle.sg_model.specs.Last.{has, last, up_to_last}
use Rattle.sg_model.specs.Lists.{below}
use Rattle.sg_model.specs.Shape.{role_at, target}
use Rattle.sg_model.proofs.Evidence.{evidence_again, evidence_since}
use Rattle.sg_model.proofs.Small.{no_last}
use Rattle.sg_law.proofs.Cut.{last-both}
use Rattle.sg_protocol.specs.Graph.{Graph, shape}
use Rattle.sg_protocol.specs.Frame.{Item}
use Rattle.sg_protocol.specs.Texts.{Hash}
use Rattle.sg_protocol.specs.Session.{Session, Exchange, Took, Gave, extended, items_of, openings_of, transcript, own_part, origin, own_time, time, place, last_label, last_time, committed, commitments, opening_in, known}
use Rattle.sg_protocol.specs.Sending.{own_item}
use Rattle.sg_protocol.specs.Kept.{KeptState, kept, kept_items}
use Rattle.sg_protocol.specs.Representation.{Held, held, EndsWithOwn, RepresentsBefore, RepresentsWaiting, RepresentsAtTurn, kept_with, held_after, StatesRepresent}
use Rattle.sg_protocol.proofs.Paths.{flat_map-append}
use Rattle.sg_protocol.proofs.KeptLaws.{kept-kept}
use Rattle.sg_protocol.proofs.Ends.{below_same, committed-append, last_opening-append}
use Rattle.sg_protocol.proofs.Enough.{up_later, up_before, up_free}
use Rattle.sg_protocol.proofs.Takes.{rows_of}
use Rattle.sg_protocol.proofs.Following.{get_below, own_part_now, waits_now, turn_later, other_later}

-- ---- what is kept after an exchange

map_or : {A B : Type 0} (f : A → B) (a b : Option A) → option_map f (option_or a b) ≡ option_or (option_map f a) (option_map f b)
map_or f None b = refl
map_or f (Some x) b = refl

unwrap_or-or : {A : Type 0} (a b : Option A) (d : A) → unwrap_or (option_or a b) d ≡ unwrap_or a (unwrap_or b d)
unwrap_or-or None b d = refl
unwrap_or-or (Some x) b d = refl

-- the last of what is up to the last of a role
upto-both : (r : ℕ) (xs ys : List Item) → last (up_to_last (λ (i : Item). i.role) r (xs ++ ys)) ≡ option_or (last (up_to_last (λ (i : Item). i.role) r ys)) (last (up_to_last (λ (i : Item). i.role) r xs))
upto-both r xs ys = elim (cases_Bool (has (λ (i : Item). i.role) r ys)) [
  | inl h ↦ ap last (up_later (λ (i : Item). i.role) r xs ys h) ∙ last-both xs (up_to_last (λ (i : Item). i.role) r ys) ∙ some (up_to_last (λ (i : Item). i.role) r ys) (not_nil ys h)
  | inr h ↦ ap last (up_before (λ (i : Item). i.role) r xs ys h) ∙ ap (λ l. option_or (last l) (last (up_to_last (λ (i : Item). i.role) r xs))) (sym (up_free (λ (i : Item). i.role) r ys h))
]
  where
    some : (zs : List Item) → zs ≢ [] → option_or (last zs) (last xs) ≡ option_or (last zs) (last (up_to_last (λ (i : Item). i.role) r xs))
    some [] n = absurd (n refl)
    some (z ∷ zs) n = refl

    not_nil : (ys : List Item) → has (λ (i : Item). i.role) r ys ≡ true → up_to_last (λ (i : Item). i.role) r ys ≢ []
    not_nil [] h e = cc
    not_nil (y ∷ ys) h e = elim (cases_Bool (has (λ (i : Item). i.role) r ys)) [
      | inl d ↦ (let q = rw d at e in absurd (cc))
      | inr d ↦ elim (cases_Bool (y.role == r)) [
        | inl q ↦ (let z = rw (d, q) at e in absurd (cc))
        | inr q ↦ absurd (let z : false ≡ true = rw (d, q) at h in cc)
      ]
    ]

module _ (g : Graph) (s : Session) (e : Exchange) where
  abbrev more : List Item
  more = items_of e

  transcript_more : transcript (extended s e) ≡ transcript s ++ more
  transcript_more = flat_map-append items_of s.exchanges (e ∷ []) ∙ ap (λ l. transcript s ++ l) (append-nil more)

  own_part_more : last (own_part (extended s e)) ≡ option_or (last (up_to_last (λ (i : Item). i.role) s.role more)) (last (own_part s))
  own_part_more = ap (λ l. last (up_to_last (λ (i : Item). i.role) s.role l)) transcript_more ∙ upto-both s.role (transcript s) more

  last_more : last (transcript (extended s e)) ≡ option_or (last more) (last (transcript s))
  last_more = ap last transcript_more ∙ last-both (transcript s) more

  abbrev by_label : Option Item → Option ℕ
  by_label o = option_map (λ (i : Item). i.label) o

  abbrev by_time : Option Item → Option ℕ
  by_time o = option_map (λ (i : Item). i.time) o

  abbrev led : Option ℕ → Option ℕ
  led o = option_map (target (shape g)) o

  origin_more : origin (extended s e) ≡ (kept_with g s.role (kept g s) more (openings_of e)).origin
  origin_more = ap by_label own_part_more ∙ map_or (λ (i : Item). i.label) (last (up_to_last (λ (i : Item). i.role) s.role more)) (last (own_part s))

  own_time_more : own_time (extended s e) ≡ (kept_with g s.role (kept g s) more (openings_of e)).own_time
  own_time_more = ap (λ o. unwrap_or (by_time o) 0) own_part_more ∙ ap (λ o. unwrap_or o 0) (map_or (λ (i : Item). i.time) (last (up_to_last (λ (i : Item). i.role) s.role more)) (last (own_part s)))
      ∙ unwrap_or-or (by_time (last (up_to_last (λ (i : Item). i.role) s.role more))) (by_time (last (own_part s))) 0

  time_more : time (extended s e) ≡ (kept_with g s.role (kept g s) more (openings_of e)).time
  time_more = ap (λ o. unwrap_or (by_time o) 0) last_more ∙ ap (λ o. unwrap_or o 0) (map_or (λ (i : Item). i.time) (last more) (last (transcript s))) ∙ unwrap_or-or (by_time (last more)) (by_time (last (transcript s))) 0

  place_more : place g (extended s e) ≡ (kept_with g s.role (kept g s) more (openings_of e)).place
  place_more = ap (λ o. unwrap_or (led (by_label o)) 0) last_more ∙ ap (λ o. unwrap_or (led o) 0) (map_or (λ (i : Item). i.label) (last more) (last (transcript s)))
      ∙ ap (λ o. unwrap_or o 0) (map_or (target (shape g)) (by_label (last more)) (by_label (last (transcript s)))) ∙ unwrap_or-or (led (by_label (last more))) (led (by_label (last (transcript s)))) 0

  items_more : kept_items g (transcript (extended s e)) ≡ (kept_with g s.role (kept g s) more (openings_of e)).items
  items_more = ap (kept_items g) transcript_more ∙ sym (kept-kept (evidence_again (λ (i : Item). i.role)) (evidence_since (λ (i : Item). i.role)) g (transcript s) more)

  commitments_more : commitments g (transcript (extended s e)) ≡ (kept_with g s.role (kept g s) more (openings_of e)).commitments
  commitments_more = below_same (λ x. committed x (transcript (extended s e))) (λ x. option_or (committed x more) (get_or (commitments g (transcript s)) x None)) (length g.variables) (λ x l.
      ap (committed x) transcript_more ∙ committed-append x (transcript s) more ∙ ap (option_or (committed x more)) (sym (get_below (λ x. committed x (transcript s)) None (length g.variables) x l)))

  openings_more : map (known (extended s e)) (below (length g.variables)) ≡ (kept_with g s.role (kept g s) more (openings_of e)).openings
  openings_more = below_same (known (extended s e)) (λ x. option_or (opening_in (openings_of e) x) (get_or (map (known s) (below (length g.variables))) x None)) (length g.variables) (λ x l.
      last_opening-append x s.exchanges e ∙ ap (option_or (opening_in (openings_of e) x)) (sym (get_below (known s) None (length g.variables) x l)))

  pub kept_more : kept g (extended s e) ≡ kept_with g s.role (kept g s) more (openings_of e)
  kept_more = λ j. record {
    origin = origin_more j;
    own_time = own_time_more j;
    time = time_more j;
    place = place_more j;
    items = items_more j;
    commitments = commitments_more j;
    openings = openings_more j;
  }

  pub held_more : held g (extended s e) ≡ held_after g (held g s) e
  held_more = ap (λ (k : KeptState). record (held g s) { kept = k }) kept_more

-- ---- a state between steps

one_time : (s : Session) → EndsWithOwn s → time s ≡ own_time s
one_time s h = ap last_time (sym h)

own_place : (g : Graph) (s : Session) → EndsWithOwn s → place g s ≡ unwrap_or (option_map (target (shape g)) (origin s)) 0
own_place g s h = ap (λ l. unwrap_or (option_map (target (shape g)) (last_label l)) 0) (sym h)

-- a session that ends with an own item, and has none, is new
no_transcript : (s : Session) → EndsWithOwn s → origin s ≡ None → transcript s ≡ []
no_transcript s h o = no_last (transcript s) (ap last (sym h) ∙ none (last (own_part s)) o)
  where
    none : (o : Option Item) → option_map (λ (i : Item). i.label) o ≡ None → o ≡ None
    none None e = refl
    none (Some i) e = absurd (cc)

module _ (g : Graph) (h : Held) (s : Session) (b : RepresentsBefore g h s) (o : (h.kept).origin ≡ None) where
  nothing : transcript s ≡ []
  nothing = no_transcript s b.ends (sym (ap (λ (z : Held). (z.kept).origin) b.holds) ∙ o)

  at_start : place g s ≡ 0
  at_start = ap (λ l. unwrap_or (option_map (target (shape g)) (last_label l)) 0) nothing

  its_role : h.role ≡ s.role
  its_role = ap (λ (z : Held). z.role) b.holds

  begins : role_at (shape g) 0 ≡ h.role → RepresentsAtTurn g h s
  begins r = record {
    holds = b.holds;
    ends = subst (λ l. IfSome (last l) (λ (i : Item). i.role ≢ s.role)) (sym nothing) tt;
    turn = eq-eqb (role_at (shape g) (place g s)) s.role (ap (role_at (shape g)) at_start ∙ r ∙ its_role);
  }

  joins : role_at (shape g) 0 ≢ h.role → RepresentsWaiting g h s
  joins r = record { before = b; waits = ne_eqb (role_at (shape g) (place g s)) s.role (λ q. r (ap (role_at (shape g)) (sym at_start) ∙ q ∙ sym its_role)) }

pub after : (g : Graph) (h : Held) (s : Session) (e : Exchange) → h ≡ held g s → held_after g h e ≡ held g (extended s e)
after g h s e q = ap (λ z. held_after g z e) q ∙ sym (held_more g s e)

pub states_represent : (sha : Hash) → StatesRepresent sha
states_represent sha = record {
  keeps_same = λ g h s t a b. let q : held g s ≡ held g t = sym a ∙ b in record { sid = ap (λ (z : Held). z.sid) q; cast = ap (λ (z : Held). z.cast) q; role = ap (λ (z : Held). z.role) q; kept = ap (λ (z : Held). z.kept) q };
  one_time = one_time;
  own_place = own_place;
  is_new = λ g sid c r. record { holds = refl; ends = refl };
  goes_on = held_more;
  begins = begins;
  joins = joins;
  gives = λ keys p h s label written acc t leave. record {
    before = record {
      holds = after p.graph h s (Gave (own_item sha keys p s label written) written) t.holds;
      ends = own_part_now sha p.graph acc s label t.turn leave written (own_item sha keys p s label written) refl refl;
    };
    waits = waits_now sha p.graph acc s label t.turn leave written (own_item sha keys p s label written) refl refl;
  };
  takes = λ keys p h s f ip mine b none. let rows = rows_of sha keys p s f none in record {
    holds = after p.graph h s (Took f) b.holds;
    ends = other_later sha keys p ip s f mine rows;
    turn = turn_later sha keys p ip s f mine rows;
  };
}
