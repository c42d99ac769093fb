-- In a session of honest principals, each role holds the evidence of the steps that were taken.
use Rattle.std.specs.Prelude.{◌≡◌, ◌≢◌, ℕ, ◌==◌, true, false, List, [], ◌∷◌, ◌++◌, map, refl, Option, Some, None, IfSome, ⊤}
use Rattle.std.specs.List.{AllByRecursion}
use Rattle.std.specs.Option.{option_or}
use Rattle.std.proofs.Common.{sym, ◌∙◌, ap, subst, inl, inr, append_assoc, append-nil}
use Rattle.std.proofs.lemmas.Bool.{cases_Bool}
use Rattle.std.proofs.lemmas.List.{map-append}
use Rattle.sg_model.specs.Last.{has, last, last_or, after_last, up_to_last}
use Rattle.sg_model.specs.Lists.{keys_of, is_in}
use Rattle.sg_model.specs.Shape.{Walk, end_of, sender}
use Rattle.sg_model.specs.Values.{Opening}
use Rattle.sg_model.proofs.Small.{clash, all-right}
use Rattle.sg_protocol.specs.Graph.{Graph, shape, writes, reads}
use Rattle.sg_protocol.specs.Knowledge.{knows}
use Rattle.sg_protocol.specs.Frame.{Cast, Item, Frame}
use Rattle.sg_protocol.specs.Texts.{Hash, commitment, item_text_of}
use Rattle.sg_protocol.specs.Schedule.{PairKey}
use Rattle.sg_protocol.specs.World.{keyring_of}
use Rattle.sg_protocol.specs.Session.{Session, Took, principal, items_of, transcript, own_part, place, at_turn, committed, commitments, opening_in, known, extended}
use Rattle.sg_protocol.specs.Sending.{tag_for}
use Rattle.sg_protocol.specs.Verdict.{has_kind}
use Rattle.sg_law.specs.Run as R
use Rattle.sg_law.proofs.Upto as Upto'
use Rattle.sg_law.proofs.Lists.{last-append_some}
use Rattle.sg_law.proofs.Walks.{walk-append}
use Rattle.sg_protocol.proofs.Paths.{flat_map-append}
use Rattle.sg_protocol.proofs.Entries.{Roles}
use Rattle.sg_protocol.proofs.Moves.{step}
use Rattle.sg_protocol.proofs.Reduced.{by_role, has-both, reduced, reduced_again, reduced_after}
use Rattle.sg_protocol.proofs.Ends.{committed-append, last_opening-append, labels, place_is, after_all}
use Rattle.sg_protocol.proofs.Known.{knows_past, unlearned, opening_there, opening_not, opening_all, not_committed}

module _ (sha : Hash) (keys : List PairKey) (sid : List ℕ) (cast : Cast) (targets : ℕ → List ℕ) where
  module _ (g : Graph) where
    -- the tag of an item for a role, after the items before it
    abbrev pub tag_said : List Item → Item → ℕ → List ℕ
    tag_said before i t = tag_for sha (keyring_of keys (principal cast i.role)) cast t (item_text_of cast.version sid i.role t i.label i.time (commitments g (before ++ i ∷ [])))

    -- each item has its tags, after the items before it
    abbrev pub TagsOk : List Item → List Item → Type 0
    TagsOk before [] = ⊤
    TagsOk before (i ∷ is) = (i.tags ≡ map (λ t. (t, tag_said before i t)) (targets i.label)) × TagsOk (before ++ i ∷ []) is

    pub tags-append : (before is : List Item) (i : Item) → TagsOk before is → i.tags ≡ map (λ t. (t, tag_said (before ++ is) i t)) (targets i.label) → TagsOk before (is ++ i ∷ [])
    tags-append before [] i a e = (e ∙ ap (λ l. map (λ t. (t, tag_said l i t)) (targets i.label)) (append-nil before), tt)
    tags-append before (j ∷ is) i a e = (a.0, tags-append (before ++ j ∷ []) is i a.1 (e ∙ ap (λ l. map (λ t. (t, tag_said l i t)) (targets i.label)) (sym (append_assoc before (j ∷ []) is))))

    -- the steps are those of a walk, at rising times, and each has what its edge writes and its tags
    pub record StepsOk (done : List Item) : Type 0 where
      pub walk : Walk (shape g) 0 (labels done)
      pub roles : Roles (shape g) done
      pub delta_keys : AllByRecursion (λ (i : Item). keys_of i.delta ≡ writes g i.label) done
      pub tags : TagsOk [] done
      pub times : R.RisesFrom 0 (map step done)

    -- an opening is of its variable's type, and of the commitment after these items
    pub record OpensAt (past : List Item) (o : Opening) : Type 0 where
      pub fits : committed o.variable past ≡ Some (commitment sha sid o)
      pub kind : has_kind g o ≡ true

    -- the session knows what opens the variable
    pub record Opens (past : List Item) (x : Session) (v : ℕ) : Type 0 where
      pub opening : Opening
      pub is_known : known x v ≡ Some opening
      pub variable : opening.variable ≡ v
      pub opens : OpensAt past opening

    -- the session holds the steps up to where it was
    pub record RelayOk (done : List Item) (x : Session) : Type 0 where
      pub past : List Item
      pub since : List Item
      pub parts : done ≡ past ++ since
      pub none : has by_role x.role since ≡ false
      pub held : reduced g (transcript x) ≡ reduced g past
      pub last_own : last (own_part x) ≡ last (up_to_last by_role x.role past)
      pub turn : at_turn g x ≡ true → since ≡ []
      pub waits : at_turn g x ≡ false → IfSome (last past) (λ (i : Item). i.role ≡ x.role)
      pub opens : (v : ℕ) → knows g x.role v (labels past) ≡ true → Opens past x v

    -- a new session
    pub relay_new : (done : List Item) (sid' : List ℕ) (c : Cast) (r : ℕ) → has by_role r done ≡ false → (at_turn g (record { sid = sid'; cast = c; role = r; exchanges = [] }) ≡ true → done ≡ []) → RelayOk done (record { sid = sid'; cast = c; role = r; exchanges = [] })
    relay_new done sid' c r n t = record { past = []; since = done; parts = refl; none = n; held = refl; last_own = refl; turn = t; waits = λ e. tt; opens = λ v k. absurd (cc) }

    -- another role's step
    pub relay_other : (done : List Item) (x : Session) (i : Item) → RelayOk done x → (i.role == x.role) ≡ false → (at_turn g x ≡ true → ⊥) → RelayOk (done ++ i ∷ []) x
    relay_other done x i k ne nt = record {
      past = k.past;
      since = k.since ++ i ∷ [];
      parts = ap (λ l. l ++ i ∷ []) k.parts ∙ append_assoc k.past k.since (i ∷ []);
      none = has-both x.role k.since (i ∷ []) ∙ rw (k.none, ne) refl;
      held = k.held;
      last_own = k.last_own;
      turn = λ e. absurd (nt e);
      waits = k.waits;
      opens = k.opens;
    }

    -- if the session is at its turn, it is at the end of the walk
    pub at_end : (done : List Item) (x : Session) → RelayOk done x → at_turn g x ≡ true → place g x ≡ end_of (shape g) 0 (labels done)
    at_end done x k t = place_is g x k.past k.held ∙ ap (λ l. end_of (shape g) 0 (labels l)) (sym (k.parts ∙ ap (λ l. k.past ++ l) (k.turn t) ∙ append-nil k.past))

    -- a frame that shows what was done since is taken
    pub relay_takes : (done : List Item) (x : Session) (f : Frame) → StepsOk done → RelayOk done x → at_turn g x ≡ false → at_turn g (extended x (Took f)) ≡ true → f.items ≡ reduced g (after_last by_role x.role done) → has by_role x.role f.items ≡ false
        → IfSome (last (labels done)) (λ e. map (λ (o : Opening). o.variable) f.openings ≡ reads g e) → AllByRecursion (OpensAt done) f.openings → (done ≢ []) → RelayOk done (extended x (Took f))
    relay_takes done x f so k wt tn items no_own vars opened some = record {
      past = done;
      since = [];
      parts = sym (append-nil done);
      none = refl;
      held = ap (reduced g) transcript_later ∙ ap (λ l. reduced g (transcript x ++ l)) (items ∙ ap (reduced g) since_is) ∙ reduced_after g (transcript x) k.since ∙ sym (reduced_again g (transcript x) k.since) ∙ ap (λ l. reduced g (l ++ k.since)) k.held ∙ reduced_again g k.past k.since ∙ ap (reduced g) (sym k.parts);
      last_own = ap (λ l. last (up_to_last by_role x.role l)) transcript_later ∙ ap last (Upto'.upto-more by_role x.role (transcript x) f.items no_own) ∙ k.last_own ∙ ap last (sym (Upto'.upto-more by_role x.role k.past k.since k.none)) ∙ ap (λ l. last (up_to_last by_role x.role l)) (sym k.parts);
      turn = λ e. refl;
      waits = λ e. absurd (clash (at_turn g (extended x (Took f))) tn e);
      opens = opens_;
    }
      where
        transcript_later : transcript (extended x (Took f)) ≡ transcript x ++ f.items
        transcript_later = flat_map-append items_of x.exchanges (Took f ∷ []) ∙ ap (λ l. transcript x ++ l) (append-nil f.items)

        since_is : after_last by_role x.role done ≡ k.since
        since_is = ap (after_last by_role x.role) k.parts ∙ after_all x.role k.past k.since (k.waits wt) k.none

        known_is : (v : ℕ) → known (extended x (Took f)) v ≡ option_or (opening_in f.openings v) (known x v)
        known_is v = last_opening-append v x.exchanges (Took f)

        last_label_of : (e : ℕ) × (last (labels done) ≡ Some e)
        last_label_of = go done some
          where
            go : (l : List Item) → l ≢ [] → (e : ℕ) × (last (labels l) ≡ Some e)
            go [] n = absurd (n refl)
            go (i ∷ l) n = (last_or i.label (labels l), refl)

        vars_are : map (λ (o : Opening). o.variable) f.openings ≡ reads g last_label_of.0
        vars_are = subst (λ o. IfSome o (λ e. map (λ (o : Opening). o.variable) f.openings ≡ reads g e)) last_label_of.1 vars

        since_walk : Walk (shape g) (end_of (shape g) 0 (labels k.past)) (labels k.since)
        since_walk = (walk-append (shape g) 0 (labels k.past) (labels k.since) (subst (Walk (shape g) 0) (ap labels k.parts ∙ map-append (λ (i : Item). i.label) k.past k.since) so.walk)).1

        since_senders : has (sender (shape g)) x.role (labels k.since) ≡ false
        since_senders = go k.since (all-right (λ (i : Item). i.role ≡ sender (shape g) i.label) k.past k.since (subst (Roles (shape g)) k.parts so.roles)) k.none
          where
            go : (is : List Item) → Roles (shape g) is → has by_role x.role is ≡ false → has (sender (shape g)) x.role (labels is) ≡ false
            go [] r n = refl
            go (i ∷ is) r n = elim (cases_Bool (i.role == x.role)) [
              | inl h ↦ absurd (let q : true ≡ false = rw h at n in cc)
              | inr h ↦ rw (ap (λ z. z == x.role) (sym r.0) ∙ h) (go is r.1 (rw h at n))
            ]

        last_unread : (v : ℕ) → is_in v (reads g last_label_of.0) ≡ false → IfSome (last (labels k.since)) (λ e. is_in v (reads g e) ≡ false)
        last_unread v h = go (last (labels k.since)) refl
          where
            go : (o : Option ℕ) → last (labels k.since) ≡ o → IfSome o (λ e. is_in v (reads g e) ≡ false)
            go None e = tt
            go (Some e) q =
                let l : last (labels done) ≡ Some e = ap last (ap labels k.parts ∙ map-append (λ (i : Item). i.label) k.past k.since) ∙ last-append_some (labels k.past) (labels k.since) e q in
                let s : Some last_label_of.0 ≡ Some e = sym last_label_of.1 ∙ l in
                let s' : last_label_of.0 ≡ e = cc in
                subst (λ z. is_in v (reads g z) ≡ false) s' h

        opens_ : (v : ℕ) → knows g x.role v (labels done) ≡ true → Opens done (extended x (Took f)) v
        opens_ v kn = elim (cases_Bool (is_in v (reads g last_label_of.0))) [
          | inl h ↦
              let o = opening_there f.openings v (ap (is_in v) vars_are ∙ h) in
              record { opening = o.0; is_known = known_is v ∙ ap (λ z. option_or z (known x v)) o.1; variable = o.2; opens = opening_all (OpensAt done) f.openings v o.0 opened o.1 }
          | inr h ↦
              let kp = knows_past g x.role v (labels k.past) (labels k.since) (unlearned g x.role v (end_of (shape g) 0 (labels k.past)) (labels k.since) since_walk since_senders (last_unread v h))
              (subst (λ z. knows g x.role v z ≡ true) (ap labels k.parts ∙ map-append (λ (i : Item). i.label) k.past k.since) kn) in
              let old : Opens k.past x v = k.opens v kp.0 in
              let nc : committed v k.since ≡ None = not_committed g v k.since (all-right (λ (i : Item). keys_of i.delta ≡ writes g i.label) k.past k.since (subst (AllByRecursion (λ (i : Item). keys_of i.delta ≡ writes g i.label)) k.parts so.delta_keys)) kp.1 in
              record {
                opening = old.opening;
                is_known = known_is v ∙ ap (λ z. option_or z (known x v)) (opening_not f.openings v (ap (is_in v) vars_are ∙ h)) ∙ old.is_known;
                variable = old.variable;
                opens = record {
                  fits = ap (λ l. committed (old.opening).variable l) k.parts ∙ committed-append (old.opening).variable k.past k.since ∙ ap (λ o. option_or o (committed (old.opening).variable k.past)) (ap (λ z. committed z k.since) old.variable ∙ nc) ∙ old.opens.fits;
                  kind = old.opens.kind;
                };
              }
        ]
