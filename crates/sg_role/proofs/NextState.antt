-- What is held after an accepted frame, part by part.
use Rattle.std.proofs.Common.{◌≡◌, ℕ, ◌<◌, ◌≤◌, ◌++◌, ◌∷◌, arith, true, List, [], map, length, get_or, sym, ap, subst, ◌∙◌, Option, None, option_map, unwrap_or, All}
use Rattle.std.specs.List.{AllByRecursion}
use Rattle.std.specs.Option.{option_or}
use Rattle.sg_model.specs.Last.{has, last, last_or, up_to_last}
use Rattle.sg_model.specs.Lists.{below, first_some}
use Rattle.sg_model.specs.Shape.{target}
use Rattle.sg_model.specs.Values.{Opening}
use Rattle.sg_protocol.specs.Frame.{Item, Frame, IsItem}
use Rattle.sg_protocol.specs.Graph.{shape}
use Rattle.sg_protocol.specs.IsSchedule.{IsProgram}
use Rattle.sg_protocol.specs.Kept.{kept_items}
use Rattle.sg_protocol.specs.Keyring.{Keyring, Program}
use Rattle.sg_protocol.specs.Session.{Session, Took, transcript, committed, commitments, last_label, last_time, opening_in}
use Rattle.sg_protocol.specs.Spelling.{HasSpelling}
use Rattle.sg_protocol.specs.Representation.{Held, held_after}
use Rattle.sg_protocol.specs.Texts.{real}
use Rattle.sg_protocol.proofs.Reachable.{states_are_reachable}
use Rattle.sg_protocol.proofs.Ends.{below_same, committed-append}
use Rattle.sg_protocol.proofs.Enough.{up_free}
use Rattle.sg_protocol.proofs.Following.{get_below}
use Rattle.sg_protocol.proofs.RealHash.{real_hash}
use Rattle.sg_role.specs.Looking.{is_seen, overwritten_by, rows_from}
use Rattle.sg_role.specs.Invariant.{HoldsBefore, HoldsTurn}
use Rattle.sg_role.proofs.Shown.{seen_frame}
use Rattle.sg_role.proofs.Spelled.{all_at}
use Rattle.sg_role.proofs.Translated.{all_more, rising_items, rows_same}

-- ---- the role's own last time

times_small : (v : ℕ) (i : Item) (is : List Item) → AllByRecursion (IsItem v) (i ∷ is) → (last_or i is).time ≤ 1000000
times_small v i [] a = a.0.time.1
times_small v i (j ∷ is) a = times_small v j is a.1

last_small : (v : ℕ) (is : List Item) → AllByRecursion (IsItem v) is → last_time is ≤ 1000000
last_small v [] a = omega arith
last_small v (i ∷ is) a = times_small v i is a

pub own_time_small : (p : Program) (h : Held) → HoldsBefore (record { program = p; held = h }) → h.kept.own_time ≤ 1000000
own_time_small p h b =
    let s = b.reachable.session in
    subst (λ (z : Held). z.kept.own_time ≤ 1000000) (sym b.reachable.represents.holds)
    (subst (λ is. last_time is ≤ 1000000) (sym b.reachable.represents.ends) (last_small s.cast.version (transcript s) b.reachable.sound.in_range.items))

module _ (p : Program) (ip : IsProgram real p) (h : Held) (mine : h.role ≡ p.role) (f : Frame) where
  -- ---- the commitments

  commitments_held : (s : Session) → HasSpelling f → overwritten_by (commitments p.graph (transcript s)) f.items ≡ map (λ x. option_or (committed x f.items) (get_or (commitments p.graph (transcript s)) x None)) (below (length p.graph.variables))
  commitments_held s sp =
      all_more p.graph (transcript s) f.items (rising_items f.version f.items sp.fields.items)
      ∙ below_same (λ x. committed x (transcript s ++ f.items)) (λ x. option_or (committed x f.items) (get_or (commitments p.graph (transcript s)) x None)) (length p.graph.variables) (λ x l.
      committed-append x (transcript s) f.items ∙ ap (option_or (committed x f.items)) (sym (get_below (λ x. committed x (transcript s)) None (length p.graph.variables) x l)))

  pub commitments_next : HoldsBefore (record { program = p; held = h }) → HasSpelling f
      → overwritten_by h.kept.commitments f.items ≡ map (λ x. option_or (committed x f.items) (get_or h.kept.commitments x None)) (below (length p.graph.variables))
  commitments_next b sp =
      let s = b.reachable.session in
      subst (λ (z : Held). overwritten_by z.kept.commitments f.items ≡ map (λ x. option_or (committed x f.items) (get_or z.kept.commitments x None)) (below (length p.graph.variables))) (sym b.reachable.represents.holds) (commitments_held s sp)

  -- ---- the role's own last step stays as it is

  none_own : is_seen p h.kept.origin f ≡ true → up_to_last (λ (i : Item). i.role) h.role f.items ≡ []
  none_own e = up_free (λ (i : Item). i.role) h.role f.items (ap (λ r. has (λ (i : Item). i.role) r f.items) mine ∙ (seen_frame p ip h.kept.origin f e).others)

  pub roles_there : is_seen p h.kept.origin f ≡ true → All (λ (i : Item). i.role < length p.graph.roles) f.items
  roles_there e = all_at (λ (i : Item). i.role < length p.graph.roles) f.items (seen_frame p ip h.kept.origin f e).roles

  pub variables_there : is_seen p h.kept.origin f ≡ true → All (λ (o : Opening). o.variable < length p.graph.variables) f.openings
  variables_there e = all_at (λ (o : Opening). o.variable < length p.graph.variables) f.openings (seen_frame p ip h.kept.origin f e).variables

  pub labels_there : is_seen p h.kept.origin f ≡ true → All (λ (i : Item). i.label < length p.graph.edges) f.items
  labels_there e = all_at (λ (i : Item). i.label < length p.graph.edges) f.items (seen_frame p ip h.kept.origin f e).labels

  -- ---- the state

  module _ (b : HoldsBefore (record { program = p; held = h })) (sp : HasSpelling f) (e : is_seen p h.kept.origin f ≡ true) where
    pub next_is : (time place : ℕ) (items : List Item) (cs : List (Option (List ℕ))) (os : List (Option Opening))
        → time ≡ unwrap_or (option_map (λ (i : Item). i.time) (last f.items)) h.kept.time
        → place ≡ unwrap_or (option_map (target (shape p.graph)) (last_label f.items)) h.kept.place
        → items ≡ kept_items p.graph (h.kept.items ++ f.items)
        → cs ≡ overwritten_by h.kept.commitments f.items
        → os ≡ map (λ x. option_or (opening_in f.openings x) (get_or h.kept.openings x None)) (below (length p.graph.variables))
        → record h { kept = record { origin = h.kept.origin; own_time = h.kept.own_time; time = time; place = place; items = items; commitments = cs; openings = os } } ≡ held_after p.graph h (Took f)
    next_is time place items cs os t l i c o = λ j. record h {
      kept = record {
        origin = sym (ap (λ (is : List Item). option_or (last_label is) h.kept.origin) (none_own e)) j;
        own_time = sym (ap (λ (is : List Item). unwrap_or (option_map (λ (i : Item). i.time) (last is)) h.kept.own_time) (none_own e)) j;
        time = t j;
        place = l j;
        items = i j;
        commitments = (c ∙ commitments_next b sp) j;
        openings = o j;
      };
    }

    -- if no row holds, the next state is one at the role's turn
    pub turn_next : (keys : Keyring) → f.version ≡ h.cast.version → first_some (rows_from keys p h f) ≡ None → HoldsTurn (record { program = p; held = held_after p.graph h (Took f) })
    turn_next keys v none =
        let s = b.reachable.session in
        let holds = b.reachable.represents.holds in
        let its : p.role ≡ s.role = sym mine ∙ ap (λ (z : Held). z.role) holds in
        let rows = sym (rows_same keys p ip s f its b.reachable.represents.ends sp) ∙ sym (ap (λ (z : Held). first_some (rows_from keys p z f)) holds) ∙ none in
        record {
          counted = b.counted;
          reachable = (states_are_reachable real real_hash).takes keys p h s f ip b.reachable b.reachable.represents sp v rows;
        }
