-- What is known of a line of a form that is right.
use Rattle.std.proofs.Common.{◌≡◌, ℕ, ◌≤◌, Bool, true, false, not, List, [], ◌∷◌, refl}
use Rattle.std.specs.Prelude.{Option, None, nat_lt}
use Rattle.std.proofs.lemmas.Bool.{ltb-false, not-false}
use Rattle.sg_model.proofs.Small.{none_parts}
use Rattle.sg_sched.specs.Format.LineContents.{LineContent}
use Rattle.sg_sched.specs.Format.Items.{SoFar}
use Rattle.sg_sched.specs.Format.Kinds.{Kind, Form, Unknown, Twice, NotHonest}
use Rattle.sg_sched.specs.Format.Faults.{where', is_wrong, too_many, is_known, is_repeated, is_honest, fault_after}

-- nothing is wrong with it
pub record IsRight (p : SoFar) (statement : LineContent) : Type 0 where
  pub form : is_wrong p statement ≡ false
  pub few : too_many p statement ≡ None
  pub known : is_known p statement ≡ true
  pub once : is_repeated p statement ≡ false
  pub honest : is_honest p statement ≡ true

no_kind : (b : Bool) (k : Kind) → where' b k ≡ None → b ≡ false
no_kind true k h = absurd (cc)
no_kind false k h = refl

pub right : (p : SoFar) (statement : LineContent) → fault_after p statement ≡ None → IsRight p statement
right p statement h =
    let e : List (Option Kind) = [] in
    let n = where' (not (is_honest p statement)) NotHonest in
    let t = where' (is_repeated p statement) Twice in
    let u = where' (not (is_known p statement)) Unknown in
    let m = too_many p statement in
    let a = none_parts (where' (is_wrong p statement) Form) (m ∷ u ∷ t ∷ n ∷ e) h in
    let b = none_parts m (u ∷ t ∷ n ∷ e) a.1 in
    let c = none_parts u (t ∷ n ∷ e) b.1 in
    let d = none_parts t (n ∷ e) c.1 in
    let f = none_parts n e d.1 in
    record {
      form = no_kind (is_wrong p statement) Form a.0;
      few = b.0;
      known = not-false (is_known p statement) (no_kind (not (is_known p statement)) Unknown c.0);
      once = no_kind (is_repeated p statement) Twice d.0;
      honest = not-false (is_honest p statement) (no_kind (not (is_honest p statement)) NotHonest f.0);
    }

-- it isn't out of its group
pub in_group : (p : SoFar) (n : ℕ) → nat_lt n p.group ≡ false → p.group ≤ n
in_group p n h = ltb-false n p.group h
