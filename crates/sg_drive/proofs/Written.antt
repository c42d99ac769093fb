-- The text of a summary, line after line.
use Rattle.std.proofs.Common.{◌≡◌, ℕ, Bool, true, false, if◌then◌else◌, List, [], ◌++◌, codes, length, map, sym, ap, ◌∙◌, append_assoc, append-nil}
use Rattle.std.specs.Prelude.{OnOk, Result, Ok, Err}
use Rattle.std.proofs.lemmas.List.{length-map}
use Rattle.sg_protocol.specs.Graph.{Graph}
use Rattle.sg_report.specs.Report.{premise_lines, premises_hold}
use Rattle.sg_world.specs.Account.{account}
use Rattle.sg_setting.specs.Replay.{Replay}
use Rattle.sg_walk.specs.declared.stored.StoredWalk.{StoredWalk}
use Rattle.sg_world.specs.Walked.{WalksAreMade, sid_and_steps}
use Rattle.sg_drive.specs.Summary.{Counts, IsSummary, count_lines, counts_of, number_line}
use Rattle.sg_drive.specs.Writing.{HasWalks, IsRest}

-- one text behind another
join : (x y z a b : List ℕ) → y ≡ x ++ a → z ≡ y ++ b → z ≡ x ++ (a ++ b)
join x y z a b p q = q ∙ ap (λ (w : List ℕ). w ++ b) p ∙ append_assoc x a b

-- seven lines, one behind another, are these
pub seven : {V E : Type 0} (r : Result V E) (o0 o1 o2 o3 o4 o5 o6 o7 a b c d e f g lines : List ℕ) → a ++ b ++ c ++ d ++ e ++ f ++ g ≡ lines → o1 ≡ o0 ++ a → o2 ≡ o1 ++ b → o3 ≡ o2 ++ c → o4 ≡ o3 ++ d → o5 ≡ o4 ++ e → o6 ≡ o5 ++ f → OnOk r (o7 ≡ o6 ++ g) → OnOk r (o7 ≡ o0 ++ lines)
seven (Ok v) o0 o1 o2 o3 o4 o5 o6 o7 a b c d e f g lines is p q s t u v6 w =
    let two = join o0 o1 o2 a b p q in
    let three = join o0 o2 o3 (a ++ b) c two s in
    let four = join o0 o3 o4 (a ++ b ++ c) d three t in
    let five = join o0 o4 o5 (a ++ b ++ c ++ d) e four u in
    let six = join o0 o5 o6 (a ++ b ++ c ++ d ++ e) f five v6 in
    join o0 o6 o7 (a ++ b ++ c ++ d ++ e ++ f) g six w ∙ ap (λ (z : List ℕ). o0 ++ z) is
seven (Err x) o0 o1 o2 o3 o4 o5 o6 o7 a b c d e f g lines is p q s t u v6 w = tt

-- ---- the parts

-- the walks
pub walks_written : {V E : Type 0} (r : Result V E) (rep : Replay) (old new : List ℕ) (walks : List (List ℕ × StoredWalk)) (count : ℕ) → WalksAreMade rep (map sid_and_steps walks) → count ≡ length walks
    → OnOk r (new ≡ old ++ number_line (codes "walks") count) → OnOk r (HasWalks rep old new)
walks_written (Ok v) rep old new walks count made many h = record {
  walks = map sid_and_steps walks;
  made = made;
  text = h ∙ ap (λ (n : ℕ). old ++ number_line (codes "walks") n) (many ∙ sym (length-map walks sid_and_steps));
}
walks_written (Err x) rep old new walks count made many h = tt

-- and what stands before them
pub rest_with : {V E : Type 0} (r : Result V E) (rep : Replay) (o0 o1 o2 : List ℕ) → o1 ≡ o0 ++ premise_lines (account rep).forged (account rep).collision_free → premises_hold (account rep) ≡ true → OnOk r (HasWalks rep o1 o2) → OnOk r (IsRest rep o0 o2)
rest_with (Ok v) rep o0 o1 o2 p hold h = record {
  walks = h.walks;
  made = λ e. h.made;
  text = h.text
      ∙ ap (λ (z : List ℕ). z ++ number_line (codes "walks") (length h.walks)) p
      ∙ ap (λ (b : Bool). o0 ++ premise_lines (account rep).forged (account rep).collision_free ++ (if b then number_line (codes "walks") (length h.walks) else [])) (sym hold);
}
rest_with (Err x) rep o0 o1 o2 p hold h = tt

pub rest_without : (rep : Replay) (o0 o1 : List ℕ) → o1 ≡ o0 ++ premise_lines (account rep).forged (account rep).collision_free → premises_hold (account rep) ≡ false → IsRest rep o0 o1
rest_without rep o0 o1 p not = record {
  walks = [];
  made = λ e. absurd (let z : true ≡ false = sym e ∙ not in cc);
  text = p ∙ sym (append-nil (o0 ++ premise_lines (account rep).forged (account rep).collision_free))
      ∙ ap (λ (b : Bool). o0 ++ premise_lines (account rep).forged (account rep).collision_free ++ (if b then number_line (codes "walks") 0 else [])) (sym not);
}

-- the whole
pub is_summary : (sessions lost s l : ℕ) (g : Graph) (rep : Replay) (c : Counts) (empty counted out text : List ℕ) → s ≡ sessions → l ≡ lost → empty ≡ [] → c ≡ counts_of g rep → counted ≡ empty ++ count_lines s l c → IsRest rep counted out → text ≡ out → IsSummary sessions lost g rep text
is_summary sessions lost s l g rep c empty counted out text es el none same lines rest is = record {
  walks = rest.walks;
  made = rest.made;
  spelled = is ∙ rest.text ∙ ap (λ (z : List ℕ). z ++ premise_lines (account rep).forged (account rep).collision_free ++ (if premises_hold (account rep) then number_line (codes "walks") (length rest.walks) else []))
      (lines ∙ ap (λ (z : List ℕ). z ++ count_lines s l c) none ∙ (λ i. count_lines (es i) (el i) (same i)));
}
