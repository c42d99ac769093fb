-- What it is to the law that a session is left.
use Rattle.std.specs.Prelude.{◌≡◌, ℕ, ◌⊎◌, length, true, false, List, [], filter, bytes_eq, refl, Option, Some, None}
use Rattle.std.specs.Option.{option_map_or}
use Rattle.std.proofs.Common.{sym, ◌∙◌, ap, subst, inl, inr}
use Rattle.std.proofs.lemmas.Bool.{cases_Bool}
use Rattle.std.proofs.lemmas.Slice.Eq.{bytes_eq-Decides}
use Rattle.sg_model.specs.Names.{Name}
use Rattle.sg_protocol.specs.Graph.{Graph}
use Rattle.sg_protocol.specs.Frame.{Cast}
use Rattle.sg_protocol.specs.Texts.{Hash}
use Rattle.sg_protocol.specs.Keyring.{Program}
use Rattle.sg_protocol.specs.Session.{Session}
use Rattle.sg_protocol.specs.Calls.{Abandon, Abandoned, NotAbandoned}
use Rattle.sg_protocol.specs.Notes.{notes}
use Rattle.sg_protocol.specs.Schedule.{Schedule}
use Rattle.sg_law.specs.Values.{State}
use Rattle.sg_protocol.specs.Acting.{answer}
use Rattle.sg_model.proofs.Small.{same_bytes}
use Rattle.sg_protocol.specs.Node.{Node, session_with}
use Rattle.sg_protocol.specs.NodeAfter.{goes_on, replace}
use Rattle.sg_protocol.proofs.KnownSession.{SessionOfCast}
use Rattle.sg_protocol.proofs.Calls.{Status, NodeOk, WasLeft, Out}
use Rattle.sg_protocol.proofs.AfterCalls.{other_status, nothing}
use Rattle.sg_protocol.proofs.OfSid.{of_sid, replace-other, replace-own}
use Rattle.sg_protocol.proofs.Nodes.{all_replaced}

module _ {sha : Hash} {programs : List Program} {sid : List ℕ} {cast : Cast} {g : Graph} {Hashed : List ℕ → Type 0} (known : SessionOfCast sha programs sid cast g Hashed) (s : Schedule) (LeftBy : Name → Type 0) (st : State) (who : Name) (n : Node) (ok : NodeOk known s LeftBy st who n) where
  after_own : (sid0 : List ℕ) → sid0 ≡ sid → filter (of_sid sid) (replace (λ (x : Session). bytes_eq x.sid sid0) (λ x. []) n.live) ≡ replace (λ (x : Session). bytes_eq x.sid sid0) (λ x. []) (filter (of_sid sid) n.live)
  after_own sid0 q = sym (replace-own (λ (x : Session). bytes_eq x.sid sid0) (λ x. []) (λ x e. subst (λ y. bytes_eq x.sid y ≡ true) q e) (λ x e. refl) n.live)

  abandon_done : (sid0 : List ℕ) → (sid0 ≡ sid → LeftBy who) → NodeOk known s LeftBy st who (goes_on n (λ (x : Session). bytes_eq x.sid sid0) (λ x. []))
  abandon_done sid0 left = record {
    me = ok.me;
    has_programs = ok.has_programs;
    lengths = all_replaced (λ (x : Session). length x.sid ≡ 32) (λ (x : Session). bytes_eq x.sid sid0) (λ x. []) n.live (λ z q l. tt) ok.lengths;
    status = elim (cases_Bool (bytes_eq sid0 sid)) [
      | inl h ↦ mine (same_bytes sid0 sid h) ok.status
      | inr h ↦ other_status known s LeftBy st who n (goes_on n (λ (x : Session). bytes_eq x.sid sid0) (λ x. [])) (replace-other (λ (x : Session). bytes_eq x.sid sid0) (λ x. []) (λ x e. subst (λ y. bytes_eq y sid ≡ false) (sym (same_bytes x.sid sid0 e)) h) (λ x e. refl) n.live) (λ r j. j) ok.status
    ];
  }
    where
      mine : sid0 ≡ sid → Status known s LeftBy st who n → Status known s LeftBy st who (goes_on n (λ (x : Session). bytes_eq x.sid sid0) (λ x. []))
      mine q (inl f) = inl record { alone = after_own sid0 q ∙ ap (replace (λ (x : Session). bytes_eq x.sid sid0) (λ x. [])) f.alone; all = f.all }
      mine q (inr (inl h)) = inr (inr record {
        alone = after_own sid0 q ∙ ap (replace (λ (x : Session). bytes_eq x.sid sid0) (λ x. [])) h.alone ∙ rw ((bytes_eq-Decides (h.x).sid sid0).1 (h.matches.same_sid ∙ sym q)) refl;
        x = h.x;
        matches = h.matches;
        was_joined = h.was_joined;
        why = inr (left q);
      })
      mine q (inr (inr g')) = inr (inr record { alone = after_own sid0 q ∙ ap (replace (λ (x : Session). bytes_eq x.sid sid0) (λ x. [])) g'.alone; x = g'.x; matches = g'.matches; was_joined = g'.was_joined; why = g'.why })

  abandon_life : (sid0 : List ℕ) → (sid0 ≡ sid → LeftBy who) → (filter (of_sid sid) (replace (λ (x : Session). bytes_eq x.sid sid0) (λ x. []) n.live) ≡ filter (of_sid sid) n.live) ⊎ WasLeft known s LeftBy who n (goes_on n (λ (x : Session). bytes_eq x.sid sid0) (λ x. [])) Abandoned
  abandon_life sid0 left = elim (cases_Bool (bytes_eq sid0 sid)) [
    | inl h ↦ inr record { quiet = refl; none = mine (same_bytes sid0 sid h) ok.status; by = left (same_bytes sid0 sid h); fewer = λ r j. j }
    | inr h ↦ inl (replace-other (λ (x : Session). bytes_eq x.sid sid0) (λ x. []) (λ x e. subst (λ y. bytes_eq y sid ≡ false) (sym (same_bytes x.sid sid0 e)) h) (λ x e. refl) n.live)
  ]
    where
      mine : sid0 ≡ sid → Status known s LeftBy st who n → filter (of_sid sid) (replace (λ (x : Session). bytes_eq x.sid sid0) (λ x. []) n.live) ≡ []
      mine q (inl f) = after_own sid0 q ∙ ap (replace (λ (x : Session). bytes_eq x.sid sid0) (λ x. [])) f.alone
      mine q (inr (inl h)) = after_own sid0 q ∙ ap (replace (λ (x : Session). bytes_eq x.sid sid0) (λ x. [])) h.alone ∙ rw ((bytes_eq-Decides (h.x).sid sid0).1 (h.matches.same_sid ∙ sym q)) refl
      mine q (inr (inr h)) = after_own sid0 q ∙ ap (replace (λ (x : Session). bytes_eq x.sid sid0) (λ x. [])) h.alone

  pub abandon_out : (sid0 : List ℕ) → (sid0 ≡ sid → answer sha n (Abandon sid0) ≡ Abandoned → LeftBy who) → Out known s LeftBy st who n (Abandon sid0) (answer sha n (Abandon sid0)) (notes sha n (Abandon sid0))
  abandon_out sid0 = go (session_with n.live sid0)
    where
      go : (o : Option Session) → (sid0 ≡ sid → option_map_or (λ (x : Session). Abandoned) o NotAbandoned ≡ Abandoned → LeftBy who) → Out known s LeftBy st who n (Abandon sid0) (option_map_or (λ (x : Session). Abandoned) o NotAbandoned) (record { made = []; found = []; hashed = [] })
      go None left = nothing known s LeftBy st who n (Abandon sid0) NotAbandoned (record { made = []; found = []; hashed = [] }) ok refl refl (λ nt i. absurd i) (inl refl) (λ r j. j) (λ r j. j)
      go (Some x) left = nothing known s LeftBy st who n (Abandon sid0) Abandoned (record { made = []; found = []; hashed = [] }) (abandon_done sid0 (λ q. left q refl)) refl refl (λ nt i. absurd i) (abandon_life sid0 (λ q. left q refl)) (λ r j. j) (λ r j. j)
