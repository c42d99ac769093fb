-- The walk of a trace explains its session.
use Rattle.std.proofs.Common.{◌≡◌, ℕ, false, inl, inr, List, [], ◌∷◌, refl, sym, ◌∙◌, ap, subst}
use Rattle.std.specs.Prelude.{Some, None, bytes_eq}
use Rattle.std.specs.Map.{lookup}
use Rattle.std.specs.List.{AllByRecursion}
use Rattle.std.proofs.lemmas.Bool.{cases_Bool}
use Rattle.sg_certify.specs.Events.{explaining_walk}
use Rattle.sg_certify.proofs.Traced.{traces_are_explained}
use Rattle.sg_certify.proofs.Parted.{events_of-part}
use Rattle.sg_text.proofs.Firsts.{has_text-firsts}
use Rattle.sg_model.specs.Lists.{has_text, is_in}
use Rattle.sg_model.proofs.Small.{same_bytes}
use Rattle.sg_protocol.specs.Keyring.{Program}
use Rattle.sg_protocol.specs.Run.{run, events_of}
use Rattle.sg_protocol.specs.Schedule.{Schedule, honest_role}
use Rattle.sg_protocol.specs.Texts.{real}
use Rattle.sg_protocol.specs.Walk.{StoredStep, OnePath}
use Rattle.sg_protocol.specs.World.{Logged}
use Rattle.sg_protocol.proofs.RealHash.{real_hash}
use Rattle.sg_certify.specs.Traces.{Trace, Traces}
use Rattle.sg_certify.specs.Runs.{IsUnbroken, IsTraceOf, AreTraces, IsExplainedBy, trace_at, sids_of}
use Rattle.sg_certify.proofs.Going.{Entry, keys, no_steps}

-- the trace that is found is that of the session
found_trace : (P : List ℕ → Trace → Type 0) (es : List Entry) (sid : List ℕ) (c : Trace) → AllByRecursion (λ (e : Entry). P e.0 e.1) es → lookup (bytes_eq sid) es ≡ Some c → P sid c
found_trace P [] sid c a h = absurd (cc)
found_trace P (e ∷ es) sid c a h = elim (cases_Bool (bytes_eq sid e.0)) [
  | inl y ↦ (let two : Some e.1 ≡ Some c = rw y at h in let same : e.1 ≡ c = cc in subst (λ x. P sid x) same (subst (λ x. P x e.1) (sym (same_bytes sid e.0 y)) a.0))
  | inr n ↦ found_trace P es sid c a.1 (rw n at h)
]

-- if none is found, the sid isn't there
none_found : (es : List Entry) (sid : List ℕ) → lookup (bytes_eq sid) es ≡ None → has_text sid (keys es) ≡ false
none_found [] sid h = refl
none_found (e ∷ es) sid h = elim (cases_Bool (bytes_eq sid e.0)) [
  | inl y ↦ absurd (let two : Some e.1 ≡ None = rw y at h in cc)
  | inr n ↦ rw n (none_found es sid (rw n at h))
]

module _ (programs : List Program) (s : Schedule) (c : Traces) (u : IsUnbroken programs s) (are : AreTraces programs s (run real programs s).log c) (sid : List ℕ) where
  abbrev log : List Logged
  log = (run real programs s).log

  pub explained : (x : Trace) (steps : List StoredStep) → trace_at c sid ≡ Some x → steps ≡ explaining_walk x.graph (λ r. is_in r x.honest) [] x.shown → IsExplainedBy programs s sid steps
  explained x steps at is =
      let h : IsTraceOf s log log sid x = found_trace (IsTraceOf s log log) c sid x are.each at in
      let path : OnePath x.graph (honest_role s h.cast) (events_of sid log) (explaining_walk x.graph (honest_role s h.cast) [] x.shown) =
      traces_are_explained real real_hash programs s sid h.cast x.graph x.shown u.compiled u.schedule u.premises h.is_cast h.graph h.trace in
      let same : steps ≡ explaining_walk x.graph (honest_role s h.cast) [] x.shown = is ∙ (λ i. explaining_walk x.graph (λ r. h.honest r i) [] x.shown) in
      (record { cast = h.cast; is_cast = h.is_cast; graph = x.graph; is_graph = h.graph; steps = steps; path = subst (OnePath x.graph (honest_role s h.cast) (events_of sid log)) (sym same) path }, refl)

  pub no_event : trace_at c sid ≡ None → events_of sid log ≡ []
  no_event none =
      let absent : has_text sid (sids_of log) ≡ false = sym (has_text-firsts sid (sids_of log)) ∙ ap (has_text sid) (sym are.sids) ∙ none_found c sid none in
      sym (events_of-part sid log) ∙ ap (events_of sid) (no_steps sid log absent).0
