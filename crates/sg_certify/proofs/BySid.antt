-- Traces by the sids of their sessions.
use Rattle.std.proofs.Common.{◌≡◌, ℕ, zero, suc, ◌<◌, Bool, false, List, [], ◌∷◌, length, get_or, bytes_eq, refl, sym, ◌∙◌, ap, arith}
use Rattle.std.specs.Prelude.{Option, Some, None, position, slice_get, MatchOption}
use Rattle.std.specs.List.{list_any}
use Rattle.std.specs.Map.{lookup}
use Rattle.std.proofs.lemmas.Bool.{or_parts}
use Rattle.std.proofs.lemmas.Slice.Eq.{bytes_eq-Decides}
use Rattle.sg_graph.proofs.FirstIndex.{passes_there, none_passes}
use Rattle.sg_text.proofs.SameSid.{same, same-bytes_eq}
use Rattle.sg_model.specs.Lists.{has_text}
use Rattle.sg_certify.specs.Traces.{Trace}
use Rattle.sg_certify.proofs.Going.{Entry, keys}

any_same : (sid : List ℕ) (ts : List (List ℕ)) → list_any (same sid) ts ≡ has_text sid ts
any_same sid ts = ap (λ (f : List ℕ → Bool). list_any f ts) (λ i x. same-bytes_eq sid x i)

trace_there : (es : List Entry) (i : ℕ) (sid : List ℕ) → i < length (keys es) → sid ≡ get_or (keys es) i [] → (i < length es) × (c : Trace) × (slice_get es i ≡ Some (sid, c))
trace_there [] i sid h e = absurd (omega (arith, h))
trace_there (x ∷ xs) zero sid h e = (omega arith, x.1, ap (λ (z : List ℕ). Some (z, x.1)) (sym e))
trace_there (x ∷ xs) (suc i) sid h e = let rest = trace_there xs i sid (omega (arith, h)) e in (let l = rest.0 in omega (arith, l), rest.1, rest.2)

-- the index at which a sid is found
pub found_sid : (sid : List ℕ) (es : List Entry) (o : Option ℕ) → o ≡ position (same sid) (keys es) → MatchOption o (has_text sid (keys es) ≡ false) (λ i. (i < length es) × (c : Trace) × (slice_get es i ≡ Some (sid, c)))
found_sid sid es None e = sym (any_same sid (keys es)) ∙ none_passes (same sid) (keys es) (sym e)
found_sid sid es (Some i) e =
    let there = passes_there (same sid) (keys es) i [] (sym e) in
    trace_there es i sid there.0 ((bytes_eq-Decides sid (get_or (keys es) i [])).0 (sym (same-bytes_eq sid (get_or (keys es) i [])) ∙ there.1))

-- nothing is found for a sid that isn't there
pub found_none : (sid : List ℕ) (es : List Entry) → has_text sid (keys es) ≡ false → lookup (same sid) es ≡ None
found_none sid [] h = refl
found_none sid (e ∷ es) h =
    let ps = or_parts (bytes_eq sid e.0) (has_text sid (keys es)) h in
    rw (same-bytes_eq sid e.0, ps.0) (found_none sid es ps.1)
