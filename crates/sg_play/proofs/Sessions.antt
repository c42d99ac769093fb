-- The sessions of a play, as its names have them.
use Rattle.std.proofs.Common.{◌≡◌, ℕ, ◌||◌, Bool, true, false, List, [], ◌∷◌, cond, filter, length, Option, None, Some, option_map, bytes_eq, refl, sym, ap, ◌∙◌}
use Rattle.std.specs.List.{slice_get}
use Rattle.std.proofs.lemmas.List.{length-map}
use Rattle.std.proofs.lemmas.Option.{slice_get-map}
use Rattle.sg_text.specs.Sessions.{Naming, all_sids, naming, session_name, sids_known}
use Rattle.sg_text.proofs.Naming.{has_text-all_sids}
use Rattle.sg_model.specs.Lists.{has_text}
use Rattle.sg_model.specs.Names.{Name}
use Rattle.sg_model.proofs.Small.{bytes_refl}
use Rattle.sg_protocol.specs.Past.{AnsweredCall}
use Rattle.sg_play.specs.Steps.{known_in}

-- what is among these passes, so all of a part passes
all_pass : (xs zs : List (List ℕ)) → ((t : List ℕ) → has_text t xs ≡ true → has_text t zs ≡ true) → filter (λ t. has_text t zs) xs ≡ xs
all_pass [] zs h = refl
all_pass (x ∷ xs) zs h =
    ap (λ b. cond b (x ∷ filter (λ t. has_text t zs) xs) (filter (λ t. has_text t zs) xs)) (h x (ap (λ b. b || has_text x xs) (bytes_refl x)))
    ∙ ap (λ l. x ∷ l) (all_pass xs zs (λ t e. h t (by t (bytes_eq t x) e)))
  where
    by : (t : List ℕ) (b : Bool) → has_text t xs ≡ true → (b || has_text t xs) ≡ true
    by t true e = refl
    by t false e = e

-- the sessions with an event are all sessions, if none is declared
pub all_known : (calls : List AnsweredCall) → sids_known (known_in calls) ≡ all_sids (known_in calls)
all_known calls =
    let m = known_in calls in
    (λ i. filter (λ sid. sym (has_text-all_sids m sid) i) (all_sids m)) ∙ all_pass (all_sids m) (all_sids m) (λ t e. e)

-- how many there are
pub count_known : (ns : Naming) (calls : List AnsweredCall) → ns ≡ naming 115 (known_in calls) → length ns.names ≡ length (sids_known (known_in calls))
count_known ns calls e =
    let m = known_in calls in
    ap (λ (n : Naming). length n.names) e ∙ length-map (all_sids m) (λ sid. (sid, session_name 115 m sid)) ∙ sym (ap (λ (l : List (List ℕ)). length l) (all_known calls))

-- the one at an index
sid_of_pair : (o : Option (List ℕ)) (f : List ℕ → Name) → option_map (λ (x : List ℕ × Name). x.0) (option_map (λ sid. (sid, f sid)) o) ≡ o
sid_of_pair None f = refl
sid_of_pair (Some sid) f = refl

pub known_at : (ns : Naming) (calls : List AnsweredCall) (index : ℕ) → ns ≡ naming 115 (known_in calls) → option_map (λ (x : List ℕ × Name). x.0) (slice_get ns.names index) ≡ slice_get (sids_known (known_in calls)) index
known_at ns calls index e =
    let m = known_in calls in
    ap (λ (n : Naming). option_map (λ (x : List ℕ × Name). x.0) (slice_get n.names index)) e
    ∙ ap (option_map (λ (x : List ℕ × Name). x.0)) (slice_get-map (λ sid. (sid, session_name 115 m sid)) (all_sids m) index)
    ∙ sid_of_pair (slice_get (all_sids m) index) (session_name 115 m)
    ∙ sym (ap (λ (l : List (List ℕ)). slice_get l index) (all_known calls))
