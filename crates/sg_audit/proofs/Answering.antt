-- What the check of one walk says of all that are asked for.
use Rattle.std.proofs.Common.{◌≡◌, ℕ, ◌<◌, ◌+◌, ◌*◌, false, List, [], ◌∷◌, refl, sym, ◌∙◌, subst, arith}
use Rattle.std.specs.Prelude.{Option, Some, None, IsTrue, unwrap_or, IsPermutation}
use Rattle.std.specs.List.{AllByRecursion}
use Rattle.std.proofs.lemmas.List.Sorted.{sum_by-IsPermutation}
use Rattle.sg_model.specs.Lists.{is_in}
use Rattle.sg_protocol.specs.Graph.{Graph, IsGraph}
use Rattle.sg_protocol.specs.Calls.{Event}
use Rattle.sg_protocol.specs.Walk.{StoredStep, OnePath}
use Rattle.sg_audit.specs.Merged.{Log, IsMerged, AscendFrom, roles_of, events_of, clashes}
use Rattle.sg_audit.specs.Agree.{Agree, AreLogs, IsLog, NoneClashes}
use Rattle.sg_audit.specs.Answers.{IsAsked}
use Rattle.sg_audit.specs.Sent.{sent_steps}
use Rattle.sg_audit.proofs.Moments.{count}
use Rattle.sg_audit.proofs.ManyLogs.{restricted_by, agree_path, agree_ascends}
use Rattle.sg_audit.proofs.SentLaws.{sends_alone}

-- the honest roles by another list with the same members
pub same_honest : (g : Graph) (a b : List ℕ) (es : List Event) (ss : List StoredStep) → ((r : ℕ) → is_in r a ≡ is_in r b) → OnePath g (λ r. is_in r a) es ss → OnePath g (λ r. is_in r b) es ss
same_honest g a b es ss h p = subst (λ f. OnePath g f es ss) (λ i. λ r. h r i) p

-- the walk that is asked for first
pub asked : (reported : Option (List StoredStep)) (steps sent : List StoredStep) → steps ≡ unwrap_or reported sent → IsAsked reported steps
asked None steps sent h = tt
asked (Some w) steps sent h = h

pub agrees : (g : Graph) (logs : List Log) (reported : Option (List StoredStep)) (merged : List Event) (steps : List StoredStep) → AreLogs g logs reported → IsMerged logs merged → NoneClashes logs
    → AllByRecursion (λ (l : Log). AscendFrom 0 l.1) logs → OnePath g (λ r. is_in r (roles_of logs)) merged steps → Agree g logs steps
agrees g logs reported merged steps a m apart asc p = record {
  merged = merged;
  is_merged = m;
  apart = apart;
  restricted = restricted_by g logs merged a.differ a.each apart m asc;
  path = p;
}

-- if that walk doesn't explain the merged events, the logs agree with none that is asked for
pub disagrees : (g : Graph) (logs : List Log) (reported : Option (List StoredStep)) (merged : List Event) (first : List StoredStep) → IsGraph g → AreLogs g logs reported → IsMerged logs merged
    → first ≡ unwrap_or reported (sent_steps merged) → (OnePath g (λ r. is_in r (roles_of logs)) merged first → ⊥)
    → (steps : List StoredStep) → IsAsked reported steps → Agree g logs steps → ⊥
disagrees g logs None merged first is a m e unlike steps q w =
    let p = agree_path g logs merged steps m w in
    let s : steps ≡ first = sends_alone g (λ r. is_in r (roles_of logs)) merged steps is (a.unknown refl) p ∙ sym e in
    unlike (subst (λ z. OnePath g (λ r. is_in r (roles_of logs)) merged z) s p)
disagrees g logs (Some t) merged first is a m e unlike steps q w =
    let p = agree_path g logs merged steps m w in
    unlike (subst (λ z. OnePath g (λ r. is_in r (roles_of logs)) merged z) (q ∙ sym e) p)

-- the merged events clash if all events do
same_count : (logs : List Log) (merged : List Event) (m : ℕ) → IsPermutation (events_of logs) merged → count m merged ≡ count m (events_of logs)
same_count logs merged m p = sum_by-IsPermutation _ (events_of logs) merged p

pub same_clashes : (logs : List Log) (merged : List Event) (t : ℕ) → IsPermutation (events_of logs) merged → clashes merged t ≡ clashes (events_of logs) t
same_clashes logs merged t p = rw (same_count logs merged (2 * t) p, same_count logs merged (2 * t + 1) p) refl

-- roles of a graph are less than 16
pub small_roles : (g : Graph) (logs : List Log) → IsGraph g → AllByRecursion (IsLog g) logs → AllByRecursion (λ (l : Log). l.0 < 16) logs
small_roles g [] is h = tt
small_roles g (l ∷ ls) is h = ((let a = h.0.0 in let b = is.sizes.0 in omega (arith, a, b)), small_roles g ls is h.1)

-- if none of the merged events clash, none of all do
pub none_clashes : (logs : List Log) (merged : List Event) → IsPermutation (events_of logs) merged → ((t : ℕ) → clashes merged t ≡ false) → NoneClashes logs
none_clashes logs merged p h t = sym (same_clashes logs merged t p) ∙ h t

pub first_of_all : (logs : List Log) (merged : List Event) (time : ℕ) → IsPermutation (events_of logs) merged → IsTrue (clashes merged time) × ((s : ℕ) → s < time → clashes merged s ≡ false)
    → IsTrue (clashes (events_of logs) time) × ((s : ℕ) → s < time → clashes (events_of logs) s ≡ false)
first_of_all logs merged time p h = (subst IsTrue (same_clashes logs merged time p) h.0, λ s l. sym (same_clashes logs merged s p) ∙ h.1 s l)

-- if a log isn't by time, the logs agree with no walk
pub unordered : (g : Graph) (logs : List Log) → (AllByRecursion (λ (l : Log). AscendFrom 0 l.1) logs → ⊥) → (steps : List StoredStep) → Agree g logs steps → ⊥
unordered g logs h steps a = h (agree_ascends g logs steps a)
