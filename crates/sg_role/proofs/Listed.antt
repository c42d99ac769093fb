-- The targets of an edge, and what it reads, number by number.
use Rattle.std.proofs.Common.{◌≡◌, ℕ, ◌<◌, List, [], ◌∷◌, filter, length, true, nat_lt, refl, arith}
use Rattle.std.proofs.lemmas.Bool.Decides.{nat_tests}
use Rattle.std.specs.List.{AllByRecursion, list_all}
use Rattle.std.proofs.lemmas.Bool.{and_parts}
use Rattle.sg_model.proofs.Small.{all_below}
use Rattle.sg_model.specs.Lists.{is_in, below, rises_from}
use Rattle.sg_protocol.specs.Graph.{Graph, IsGraph, reads}
use Rattle.sg_protocol.specs.IsSchedule.{IsProgram}
use Rattle.sg_protocol.specs.Keyring.{Program, targets_of}
use Rattle.sg_protocol.specs.Texts.{real}
use Rattle.sg_protocol.proofs.Sent.{reads_in}
use Rattle.sg_graph.proofs.Sets.{numbers_within}
use Rattle.sg_role.proofs.Rising.{numbers_self, and_both}

pub targets_listed : (p : Program) → IsProgram real p → (label : ℕ) → filter (λ x. is_in x (targets_of p label)) (below 16) ≡ targets_of p label
targets_listed p ip label = numbers_self 16 (targets_of p label) (numbers_within (length p.graph.roles) 16 (targets_of p label) ip.is_graph.sizes.0 (ip.targets.rising label))

pub targets_there : (p : Program) → IsProgram real p → (label : ℕ) → AllByRecursion (λ t. t < length p.graph.roles) (targets_of p label)
targets_there p ip label = all_below (length p.graph.roles) (targets_of p label) (and_parts (rises_from 0 (targets_of p label)) (list_all (λ k. nat_lt k (length p.graph.roles)) (targets_of p label)) (ip.targets.rising label)).1

pub reads_listed : (g : Graph) → IsGraph g → (label : ℕ) → filter (λ x. is_in x (reads g label)) (below 32) ≡ reads g label
reads_listed g is label =
    let r = reads_in (length g.variables) g.edges is.variables label in
    numbers_self 32 (reads g label) (numbers_within (length g.variables) 32 (reads g label) is.sizes.1 (and_both (rises_from 0 (reads g label)) (list_all (λ k. nat_lt k (length g.variables)) (reads g label)) r.0 (tests (length g.variables) (reads g label) r.1)))
  where
    tests : (n : ℕ) (xs : List ℕ) → AllByRecursion (λ x. x < n) xs → list_all (λ k. nat_lt k n) xs ≡ true
    tests n [] a = refl
    tests n (x ∷ xs) a = and_both (nat_lt x n) (list_all (λ k. nat_lt k n) xs) (less n x a.0) (tests n xs a.1)
      where
        less : (n x : ℕ) → x < n → nat_lt x n ≡ true
        less n x l = grind (arith, nat_tests)
