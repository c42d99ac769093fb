use Rattle.std.proofs.Common.{◌+◌, ℕ, List, length, drop, ap, ◌∙◌}
use Rattle.sg_compile.specs.Loading.{HasRole, NoRole, NoStart}
use Rattle.std.specs.Prelude.{Err}
use Rattle.sg_compile.specs.declared.loader.LoadFault.TheVariants as Faults
use Rattle.sg_compile.proofs.Behind.{text_of, fault_of, rest_of, whole_of}
use Rattle.sg_compile.proofs.Once.{loaded_or_memory}
use Rattle.sg_compile.proofs.loader.load.Goals as goal

pub returns-in_default-clause-fault : goal.returns-in_default-clause-fault
returns-in_default-clause-fault c = NoStart c.in_default.ensures

pub returns-in_default-role_of-clause-fault : goal.returns-in_default-role_of-clause-fault
returns-in_default-role_of-clause-fault c = NoRole c.in-Some.ensures (rw c.split_at.ensures.back at c.in_default-role_of.ensures)

pub returns-clause-text : goal.returns-clause-text
returns-clause-text c =
    let role : HasRole (drop 13 c.args.bytes.now) c.in-Some-role_of.name (drop (6 + length c.in-Some-role_of.name) (drop 13 c.args.bytes.now)) = rw c.split_at.ensures.back at c.in-Some-role_of.ensures in
    let rest = rest_of c.in-Some-role_of.name c.args.bytes.now c.split_at-2.result.1.now (c.split_at-2.ensures.back ∙ ap (λ (b : List ℕ). drop (19 + length b) c.args.bytes.now) c.as_bytes.ensures.bytes) in
    text_of c.args.bytes.now c.in-Some.version c.in-Some-role_of.name _ _ c.in-Some.ensures role c.load_graph.result (rw rest at c.load_graph.ensures.ok)

pub returns-clause-fault : goal.returns-clause-fault
returns-clause-fault c =
    let role : HasRole (drop 13 c.args.bytes.now) c.in-Some-role_of.name (drop (6 + length c.in-Some-role_of.name) (drop 13 c.args.bytes.now)) = rw c.split_at.ensures.back at c.in-Some-role_of.ensures in
    let rest = rest_of c.in-Some-role_of.name c.args.bytes.now c.split_at-2.result.1.now (c.split_at-2.ensures.back ∙ ap (λ (b : List ℕ). drop (19 + length b) c.args.bytes.now) c.as_bytes.ensures.bytes) in
    fault_of c.args.bytes.now c.in-Some.version c.in-Some-role_of.name _ _ c.in-Some.ensures role c.load_graph.result (rw rest at c.load_graph.ensures.fault)

pub returns-in_default-clause-loads : goal.returns-in_default-clause-loads
returns-in_default-clause-loads c = λ p whole text. loaded_or_memory c.args.bytes.now p whole text (Err (Faults.Malformed 0)) tt tt (NoStart c.in_default.ensures)

pub returns-in_default-role_of-clause-loads : goal.returns-in_default-role_of-clause-loads
returns-in_default-role_of-clause-loads c =
    λ p whole text. loaded_or_memory c.args.bytes.now p whole text (Err (Faults.Malformed 13)) tt tt (NoRole c.in-Some.ensures (rw c.split_at.ensures.back at c.in_default-role_of.ensures))

pub returns-clause-loads : goal.returns-clause-loads
returns-clause-loads c =
    let role : HasRole (drop 13 c.args.bytes.now) c.in-Some-role_of.name (drop (6 + length c.in-Some-role_of.name) (drop 13 c.args.bytes.now)) = rw c.split_at.ensures.back at c.in-Some-role_of.ensures in
    let rest = rest_of c.in-Some-role_of.name c.args.bytes.now c.split_at-2.result.1.now (c.split_at-2.ensures.back ∙ ap (λ (b : List ℕ). drop (19 + length b) c.args.bytes.now) c.as_bytes.ensures.bytes) in
    λ p whole text.
    loaded_or_memory c.args.bytes.now p whole text c.load_graph.result (whole_of c.in-Some.version c.in-Some-role_of.name _ c.load_graph.result (rw rest at c.load_graph.ensures.ok))
    (text_of c.args.bytes.now c.in-Some.version c.in-Some-role_of.name _ _ c.in-Some.ensures role c.load_graph.result (rw rest at c.load_graph.ensures.ok))
    (fault_of c.args.bytes.now c.in-Some.version c.in-Some-role_of.name _ _ c.in-Some.ensures role c.load_graph.result (rw rest at c.load_graph.ensures.fault))
