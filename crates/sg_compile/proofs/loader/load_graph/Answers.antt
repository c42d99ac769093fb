use Rattle.std.proofs.Common.{◌+◌, ℕ, List, length, take, drop, inl, sym, ap, true≢false}
use Rattle.sg_compile.specs.Loading.{HasGraph, IsCanonical, IsNoCanonical}
use Rattle.sg_compile.proofs.Behind.{none_split, none_canonical, none_role, graph_read, loaded, fault_behind}
use Rattle.sg_compile.proofs.loader.load_graph.Goals as goal

pub returns-in_default-clause-fault : goal.returns-in_default-clause-fault
returns-in_default-clause-fault c = inl (ap (λ (b : List ℕ). 19 + length b) c.as_bytes.ensures.bytes, none_split c.args.text.now c.args.name.now c.in_default.ensures.split)

pub returns-in_default-2-clause-fault : goal.returns-in_default-2-clause-fault
returns-in_default-2-clause-fault c =
    let none : IsNoCanonical (take c.in-Some.index c.args.text.now) = rw c.split_at.ensures.front at (rw c.in_default-2.is at c.in_ok-graph.ensures.ok) in
    inl (ap (λ (b : List ℕ). 19 + length b) c.as_bytes.ensures.bytes, none_canonical c.args.text.now c.in-Some.index c.args.name.now c.in-Some.ensures.split none)

pub returns-in_default-find_role-clause-fault : goal.returns-in_default-find_role-clause-fault
returns-in_default-find_role-clause-fault c =
    let is : IsCanonical (take c.in-Some.index c.args.text.now) c.in-Some-2.graph = rw c.split_at.ensures.front at (rw c.in-Some-2.is at c.in_ok-graph.ensures.ok) in
    inl (
      ap (λ (b : List ℕ). 19 + length b) c.as_bytes.ensures.bytes,
      none_role c.args.text.now c.in-Some.index c.args.name.now c.in-Some-2.graph c.in-Some.ensures.split is (λ there. true≢false (sym (c.in_default-find_role.ensures.found.1 there))),
    )

pub returns : goal.returns
returns c =
    let is : IsCanonical (take c.in-Some.index c.args.text.now) c.in-Some-2.graph = rw c.split_at.ensures.front at (rw c.in-Some-2.is at c.in_ok-graph.ensures.ok) in
    let index = c.in-Some-find_role.ensures.index in
    let has : HasGraph c.args.text.now c.args.name.now c.in-Some-2.graph c.in-Some-find_role.role (drop (c.in-Some.index + 6) c.args.text.now) =
    graph_read c.args.text.now c.in-Some.index c.args.name.now c.in-Some-2.graph c.in-Some-find_role.role c.in-Some.ensures.here is index.0 index.1 in
    record {
      ok = loaded c.args.start c.args.name.now c.args.text.now _ c.in-Some-2.graph c.in-Some-find_role.role has c.load_table.result (rw c.split_at-2.ensures.back at c.load_table.ensures.ok);
      fault = fault_behind c.args.start c.args.name.now c.args.text.now _ c.in-Some-2.graph c.in-Some-find_role.role has c.load_table.result (rw c.split_at-2.ensures.back at c.load_table.ensures.fault);
    }
