use Rattle.std.proofs.Common.{◌≡◌, ◌∙◌, ap, sym, ℕ}
use Rattle.std.specs.Prelude.{Option, option_copied}
use Rattle.sg_protocol.specs.Graph.{Graph}
use Rattle.sg_sched.specs.Format.Crafts.{source_of}
use Rattle.sg_sched.specs.Format.Items.{SoFar, graph_for}
use Rattle.sg_sched.specs.Format.LineContents.{CraftContent}
use Rattle.sg_sched_text.specs.Crafting.{known_ends, known_lists, known_source}
use Rattle.sg_sched_text.proofs.CraftLaws.{no_ends, no_lists, no_seal, all_known}
use Rattle.sg_sched_text.proofs.declarations.Declared.parts.Goals as goal

pub returns-in_default : goal.returns-in_default
returns-in_default c =
    let past : SoFar = c.args.self.now in
    let k : CraftContent = c.args.craft.now in
    let same : option_copied c.graph_for-graph.result ≡ graph_for k.session past = c.graph_for-graph.ensures ∙ ap (λ (k : CraftContent). graph_for k.session past) c.craft.view_is in
    no_ends past (graph_for k.session past) k (c.in_default.ensures ∙ ap (λ (g : Option Graph). known_ends past g k) same)

pub returns-in_default-source : goal.returns-in_default-source
returns-in_default-source c =
    let past : SoFar = c.args.self.now in
    let k : CraftContent = c.args.craft.now in
    let same : option_copied c.graph_for-graph.result ≡ graph_for k.session past = c.graph_for-graph.ensures ∙ ap (λ (k : CraftContent). graph_for k.session past) c.craft.view_is in
    let ends : ℕ × (ℕ × ℕ) = (c.in-Some.ends.0, (c.in-Some.ends.1, c.in-Some.ends.2)) in
    no_seal past (graph_for k.session past) k ends (c.in-Some.ensures ∙ ap (λ (g : Option Graph). known_ends past g k) same)
    (c.in_default-source.ensures ∙ ap (λ (k : CraftContent). known_source past (option_copied c.graph_for-graph.result) k.seal) c.craft.view_is ∙ ap (λ (g : Option Graph). known_source past g k.seal) same)

pub returns-in-None : goal.returns-in-None
returns-in-None c =
    let past : SoFar = c.args.self.now in
    let k : CraftContent = c.args.craft.now in
    let same : option_copied c.graph_for-graph.result ≡ graph_for k.session past = c.graph_for-graph.ensures ∙ ap (λ (k : CraftContent). graph_for k.session past) c.craft.view_is in
    let ends : ℕ × (ℕ × ℕ) = (c.in-Some.ends.0, (c.in-Some.ends.1, c.in-Some.ends.2)) in
    no_lists past (graph_for k.session past) k ends (c.in-Some.ensures ∙ ap (λ (g : Option Graph). known_ends past g k) same)
    (sym c.in-None.is ∙ c.in_ok-lists.ensures ∙ ap (λ (g : Option Graph). known_lists past g k) same)

pub returns-in-Some-2 : goal.returns-in-Some-2
returns-in-Some-2 c =
    let past : SoFar = c.args.self.now in
    let k : CraftContent = c.args.craft.now in
    let same : option_copied c.graph_for-graph.result ≡ graph_for k.session past = c.graph_for-graph.ensures ∙ ap (λ (k : CraftContent). graph_for k.session past) c.craft.view_is in
    let ends : ℕ × (ℕ × ℕ) = (c.in-Some.ends.0, (c.in-Some.ends.1, c.in-Some.ends.2)) in
    all_known past (graph_for k.session past) k ends c.in-Some-2.lists (source_of c.in-Some-source.seal) (c.in-Some.ensures ∙ ap (λ (g : Option Graph). known_ends past g k) same)
    (sym c.in-Some-2.is ∙ c.in_ok-lists.ensures ∙ ap (λ (g : Option Graph). known_lists past g k) same)
    (c.in-Some-source.ensures ∙ ap (λ (k : CraftContent). known_source past (option_copied c.graph_for-graph.result) k.seal) c.craft.view_is ∙ ap (λ (g : Option Graph). known_source past g k.seal) same)
