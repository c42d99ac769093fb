use Rattle.std.proofs.Common.{◌≡◌, ◌∙◌, ap, sym, subst, Bool, true, false, ◌&&◌, arith}
use Rattle.std.specs.Prelude.{Option}
use Rattle.sg_protocol.specs.Graph.{Graph}
use Rattle.sg_protocol.specs.Schedule.{Step}
use Rattle.sg_sched.specs.Format.Faults.{rises, is_short}
use Rattle.sg_sched.specs.Format.Items.{SoFar, graph_for, session_named}
use Rattle.sg_sched.specs.Format.LineContents.{CraftContent}
use Rattle.sg_sched_text.specs.Adding.{Added, add_step}
use Rattle.sg_sched_text.specs.TakingLines.{Takes}
use Rattle.sg_sched_text.proofs.CraftLaws.{craft_wrong, craft_added}
use Rattle.sg_sched_text.proofs.declarations.Declared.craft.Goals as goal

-- what is found of the words that are held, of those that are meant
risen_is : (past : SoFar) (held said : CraftContent) (g : Option Graph) (rose : Bool) → held ≡ said → g ≡ graph_for held.session past → rose ≡ rises g said → rises (graph_for said.session past) said ≡ rose
risen_is past held said g rose same graph found = sym (found ∙ ap (λ (g : Option Graph). rises g said) (graph ∙ ap (λ (k : CraftContent). graph_for k.session past) same))

pub returns-then-not-rises : goal.returns-then-not-rises
returns-then-not-rises c =
    let past : SoFar = c.args.self.now in
    let k : CraftContent = c.args.craft in
    let bad = risen_is past _ k _ false c.craft.view_is c.graph_for.ensures c.if-not-rises.ensures in
    record { taken = tt; stopped = craft_wrong past k (ap (λ b. b && is_short (graph_for k.session past) (session_named k.session past) k) bad) }

pub returns-then-not-branch : goal.returns-then-not-branch
returns-then-not-branch c =
    let past : SoFar = c.args.self.now in
    let k : CraftContent = c.args.craft in
    let risen = risen_is past _ k _ true c.craft.view_is c.graph_for.ensures c.if-not-rises.ensures in
    let long : c.in_ok-is_short.field-0 ≡ false = grind arith in
    record { taken = tt; stopped = craft_wrong past k (λ i. risen i && (sym c.in_ok-is_short.ensures ∙ long) i) }

pub returns : goal.returns
returns c =
    let past : SoFar = c.args.self.now in
    let k : CraftContent = c.args.craft in
    let risen = risen_is past _ k _ true c.craft.view_is c.graph_for.ensures c.if-not-rises.ensures in
    let few : c.in_ok-is_short.field-0 ≡ true = grind arith in
    subst (λ (a : Added). Takes a c.add_step.new.self c.add_step.result)
    (ap (λ (o : Option Step). add_step past false true o) c.in_ok-step.ensures ∙ craft_added past k (λ i. risen i && (sym c.in_ok-is_short.ensures ∙ few) i))
    c.add_step.ensures.takes
