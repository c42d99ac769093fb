use Rattle.std.proofs.Common.{◌≡◌, ◌≤◌, List, length, Result, Ok, Err, IfOk, MatchResult}
use Rattle.sg_protocol.specs.Graph.{Graph}
use Rattle.sg_parse.specs.Parts.{Part, AreParts}
use Rattle.sg_compose.specs.declared.fault.ComposeFault.{ComposeFault}
use Rattle.sg_compose.specs.Expansion.{expansion}
use Rattle.sg_compose.specs.Laws.{IsComposed}
use Rattle.sg_compose.specs.Owed.{Refuses}
use Rattle.sg_compose.proofs.Keeps.{composed, two_roles}
use Rattle.sg_compose.proofs.expansion.expand.Goals as goal

kept : (ps : List Part) (r : Result Graph ComposeFault) → AreParts ps → MatchResult r (λ g. expansion ps ≡ Ok g) (Refuses (expansion ps)) → IfOk r (IsComposed ps)
kept ps (Ok g) are e = composed ps g are e
kept ps (Err e) are h = tt

pub returns-clause-walks : goal.returns-clause-walks
returns-clause-walks c = kept c.args.parts.now c.expand_all.result c.requires c.expand_all.ensures

several : (ps : List Part) (r : Result Graph ComposeFault) → AreParts ps → MatchResult r (λ g. expansion ps ≡ Ok g) (Refuses (expansion ps)) → IfOk r (λ g. 2 ≤ length g.roles)
several ps (Ok g) are e = two_roles ps g are e
several ps (Err e) are h = tt

pub returns-clause-two : goal.returns-clause-two
returns-clause-two c = several c.args.parts.now c.expand_all.result c.requires c.expand_all.ensures
