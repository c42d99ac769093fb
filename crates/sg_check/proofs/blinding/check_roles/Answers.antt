use Rattle.std.proofs.Common.{◌≡◌, ◌≢◌, ◌<◌, ℕ, Bool, true, false, eqb, eq-eqb, List, [], ◌∙◌, sym, ap, subst, arith}
use Rattle.std.specs.Prelude.{None, Some}
use Rattle.std.proofs.lemmas.Result.{err_from_is_err_and}
use Rattle.sg_base.specs.Sets.{with_member}
use Rattle.sg_model.specs.Shape.{role_at}
use Rattle.sg_protocol.specs.Graph.{Graph, shape}
use Rattle.sg_reach.specs.Reaches.{Closure, IsFirstOf, LeadsPast}
use Rattle.sg_reach.proofs.Pair.{pair}
use Rattle.sg_check.proofs.Blinded.{clear_first, clear_second, blind_at, shown}
use Rattle.sg_check.proofs.blinding.check_roles.Goals as goal

-- the closure of a node past two roles
abbrev past_two : Graph → ℕ → ℕ → ℕ → Closure
past_two g m a b = record { graph = g; from = m; past = pair a b }

-- the closure of the code is that past the two roles
same : (g : Graph) (m a b : ℕ) (none one two : List ℕ) (k : Closure) → none ≡ [] → one ≡ with_member 16 none a → two ≡ with_member 16 one b → k ≡ record { graph = g; from = m; past = two } → k ≡ past_two g m a b
same g m a b none one two k e f h is = is ∙ ap (λ s. record { graph = g; from = m; past = s }) (h ∙ ap (λ s. with_member 16 s b) (f ∙ ap (λ s. with_member 16 s a) e))

-- if the code's test of two roles fails, the node's role is another one
differs : (g : Graph) (m own a : ℕ) (test : Bool) → own ≡ role_at (shape g) m → test ≡ eqb own a → test ≡ false → role_at (shape g) m ≢ a
differs g m own a test role is fails e =
    let equal : own ≡ a = role ∙ e in
    let yes : eqb own a ≡ true = eq-eqb own a equal in
    let wrong : false ≡ true = sym fails ∙ is ∙ yes in
    absurd (cc)

pub returns-in_default-clause-ok : goal.returns-in_default-clause-ok
returns-in_default-clause-ok c =
    let is = same c.args.graph.now c.args.node c.args.a c.args.b c.empty.result c.with.result c.with-2.result c.new-reach.result c.empty.ensures c.with.ensures c.with-2.ensures c.new-reach.ensures in
    clear_first c.args.graph.now c.args.node c.args.a c.args.b (subst (λ (k : Closure). IsFirstOf k c.args.a None) is c.in_default.ensures)

pub returns-in_default-first_of-clause-ok : goal.returns-in_default-first_of-clause-ok
returns-in_default-first_of-clause-ok c =
    let is = same c.args.graph.now c.args.node c.args.a c.args.b c.empty.result c.with.result c.with-2.result c.new-reach.result c.empty.ensures c.with.ensures c.with-2.ensures c.new-reach.ensures in
    clear_second c.args.graph.now c.args.node c.args.a c.args.b (subst (λ (k : Closure). IsFirstOf k c.args.b None) is c.in_default-first_of.ensures)

pub returns-in_err-walk-clause-refused : goal.returns-in_err-walk-clause-refused
returns-in_err-walk-clause-refused c =
    let is = same c.args.graph.now c.args.node c.args.a c.args.b c.empty.result c.with.result c.with-2.result c.new-reach.result c.empty.ensures c.with.ensures c.with-2.ensures c.new-reach.ensures in
    let p = err_from_is_err_and c.from_residual.result c.from_residual.ensures.1 in
    let to_a = subst (λ (k : Closure). IsFirstOf k c.args.a (Some c.in-Some.to_a)) is c.in-Some.ensures in
    let to_b = subst (λ (k : Closure). IsFirstOf k c.args.b (Some c.in-Some-first_of.to_b)) is c.in-Some-first_of.ensures in
    let not_a = differs c.args.graph.now c.args.node c.node_role-own.result c.args.a c.eq.result c.node_role-own.ensures.role c.eq.ensures c.if-eq.false in
    let not_b = differs c.args.graph.now c.args.node c.node_role-own.result c.args.b c.eq-else-eq.result c.node_role-own.ensures.role c.eq-else-eq.ensures c.if-eq-2.false in
    let small : c.args.b < 16 = omega (arith, c.requires.role, c.roles-roles.ensures.graph.sizes.0) in
    rw (p.1, p.2, c.in_err-walk.ensures.refused)
    (blind_at c.args.graph.now c.args.node c.args.a c.args.b c.in-Some.to_a c.in-Some-first_of.to_b c.requires.rising small not_a not_b to_a.1 to_b.1 to_a.2 to_b.2)

pub returns-in_err-walk-2-clause-refused : goal.returns-in_err-walk-2-clause-refused
returns-in_err-walk-2-clause-refused c =
    let is = same c.args.graph.now c.args.node c.args.a c.args.b c.empty.result c.with.result c.with-2.result c.new-reach.result c.empty.ensures c.with.ensures c.with-2.ensures c.new-reach.ensures in
    let p = err_from_is_err_and c.from_residual-in_err-walk-2.result c.from_residual-in_err-walk-2.ensures.1 in
    let to_a = subst (λ (k : Closure). IsFirstOf k c.args.a (Some c.in-Some.to_a)) is c.in-Some.ensures in
    let to_b = subst (λ (k : Closure). IsFirstOf k c.args.b (Some c.in-Some-first_of.to_b)) is c.in-Some-first_of.ensures in
    let not_a = differs c.args.graph.now c.args.node c.node_role-own.result c.args.a c.eq.result c.node_role-own.ensures.role c.eq.ensures c.if-eq.false in
    let not_b = differs c.args.graph.now c.args.node c.node_role-own.result c.args.b c.eq-else-eq.result c.node_role-own.ensures.role c.eq-else-eq.ensures c.if-eq-2.false in
    let small : c.args.b < 16 = omega (arith, c.requires.role, c.roles-roles.ensures.graph.sizes.0) in
    rw (p.1, p.2, c.in_err-walk-2.ensures.refused)
    (blind_at c.args.graph.now c.args.node c.args.a c.args.b c.in-Some.to_a c.in-Some-first_of.to_b c.requires.rising small not_a not_b to_a.1 to_b.1 to_a.2 to_b.2)

pub returns-clause-refused : goal.returns-clause-refused
returns-clause-refused c =
    let is = same c.args.graph.now c.args.node c.args.a c.args.b c.empty.result c.with.result c.with-2.result c.new-reach.result c.empty.ensures c.with.ensures c.with-2.ensures c.new-reach.ensures in
    let to_a = subst (λ (k : Closure). IsFirstOf k c.args.a (Some c.in-Some.to_a)) is c.in-Some.ensures in
    let to_b = subst (λ (k : Closure). IsFirstOf k c.args.b (Some c.in-Some-first_of.to_b)) is c.in-Some-first_of.ensures in
    let walk_a = subst (λ (k : Closure). LeadsPast (shape k.graph) k.from k.past c.in-Some.to_a c.in_ok-walk.field-0) is c.in_ok-walk.ensures.ok in
    let walk_b = subst (λ (k : Closure). LeadsPast (shape k.graph) k.from k.past c.in-Some-first_of.to_b c.in_ok-walk-2.field-0) is c.in_ok-walk-2.ensures.ok in
    let not_a = differs c.args.graph.now c.args.node c.node_role-own.result c.args.a c.eq.result c.node_role-own.ensures.role c.eq.ensures c.if-eq.false in
    let not_b = differs c.args.graph.now c.args.node c.node_role-own.result c.args.b c.eq-else-eq.result c.node_role-own.ensures.role c.eq-else-eq.ensures c.if-eq-2.false in
    let small : c.args.b < 16 = omega (arith, c.requires.role, c.roles-roles.ensures.graph.sizes.0) in
    shown c.args.graph.now c.args.node c.args.a c.args.b c.in-Some.to_a c.in-Some-first_of.to_b c.in_ok-walk.field-0 c.in_ok-walk-2.field-0 c.requires.rising small not_a not_b to_a.1 to_b.1 walk_a walk_b
