use Rattle.std.proofs.Common.{◌≡◌, ◌+◌, ◌++◌, [], ◌∷◌, nat_lt, true, false, filter, length, sym, ◌∙◌, ap, arith, length-append, append-nil, refl}
use Rattle.sg_model.specs.Lists.{is_in, rises_from}
use Rattle.std.specs.List.{list_all}
use Rattle.std.proofs.lemmas.Bool.{and_parts}
use Rattle.sg_graph.proofs.Rising.{below_more, below_zero, below_all}
use Rattle.sg_compile.proofs.text.count_roles.Goals as goal
use Rattle.sg_compile.proofs.text.count_roles.Goals.{then-has, else-has}

pub loop-number-init : goal.loop-number-init
loop-number-init c = (sym (ap length (below_zero c.args.roles)), omega arith)

pub loop-number-preserved : goal.loop-number-preserved
loop-number-preserved c =
    let rises = (and_parts (rises_from 0 c.args.roles) (list_all (λ k. nat_lt k (length c.args.graph.now.roles)) c.args.roles) c.requires).0 in
    let next = below_more 0 c.loop-number.number c.args.roles rises in
    elim c.if-has.branch [
      | then-has w ↦
          (let there : is_in c.loop-number.number c.args.roles ≡ true = sym c.has.ensures ∙ w.if-has.true in
          let taken : filter (λ x. nat_lt x (c.loop-number.number + 1)) c.args.roles ≡ filter (λ x. nat_lt x c.loop-number.number) c.args.roles ++ c.loop-number.number ∷ [] = next ∙ rw there refl in
          let count : length (filter (λ x. nat_lt x (c.loop-number.number + 1)) c.args.roles) ≡ length (filter (λ x. nat_lt x c.loop-number.number) c.args.roles) + 1 = ap length taken ∙ length-append _ _ in
          (omega (arith, w.count-is, count), omega (arith, w.count-is)))
      | else-has w ↦
          (let away : is_in c.loop-number.number c.args.roles ≡ false = sym c.has.ensures ∙ w.if-has.false in
          let taken : filter (λ x. nat_lt x (c.loop-number.number + 1)) c.args.roles ≡ filter (λ x. nat_lt x c.loop-number.number) c.args.roles = next ∙ rw (away, append-nil) in
          let count : length (filter (λ x. nat_lt x (c.loop-number.number + 1)) c.args.roles) ≡ length (filter (λ x. nat_lt x c.loop-number.number) c.args.roles) = ap length taken in
          (omega (arith, w.count-is, count), omega (arith, w.count-is)))
    ]

pub returns : goal.returns
returns c =
    let all = (and_parts (rises_from 0 c.args.roles) (list_all (λ k. nat_lt k (length c.args.graph.now.roles)) c.args.roles) c.requires).1 in
    let whole : length (filter (λ x. nat_lt x (length c.args.graph.now.roles)) c.args.roles) ≡ length c.args.roles = ap length (below_all _ c.args.roles all) in
    let end : c.loop-number.number ≡ length c.args.graph.now.roles = omega arith in
    c.loop-number.invariant.0 ∙ rw end whole
