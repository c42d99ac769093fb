use Rattle.std.proofs.Common.{◌≡◌, ◌≤◌, true, false, sym, ap, ◌∙◌, arith}
use Rattle.sg_base.specs.Sets.{with_member}
use Rattle.sg_model.specs.Lists.{is_in}
use Rattle.sg_compose.specs.Expansion.{player}
use Rattle.sg_compose.proofs.Renaming.{gathered-none, gathered-there, gathered-away, gathered-all}
use Rattle.sg_compose.proofs.rename.players.Goals as goal
use Rattle.sg_compose.proofs.rename.players.Goals.{then-has, else-has}

pub loop-number-init : goal.loop-number-init
loop-number-init c = c.empty-found.ensures ∙ gathered-none 16 (player c.args.used.now) c.args.roles 16 c.requires.roles

pub loop-number-preserved : goal.loop-number-preserved
loop-number-preserved c = elim c.if-has.branch [
  | then-has w ↦
      (let there : is_in c.loop-number.number c.args.roles ≡ true = sym c.has.ensures ∙ w.if-has.true in
      w.found-is ∙ w.with-found.ensures ∙ ap (with_member 16 c.loop-number.found) w.player.ensures
      ∙ gathered-there 16 (player c.args.used.now) c.args.roles 16 c.requires.roles c.loop-number.number c.loop-number.found there c.loop-number.invariant)
  | else-has w ↦
      (let away : is_in c.loop-number.number c.args.roles ≡ false = sym c.has.ensures ∙ w.if-has.false in
      w.found-is ∙ gathered-away 16 (player c.args.used.now) c.args.roles 16 c.requires.roles c.loop-number.number c.loop-number.found away c.loop-number.invariant)
]

pub returns : goal.returns
returns c =
    let all : 16 ≤ c.loop-number.number = omega (arith, c.loop-number-test.false) in
    gathered-all 16 (player c.args.used.now) c.args.roles 16 c.requires.roles c.loop-number.number c.loop-number.found all c.loop-number.invariant
