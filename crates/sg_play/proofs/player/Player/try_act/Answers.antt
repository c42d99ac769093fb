use Rattle.std.proofs.Common.{◌≡◌, length, drop, Some, refl, sym, ap, ◌∙◌}
use Rattle.std.specs.Option.{option_copied}
use Rattle.sg_protocol.specs.Calls.{Act}
use Rattle.sg_model.specs.Names.{Name}
use Rattle.sg_script.specs.Script.{Choice}
use Rattle.sg_walk.specs.Model.{values_of}
use Rattle.sg_play.proofs.Acting.{act_is, count_is, has_acted}
use Rattle.sg_play.proofs.Keeping.{keeps_by_act, keeps_same}
use Rattle.sg_play.specs.Turns.{acted_in}
use Rattle.sg_play.proofs.Turning.{acted_none, acted_with, acted_without}
use Rattle.sg_play.proofs.player.Player.try_act.Goals as goal

pub returns-in_default-clause-acted : goal.returns-in_default-clause-acted
returns-in_default-clause-acted g c = λ p s w. (acted_without c.args.sid c.args.node p (sym (ap option_copied c.in_default.is) ∙ c.graph_of.ensures p.past s.node), refl, refl)

pub returns-in_default-first-clause-acted : goal.returns-in_default-first-clause-acted
returns-in_default-first-clause-acted g c = λ p s w.
    let name = c.name-name.result in
    let in_graph = acted_with c.args.sid c.args.node p c.in-Some.graph.now (sym (ap option_copied c.in-Some.is) ∙ c.graph_of.ensures p.past s.node) ∙ ap (λ (n : Name). acted_in c.args.sid n c.args.node p) (sym c.name-name.ensures.name) in
    (in_graph ∙ acted_none c.args.sid c.args.node p name (sym (c.first.ensures p.choices s.choices) ∙ ap option_copied c.in_default-first.is), refl, refl)

pub returns-in-Ok-ask_act-clause-acted : goal.returns-in-Ok-ask_act-clause-acted
returns-in-Ok-ask_act-clause-acted g c = λ p s w.
    let choice : Choice = c.in-Some-first.choice.now in
    let values : values_of c.as_slice.result.now ≡ choice.values = ap values_of c.as_slice.ensures ∙ ap (λ (k : Choice). k.values) c.choice.view_is in
    let count : c.len.result ≡ length choice.values = count_is choice c.as_slice.result.now c.len.result (c.len.ensures ∙ sym (ap (λ vs. length vs) c.as_slice.ensures)) values in
    let drawn = c.as_slice-2.ensures.value ∙ c.in-Ok.ensures.confounders p.random w in
    let call = act_is c.args.sid choice c.choice.inside.label (values_of c.as_slice.result.now) c.len.result c.as_slice-2.result.now p.random (ap (λ (k : Choice). k.label) c.choice.view_is) values count drawn in
    let in_graph = acted_with c.args.sid c.args.node p c.in-Some.graph.now (sym (ap option_copied c.in-Some.is) ∙ c.graph_of.ensures p.past s.node) ∙ ap (λ (n : Name). acted_in c.args.sid n c.args.node p) (sym c.name-name.ensures.name) in
    has_acted c.args.self.now c.ask_act.new.node c.use_first.new.self c.ask_act.new.frames p c.args.sid c.name-name.result c.args.node choice
    (Act c.args.sid c.choice.inside.label (values_of c.as_slice.result.now) c.as_slice-2.result.now) c.in-Ok-ask_act.asked.0 c.in-Ok-ask_act.asked.1
    (g.R.Fresh.random c.draw.new.fresh) s in_graph (sym (c.first.ensures p.choices s.choices) ∙ ap option_copied c.in-Some-first.is) call (c.in-Ok-ask_act.ensures.is_asked p.past s.node) (c.use_first.ensures p.choices s.choices)
    (c.in-Ok.ensures.left p.random w ∙ ap (λ n. Some (drop n p.random)) count)

pub returns-in_default-clause-joins : goal.returns-in_default-clause-joins
returns-in_default-clause-joins g c = keeps_same c.args.self.now.node c.args.self.now.node refl

pub returns-in_default-first-clause-joins : goal.returns-in_default-first-clause-joins
returns-in_default-first-clause-joins g c = keeps_same c.args.self.now.node c.args.self.now.node refl

pub returns-in-Ok-ask_act-clause-joins : goal.returns-in-Ok-ask_act-clause-joins
returns-in-Ok-ask_act-clause-joins g c =
    let old = c.args.self.now in
    keeps_by_act old.keys.now old.frames c.ask_act.new.frames old.node c.ask_act.new.node c.args.sid c.choice.inside.label (values_of c.as_slice.result.now) c.as_slice-2.result.now
    c.in-Ok-ask_act.asked.0 c.in-Ok-ask_act.asked.1 c.in-Ok-ask_act.ensures.is_asked
