use Rattle.std.proofs.Common.{AllPairs, ◌∙◌, ap, sym, subst}
use Rattle.sg_craft.specs.Invariant.{AreApart}
use Rattle.sg_protocol.specs.Schedule.{Schedule}
use Rattle.sg_setting.proofs.setting.Setting.new.Goals as goal

pub new-requires : goal.new-requires
new-requires c = subst (AllPairs AreApart) (sym (c.as_slice-3.ensures ∙ ap (λ (s : Schedule). s.keys) c.schedule.view_is)) c.requires.pairs
