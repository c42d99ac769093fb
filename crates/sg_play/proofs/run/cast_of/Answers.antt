use Rattle.std.proofs.Common.{find, sym, ap, ◌∙◌}
use Rattle.std.specs.Option.{option_copied}
use Rattle.sg_program.specs.Together.{is_named}
use Rattle.sg_script.specs.Script.{Start as ScriptStart}
use Rattle.sg_play.proofs.Casts.{is_cast, none_is, none_some}
use Rattle.sg_play.proofs.run.cast_of.Goals as goal

pub unreachable-requires : goal.unreachable-requires
unreachable-requires c =
    none_some c.requires.program (sym (ap option_copied c.in_default.is) ∙ c.by_name.ensures ∙ ap (λ (s : ScriptStart). find (is_named s.graph) c.args.programs.now) c.start.view_is ∙ c.requires.found)

pub unreachable-requires-in-None : goal.unreachable-requires-in-None
unreachable-requires-in-None c = none_is c.new.result c.in-None.is (c.new.ensures.found.1 (is_cast c.args.programs.now c.args.start.now _ c.as_slice.result.now c.requires c.start.view_is c.as_slice.ensures))
