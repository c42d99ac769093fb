-- How what is declared is kept: with the identifiers of the sessions, and the texts under the digests of the graphs.
use Rattle.std.specs.Prelude.{◌≡◌, ◌≤◌, All, length, map}
use Rattle.sg_protocol.specs.IsSchedule.{AreCompiled}
use Rattle.sg_protocol.specs.Texts.{real, session_id, graph_text_of}
use Rattle.sg_setting.specs.Setting.{Setting}
use Rattle.sg_setting.specs.declared.setting.Setting.TheInside.{Inside}

-- what is declared
abbrev pub setting_of : Inside → Setting
setting_of s = record { programs = s.programs.now; graphs = s.graphs; keys = s.keys; sessions = s.sessions }

-- the programs are compiled from the graphs, each of which has two roles or more; the identifiers and the texts stand in order
pub record HoldsSetting (s : Inside) : Type 0 where
  pub compiled : AreCompiled real s.graphs s.programs.now
  pub two : All (λ g. 2 ≤ length g.roles) s.graphs
  pub sids : s.sids.items ≡ map (λ d. session_id real d.cast) s.sessions
  pub texts : s.texts.items ≡ map graph_text_of s.graphs
