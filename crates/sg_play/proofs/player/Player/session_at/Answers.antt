use Rattle.std.proofs.Common.{◌∙◌, ℕ, List, option_map, sym, ap}
use Rattle.sg_model.specs.Names.{Name}
use Rattle.sg_play.proofs.Sessions.{known_at}
use Rattle.sg_play.proofs.player.Player.session_at.Goals as goal

pub returns-in-Some : goal.returns-in-Some
returns-in-Some c = λ p s. sym (ap (option_map (λ (x : List ℕ × Name). x.0)) c.in-Some.is) ∙ ap (option_map (λ (x : List ℕ × Name). x.0)) c.at.ensures ∙ known_at c.args.self.now.names p.past.calls c.args.index s.names

pub returns-in-None : goal.returns-in-None
returns-in-None c = λ p s. sym (ap (option_map (λ (x : List ℕ × Name). x.0)) c.in-None.is) ∙ ap (option_map (λ (x : List ℕ × Name). x.0)) c.at.ensures ∙ known_at c.args.self.now.names p.past.calls c.args.index s.names
