-- The law of turns.
use Rattle.sg_apart_claims.specs.Laws.{TurnIsOfSession}
use Rattle.sg_apart_claims.proofs.Pasts.{of_pasts}
use Rattle.sg_apart_claims.proofs.Turns.{turn_is_of_session}
use Rattle.sg_apart_claims.proofs.turns_apart.Goals as goal

pub returns : goal.returns
returns c = λ sha hash. of_pasts sha (TurnIsOfSession sha) (turn_is_of_session sha hash)
