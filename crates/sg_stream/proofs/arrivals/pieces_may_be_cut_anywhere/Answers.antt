use Rattle.sg_stream.proofs.Cutting.{one_connection, cut_in_two}
use Rattle.sg_stream.proofs.arrivals.pieces_may_be_cut_anywhere.Goals as goal

pub returns-clause-joined : goal.returns-clause-joined
returns-clause-joined c = one_connection

pub returns-clause-cut : goal.returns-clause-cut
returns-clause-cut c = cut_in_two
