use Rattle.sg_certify.proofs.BySid.{found_sid}
use Rattle.sg_certify.proofs.traces.index_of.Goals as goal

pub returns : goal.returns
returns c = found_sid c.args.sid.now c.args.table.now.entries c.get_index_of.result c.get_index_of.ensures.index
