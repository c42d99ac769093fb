use Rattle.sg_certify.proofs.Parted.{sessions_are_explained, sessions_show_views}
use Rattle.sg_certify.proofs.laws.sessions_are_explained.Goals as goal

pub returns : goal.returns
returns c = record { explained = sessions_are_explained; shown = sessions_show_views }
