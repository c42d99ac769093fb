-- What an accepted frame shows.
use Rattle.sg_apart_frames.proofs.Showing.{frames_show_last_steps_apart}
use Rattle.sg_apart_frames.proofs.Honest.{honest_frames_show_last_steps}
use Rattle.sg_apart_frames.proofs.last_steps_apart.Goals as goal

pub returns : goal.returns
returns c = record { runs = frames_show_last_steps_apart; pasts = honest_frames_show_last_steps }
