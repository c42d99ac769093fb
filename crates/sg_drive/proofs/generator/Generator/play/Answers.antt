use Rattle.sg_drive.proofs.Room.{room_drawing}
use Rattle.sg_drive.proofs.generator.Generator.play.Goals as goal

pub play_along-requires-clause-room : goal.play_along-requires-clause-room
play_along-requires-clause-room c = room_drawing 1 500000002 1 c.args.self.now c.draw-drawn.new.self c.requires.room c.draw-drawn.ensures.going
