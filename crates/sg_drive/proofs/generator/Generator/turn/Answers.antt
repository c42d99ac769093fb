use Rattle.sg_drive.proofs.Turned.{frame_there, index_there, room_turned, turn_is, turn_stops}
use Rattle.sg_drive.specs.GeneratorModel.{fate_held}
use Rattle.sg_drive.proofs.generator.Generator.turn.Goals as goal

pub take_out-frame-requires : goal.take_out-frame-requires
take_out-frame-requires c = index_there c.args.self.now c.draw_index-index.new.self c.draw-drawn.new.self c.draw_index-index.result c.draw_index-index.ensures.going c.draw-drawn.ensures.going c.draw_index-index.ensures.there

pub meet-requires-clause-room : goal.meet-requires-clause-room
meet-requires-clause-room c = room_turned c.args.self.now c.draw_index-index.new.self c.draw-drawn.new.self c.take_out-frame.new.self c.draw_index-index.result c.requires.room c.draw_index-index.ensures.going c.draw-drawn.ensures.going c.take_out-frame.ensures.going

pub meet-requires-clause-there : goal.meet-requires-clause-there
meet-requires-clause-there c =
    frame_there c.args.self.now c.draw_index-index.new.self c.draw-drawn.new.self c.take_out-frame.new.self c.draw_index-index.result c.take_out-frame.result c.requires.there c.draw_index-index.ensures.going c.draw-drawn.ensures.going c.take_out-frame.ensures.going c.take_out-frame.ensures.taken

pub returns-clause-going : goal.returns-clause-going
returns-clause-going c =
    turn_is c.args.self.now c.draw_index-index.new.self c.draw-drawn.new.self c.take_out-frame.new.self c.draw_index-index.result c.draw-drawn.result c.take_out-frame.result (fate_held c.fate-fate.result) c.draw_index-index.ensures.index c.draw-drawn.ensures.value c.draw_index-index.ensures.going
    c.draw-drawn.ensures.going c.take_out-frame.ensures.going c.take_out-frame.ensures.taken c.fate-fate.ensures c.meet.new.self c.meet.result c.meet.ensures.going

pub returns-clause-stopped : goal.returns-clause-stopped
returns-clause-stopped c =
    turn_stops c.args.self.now c.draw_index-index.new.self c.draw-drawn.new.self c.take_out-frame.new.self c.draw_index-index.result c.draw-drawn.result c.take_out-frame.result (fate_held c.fate-fate.result) c.draw_index-index.ensures.index c.draw-drawn.ensures.value c.draw_index-index.ensures.going
    c.draw-drawn.ensures.going c.take_out-frame.ensures.going c.take_out-frame.ensures.taken c.fate-fate.ensures c.meet.result c.meet.ensures.stopped
