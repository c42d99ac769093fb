-- What a line says, by its first word.
use Rattle.std.specs.Prelude.{if◌then◌else◌, [], ◌∷◌, codes, bytes_eq, Option, None}
use Rattle.sg_sched.specs.Format.LineContents.{LineContent}
use Rattle.sg_sched.specs.Format.Reading.{WordsLeft, block_form, edge_form, honest_form, key_form, session_form, start_form, act_form, abandon_form, deliver_form}
use Rattle.sg_sched.specs.Format.CraftReading.{craft_form}

-- the forms by their first word
unfoldable pub form : WordsLeft → Option LineContent
form [] = None
form (w ∷ ws) =
    if bytes_eq w (codes "start") then start_form ws
    else if bytes_eq w (codes "act") then act_form ws
    else if bytes_eq w (codes "deliver") then deliver_form ws
    else if bytes_eq w (codes "craft") then craft_form ws
    else if bytes_eq w (codes "abandon") then abandon_form ws
    else if bytes_eq w (codes "session") then session_form ws
    else if bytes_eq w (codes "key") then key_form ws
    else if bytes_eq w (codes "honest") then honest_form ws
    else if bytes_eq w (codes "edge") then edge_form ws
    else if bytes_eq w (codes "graph") then block_form ws
    else None
