use Rattle.std.proofs.Common.{map}
use Rattle.toml.specs.View.{view}
use Rattle.sg_keys.proofs.TableLaws.{list_of-items_of}
use Rattle.sg_script.proofs.start.cast_of.Goals as goal

pub returns-in-Some : goal.returns-in-Some
returns-in-Some c =
    let same = list_of-items_of (map view c.in-Some.array.now.items) in
    rw (← c.in-Some.ensures, same, ← c.as_slice.ensures.value) c.cast_in.ensures
