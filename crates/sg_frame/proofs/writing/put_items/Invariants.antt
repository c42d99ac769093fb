use Rattle.std.proofs.Common.{◌≡◌, ◌++◌, take}
use Rattle.std.specs.List.{flat_map}
use Rattle.sg_protocol.specs.Spelling.{item_bytes}
use Rattle.sg_frame.proofs.writing.put_items.Given as goal

abbrev pub invariant-items : goal.invariant-items
invariant-items l = l.out ≡ l.initial.out ++ flat_map (item_bytes l.version) (take l.item-index l.items)
