use Rattle.std.proofs.Common.{◌≡◌, ◌++◌, take}
use Rattle.std.specs.List.{flat_map}
use Rattle.sg_protocol.specs.Frame.{tag_len}
use Rattle.sg_protocol.specs.Spelling.{pair_bytes}
use Rattle.sg_frame.proofs.writing.put_tags.Given as goal

abbrev pub invariant-tags : goal.invariant-tags
invariant-tags l = l.out ≡ l.initial.out ++ flat_map (pair_bytes (take (tag_len l.version))) (take l.role-index l.tags)
