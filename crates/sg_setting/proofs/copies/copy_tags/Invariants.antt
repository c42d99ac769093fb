use Rattle.std.proofs.Common.{◌≡◌, take}
use Rattle.sg_setting.proofs.copies.copy_tags.Given as goal

-- the copies so far
abbrev pub invariant-loop-tag : goal.invariant-loop-tag
invariant-loop-tag l = l.copies ≡ take l.tag-index l.tags
