use Rattle.std.proofs.Common.{◌≡◌, ℕ, List, map, take}
use Rattle.std.specs.List.{AllByRecursion}
use Rattle.sg_protocol.specs.Frame.{IsTag}
use Rattle.sg_sched.specs.Format.Crafts.{tag_of}
use Rattle.sg_craft.specs.Making.{tag_made}
use Rattle.sg_craft.proofs.item.make_tags.Given as goal

abbrev pub invariant-loop-source : goal.invariant-loop-source
invariant-loop-source l = record {
  tags_so : l.tags ≡ map (tag_made l.means l.wanted l.current) (map tag_of (take l.source-index l.sources));
  each_so : AllByRecursion (λ (t : ℕ × List ℕ). IsTag l.means.cast.version t.1) l.tags;
}
