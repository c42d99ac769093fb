use Rattle.std.proofs.Common.{◌∙◌, ap, map}
use Rattle.indexmap.specs.IndexMap.{insert_entry}
use Rattle.sg_protocol.specs.Schedule.{PairKey}
use Rattle.sg_craft.specs.Model.{key_of_entry}
use Rattle.sg_craft.proofs.KeyLaws.{same_pair, insert_last}
use Rattle.sg_craft.proofs.keys.put_last.Goals as goal

pub returns-clause-ok : goal.returns-clause-ok
returns-clause-ok c =
    ap (map key_of_entry) c.in_ok-insert.ensures.entries
    ∙ ap (λ (k : PairKey). map key_of_entry (insert_entry same_pair c.args.table.now.entries (record { one = k.one; two = k.two }) k.key)) c.key.view_is
    ∙ insert_last c.args.key.now c.args.table.now.entries c.requires
