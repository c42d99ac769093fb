use Rattle.std.proofs.Common.{rules, ◌≡◌, ◌∙◌, Some}
use Rattle.sg_node.proofs.Keys.{entry_last}
use Rattle.sg_node.proofs.sessions.put_last.Goals as goal

pub returns : goal.returns
returns c =
    let put : c.insert.new.self.entries ≡ _ = search (rules, c.insert.ensures, c.requires.room) in
    put ∙ entry_last c.args.slots.now.entries c.args.join (Some c.args.live) c.requires.absent
