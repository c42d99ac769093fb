use Rattle.std.proofs.Common.{◌++◌, ◌∷◌, [], ◌∙◌, ap}
use Rattle.indexmap.proofs.CallerLemmas.{insert_entry-new}
use Rattle.sg_base.proofs.SameName.{same}
use Rattle.sg_protocol.specs.Keyring.{Keyring}
use Rattle.sg_protocol.specs.NodeStates.{new_state}
use Rattle.sg_world.proofs.ByName.{lookup_absent}
use Rattle.sg_world.proofs.nodes.add_node.Goals as goal

pub returns : goal.returns
returns c =
    let made = c.in_ok-node.ensures.made ∙ ap (λ (r : Keyring). new_state r c.args.programs.now []) c.in_ok-ring.ensures in
    c.in_ok-insert.ensures.entries ∙ insert_entry-new same c.args.nodes.now c.args.me c.in_ok-node.node (lookup_absent c.args.me c.args.nodes.now.entries c.requires.absent)
    ∙ (λ i. c.args.nodes.now.entries ++ (c.args.me, made i) ∷ [])
