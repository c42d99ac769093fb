use Rattle.std.proofs.Common.{◌≡◌, false, sym, ◌∙◌, ◌∷◌}
use Rattle.std.proofs.lemmas.Bool.{or_parts}
use Rattle.sg_model.specs.Lists.{has_text}
use Rattle.sg_keys.specs.Model.{names_in}
use Rattle.sg_keys.proofs.Contacts.{names_in-append, paired-append}
use Rattle.sg_model.proofs.Differ.{all_differ-append}
use Rattle.sg_keys.proofs.keyring.Keyring.add.Goals as goal
use Rattle.sg_keys.proofs.keyring.Keyring.add.Goals.{in-Ok-put_last, in-Err}

pub put_last-requires : goal.put_last-requires
put_last-requires c =
    let absent : has_text c.args.peer (c.self.inside.me ∷ names_in c.self.inside.peers.entries) ≡ false = rw (← c.self.view_is) at (sym c.has_name.ensures ∙ c.if-has_name.false) in
    (or_parts _ _ absent).1

pub invariant_of-self : goal.invariant_of-self
invariant_of-self c =
    let absent : has_text c.args.peer (c.self.inside.me ∷ names_in c.self.inside.peers.entries) ≡ false = rw (← c.self.view_is) at (sym c.has_name.ensures ∙ c.if-has_name.false) in
    elim c.match-put_last.branch [
      | in-Ok-put_last w ↦ record {
        different = rw (w.in-Ok-put_last.ensures.ok, names_in-append) (all_differ-append (c.self.inside.me ∷ names_in c.self.inside.peers.entries) c.args.peer c.self.invariant.different absent);
        paired = rw w.in-Ok-put_last.ensures.ok (paired-append c.self.inside.me c.self.inside.peers.entries _ c.self.invariant.paired c.in-Ok.ensures);
      }
      | in-Err w ↦ record { different = rw w.in-Err.ensures.err c.self.invariant.different; paired = rw w.in-Err.ensures.err c.self.invariant.paired }
    ]
