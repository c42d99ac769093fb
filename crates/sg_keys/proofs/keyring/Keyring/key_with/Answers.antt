use Rattle.std.proofs.Common.{◌≡◌, ap, refl, sym, ◌∙◌, subst, option_map, IfSome}
use Rattle.sg_crypt.specs.Model.{pair_of}
use Rattle.sg_keys.specs.declared.keyring.Contact.{Contact}
use Rattle.sg_keys.proofs.Contacts.{lookup-find, lookup-paired}
use Rattle.sg_keys.proofs.keyring.Keyring.key_with.Goals as goal

pub returns-in-Some-clause-key : goal.returns-in-Some-clause-key
returns-in-Some-clause-key c =
    let found = lookup-find (λ p. p.key) (λ c. c.key) (λ n c. refl) c.args.peer.now c.self.inside.peers.entries in
    rw (← c.self.view_is) (ap (option_map (λ (k : Contact). k.key)) (rw c.in-Some.is at c.get.ensures.value) ∙ found)

pub returns-in-None-clause-key : goal.returns-in-None-clause-key
returns-in-None-clause-key c =
    let found = lookup-find (λ p. p.key) (λ c. c.key) (λ n c. refl) c.args.peer.now c.self.inside.peers.entries in
    rw (← c.self.view_is) (ap (option_map (λ (k : Contact). k.key)) (rw c.in-None.is at c.get.ensures.value) ∙ found)

pub returns-in-Some-clause-pair : goal.returns-in-Some-clause-pair
returns-in-Some-clause-pair c =
    rw (← c.self.view_is) (subst (λ o. IfSome o (λ (k : Contact). k.pair ≡ pair_of c.self.inside.me c.args.peer.now)) (sym (rw c.in-Some.is at c.get.ensures.value)) (lookup-paired c.self.inside.me c.args.peer.now c.self.inside.peers.entries c.self.invariant.paired))
