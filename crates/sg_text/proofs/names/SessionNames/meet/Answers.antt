use Rattle.std.proofs.Common.{◌+◌, ◌-◌, ap, ◌∙◌, sym, true, false, ◌≡◌}
use Rattle.sg_model.specs.Lists.{has_text}
use Rattle.sg_text.specs.Sessions.{Naming, all_sids}
use Rattle.sg_text.proofs.Naming.{naming-known_again}
use Rattle.sg_text.proofs.Tables.{asked, known_more}
use Rattle.sg_text.proofs.names.SessionNames.meet.Goals as goal

pub returns-then-has_sid-clause-ok : goal.returns-then-has_sid-clause-ok
returns-then-has_sid-clause-ok c letter m e =
    let there : has_text c.args.sid (all_sids m) ≡ true = asked letter m c.args.sid c.self.inside.names.entries c.has_sid.result true (ap (λ (t : Naming). t.names) (c.self.view_is ∙ e)) c.has_sid.ensures c.if-has_sid.true in
    e ∙ sym (naming-known_again letter m c.args.sid there)

pub returns-clause-ok : goal.returns-clause-ok
returns-clause-ok c letter m e =
    let same = ap (λ (t : Naming). t.names) (c.self.view_is ∙ e) in
    let miss : has_text c.args.sid (all_sids m) ≡ false = asked letter m c.args.sid c.self.inside.names.entries c.has_sid.result false same c.has_sid.ensures c.if-has_sid.false in
    known_more letter m c.args.sid c.in_ok-name.name c.self.inside.letter c.self.inside.declared (c.len.result - c.self.inside.declared + 1) c.self.inside.names.entries c.put_last.new.names.entries
    (ap (λ (t : Naming). t.letter) (c.self.view_is ∙ e)) (ap (λ (t : Naming). t.declared) (c.self.view_is ∙ e)) same miss c.in_ok-name.ensures (ap (λ n. n - c.self.inside.declared + 1) c.len.ensures.len) c.in_ok-put_last.ensures.ok
