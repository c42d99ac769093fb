use Rattle.std.proofs.Common.{◌∙◌, ℕ, List, Option, Some, is_some, Bor, refl, sym, ap, rules}
use Rattle.std.specs.Option.{option_copied}
use Rattle.sg_input.specs.Lines.{Whole, TooLong}
use Rattle.sg_serve.specs.Served.{images_if}
use Rattle.sg_serve.specs.Representation.{found_line, some_ok}
use Rattle.sg_serve.proofs.Asking.{holds_all}
use Rattle.sg_serve.proofs.Lining.{asked_other, asked_wait, came_as, mapped_ok, no_request, same_falls, unread, wrong_form}
use Rattle.sg_serve.proofs.Keeping.{ran_out, some_kept, unasked}
use Rattle.sg_serve.proofs.server.Server.answer.Goals as goal

pub returns-in_default-clause-answered : goal.returns-in_default-clause-answered
returns-in_default-clause-answered g c = λ r st w co.
    let sv = c.args.self.now in
    let images = images_if (is_some sv.ledger) (g.D.Disk.may_leave c.args.disk.now) in
    let random = g.R.Fresh.random c.args.fresh.now in
    let coming = g.L.TimedLink.coming c.args.link.now in
    let old = g.L.Link.faults c.args.link.now in
    came_as images sv random coming old old r TooLong (found_line (option_copied c.args.line)) (some_ok c.say.result) c.some_reply.result
    (ap (λ (o : Option (Bor (List ℕ))). found_line (option_copied o)) c.in_default.is) c.some_reply.ensures
    (wrong_form images sv random coming old old r TooLong c.say.result refl (λ took. refl) (holds_all sv sv (g.D.Disk.may_leave c.args.disk.now) r.serving refl c.requires.holds st) st w co c.say.ensures.text)

pub reply-requires : goal.reply-requires
reply-requires g c = record {
  holds = c.requires.holds;
  asked = ((c.words_ask.ensures c.in-Some.bytes.now c.in-Ok-Some.request).0 (sym c.in-Ok-Some.ensures ∙ c.in-Ok-Some.field-0-is)).indices;
}

pub returns-in-Ok-Some-Receive-clause-answered : goal.returns-in-Ok-Some-Receive-clause-answered
returns-in-Ok-Some-Receive-clause-answered g c = λ r st w co.
    let images = images_if (is_some c.args.self.now.ledger) (g.D.Disk.may_leave c.receive.new.disk) in
    let random = g.R.Fresh.random c.args.fresh.now in
    let coming = g.L.TimedLink.coming c.receive.new.link in
    let old = g.L.Link.faults c.args.link.now in
    let new = g.L.Link.faults c.receive.new.link in
    came_as images c.receive.new.self random coming old new r (Whole c.in-Some.bytes.now) (found_line (option_copied c.args.line)) (some_ok c.receive.result) c.some_reply-in-Ok-Some-Receive.result
    (ap (λ (o : Option (Bor (List ℕ))). found_line (option_copied o)) c.in-Some.is) c.some_reply-in-Ok-Some-Receive.ensures
    (asked_wait images c.receive.new.self random coming old new r c.in-Some.bytes.now c.in-Ok-Some-Receive.within c.receive.result (sym (c.in-Ok-Some-Receive.field-0-is ∙ ap Some c.in-Ok-Some-Receive.field-0-0-is) ∙ c.in-Ok-Some-Receive.ensures) w (c.receive.ensures.received r st co))

pub returns-in-Ok-Some : goal.returns-in-Ok-Some
returns-in-Ok-Some g c =
    let x = c.some_reply-in-Ok-Some.result in
    let is = c.some_reply-in-Ok-Some.ensures in
    let images = images_if (is_some c.args.self.now.ledger) (g.D.Disk.may_leave c.reply.new.disk) in
    let random = g.R.Fresh.random c.reply.new.fresh in
    let coming = g.L.TimedLink.coming c.args.link.now in
    let old = g.L.Link.faults c.args.link.now in
    record {
      link_bound = refl;
      link_falls = same_falls old;
      kept = some_kept c.reply.result x is c.reply.ensures.kept;
      sent = refl;
      answered = λ r st w co.
          came_as images c.reply.new.self random coming old old r (Whole c.in-Some.bytes.now) (found_line (option_copied c.args.line)) (some_ok c.reply.result) x
          (ap (λ (o : Option (Bor (List ℕ))). found_line (option_copied o)) c.in-Some.is) is
          (asked_other images c.reply.new.self random coming old old r c.in-Some.bytes.now c.in-Ok-Some.request c.reply.result (sym c.in-Ok-Some.field-0-is ∙ c.in-Ok-Some.ensures)
          (λ e. search rules) (λ n e. search rules)
          (mapped_ok c.reply.result _ _ (λ h. h r.serving st w) c.reply.ensures.random) co (c.reply.ensures.replied r.serving st w));
    }

pub returns-in-Ok-None-clause-answered : goal.returns-in-Ok-None-clause-answered
returns-in-Ok-None-clause-answered g c = λ r st w co.
    let sv = c.args.self.now in
    let images = images_if (is_some sv.ledger) (g.D.Disk.may_leave c.args.disk.now) in
    let random = g.R.Fresh.random c.args.fresh.now in
    let coming = g.L.TimedLink.coming c.args.link.now in
    let old = g.L.Link.faults c.args.link.now in
    came_as images sv random coming old old r (Whole c.in-Some.bytes.now) (found_line (option_copied c.args.line)) (some_ok c.say-in-Ok-None.result) c.some_reply-in-Ok-None.result
    (ap (λ (o : Option (Bor (List ℕ))). found_line (option_copied o)) c.in-Some.is) c.some_reply-in-Ok-None.ensures
    (no_request images sv random coming old old r c.in-Some.bytes.now c.say-in-Ok-None.result (sym c.in-Ok-None.field-0-is ∙ c.in-Ok-None.ensures) (holds_all sv sv (g.D.Disk.may_leave c.args.disk.now) r.serving refl c.requires.holds st) st w co c.say-in-Ok-None.ensures.text)

pub returns-in-Err-clause-answered : goal.returns-in-Err-clause-answered
returns-in-Err-clause-answered g c = λ r st w co later.
    let sv = c.args.self.now in
    unread (images_if (is_some sv.ledger) (g.D.Disk.may_leave c.args.disk.now)) r (found_line (option_copied c.args.line)) later (holds_all sv sv (g.D.Disk.may_leave c.args.disk.now) r.serving refl c.requires.holds st)

pub returns-in_default-clause-kept : goal.returns-in_default-clause-kept
returns-in_default-clause-kept g c = some_kept c.say.result c.some_reply.result c.some_reply.ensures (unasked c.say.result c.say.ensures.memory c.requires.holds)

pub returns-in-Ok-Some-Quit-clause-kept : goal.returns-in-Ok-Some-Quit-clause-kept
returns-in-Ok-Some-Quit-clause-kept g c = unasked _ tt c.requires.holds

pub returns-in-Ok-Some-Receive-clause-kept : goal.returns-in-Ok-Some-Receive-clause-kept
returns-in-Ok-Some-Receive-clause-kept g c = some_kept c.receive.result c.some_reply-in-Ok-Some-Receive.result c.some_reply-in-Ok-Some-Receive.ensures c.receive.ensures.kept

pub returns-in-Ok-None-clause-kept : goal.returns-in-Ok-None-clause-kept
returns-in-Ok-None-clause-kept g c = some_kept c.say-in-Ok-None.result c.some_reply-in-Ok-None.result c.some_reply-in-Ok-None.ensures (unasked c.say-in-Ok-None.result c.say-in-Ok-None.ensures.memory c.requires.holds)

pub returns-in-Err-clause-kept : goal.returns-in-Err-clause-kept
returns-in-Err-clause-kept g c = ran_out
