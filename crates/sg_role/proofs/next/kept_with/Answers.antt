use Rattle.std.proofs.Common.{◌++◌, ◌∙◌, sym, ap, append-nil}
use Rattle.sg_role.specs.Keeping.{kept_from}
use Rattle.sg_role.proofs.Joined.{kept_made}
use Rattle.sg_role.proofs.next.kept_with.Goals as goal

pub returns : goal.returns
returns c = λ g n.
    sym (append-nil c.keep_each-2.new.list.items)
    ∙ c.in_ok-keep_each.ensures
    ∙ ap (λ more. c.keep_each.new.list.items ++ kept_from c.args.count c.in_ok-earlier.earlier more) (append-nil c.args.more.now)
    ∙ c.in_ok-earlier.ensures
    ∙ ap (λ prefix. prefix ++ kept_from c.args.count c.new.result (c.args.items.now ++ c.args.more.now)) c.new-list.ensures.items
    ∙ ap (λ e. kept_from c.args.count e (c.args.items.now ++ c.args.more.now)) c.new.ensures
    ∙ kept_made g c.args.count (c.args.items.now ++ c.args.more.now) n
