use Rattle.std.proofs.Common.{rules, ap, ap₂, codes, map, List, drop, ◌≡◌, ◌∙◌, unwrap_or, []}
use Rattle.std.proofs.lemmas.Result.{IfErr-weaker, IfOk-weaker}
use Rattle.clap.specs.Words.{Text, all_of, app_of, is_simple, matches_of, rule_of, takes, with_rule}
use Rattle.sg_args.proofs.AfterDashes.{given_back, table, takes_any, arg}
use Rattle.sg_args.proofs.parsed.matches.Goals as goal

pub returns : goal.returns
returns c =
    let arg_is : rule_of c.action-arg.result ≡ arg = search rules in
    let table_is : app_of c.in_ok-command.command ≡ table = c.in_ok-command.ensures.shape (search rules) ∙ ap₂ with_rule c.new-2.ensures.app arg_is in
    let parse = c.try_get_matches_from in
    let rest : List Text = drop 2 (map (λ s. s.now) c.args.args.now) in
    record {
      err = IfErr-weaker parse.result _ _ (λ e h. h (ap₂ takes table_is c.requires ∙ takes_any rest)) parse.ensures.passes;
      args = IfOk-weaker parse.result _ _ (λ m h. ap (λ rows. unwrap_or (all_of (codes "WORD") rows) []) ((h (ap is_simple table_is)).0 ∙ ap₂ matches_of table_is c.requires) ∙ given_back rest) parse.ensures.matches;
    }
