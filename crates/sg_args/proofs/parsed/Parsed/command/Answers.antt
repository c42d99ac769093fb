use Rattle.std.proofs.Common.{ap, sym, ◌∙◌, ◌≡◌, List, ℕ, Bor, codes, map, Option, unwrap_or, []}
use Rattle.std.specs.Option.{option_map}
use Rattle.clap.proofs.WalkLemmas.{raw_values-rows}
use Rattle.clap.specs.Words.{found_of}
use Rattle.sg_args.specs.Command.{command_of}
use Rattle.sg_args.specs.Parsed.{args_found}
use Rattle.sg_args.proofs.parsed.Parsed.command.Goals as goal

-- what clap gives as text, or nothing
abbrev texts : Option (Bor (List (Bor (List ℕ)))) → List (List ℕ)
texts o = unwrap_or (option_map (λ (s : Bor (List (Bor (List ℕ)))). map (λ (v : Bor (List ℕ)). v.now) s.now) o) []

pub returns-in-Some : goal.returns-in-Some
returns-in-Some c =
    let got : texts c.get_strs.result ≡ args_found c.self.inside.matches =
    ap (λ (o : Option (List (List ℕ))). unwrap_or o []) (c.get_strs.ensures ∙ raw_values-rows (found_of c.self.inside.matches) (codes "WORD")) in
    c.read_command.ensures ∙ ap command_of (sym (ap texts c.in-Some.is) ∙ got ∙ c.self.view_is)

pub returns-in-None : goal.returns-in-None
returns-in-None c =
    let got : texts c.get_strs.result ≡ args_found c.self.inside.matches =
    ap (λ (o : Option (List (List ℕ))). unwrap_or o []) (c.get_strs.ensures ∙ raw_values-rows (found_of c.self.inside.matches) (codes "WORD")) in
    ap command_of (sym (ap texts c.in-None.is) ∙ got ∙ c.self.view_is)
