-- clap takes any arguments behind `--`, whatever their bytes are, and gives them back.
use Rattle.std.proofs.Common.{◌≡◌, ◌++◌, ◌&&◌, ◌∙◌, Bool, codes, true, List, Some, None, [], ◌∷◌, refl, sym, ap, subst, append_assoc, is_some, unwrap_or}
use Rattle.std.specs.List.{fold, list_all}
use Rattle.clap.specs.Words.{App, Rule, Text, Row, new_app, new_rule, takes, with_rule}
use Rattle.clap.specs.Walk.{Walk, Names, walked, positional, all_of, used, finished, reading_by}
use Rattle.clap.specs.declared.parser.matches.ValueSource.TheVariants.{CommandLine}
use Rattle.clap.specs.Takes.{default_passes, entered_passes, is_valid, settle_passes, walk_passes}
use Rattle.clap.specs.Simple.{Shape, built, entered, names_of, matches_of}
use Rattle.clap.specs.declared.builder.ArgAction.TheVariants.{Append}
use Rattle.clap.proofs.OnLiterals.{clap_on_literals}

abbrev pub arg : Rule
arg = record (new_rule (codes "WORD")) { action = Some Append }

abbrev pub table : App
table = with_rule (new_app (codes "sessiongraph")) arg

abbrev shape : Shape
shape = (built table).top

abbrev names : Names
names = names_of (built table)

-- the walk behind `--`, with a value that waits
abbrev at : List Row → Text → Walk
at rows v = record {
  held = record { rows = rows; pending = Some (codes "WORD", v ∷ []); skip = 0 };
  waiting = positional;
  position = 1;
  is_trailing = true;
  stopped = None;
}

passes : (rows : List Row) (v : Text) (ws : List Text) → walk_passes shape names (at rows v) ws ≡ true
unfolding clap_on_literals
passes rows v [] = refl
passes rows v (w ∷ ws) = passes (used arg (v ∷ []) rows) w ws

-- where the walk ends: no subcommand was met
ends : (rows : List Row) (v : Text) (ws : List Text)
    → (rest : List Row) × (last : Text) × (fold (walked shape.rules names) (at rows v) ws ≡ at rest last)
unfolding clap_on_literals
ends rows v [] = (rows, v, refl)
ends rows v (w ∷ ws) = ends (used arg (v ∷ []) rows) w ws

-- what `takes` tests after the walk
abbrev verdict : Bool → Walk → Bool
verdict passed end = entered_passes (built table) end.stopped
    && (passed && (settle_passes shape.rules shape.args_override_self end.held && (list_all default_passes shape.rules
    && is_valid shape (finished shape.rules end.held) (is_some (entered (built table) end.stopped)))))

pub takes_any : (ws : List Text) → takes table (codes "sessiongraph" ∷ codes "--" ∷ ws) ≡ true
unfolding clap_on_literals
takes_any [] = refl
takes_any (w ∷ ws) =
    let e = ends [] w ws in
    let at_end : verdict true (at e.0 e.1) ≡ true = refl in
    let walked_well : verdict (walk_passes shape names (at [] w) ws) (at e.0 e.1) ≡ true =
    subst (λ p. verdict p (at e.0 e.1) ≡ true) (sym (passes [] w ws)) at_end in
    subst (λ end. verdict (walk_passes shape names (at [] w) ws) end ≡ true) (sym e.2) walked_well

-- the row of the arguments so far
abbrev row : List Text → List Row
row vs = record {
  id = codes "WORD";
  values = vs;
  count = None;
  source = Some CommandLine;
  reading = reading_by arg;
} ∷ []

gathers : (vs : List Text) (v : Text) (ws : List Text)
    → all_of (codes "WORD") (finished shape.rules (fold (walked shape.rules names) (at (row vs) v) ws).held) ≡ Some (vs ++ v ∷ ws)
unfolding clap_on_literals
gathers vs v [] = refl
gathers vs v (w ∷ ws) = gathers (vs ++ v ∷ []) w ws ∙ ap (λ xs. Some xs) (append_assoc vs (v ∷ []) (w ∷ ws))

gives_back : (w : Text) (ws : List Text)
    → all_of (codes "WORD") (matches_of table (codes "sessiongraph" ∷ codes "--" ∷ w ∷ ws)) ≡ Some (w ∷ ws)
unfolding clap_on_literals
gives_back w [] = refl
gives_back w (x ∷ ws) = gathers (w ∷ []) x ws

-- whatever the arguments, and if there are none
pub given_back : (ws : List Text) → unwrap_or (all_of (codes "WORD") (matches_of table (codes "sessiongraph" ∷ codes "--" ∷ ws))) [] ≡ ws
unfolding clap_on_literals
given_back [] = refl
given_back (w ∷ ws) = ap (λ o. unwrap_or o []) (gives_back w ws)
