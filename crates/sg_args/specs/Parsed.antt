-- The arguments of a command line, after the program's name and `--`.
use Rattle.std.specs.Prelude.{◌≡◌, ℕ, List, [], ◌∷◌, codes, drop, unwrap_or}
use Rattle.clap.specs.Words.{all_of, found_of, rows_of}
use Rattle.clap.specs.declared.parser.matches.ArgMatches.{ArgMatches}

-- the program's name, `--`, and arguments
abbrev pub IsBehindDashes : List (List ℕ) → Type 0
IsBehindDashes all = all ≡ codes "sessiongraph" ∷ codes "--" ∷ drop 2 all

-- the arguments that clap found
abbrev pub args_found : ArgMatches → List (List ℕ)
args_found m = unwrap_or (all_of (codes "WORD") (rows_of (found_of m))) []
