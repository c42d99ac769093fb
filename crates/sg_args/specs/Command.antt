-- What the arguments of the command line ask for.
use Rattle.std.specs.Prelude.{ℕ, ◌==◌, ◌≤◌, Bool, true, false, if◌then◌else◌, List, [], ◌∷◌, codes, slice_index, Option, Some, None, option_map, option_and_then, bytes_eq, ⊤}
use Rattle.std.specs.List.{list_any}
use Rattle.sg_base.specs.Words.{number, from_one}
use Rattle.sg_model.specs.Limits.{most_deliveries, most_driven, most_seed}

-- a command of the table
pub data Command : Type 0 where
  Check : (file : List ℕ) → Command
  Compile : (file role : List ℕ) → Command
  Run : (keys script : List ℕ) → (deliveries : ℕ) → (programs : List (List ℕ)) → Command
  Replay : (file : List ℕ) → Command
  Drive : (seed sessions : ℕ) → (file : List ℕ) → Command
  Ledger : (file : List ℕ) → Command
  Keep : (file keys script : List ℕ) → (deliveries : ℕ) → (programs : List (List ℕ)) → Command
  Stream : (keys script : List ℕ) → (deliveries : ℕ) → (programs : List (List ℕ)) → Command
  Audit : (file : List ℕ) → Command
  Compose : (file : List ℕ) → Command
  Suggest : (file : List ℕ) → Command
  Claims : (graph claims : List ℕ) → Command
  Serve : (over_tcp : Bool) → (ledger : Option (List ℕ)) → (keys : List ℕ) → (programs : List (List ℕ)) → Command

-- the argument begins with -
abbrev pub is_option : List ℕ → Bool
is_option arg = slice_index arg 0 == 45

-- check FILE, replay FILE, ledger FILE, audit FILE, compose FILE, or claims FILE
abbrev pub on_file : (name file : List ℕ) → Option Command
on_file name file =
    if bytes_eq name (codes "check") then Some (Check file)
    else if bytes_eq name (codes "replay") then Some (Replay file)
    else if bytes_eq name (codes "ledger") then Some (Ledger file)
    else if bytes_eq name (codes "audit") then Some (Audit file)
    else if bytes_eq name (codes "compose") then Some (Compose file)
    else if bytes_eq name (codes "claims") then Some (Suggest file)
    else None

-- compile FILE ROLE, or claims FILE FILE
abbrev pub on_two : (name first second : List ℕ) → Option Command
on_two name first second =
    if bytes_eq name (codes "compile") then Some (Compile first second)
    else if bytes_eq name (codes "claims") then Some (Claims first second)
    else None

-- the command of this name that takes one argument or two
abbrev pub few : (name : List ℕ) → List (List ℕ) → Option Command
few name [] = None
few name (file ∷ []) = on_file name file
few name (first ∷ second ∷ []) = on_two name first second
few name (first ∷ second ∷ other ∷ more) = None

-- what one principal runs with
pub record Principal : Type 0 where
  pub keys : List ℕ
  pub script : List ℕ
  pub deliveries : ℕ
  pub programs : List (List ℕ)

-- KEYS SCRIPT N PROGRAM.., at least one program, and N at most 1,000,000
abbrev pub principal_of : List (List ℕ) → Option Principal
principal_of [] = None
principal_of (keys ∷ []) = None
principal_of (keys ∷ script ∷ []) = None
principal_of (keys ∷ script ∷ n ∷ []) = None
principal_of (keys ∷ script ∷ n ∷ program ∷ more) = option_map (λ d. record { keys = keys; script = script; deliveries = d; programs = program ∷ more }) (number most_deliveries n)

-- KEYS SCRIPT N PROGRAM..
abbrev pub running : List (List ℕ) → Option Command
running args = option_map (λ (p : Principal). Run p.keys p.script p.deliveries p.programs) (principal_of args)

-- the same, over connections
abbrev pub streaming : List (List ℕ) → Option Command
streaming args = option_map (λ (p : Principal). Stream p.keys p.script p.deliveries p.programs) (principal_of args)

-- FILE KEYS SCRIPT N PROGRAM..
abbrev pub keeping : List (List ℕ) → Option Command
keeping [] = None
keeping (file ∷ args) = option_map (λ (p : Principal). Keep file p.keys p.script p.deliveries p.programs) (principal_of args)

-- how many sessions an argument asks for, from 1 to 2,000
abbrev pub sessions_of : List ℕ → Option ℕ
sessions_of arg = option_and_then from_one (number most_driven arg)

-- a seed, a number of sessions and a file
abbrev pub drive : (seed sessions file : List ℕ) → Option Command
drive seed sessions file = option_and_then (λ s. option_map (λ n. Drive s n file) (sessions_of sessions)) (number most_seed seed)

-- SEED SESSIONS FILE
abbrev pub driving : List (List ℕ) → Option Command
driving [] = None
driving (seed ∷ []) = None
driving (seed ∷ sessions ∷ []) = None
driving (seed ∷ sessions ∷ file ∷ []) = drive seed sessions file
driving (seed ∷ sessions ∷ file ∷ other ∷ more) = None

-- ---- serve

-- KEYS PROGRAM.., at least one program, none of which begins with -
abbrev pub serving_over : (over_tcp : Bool) → (ledger : Option (List ℕ)) → List (List ℕ) → Option Command
serving_over over_tcp ledger [] = None
serving_over over_tcp ledger (keys ∷ []) = None
serving_over over_tcp ledger (keys ∷ program ∷ more) = if list_any is_option (keys ∷ program ∷ more) then None else Some (Serve over_tcp ledger keys (program ∷ more))

-- these on this ledger, or --tcp and these
abbrev pub tcp_or : (file : List ℕ) → List (List ℕ) → Option Command
tcp_or file [] = None
tcp_or file (arg ∷ args) = if bytes_eq arg (codes "--tcp") then serving_over true (Some file) args else serving_over false (Some file) (arg ∷ args)

-- FILE and these, if --tcp may stand before these if it did not stand before --ledger
abbrev pub on_ledger : (over_tcp : Bool) → List (List ℕ) → Option Command
on_ledger over_tcp [] = None
on_ledger over_tcp (file ∷ args) =
    if is_option file then None
    else if over_tcp then serving_over true (Some file) args
    else tcp_or file args

-- these, or --ledger FILE and these
abbrev pub ledger_or : (over_tcp : Bool) → List (List ℕ) → Option Command
ledger_or over_tcp [] = None
ledger_or over_tcp (arg ∷ args) = if bytes_eq arg (codes "--ledger") then on_ledger over_tcp args else serving_over over_tcp None (arg ∷ args)

-- these behind --tcp and --ledger FILE, each of which may be missing, in either order
abbrev pub serving : List (List ℕ) → Option Command
serving [] = None
serving (arg ∷ args) = if bytes_eq arg (codes "--tcp") then ledger_or true args else ledger_or false (arg ∷ args)

-- ---- a command line

-- the command of this name, with these arguments after it
abbrev pub named : (name : List ℕ) → List (List ℕ) → Option Command
named name args =
    if bytes_eq name (codes "run") then running args
    else if bytes_eq name (codes "drive") then driving args
    else if bytes_eq name (codes "keep") then keeping args
    else if bytes_eq name (codes "stream") then streaming args
    else few name args

-- the command of arguments of which none begins with -
abbrev pub plain : List (List ℕ) → Option Command
plain [] = None
plain (name ∷ args) = if list_any is_option (name ∷ args) then None else named name args

-- the command, if the arguments are in the table. No argument but the options of serve begins with -
abbrev pub command_of : List (List ℕ) → Option Command
command_of [] = None
command_of (name ∷ args) = if bytes_eq name (codes "serve") then serving args else plain (name ∷ args)

-- if sessions are driven, there are 1 to 2,000 of them
abbrev pub CanBeDriven : Option Command → Type 0
CanBeDriven (Some (Drive seed sessions file)) = (1 ≤ sessions) × (sessions ≤ most_driven)
CanBeDriven other = ⊤
