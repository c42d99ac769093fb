-- A command that drives asks for 1 to 2,000 sessions.
use Rattle.std.specs.Prelude.{◌≡◌, ℕ, ◌<◌, ◌≤◌, nat_lt, nat_le, Bool, true, false, not, ◌&&◌, if◌then◌else◌, List, [], ◌∷◌, codes, length, Option, Some, None, option_map, option_and_then, bytes_eq, refl, ⊤}
use Rattle.std.specs.List.{list_all, list_any}
use Rattle.std.proofs.Common.{arith}
use Rattle.std.proofs.lemmas.Bool.{ltb-true, leb-true}
use Rattle.sg_base.specs.Words.{number, from_one, up_to, value, is_digit, has_needless_zero}
use Rattle.sg_model.specs.Limits.{most_driven, most_seed}
use Rattle.sg_args.specs.Command.{Command, Principal, Check, Compile, Run, Replay, Drive, Ledger, Keep, Stream, Audit, Compose, Suggest, Claims, Serve, CanBeDriven, command_of, driving, few, is_option, keeping, ledger_or, named, on_file, on_ledger, on_two, plain, principal_of, running, serving, serving_over, sessions_of, streaming, tcp_or}

-- a number, if any, of at most `most`
abbrev AtMost : ℕ → Option ℕ → Type 0
AtMost most None = ⊤
AtMost most (Some n) = n ≤ most

-- a number of sessions, if any
abbrev AreSessions : Option ℕ → Type 0
AreSessions None = ⊤
AreSessions (Some n) = (1 ≤ n) × (n ≤ most_driven)

number_at_most : (most : ℕ) (arg : List ℕ) → AtMost most (number most arg)
unfolding number
number_at_most most arg = spelled (nat_lt 0 (length arg) && not (has_needless_zero arg) && list_all is_digit arg)
  where
    within : (b : Bool) → nat_le (value arg) most ≡ b → AtMost most (if b then Some (value arg) else None)
    within true e = leb-true (value arg) most e
    within false e = tt

    spelled : (b : Bool) → AtMost most (if b then up_to most (value arg) else None)
    spelled true = within (nat_le (value arg) most) refl
    spelled false = tt

sessions : (arg : List ℕ) → AreSessions (sessions_of arg)
sessions arg = found (number most_driven arg) (number_at_most most_driven arg)
  where
    positive : (n : ℕ) → n ≤ most_driven → (b : Bool) → nat_lt 0 n ≡ b → AreSessions (if b then Some n else None)
    positive n h true e = let l : 0 < n = ltb-true 0 n e in (omega arith, h)
    positive n h false e = tt

    found : (o : Option ℕ) → AtMost most_driven o → AreSessions (option_and_then from_one o)
    found None h = tt
    found (Some n) h = positive n h (nat_lt 0 n) refl

-- ---- commands

-- one or the other
either : (b : Bool) (x y : Option Command) → CanBeDriven x → CanBeDriven y → CanBeDriven (if b then x else y)
either true x y h k = h
either false x y h k = k

-- the command of a principal, if any, as that of each
each : (make : Principal → Command) → ((p : Principal) → CanBeDriven (Some (make p))) → (o : Option Principal) → CanBeDriven (option_map make o)
each make h None = tt
each make h (Some p) = h p

driven : (file : List ℕ) (seed n : Option ℕ) → AreSessions n → CanBeDriven (option_and_then (λ s. option_map (λ k. Drive s k file) n) seed)
driven file None n h = tt
driven file (Some s) None h = tt
driven file (Some s) (Some k) h = h

drives : (args : List (List ℕ)) → CanBeDriven (driving args)
drives [] = tt
drives (seed ∷ []) = tt
drives (seed ∷ count ∷ []) = tt
drives (seed ∷ count ∷ file ∷ []) = driven file (number most_seed seed) (sessions_of count) (sessions count)
drives (seed ∷ count ∷ file ∷ other ∷ more) = tt

runs : (args : List (List ℕ)) → CanBeDriven (running args)
runs args = each (λ p. Run p.keys p.script p.deliveries p.programs) (λ p. tt) (principal_of args)

keeps : (args : List (List ℕ)) → CanBeDriven (keeping args)
keeps [] = tt
keeps (file ∷ args) = each (λ p. Keep file p.keys p.script p.deliveries p.programs) (λ p. tt) (principal_of args)

streams : (args : List (List ℕ)) → CanBeDriven (streaming args)
streams args = each (λ p. Stream p.keys p.script p.deliveries p.programs) (λ p. tt) (principal_of args)

file_alone : (name file : List ℕ) → CanBeDriven (on_file name file)
file_alone name file =
    either (bytes_eq name (codes "check")) (Some (Check file)) _ tt
    (either (bytes_eq name (codes "replay")) (Some (Replay file)) _ tt
    (either (bytes_eq name (codes "ledger")) (Some (Ledger file)) _ tt
    (either (bytes_eq name (codes "audit")) (Some (Audit file)) _ tt
    (either (bytes_eq name (codes "compose")) (Some (Compose file)) _ tt
    (either (bytes_eq name (codes "claims")) (Some (Suggest file)) None tt tt)))))

two : (name first second : List ℕ) → CanBeDriven (on_two name first second)
two name first second =
    either (bytes_eq name (codes "compile")) (Some (Compile first second)) _ tt
    (either (bytes_eq name (codes "claims")) (Some (Claims first second)) None tt tt)

others : (name : List ℕ) (args : List (List ℕ)) → CanBeDriven (few name args)
others name [] = tt
others name (file ∷ []) = file_alone name file
others name (first ∷ second ∷ []) = two name first second
others name (first ∷ second ∷ other ∷ more) = tt

serves_over : (over_tcp : Bool) (ledger : Option (List ℕ)) (args : List (List ℕ)) → CanBeDriven (serving_over over_tcp ledger args)
serves_over over_tcp ledger [] = tt
serves_over over_tcp ledger (keys ∷ []) = tt
serves_over over_tcp ledger (keys ∷ program ∷ more) = either (list_any is_option (keys ∷ program ∷ more)) None _ tt tt

serves_tcp : (file : List ℕ) (args : List (List ℕ)) → CanBeDriven (tcp_or file args)
serves_tcp file [] = tt
serves_tcp file (arg ∷ args) = either (bytes_eq arg (codes "--tcp")) (serving_over true (Some file) args) _ (serves_over true (Some file) args) (serves_over false (Some file) (arg ∷ args))

serves_on : (over_tcp : Bool) (args : List (List ℕ)) → CanBeDriven (on_ledger over_tcp args)
serves_on over_tcp [] = tt
serves_on over_tcp (file ∷ args) =
    either (is_option file) None _ tt
    (either over_tcp (serving_over true (Some file) args) (tcp_or file args) (serves_over true (Some file) args) (serves_tcp file args))

serves_or : (over_tcp : Bool) (args : List (List ℕ)) → CanBeDriven (ledger_or over_tcp args)
serves_or over_tcp [] = tt
serves_or over_tcp (arg ∷ args) = either (bytes_eq arg (codes "--ledger")) (on_ledger over_tcp args) _ (serves_on over_tcp args) (serves_over over_tcp None (arg ∷ args))

serves : (args : List (List ℕ)) → CanBeDriven (serving args)
serves [] = tt
serves (arg ∷ args) = either (bytes_eq arg (codes "--tcp")) (ledger_or true args) _ (serves_or true args) (serves_or false (arg ∷ args))

plainly : (args : List (List ℕ)) → CanBeDriven (plain args)
plainly [] = tt
plainly (name ∷ args) =
    either (list_any is_option (name ∷ args)) None (named name args) tt
    (either (bytes_eq name (codes "run")) (running args) _ (runs args)
    (either (bytes_eq name (codes "drive")) (driving args) _ (drives args)
    (either (bytes_eq name (codes "keep")) (keeping args) _ (keeps args)
    (either (bytes_eq name (codes "stream")) (streaming args) (few name args) (streams args) (others name args)))))

-- whatever the arguments
pub can_be_driven : (args : List (List ℕ)) → CanBeDriven (command_of args)
can_be_driven [] = tt
can_be_driven (name ∷ args) = either (bytes_eq name (codes "serve")) (serving args) _ (serves args) (plainly (name ∷ args))
