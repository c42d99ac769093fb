use Rattle.std.proofs.Common.{◌≡◌, ◌<◌, ◌≤◌, length, Some, None, IfSome, HoldsAt, MatchOption}
use Rattle.std.specs.List.{AllWithin}
use Rattle.std.specs.Time.{instant_nanos}
use Rattle.sg_port.specs.Silence.{silent_since}
use Rattle.sg_port.proofs.accepted.quietest.Given as goal

abbrev pub invariant-loop-at : goal.invariant-loop-at
invariant-loop-at l =
    MatchOption l.found (AllWithin (λ slot. silent_since slot ≡ None) l.slots 0 l.at) (λ f.
    (f.0 < length l.slots)
    × HoldsAt (λ slot. silent_since slot ≡ Some (instant_nanos f.1)) l.slots f.0
    × AllWithin (λ slot. IfSome (silent_since slot) (λ time. instant_nanos f.1 ≤ time)) l.slots 0 l.at)
