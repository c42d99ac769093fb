-- What is held is the same if its parts are.
use Rattle.std.proofs.Common.{◌≡◌}
use Rattle.sg_protocol.specs.Representation.{Held}

pub same_held : (a b : Held) → ((a.sid ≡ b.sid) × (a.cast ≡ b.cast) × (a.role ≡ b.role))
    → ((a.kept.origin ≡ b.kept.origin) × (a.kept.own_time ≡ b.kept.own_time) × (a.kept.time ≡ b.kept.time) × (a.kept.place ≡ b.kept.place))
    → ((a.kept.items ≡ b.kept.items) × (a.kept.commitments ≡ b.kept.commitments) × (a.kept.openings ≡ b.kept.openings)) → a ≡ b
same_held a b s t l = λ i. record {
  sid = s.0 i;
  cast = s.1 i;
  role = s.2 i;
  kept = record {
    origin = t.0 i;
    own_time = t.1 i;
    time = t.2 i;
    place = t.3 i;
    items = l.0 i;
    commitments = l.1 i;
    openings = l.2 i;
  };
}
