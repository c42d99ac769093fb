-- A principal that is stopped and begun anew over its joins: all its lives are one past.
use Rattle.std.specs.Prelude.{◌≡◌, ℕ, List, [], ◌∷◌, ◌++◌, All, map, flat_map}
use Rattle.sg_protocol.specs.Texts.{Hash}
use Rattle.sg_protocol.specs.Session.{Session}
use Rattle.sg_protocol.specs.Calls.{Abandon, Abandoned, events_of_answer}
use Rattle.sg_protocol.specs.Past.{AnsweredCall, Past, node_of}
use Rattle.sg_protocol.specs.Ranges.{IsCallInRange}
use Rattle.sg_protocol.specs.Restarts.{AreLives, events_of_lives}
use Rattle.sg_apart.specs.Laws.{IsHonest}

-- these sessions are abandoned, in their order
abbrev pub abandoned : List Session → List AnsweredCall
abandoned live = map (λ s. record { call = Abandon s.sid; answer = Abandoned }) live

-- one past for a life and later ones: in the place of each restart every session that was live is abandoned
abbrev pub one_past : Past → List Past → Past
one_past p [] = p
one_past p (q ∷ qs) = one_past (record p { calls = p.calls ++ (abandoned (node_of p).live ++ q.calls) }) qs

-- a later life with the keys and the programs of an earlier one, whose calls were in range
pub record IsLaterLife (p q : Past) : Type 0 where
  pub keys : q.keys ≡ p.keys
  pub programs : q.programs ≡ p.programs
  pub calls : All (λ c. IsCallInRange c.call) q.calls

-- the past is one of an honest principal, with the events of these lives
pub record IsOnePast (sha : Hash) (past : Past) (lives : List Past) : Type 0 where
  pub honest : IsHonest sha past
  pub events : flat_map (λ c. events_of_answer c.answer) past.calls ≡ events_of_lives lives

-- If a principal's first life is one of an honest principal, and each later one is over the joins that the one before left, then all of them are one past of an honest principal
abbrev pub LivesAreOnePast : Hash → Type 0
LivesAreOnePast sha = (p : Past) (ps : List Past) → IsHonest sha p → All (IsLaterLife p) ps → AreLives sha (node_of p).joins ps → IsOnePast sha (one_past p ps) (p ∷ ps)
