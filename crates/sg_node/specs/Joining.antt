-- Why a pair of session and role can't be joined.
use Rattle.std.specs.Prelude.{◌≡◌, ℕ, nat_le, nat_lt, ◌&&◌, true, if◌then◌else◌, List, length, Option, None, Some}
use Rattle.sg_model.specs.Limits.{most_joins, most_live}
use Rattle.sg_protocol.specs.Frame.{Cast, Frame}
use Rattle.sg_protocol.specs.Keyring.{Program}
use Rattle.sg_protocol.specs.Node.{has_joined, is_cast, program_for, stranger}
use Rattle.sg_protocol.specs.NodeStates.{NodeState}
use Rattle.sg_node.specs.declared.join.Obstacle.{Obstacle}
use Rattle.sg_node.specs.declared.join.Obstacle.TheVariants.{Joined, Cache, Sessions}
use Rattle.sg_receipt.specs.declared.refusal.StartRefusal.{StartRefusal}
use Rattle.sg_receipt.specs.declared.refusal.StartRefusal.TheVariants as starts
use Rattle.sg_receipt.specs.declared.refusal.DeliveryRefusal.{DeliveryRefusal}
use Rattle.sg_receipt.specs.declared.refusal.DeliveryRefusal.TheVariants as deliveries

-- the first of the three causes that holds
abbrev pub obstacle_to : List (List ℕ × ℕ) → ℕ → List ℕ → ℕ → Option Obstacle
obstacle_to joins live sid r =
    if has_joined joins sid r then Some Joined
    else (if nat_le most_joins (length joins) then Some Cache
    else (if nat_le most_live live then Some Sessions else None))

-- it as the refusal of a start
abbrev pub start_refusal_for : Obstacle → StartRefusal
start_refusal_for Joined = starts.Joined
start_refusal_for Cache = starts.CacheFull
start_refusal_for Sessions = starts.SessionsFull

-- it as the refusal of a delivery
abbrev pub refusal_for : Obstacle → DeliveryRefusal
refusal_for Joined = deliveries.Joined
refusal_for Cache = deliveries.CacheFull
refusal_for Sessions = deliveries.SessionsFull

-- the frame joins by this cast: there is this program for its graph and its receiver, the cast is right, and the node has all its keys
pub record JoinsBy (n : NodeState) (f : Frame) (c : Cast) (p : Program) : Type 0 where
  pub joins : f.join ≡ Some c
  pub program : program_for n.programs c.graph f.receiver ≡ Some p
  pub cast : (is_cast n.keys p.graph c f.receiver && nat_lt f.sender (length c.names)) ≡ true
  pub covered : stranger n.keys c ≡ None
