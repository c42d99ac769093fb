-- One role's history in one session, and what follows from it.
use Rattle.std.specs.Prelude.{ℕ, List, [], ◌∷◌, length, ◌==◌, Bool, map, Option, None, get_or, ◌++◌, flat_map, option_map, unwrap_or, find}
use Rattle.std.specs.Option.{option_or}
use Rattle.sg_model.specs.Last.{last, up_to_last}
use Rattle.sg_model.specs.Lists.{below, value_at}
use Rattle.sg_model.specs.Names.{Name}
use Rattle.sg_model.specs.Shape.{role_at, target}
use Rattle.sg_model.specs.Values.{Opening}
use Rattle.sg_protocol.specs.Graph.{Graph, shape}
use Rattle.sg_protocol.specs.Frame.{Cast, Item, Frame}

-- a frame that the role accepted, or its own item with the openings of what it wrote
pub data Exchange : Type 0 where
  Took : Frame → Exchange
  Gave : Item → List Opening → Exchange

-- a role of a cast, and all that it took and gave, in order
pub record Session : Type 0 where
  pub sid : List ℕ
  pub cast : Cast
  pub role : ℕ
  pub exchanges : List Exchange

-- a session without a past
abbrev pub new_session : List ℕ → Cast → ℕ → Session
new_session sid c r = record { sid = sid; cast = c; role = r; exchanges = [] }

-- a session that goes on by an exchange
abbrev pub extended : Session → Exchange → Session
extended s e = record s { exchanges = s.exchanges ++ e ∷ [] }

-- the principal of a role
abbrev pub principal : Cast → ℕ → Name
principal c r = get_or c.names r []

-- ---- its transcript

-- the items of an exchange
abbrev pub items_of : Exchange → List Item
items_of (Took f) = f.items
items_of (Gave i os) = i ∷ []

-- the openings of an exchange
abbrev pub openings_of : Exchange → List Opening
openings_of (Took f) = f.openings
openings_of (Gave i os) = os

-- the transcript: all items that the role received or sent, in order
abbrev pub transcript : Session → List Item
transcript s = flat_map items_of s.exchanges

-- the own part: the transcript up to the role's own last item
abbrev pub own_part : Session → List Item
own_part s = up_to_last (λ i. i.role) s.role (transcript s)

-- the label of the last item
abbrev pub last_label : List Item → Option ℕ
last_label items = option_map (λ i. i.label) (last items)

-- the time of the last item, or 0
abbrev pub last_time : List Item → ℕ
last_time items = unwrap_or (option_map (λ i. i.time) (last items)) 0

-- the role's own last label, or None at the start
abbrev pub origin : Session → Option ℕ
origin s = last_label (own_part s)

-- the time of the role's own last item
abbrev pub own_time : Session → ℕ
own_time s = last_time (own_part s)

-- the time of the transcript's last item
abbrev pub time : Session → ℕ
time s = last_time (transcript s)

-- the node to which the last item led, or the start
abbrev pub place : Graph → Session → ℕ
place g s = unwrap_or (option_map (target (shape g)) (last_label (transcript s))) 0

-- the role has the turn at the place
abbrev pub at_turn : Graph → Session → Bool
at_turn g s = role_at (shape g) (place g s) == s.role

-- ---- what it holds and knows

-- the last commitment of x among the items
abbrev pub committed : ℕ → List Item → Option (List ℕ)
committed x [] = None
committed x (i ∷ is) = option_or (committed x is) (value_at i.delta x)

-- the last commitment of each variable
abbrev pub commitments : Graph → List Item → List (Option (List ℕ))
commitments g items = map (λ x. committed x items) (below (length g.variables))

-- the opening of x
abbrev pub opening_in : List Opening → ℕ → Option Opening
opening_in os x = find (λ o. o.variable == x) os

-- the opening of x in the last exchange that has one
abbrev pub last_opening : ℕ → List Exchange → Option Opening
last_opening x [] = None
last_opening x (e ∷ es) = option_or (last_opening x es) (opening_in (openings_of e) x)

-- the opening of x in the last frame taken, or the last own writing, that has one
abbrev pub known : Session → ℕ → Option Opening
known s x = last_opening x s.exchanges
