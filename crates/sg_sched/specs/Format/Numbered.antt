-- What a line adds, with the names that it uses made numbers.
use Rattle.std.specs.Prelude.{ℕ, List, map, Option, Some, None}
use Rattle.sg_model.specs.Last.{Map}
use Rattle.sg_model.specs.Lists.{in_order}
use Rattle.sg_model.specs.Names.{Name}
use Rattle.sg_model.specs.Values.{Value, Opening}
use Rattle.sg_protocol.specs.Graph.{Graph}
use Rattle.sg_protocol.specs.Schedule.{confounder, What, Whole, Flipped, Cut, Bytes, Source, Key, CopyItem, CopySeal, Zero, CraftItem, Craft, StartStep, ActStep, AbandonStep, DeliverStep, CraftStep}
use Rattle.sg_sched.specs.Pair.{edge}
use Rattle.sg_sched.specs.Format.LineContents.{Assignment, Committed, TagSource, FromKey, FromItem, FromSeal, FromZero, ItemContent, CraftContent, Delivered, TheFrame, TheFlipped, TheCut, TheBytes, LineContent, BlockLine, EdgeLine, HonestLine, KeyLine, SessionLine, StartLine, ActLine, AbandonLine, DeliverLine, MakeLine}
use Rattle.sg_sched.specs.Format.Values.{value_of, bytes_of}
use Rattle.sg_sched.specs.Format.Items.{Item, EdgeItem, HonestItem, KeyItem, SessionItem, StepItem, SoFar, so_far, graphs_declared, graph_names, session_names, index, graph_for, roles_of, variables_of, labels_of}

-- the number of a variable of the graph, and its value
abbrev pub written : Option Graph → Assignment → ℕ × Value
written g v = (index v.variable (variables_of g), value_of v.value)

-- the values of an act, handed on in rising number
abbrev pub values : Option Graph → List Assignment → Map Value
values g vs = in_order 32 (map (written g) vs)

-- the opening of a variable of the graph, with the confounder of the step
abbrev pub opening : Option Graph → Committed → Opening
opening g c = let x = index c.variable (variables_of g) in record { variable = x; confounder = confounder c.step x; value = value_of c.value }

-- where a tag comes from
abbrev pub source : Option Graph → TagSource → Source
source g (FromKey one two) = Key one two
source g (FromItem frame item role) = CopyItem frame item (index role (roles_of g))
source g (FromSeal frame) = CopySeal frame
source g FromZero = Zero

-- an item of a crafted frame
abbrev pub craft_item : Option Graph → ItemContent → CraftItem
craft_item g i = record {
  label = index i.label (labels_of g);
  time = i.time;
  delta = map (opening g) i.delta;
  tags = map (λ (t : Name × TagSource). (index t.0 (roles_of g), source g t.1)) i.tags;
}

-- a craft
abbrev pub craft : SoFar → Option Graph → CraftContent → Craft
craft past g c = record {
  session = index c.session (session_names past);
  from = index c.from (roles_of g);
  to = index c.to (roles_of g);
  join = c.join;
  know = map (opening g) c.know;
  items = map (craft_item g) c.items;
  openings = map (opening g) c.openings;
  seal = source g c.seal;
}

-- what is delivered
abbrev pub what_of : Delivered → What
what_of (TheFrame n) = Whole n
what_of (TheFlipped n i) = Flipped n i
what_of (TheCut n i) = Cut n i
what_of (TheBytes digits) = Bytes (bytes_of digits)

-- what a line adds to what the lines before it declare; a line that begins a block adds nothing by itself
abbrev pub made_after : SoFar → LineContent → Option Item
made_after past BlockLine = None
made_after past (EdgeLine label from to) = Some (EdgeItem (edge label from to))
made_after past (HonestLine who) = Some (HonestItem who)
made_after past (KeyLine one two digits) = Some (KeyItem (record { one = one; two = two; key = bytes_of digits }))
made_after past (SessionLine name graph nonce names version) =
    Some (SessionItem (record { name = name; graph = index graph (graph_names (graphs_declared past)); nonce = nonce; names = names; version = version }))
made_after past (StartLine who session) = Some (StepItem (StartStep who (index session (session_names past))))
made_after past (ActLine who session label vs) =
    let g = graph_for session past in
    Some (StepItem (ActStep who (index session (session_names past)) (index label (labels_of g)) (values g vs)))
made_after past (AbandonLine who session) = Some (StepItem (AbandonStep who (index session (session_names past))))
made_after past (DeliverLine who what) = Some (StepItem (DeliverStep who (what_of what)))
made_after past (MakeLine c) = Some (StepItem (CraftStep (craft past (graph_for c.session past) c)))

-- what a line adds to what the items before it declare
abbrev pub made : List Item → LineContent → Option Item
made items statement = made_after (so_far items) statement
