-- What is declared with one more item.
use Rattle.std.specs.Prelude.{[], ◌∷◌, ◌++◌, max}
use Rattle.sg_sched.specs.Format.Items.{Item, GraphItem, EdgeItem, HonestItem, KeyItem, SessionItem, StepItem, SoFar}

-- before the first line
abbrev pub nothing : SoFar
nothing = record { group = 0; blocks = []; edges = []; honest = []; keys = []; sessions = []; steps = [] }

-- the item stands after those of its kind, and its group has begun
abbrev pub plus : SoFar → Item → SoFar
plus past (GraphItem g) = record past { group = max past.group 0; blocks = past.blocks ++ g ∷ [] }
plus past (EdgeItem e) = record past { group = max past.group 0; edges = past.edges ++ e ∷ [] }
plus past (HonestItem who) = record past { group = max past.group 1; honest = past.honest ++ who ∷ [] }
plus past (KeyItem k) = record past { group = max past.group 2; keys = past.keys ++ k ∷ [] }
plus past (SessionItem s) = record past { group = max past.group 3; sessions = past.sessions ++ s ∷ [] }
plus past (StepItem s) = record past { group = max past.group 4; steps = past.steps ++ s ∷ [] }
