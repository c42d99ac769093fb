-- What an acceptance checks: the texts of item tags, and the commitments that openings must open.
use Rattle.std.specs.Prelude.{ℕ, List, [], ◌∷◌, Option, ◌++◌}
use Rattle.sg_protocol.specs.Graph.{Graph}
use Rattle.sg_protocol.specs.Frame.{Item, Frame}
use Rattle.sg_protocol.specs.Session.{Session, own_part, committed}
use Rattle.sg_protocol.specs.Sending.{text_to}

-- for each item but the last, with those before it: the item, and the text that its tag for me is of
abbrev pub checked_texts : Graph → Session → List Item → List Item → List (Item × List ℕ)
checked_texts g s before [] = []
checked_texts g s before (i ∷ []) = []
checked_texts g s before (i ∷ j ∷ is) = (i, text_to g s before i s.role) ∷ checked_texts g s (before ++ i ∷ []) (j ∷ is)

-- the texts of the frame's item tags for me, which begin from what I held at my own last step
abbrev pub texts_checked : Graph → Session → Frame → List (Item × List ℕ)
texts_checked g s f = checked_texts g s (own_part s) f.items

-- the commitments after all that the frame shows
abbrev pub shown_commitments : Session → Frame → ℕ → Option (List ℕ)
shown_commitments s f x = committed x (own_part s ++ f.items)
