-- The text for an accepted graph.
use Rattle.std.specs.Prelude.{ℕ, List, [], ◌∷◌, ◌++◌, flat_map, length, codes}
use Rattle.std.specs.Fmt.{decimal}
use Rattle.sg_protocol.specs.Graph.{Graph, role_name}
use Rattle.sg_protocol.specs.Keyring.{Program}

-- that it is accepted
abbrev pub accepted_line : Graph → List ℕ
accepted_line g = codes "accepted " ++ g.name ++ 10 ∷ []

-- how many views can reach the role of a program
abbrev pub views_line : Program → List ℕ
views_line p = codes "views " ++ role_name p.graph p.role ++ 32 ∷ decimal (length p.views) ++ 10 ∷ []

-- that it is accepted, and how many views can reach each role
abbrev pub check_text : Graph → List Program → List ℕ
check_text g programs = accepted_line g ++ flat_map views_line programs
