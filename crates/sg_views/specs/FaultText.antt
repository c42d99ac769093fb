-- The text for a role that too many views can reach, by its name.
use Rattle.std.specs.Prelude.{ℕ, List, ◌++◌, codes}
use Rattle.sg_protocol.specs.Graph.{Graph, role_name}
use Rattle.sg_views.specs.declared.fault.ViewFault.{ViewFault}
use Rattle.sg_views.specs.declared.fault.ViewFault.TheVariants.{TooManyOpen, TooManyViews, OutOfMemory}

-- which views of a role are too many
abbrev pub views_text : Graph → ℕ → ViewFault → List ℕ
views_text g r (TooManyOpen list) = codes "too many open views for " ++ role_name g r
views_text g r (TooManyViews list) = codes "too many views for " ++ role_name g r
views_text g r OutOfMemory = codes "out of memory"
