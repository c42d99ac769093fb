-- The text for a graph whose writes or reads are wrong, by its names.
use Rattle.std.specs.Prelude.{ℕ, List, ◌++◌, codes}
use Rattle.sg_protocol.specs.Graph.{Graph}
use Rattle.sg_graph.specs.NamesOfGraph.{label_and_var_text, walk_text}
use Rattle.sg_know.specs.declared.fault.ReadFault.{ReadFault}
use Rattle.sg_know.specs.declared.fault.ReadFault.TheVariants.{NotWriter, ReadsOwn, BadRead, OutOfMemory}

-- what is wrong with a write or a read
abbrev pub reads_text : Graph → ReadFault → List ℕ
reads_text g (NotWriter e x) = codes "not writer " ++ label_and_var_text g e x
reads_text g (ReadsOwn e x) = codes "reads own " ++ label_and_var_text g e x
reads_text g (BadRead e x walk) = codes "bad read " ++ label_and_var_text g e x ++ codes " on" ++ walk_text g walk
reads_text g OutOfMemory = codes "out of memory"
