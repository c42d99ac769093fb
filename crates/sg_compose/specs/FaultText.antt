-- The text for parts that are not expanded.
use Rattle.std.specs.Prelude.{ℕ, List, ◌∷◌, ◌++◌, codes}
use Rattle.sg_model.specs.Names.{Name}
use Rattle.sg_compose.specs.declared.fault.ComposeFault.{ComposeFault}
use Rattle.sg_compose.specs.declared.fault.ComposeFault.TheVariants.{BadPart, BadRoles, LongName, Clash, TooLarge, OutOfMemory}

-- the part and the use
abbrev pub use_text : List ℕ → (part use_name : Name) → List ℕ
use_text cause part use_name = cause ++ part ++ 32 ∷ use_name

-- the first use that can't be expanded
abbrev pub compose_text : ComposeFault → List ℕ
compose_text (BadPart part use_name) = use_text (codes "bad part ") part use_name
compose_text (BadRoles part use_name) = use_text (codes "bad roles ") part use_name
compose_text (LongName part use_name) = use_text (codes "long name ") part use_name
compose_text (Clash part use_name) = use_text (codes "clash ") part use_name
compose_text (TooLarge part use_name) = use_text (codes "too large ") part use_name
compose_text OutOfMemory = codes "out of memory"
