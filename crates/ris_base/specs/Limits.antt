-- The limits that the definitions speak of.
use Rattle.std.specs.Prelude.{ℕ}
use Rattle.ris_base.specs.declared.graphs.Format.{Format}
use Rattle.ris_base.specs.declared.graphs.Format.TheVariants.{One, Two}

-- a vertex number is below this
abbrev pub vertex_limit : ℕ
vertex_limit = 4194304

-- the greatest weight of a triple in a graph of this format
abbrev pub greatest_of : Format → ℕ
greatest_of One = 4294967295
greatest_of Two = 68719476735

-- a script has at most so many sessions
abbrev pub session_limit : ℕ
session_limit = 64

-- a session has at most so many requests without a reply
abbrev pub open_limit : ℕ
open_limit = 16

-- a script has at most so many bytes
abbrev pub script_limit : ℕ
script_limit = 67108864
