-- The code's header as that of the definition.
use Rattle.ris_base.specs.Script as script
use Rattle.ris_script.specs.declared.headers.Header.{Header}

-- a header, as the definition has it
abbrev pub header_meaning : Header → script.Header
header_meaning h = record { format = h.format; vertices = h.vertices; sessions = h.sessions }
