-- What a reader over bytes has left to read.
use Rattle.std.specs.Prelude.{◌≡◌, ◌+◌, ℕ, true, List, [], Option, Some, None, IsSome, length}
use Rattle.std.specs.Borrow.{Bor}
use Rattle.csv.specs.Reading.{Ready, default_config, is_flexible, reader_config, reader_state, reader_trim, records_from, source_of}
use Rattle.csv.specs.declared.parser.State.{State}
use Rattle.csv.specs.declared.reader.Reader.{Reader}
use Rattle.csv.specs.declared.reader.Trim.TheVariants as trim

-- the bytes that a reader over bytes has left
abbrev pub bytes_left : Reader (Bor (List ℕ)) → Option (List ℕ)
bytes_left reader = source_of (λ s. Some s.now) reader

-- the records of the bytes that are left, from a state
unfoldable pub records_of_rest : State → Option (List ℕ) → List (List (List ℕ))
records_of_rest state None = []
records_of_rest state (Some bytes) = records_from default_config (length bytes + 1) state bytes

-- the records that a reader over bytes has left
abbrev pub records_left : Reader (Bor (List ℕ)) → List (List (List ℕ))
records_left reader = records_of_rest (reader_state reader) (bytes_left reader)

-- a reader over bytes gives each record as it stands
pub record GivesRecords (reader : Reader (Bor (List ℕ))) : Type 0 where
  pub plain : reader_config reader ≡ default_config
  pub untrimmed : reader_trim reader ≡ trim.None
  pub flexible : is_flexible reader ≡ true
  pub ready : Ready reader
  pub known : IsSome (bytes_left reader)
