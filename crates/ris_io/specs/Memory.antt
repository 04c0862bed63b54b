-- What the source and the sink in memory do at each call.
use Rattle.std.specs.Prelude.{ℕ, ◌+◌, ◌-◌, ◌^◌, min, List, length, take, drop, ◌++◌}

-- a count that is one greater, or stands at 2^64 - 1
abbrev pub one_more : ℕ → ℕ
one_more count = min (count + 1) (2 ^ 64 - 1)

-- a source in memory: the bytes that it has left, the most that it gives in a call, the numbers of the calls that fail,
-- how many calls were made, and how many of them failed
pub record SourceState : Type 0 where
  pub left : List ℕ
  pub cut : ℕ
  pub fails : List ℕ
  pub calls : ℕ
  pub faults : ℕ

-- how many bytes a call gives that doesn't fail, with room for so many
abbrev pub given : SourceState → ℕ → ℕ
given s room = min s.cut (min room (length s.left))

-- the source after a call that gave n bytes
abbrev pub after_read : SourceState → ℕ → SourceState
after_read s n = record { left = drop n s.left; cut = s.cut; fails = s.fails; calls = one_more s.calls; faults = s.faults }

-- the source after a call that failed
abbrev pub after_failed_read : SourceState → SourceState
after_failed_read s = record { left = s.left; cut = s.cut; fails = s.fails; calls = one_more s.calls; faults = one_more s.faults }

-- a sink in memory: the bytes that it holds, the most that it takes in a call, the numbers of the calls that fail,
-- how many calls were made, how many of them failed, and for how many bytes it has memory
pub record SinkState : Type 0 where
  pub held : List ℕ
  pub cut : ℕ
  pub fails : List ℕ
  pub calls : ℕ
  pub faults : ℕ
  pub room : ℕ

-- how many bytes of a piece a call takes that doesn't fail
abbrev pub taken : SinkState → List ℕ → ℕ
taken s piece = min s.cut (length piece)

-- the sink after a call that took n bytes of a piece and left it with memory for so many bytes
abbrev pub after_write : SinkState → List ℕ → ℕ → ℕ → SinkState
after_write s piece n room = record { held = s.held ++ take n piece; cut = s.cut; fails = s.fails; calls = one_more s.calls; faults = s.faults; room = room }

-- the sink after a call that failed
abbrev pub after_failed_write : SinkState → ℕ → SinkState
after_failed_write s room = record { held = s.held; cut = s.cut; fails = s.fails; calls = one_more s.calls; faults = one_more s.faults; room = room }
