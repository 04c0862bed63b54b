use Rattle.std.proofs.Common.{◌++◌, take, refl}
use Rattle.ris_io.proofs.Told.{left_less, told_behind}
use Rattle.ris_io.proofs.reading.read_all.Goals as goal

pub returns-then-n-limit-clause-rest : goal.returns-then-n-limit-clause-rest
returns-then-n-limit-clause-rest g c =
    let taken = c.loop-bytes.bytes.items ++ take c.in-Ok.n c.read.new.into in
    let told = left_less _ _ _ c.loop-bytes.bytes.items (take c.in-Ok.n c.read.new.into) c.loop-bytes.invariant.told c.in-Ok.ensures.bytes in
    told_behind _ _ taken _ told (λ rest _. (taken, refl))
