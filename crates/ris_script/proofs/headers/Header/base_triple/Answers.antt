use Rattle.std.proofs.Common.{refl}
use Rattle.ris_script.proofs.HeaderLemmas.{base_numbers}
use Rattle.ris_script.proofs.headers.Header.base_triple.Goals as goal

pub returns-in_err-u : goal.returns-in_err-u
returns-in_err-u c =
    let none = c.in_err-u.ensures {u = tt} in
    rw (c.from_residual.ensures, base_numbers, ← none) refl
