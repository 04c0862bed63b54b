use Rattle.std.proofs.Common.{arith, length-drop, refl, ◌+◌, ◌-◌, length, drop}
use Rattle.std.proofs.lemmas.List.{take_all}
use Rattle.ris_words.proofs.Cuts.{cut_at-place}
use Rattle.ris_words.proofs.analyses.cut.Goals as goal

pub returns-in-Some : goal.returns-in-Some
returns-in-Some c =
    let bytes = c.args.bytes.now in
    let next = c.in-Some.place + 1 in
    let behind = take_all (length bytes - next) (drop next bytes) (omega (arith, length-drop next bytes)) in
    rw (cut_at-place c.args.at bytes, ← c.in-Some.ensures, behind) refl

pub returns-in-None : goal.returns-in-None
returns-in-None c = rw (cut_at-place c.args.at c.args.bytes.now, ← c.in-None.ensures) refl
