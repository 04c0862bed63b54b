use Rattle.std.proofs.Common.{◌≡◌, false, true, rules}
use Rattle.std.specs.List.{list_any}
use Rattle.ris_script.proofs.ProgressLemmas.{finished-done, finished-open}
use Rattle.ris_script.proofs.drafts.Draft.finish.Goals as goal
use Rattle.ris_script.specs.Headers.{header_meaning}
use Rattle.ris_script.specs.Progress.{Progress, is_open}

pub returns-then-any_open : goal.returns-then-any_open
returns-then-any_open c =
    let inside = c.self.inside in
    let progress : Progress = record { header = header_meaning inside.header; base = inside.base.items; standings = inside.sessions.items; spoken = inside.spoken } in
    let open_ : list_any is_open progress.standings ≡ true = search rules in
    finished-open progress c.args.self c.self.view_is open_

pub returns : goal.returns
returns c =
    let inside = c.self.inside in
    let progress : Progress = record { header = header_meaning inside.header; base = inside.base.items; standings = inside.sessions.items; spoken = inside.spoken } in
    let none : list_any is_open progress.standings ≡ false = search rules in
    let done = finished-done progress c.args.self c.self.view_is none in
    let lists = c.in_ok-commands.ensures {u = tt} in
    rw (c.from_vec.ensures, lists) done
