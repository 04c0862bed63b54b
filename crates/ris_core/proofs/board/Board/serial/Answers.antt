use Rattle.std.proofs.Common.{◌∙◌, List, ap, map, sym, subst}
use Rattle.std.specs.Option.{option_map}
use Rattle.ris_base.specs.Forest.{forest_in}
use Rattle.ris_base.specs.Graph.{IsProper}
use Rattle.ris_base.specs.Machine.Step.{Serial}
use Rattle.ris_base.specs.Requests.{does_from, refusal_of, refused_at}
use Rattle.ris_base.specs.declared.forests.ForestRow.{ForestRow}
use Rattle.ris_base.proofs.RequestLemmas.{entered-accepted, proper-entered}
use Rattle.ris_core.specs.Moves.{IsAfter, graph_in}
use Rattle.ris_core.specs.Stands.{IsTried}
use Rattle.ris_core.proofs.TailSteps.{tried-entered, tried-refused}
use Rattle.ris_core.proofs.board.Board.serial.Goals as goal

pub enter-requires-clause-proper : goal.enter-requires-clause-proper
enter-requires-clause-proper g c κs κ =
    let now = c.self.invariant.0 ∙ ap graph_in c.self.view_is in
    let does = subst (IsAfter c.self.inside.current c.in-Some.entry.parts c.front.result) c.in-Ok.is c.in_ok-after.ensures in
    subst IsProper (entered-accepted c.self.inside.current c.in-Ok.after c.in-Some.entry.parts does)
    (proper-entered c.self.inside.current c.in-Some.entry.parts (subst IsProper (sym now) c.requires))

pub returns-in-Ok : goal.returns-in-Ok
returns-in-Ok g c =
    let l = c.args.self.now in
    let now = c.self.invariant.0 ∙ ap graph_in c.self.view_is in
    let does = subst (IsAfter c.self.inside.current c.in-Some.entry.parts c.front.result) c.in-Ok.is c.in_ok-after.ensures in
    subst (λ (rows : List (List ForestRow)). IsTried l (Serial c.args.session (map forest_in rows)) c.enter.new.self c.enter.result) c.in_ok-tables.ensures
    (tried-entered l c.args.session c.in_ok-tables.tables c.in-Some.entry c.in-Ok.after c.enter.new.self c.enter.result (sym c.in_ok-entry.ensures ∙ c.in-Some.is)
    (ap (λ g. does_from 1 g c.in-Some.entry.parts) (sym now) ∙ does) c.enter.ensures)

pub returns-in-Err : goal.returns-in-Err
returns-in-Err g c =
    let l = c.args.self.now in
    let now = c.self.invariant.0 ∙ ap graph_in c.self.view_is in
    let why = subst (IsAfter c.self.inside.current c.in-Some.entry.parts c.front.result) c.in-Err.is c.in_ok-after.ensures in
    subst (λ (rows : List (List ForestRow)). IsTried l (Serial c.args.session (map forest_in rows)) c.refuse.new.self c.refuse.result) c.in_ok-tables.ensures
    (tried-refused l c.args.session c.in_ok-tables.tables c.in-Some.entry c.in-Err.refusal c.refuse.new.self c.refuse.result (sym c.in_ok-entry.ensures ∙ c.in-Some.is)
    (ap (λ n. option_map (refused_at n) (refusal_of (graph_in l) c.in-Some.entry.parts)) (sym c.front.ensures)
    ∙ ap (λ g. option_map (refused_at c.front.result) (refusal_of g c.in-Some.entry.parts)) (sym now) ∙ why) c.refuse.ensures)
