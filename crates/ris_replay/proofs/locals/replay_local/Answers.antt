use Rattle.std.proofs.Common.{◌≡◌, ℕ, ◌-◌, List, Ok, Err, Result, IfOk, arith, map, refl, sym, subst, ◌∙◌}
use Rattle.ris_base.specs.Epoch.{Ground}
use Rattle.ris_base.specs.Falling.{start_reach}
use Rattle.ris_base.specs.Script.{opening_of}
use Rattle.ris_base.specs.declared.analyses.Spec.{Spec}
use Rattle.ris_base.specs.declared.scripts.Script.{Script}
use Rattle.ris_graph.specs.Ticks.{IsRise}
use Rattle.ris_replay.specs.Playing.{AreAnswered}
use Rattle.ris_replay.specs.RoundsView.{AreDone, IsCounted, RoundsView, Stands, view_of}
use Rattle.ris_replay.specs.Visits.{AreWithinReach}
use Rattle.ris_replay.specs.declared.locals.Played.{Played}
use Rattle.ris_replay.proofs.GrowthLines.{end-within}
use Rattle.ris_replay.proofs.MeterRises.{rises-ticked, rises-twice}
use Rattle.ris_replay.proofs.RoundStarts.{end-answered}
use Rattle.ris_replay.proofs.locals.replay_local.Goals as goal

-- what was played is answered
answered-ok : {Y : Type 0} (script : Script) (specs : List Spec) (ground : Ground) (r : RoundsView) (result : Result Played Y) → ground.opening ≡ opening_of script
    → ground.specs ≡ specs → ground.start.sessions ≡ script.sessions → Stands ground script.commands r → AreDone r
    → IfOk result (λ played. played.logs ≡ map (λ p. p.log) r.players) → IfOk result (λ played. played.lines ≡ r.driver.journal.lines)
    → IfOk result (λ played. AreAnswered script specs played.logs played.lines)
answered-ok script specs ground r (Ok played) opening same sessions s done logs lines =
    end-answered script specs ground r played.logs played.lines opening same sessions s done logs lines
answered-ok script specs ground r (Err e) opening same sessions s done logs lines = tt

-- and its visits are within the reach
within-ok : {Y : Type 0} (script : Script) (specs : List Spec) (ground : Ground) (r : RoundsView) (first mid now visits : ℕ) (result : Result Played Y)
    → ground.opening ≡ opening_of script → ground.specs ≡ specs → IsRise first mid (start_reach (opening_of script) specs) → IsCounted ground r mid now
    → visits ≡ now - first → IfOk result (λ played. AreAnswered script specs played.logs played.lines)
    → IfOk result (λ played. played.logs ≡ map (λ p. p.log) r.players) → IfOk result (λ played. played.lines ≡ r.driver.journal.lines)
    → IfOk result (λ played. played.visits ≡ visits) → IfOk result (λ played. AreWithinReach script specs played.logs played.lines played.visits)
within-ok script specs ground r first mid now visits (Ok played) opening same rise counted rose answered logs lines told =
    subst (λ (n : ℕ). AreWithinReach script specs played.logs played.lines n) (sym (told ∙ rose))
    (end-within script specs ground r played.logs played.lines first mid now opening same answered logs lines rise counted)
within-ok script specs ground r first mid now visits (Err e) opening same rise counted rose answered logs lines told = tt

pub returns-in_err-rounds-clause-ticks : goal.returns-in_err-rounds-clause-ticks
returns-in_err-rounds-clause-ticks g c =
    let before = c.total-before.ensures in
    let rose = rises-ticked (g.M.Meter.ticks c.args.meter.now) (g.M.Meter.ticks c.start.new.meter) _ c.start.ensures.visits (omega arith) in
    rose.0

pub returns-in_err-rounds-clause-below : goal.returns-in_err-rounds-clause-below
returns-in_err-rounds-clause-below g c =
    let before = c.total-before.ensures in
    let rose = rises-ticked (g.M.Meter.ticks c.args.meter.now) (g.M.Meter.ticks c.start.new.meter) _ c.start.ensures.visits (omega arith) in
    rose.1

pub returns-in_err-play_all-clause-ticks : goal.returns-in_err-play_all-clause-ticks
returns-in_err-play_all-clause-ticks g c =
    let before = c.total-before.ensures in
    let both = rises-twice (g.M.Meter.ticks c.args.meter.now) (g.M.Meter.ticks c.start.new.meter) (g.M.Meter.ticks c.play_all.new.meter)
    (rises-ticked (g.M.Meter.ticks c.args.meter.now) (g.M.Meter.ticks c.start.new.meter) _ c.start.ensures.visits) c.play_all.ensures.rise in
    let rose = both (omega arith) in
    rose.0

pub returns-in_err-play_all-clause-below : goal.returns-in_err-play_all-clause-below
returns-in_err-play_all-clause-below g c =
    let before = c.total-before.ensures in
    let both = rises-twice (g.M.Meter.ticks c.args.meter.now) (g.M.Meter.ticks c.start.new.meter) (g.M.Meter.ticks c.play_all.new.meter)
    (rises-ticked (g.M.Meter.ticks c.args.meter.now) (g.M.Meter.ticks c.start.new.meter) _ c.start.ensures.visits) c.play_all.ensures.rise in
    let rose = both (omega arith) in
    rose.1

pub overflow_sub-visits : goal.overflow_sub-visits
overflow_sub-visits g c =
    let before = c.total-before.ensures in
    let now = c.total.ensures in
    let both = rises-twice (g.M.Meter.ticks c.args.meter.now) (g.M.Meter.ticks c.start.new.meter) (g.M.Meter.ticks c.play_all.new.meter)
    (rises-ticked (g.M.Meter.ticks c.args.meter.now) (g.M.Meter.ticks c.start.new.meter) _ c.start.ensures.visits) c.play_all.ensures.rise in
    let rose = both (omega arith) in
    omega arith

pub returns-clause-answered : goal.returns-clause-answered
returns-clause-answered g c =
    let ground : Ground = record { opening = opening_of c.args.script; specs = c.args.specs.now; start = c.in_ok-rounds.rounds.driver.opening } in
    answered-ok c.args.script c.args.specs.now ground (view_of c.play_all.new.self) c.finish.result refl refl
    c.in_ok-rounds.ensures.sessions (c.in_ok-play_all.ensures.keeps ground c.args.script.commands c.in_ok-rounds.ensures.stands) c.in_ok-play_all.ensures.done
    c.finish.ensures.logs c.finish.ensures.lines

pub returns-clause-ticks : goal.returns-clause-ticks
returns-clause-ticks g c =
    let before = c.total-before.ensures in
    let both = rises-twice (g.M.Meter.ticks c.args.meter.now) (g.M.Meter.ticks c.start.new.meter) (g.M.Meter.ticks c.play_all.new.meter)
    (rises-ticked (g.M.Meter.ticks c.args.meter.now) (g.M.Meter.ticks c.start.new.meter) _ c.start.ensures.visits) c.play_all.ensures.rise in
    let rose = both (omega arith) in
    rose.0

pub returns-clause-below : goal.returns-clause-below
returns-clause-below g c =
    let before = c.total-before.ensures in
    let both = rises-twice (g.M.Meter.ticks c.args.meter.now) (g.M.Meter.ticks c.start.new.meter) (g.M.Meter.ticks c.play_all.new.meter)
    (rises-ticked (g.M.Meter.ticks c.args.meter.now) (g.M.Meter.ticks c.start.new.meter) _ c.start.ensures.visits) c.play_all.ensures.rise in
    let rose = both (omega arith) in
    rose.1

pub returns-clause-within : goal.returns-clause-within
returns-clause-within g c =
    let ground : Ground = record { opening = opening_of c.args.script; specs = c.args.specs.now; start = c.in_ok-rounds.rounds.driver.opening } in
    let first : ℕ = g.M.Meter.ticks c.args.meter.now in
    let mid : ℕ = g.M.Meter.ticks c.start.new.meter in
    let now : ℕ = g.M.Meter.ticks c.play_all.new.meter in
    let counted = c.in_ok-play_all.ensures.counts ground c.args.script.commands c.in_ok-rounds.ensures.stands mid (λ grown quiet n reach. omega arith) in
    let rose : c.total.result - c.total-before.result ≡ now - first = (let a = c.total-before.ensures in let b = c.total.ensures in omega arith) in
    within-ok c.args.script c.args.specs.now ground (view_of c.play_all.new.self) first mid now (c.total.result - c.total-before.result) c.finish.result refl refl
    c.start.ensures.visits counted rose (returns-clause-answered g c) c.finish.ensures.logs c.finish.ensures.lines c.finish.ensures.visits
