-- What a turn makes of a run in rounds.
use Rattle.std.proofs.Common.{◌≡◌, ℕ, ◌+◌, ◌<◌, ◌≤◌, true, List, [], ◌∷◌, ◌++◌, length, map, drop, get_or, arith, sym, subst, ap, ◌∙◌}
use Rattle.std.specs.Prelude.{sum_by}
use Rattle.std.specs.List.{All, fold, list_all}
use Rattle.std.proofs.lemmas.Bool.{and_parts}
use Rattle.std.proofs.lemmas.List.Folds.{list_all-append}
use Rattle.std.proofs.lemmas.List.Sums.{fold-append}
use Rattle.ris_algo.proofs.RecordLemmas.{lines_of-append}
use Rattle.ris_base.specs.Epoch.{Ground, IsEpoch, IsTurnReach}
use Rattle.ris_base.specs.Lines.{front}
use Rattle.ris_base.specs.Machine.{session_by}
use Rattle.ris_base.specs.Records.{lines_of}
use Rattle.ris_base.specs.Visits.{IsReachOfGrowth}
use Rattle.ris_base.specs.declared.lines.Line.{Line}
use Rattle.ris_base.specs.declared.lines.Line.TheVariants as line
use Rattle.ris_base.specs.declared.records.Record.{Record}
use Rattle.ris_base.specs.declared.records.Start.{Start}
use Rattle.ris_base.specs.declared.requests.Request.{Request}
use Rattle.ris_epoch.specs.DriverView as driver
use Rattle.ris_epoch.specs.DriverView.{DriverView}
use Rattle.ris_epoch.proofs.StandingFor.{stands-same}
use Rattle.ris_graph.specs.Ticks.{IsRise}
use Rattle.ris_history.specs.Applied.{applied, opened}
use Rattle.ris_history.specs.HistoryView.{HistoryView}
use Rattle.ris_journal.specs.JournalView.{JournalView}
use Rattle.ris_rounds.specs.Rounds.{IsBatchOf, IsPlayed, RunView, batch_of, commands_at, player_in, told_player}
use Rattle.ris_rounds.proofs.Batches.{batch-has, batch-there, fronts-batch}
use Rattle.ris_rounds.proofs.Counts.{few-lines}
use Rattle.ris_rounds.proofs.Sessions.{await-front}
use Rattle.ris_rounds.proofs.Tellings.{outcome-fits, played-turn}
use Rattle.ris_session.specs.PlayerView.{PlayerView}
use Rattle.ris_replay.specs.RoundsView.{AllFit, AreOwn, AreQuiet, Awaits, Counts, IsDrained, IsRunning, Keeps, RoundsView, run_behind, unreplied, unreplied_count}
use Rattle.ris_replay.specs.Visits.{Rises, grows}
use Rattle.ris_replay.proofs.GrowthReaches.{growth-append}
use Rattle.ris_replay.proofs.GrowthTurns.{growth-turn}
use Rattle.ris_replay.proofs.TurnReaches.{turn-rises}
use Rattle.ris_replay.proofs.LineupFacts.{all-fit, told-unreplied}
use Rattle.ris_replay.proofs.MeterRises.{rise-most}
use Rattle.ris_replay.proofs.QuietLogs.{told-quiet}

-- What a running run has

pub running-own : (r : RoundsView) → IsRunning r → AreOwn r.queues
running-own r running = λ n. (running.of.of.played.sessions n).own

pub running-few : (r : RoundsView) → IsRunning r → length r.queues ≤ 64
running-few r running = let p = running.of.of.played in let e = p.queues in let few = p.given.few in omega arith

pub running-here : (r : RoundsView) → IsRunning r → All (λ x. session_by x < r.driver.opening.sessions) (batch_of r.queues)
running-here r running =
    let s = running.of.of in
    let fronts = fronts-batch r.queues (running-own r running) in
    subst (λ (start : Start). All (λ x. session_by x < start.sessions) (batch_of r.queues)) (sym s.driver_stands.opening)
    (batch-there r.queues (batch_of r.queues) running.ground.start.sessions fronts s.played.queues)

front-few : (lines : List Line) → front lines ≤ length lines
unfolding front
front-few [] = omega arith
front-few (line.Entry e ∷ lines) = let more = front-few lines in omega arith
front-few (line.Mark s q u ∷ lines) = let more = front-few lines in omega arith
front-few (line.Leave s q ∷ lines) = let more = front-few lines in omega arith

pub running-room : (r : RoundsView) → IsRunning r → front r.driver.journal.lines + length (batch_of r.queues) ≤ 4294967295
running-room r running =
    let s = running.of.of in
    let lines = ap front s.driver_stands.lines in
    let low = front-few (lines_of running.of.records) in
    let all = few-lines running.ground running.lists (run_behind running.of.records r) s.played in
    let few = running.few in
    omega arith

-- A turn

-- what a turn of a batch made: the driver stands for more records behind an epoch, and a meter rose by no more than the reach
abbrev pub IsTurned : RoundsView → List Request → DriverView → ℕ → ℕ → ℕ → Type 0
IsTurned old batch turned tail before after =
    (ground : Ground) (records : List Record) → driver.StandsFor old.driver ground records
    → (epoch : IsEpoch ground records batch (records ++ turned.records) turned.replies)
    × driver.StandsFor turned ground (records ++ turned.records)
    × ((n : ℕ) → IsTurnReach ground records batch [] (records ++ turned.records) turned.replies epoch n → IsRise before after n)
    × (tail ≡ length epoch.tail)

module _ (old : RoundsView) (batch : List Request) (turned : DriverView) (tail before after : ℕ) (is : batch ≡ batch_of old.queues)
    (turn : IsTurned old batch turned tail before after) where
  -- the batch has the oldest request of each session
  fronts : AreOwn old.queues → IsBatchOf old.queues batch
  fronts own = subst (λ (rs : List Request). IsBatchOf old.queues rs) (sym is) (fronts-batch old.queues own)

  -- the outcomes fit
  pub turned-fit : IsRunning old → AllFit old.players turned.replies
  turned-fit running =
      let s = running.of in
      let all = turn running.ground s.records s.of.driver_stands in
      all-fit old.players turned.replies
      (λ first rest o split. outcome-fits running.ground running.lists (run_behind s.records old) batch [] (s.records ++ turned.records) turned.replies
      s.of.played (fronts (running-own old running)) all.0 first rest o split)

  -- a session that awaits a reply gets one
  turned-some : IsRunning old → Awaits old → 0 < length turned.replies
  turned-some running waits =
      let s = running.of in
      let n : ℕ = waits.session in
      let all = turn running.ground s.records s.of.driver_stands in
      let first = await-front (commands_at running.lists n) n (player_in old.players n) (get_or old.queues n []) (s.of.played.sessions n) waits.awaits in
      let has = batch-has old.queues batch n first.0 (fronts (running-own old running)) first.1 in
      let o = all.0.all first.0 has.1 in
      let within = o.1.1 in
      omega arith

  pub turned-replied : (players : List PlayerView) → IsRunning old → players ≡ fold told_player old.players turned.replies → Awaits old
      → sum_by unreplied players < unreplied_count old
  turned-replied players running told waits =
      let some = turned-some running waits in
      let less = told-unreplied old.players turned.replies (turned-fit running) in
      let same = ap (sum_by unreplied) told in
      omega arith

  -- the meter doesn't fall
  pub turned-rises : IsRunning old → Rises before after
  turned-rises running =
      let s = running.of in
      let all = turn running.ground s.records s.of.driver_stands in
      turn-rises running.ground s.records turned.records batch turned.replies all.0 before after all.1.right s.of.played.given.opening.proper all.2

  -- and where nothing is taken away and no reply wants memory it rises by no more than the reach of the entries
  pub turned-counts : (drained : DriverView) (new : RoundsView) → IsDrained turned drained → new.driver ≡ record drained { replies = [] }
      → new.players ≡ fold told_player old.players turned.replies → IsRunning old → Counts old new before after
  turned-counts drained new drains driver_is players_are running = λ ground lists s first counted grown quiet n reach.
      let all = turn ground s.records s.of.driver_stands in
      let xs : List Line = lines_of s.records in
      let ys : List Line = lines_of turned.records in
      let lines : new.driver.journal.lines ≡ xs ++ ys =
      ap (λ (d : DriverView). d.journal.lines) driver_is ∙ ap (λ (j : JournalView). j.lines) drains.journal ∙ all.1.lines
      ∙ lines_of-append s.records turned.records in
      let parts = and_parts (list_all grows xs) (list_all grows ys)
      (sym (list_all-append grows xs ys) ∙ subst (λ (ls : List Line). list_all grows ls ≡ true) lines grown) in
      let split = growth-append ground.specs xs ys ground.opening n (subst (λ (ls : List Line). IsReachOfGrowth ground.opening ground.specs ls n) lines reach) in
      let told = told-quiet old.players turned.replies (turned-fit running) (subst (λ (ps : List PlayerView). AreQuiet ps) players_are quiet) in
      let earlier = counted (subst (λ (ls : List Line). list_all grows ls ≡ true) (sym s.of.driver_stands.lines) parts.0) told.0 split.0
      (subst (λ (ls : List Line). IsReachOfGrowth ground.opening ground.specs ls split.0) (sym s.of.driver_stands.lines) split.3) in
      let rose = rise-most before after split.1 (all.2 split.1
      (growth-turn ground s.records turned.records batch turned.replies all.0 split.1 all.1.right told.1 parts.1 split.4)) in
      let sum = split.2 in
      omega arith

  pub turned-keeps : (drained : DriverView) (new : RoundsView) → IsDrained turned drained → new.driver ≡ record drained { replies = [] }
      → new.history ≡ fold applied old.history turned.records → new.players ≡ fold told_player old.players turned.replies
      → new.queues ≡ map (drop 1) old.queues → new.batch ≡ [] → Keeps old new
  turned-keeps drained new drains driver_is history_is players_are queues_are batch_is = λ ground lists s.
      let all = turn ground s.records s.of.driver_stands in
      let more : List Record = s.records ++ turned.records in
      let run : RunView = run_behind s.records old in
      let told_run = played-turn ground lists run batch [] more turned.replies s.of.played (fronts (λ n. (s.of.played.sessions n).own)) all.0 all.1.right in
      record {
        records = more;
        of = record {
          played = subst (λ (ps : List PlayerView). IsPlayed ground lists (record { records = more; players = ps; queues = new.queues })) (sym players_are)
              (subst (λ (qs : List (List Request)). IsPlayed ground lists (record { records = more; players = fold told_player old.players turned.replies; queues = qs }))
              (sym queues_are) told_run);
          driver_stands = stands-same turned new.driver ground more all.1
              (ap (λ (d : DriverView). d.graph) driver_is ∙ drains.graph)
              (ap (λ (d : DriverView). d.analyses) driver_is ∙ drains.analyses)
              (ap (λ (d : DriverView). d.opening) driver_is ∙ drains.opening)
              (ap (λ (d : DriverView). d.journal.lines) driver_is ∙ ap (λ (j : JournalView). j.lines) drains.journal);
          history_stands = record {
            right = all.1.right;
            held = history_is ∙ ap (λ (h : HistoryView). fold applied h turned.records) s.of.history_stands.held
                ∙ sym (fold-append applied (opened ground.start) s.records turned.records);
          };
          none = ap (λ (d : DriverView). d.records) driver_is ∙ drains.none;
          told = ap (λ (d : DriverView). d.replies) driver_is;
          empty = batch_is;
        };
      }
