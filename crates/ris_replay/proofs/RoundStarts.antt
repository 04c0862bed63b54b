-- How a run in rounds begins and ends.
use Rattle.std.proofs.Common.{◌≡◌, ℕ, ◌+◌, ◌<◌, ◌≤◌, List, [], ◌∷◌, ◌++◌, length, map, drop, replicate, Some, None, arith, refl, sym, subst, ap, ◌∙◌, append_assoc}
use Rattle.std.specs.Prelude.{IsTrue}
use Rattle.std.specs.List.{All, Contains, slice_get}
use Rattle.std.proofs.lemmas.List.{append-nil}
use Rattle.std.proofs.lemmas.List.Elements.{All-head, All-tail}
use Rattle.std.proofs.lemmas.Option.{get_or_from_slice_get, slice_get-get_or}
use Rattle.ris_base.specs.Answers.{Setup}
use Rattle.ris_base.specs.Epoch.{Ground}
use Rattle.ris_base.specs.Legal.{IsLegal}
use Rattle.ris_base.specs.Lines.{front}
use Rattle.ris_base.specs.Limits.{greatest_of}
use Rattle.ris_base.specs.Lists.{EachPair, numbers_below}
use Rattle.ris_base.specs.Records.{AreRight, forests_after, setup_for}
use Rattle.ris_base.specs.Replies.{can_have}
use Rattle.ris_base.specs.Requests.{after}
use Rattle.ris_base.specs.Script.{opening_of}
use Rattle.ris_base.specs.Shape.{IsReadable}
use Rattle.ris_base.specs.Transcript.{asked_in, replies_in}
use Rattle.ris_base.specs.declared.analyses.Spec.{Spec}
use Rattle.ris_base.specs.declared.commands.Command.{Command}
use Rattle.ris_base.specs.declared.graphs.PlainGraph.{PlainGraph}
use Rattle.ris_base.specs.declared.lines.Line.{Line}
use Rattle.ris_base.specs.declared.replies.LogLine.{LogLine}
use Rattle.ris_base.specs.declared.requests.Request.{Request}
use Rattle.ris_base.specs.declared.scripts.Script.{Script}
use Rattle.ris_base.proofs.NumbersBelow.{All-numbers_below}
use Rattle.ris_epoch.specs.DriverView as driver
use Rattle.ris_epoch.specs.DriverView.{DriverView}
use Rattle.ris_history.specs.HistoryView.{HistoryView}
use Rattle.ris_history.specs.Standing as history
use Rattle.ris_rounds.specs.Rounds.{IsGiven, IsPlayed, player_in, players_from}
use Rattle.ris_rounds.proofs.Endings.{ended-kinds, ended-legal}
use Rattle.ris_rounds.proofs.Sittings.{played-start}
use Rattle.ris_session.specs.PlayerView.{PlayerView, player_of, step_of}
use Rattle.ris_session.specs.declared.players.Next.TheVariants as next
use Rattle.ris_replay.specs.Playing.{AreAnswered}
use Rattle.ris_replay.proofs.LineupFacts.{split-first}
use Rattle.ris_replay.specs.RoundsView.{AreDone, RoundsView, Stands, run_behind}

-- The base of a script

below-number : (n x : ℕ) → Contains (numbers_below n) x → x < n
below-number n x (k, less, is) = subst (λ (y : ℕ). y < n) is (All-numbers_below n k x less)

-- the base of a script that was read joins vertices of its graph, within the limit on weights
pub base-ends : (analyses : ℕ) (script : Script) → IsReadable analyses script → All (λ t. (t.source < script.vertices) × (t.target < script.vertices)) script.base
base-ends analyses script readable k d less =
    let t = readable.opening.triples k d less in
    (below-number script.vertices _ t.source, below-number script.vertices _ t.target)

pub base-weights : (analyses : ℕ) (script : Script) → IsReadable analyses script → All (λ t. t.weight ≤ greatest_of script.format) script.base
base-weights analyses script readable k d less = (readable.opening.triples k d less).weight

-- Fresh sessions

-- the players of the first lists, and lists that are left
pub record ArePlayers (session : ℕ) (all left : List (List Command)) (players : List PlayerView) : Type 0 where
  pub are : players ++ players_from session left ≡ players_from 0 all
  pub count : session + length left ≡ length all

pub players-none : (all : List (List Command)) (players : List PlayerView) → players ≡ [] → ArePlayers 0 all all players
players-none all players none = record { are = ap (λ (ps : List PlayerView). ps ++ players_from 0 all) none; count = omega arith }

pub players-more : (session : ℕ) (all left rest : List (List Command)) (players more : List PlayerView) (commands : List Command) (p : PlayerView)
    → ArePlayers session all left players → slice_get left 0 ≡ Some commands → rest ≡ drop 1 left → p ≡ player_of session commands → more ≡ players ++ p ∷ []
    → ArePlayers (session + 1) all rest more
unfolding players_from
players-more session all left rest players more commands p before at behind fresh pushed =
    let split : left ≡ commands ∷ rest = split-first left commands at ∙ ap (λ (cs : List (List Command)). commands ∷ cs) (sym behind) in
    record {
      are = ap (λ (ps : List PlayerView). ps ++ players_from (session + 1) rest) pushed
          ∙ append_assoc players (p ∷ []) (players_from (session + 1) rest)
          ∙ ap (λ (x : PlayerView). players ++ x ∷ players_from (session + 1) rest) fresh
          ∙ ap (λ (cs : List (List Command)). players ++ players_from session cs) (sym split)
          ∙ before.are;
      count = let e = ap length split in let count = before.count in omega arith;
    }

pub players-all : (session : ℕ) (all left : List (List Command)) (players : List PlayerView) → ArePlayers session all left players → slice_get left 0 ≡ None
    → players ≡ players_from 0 all
unfolding players_from
players-all session all [] players before none = sym (append-nil players) ∙ before.are
players-all session all (commands ∷ left) players before none = absurd (let w : Some commands ≡ None = none in cc)

-- an empty queue for each list
queues-fresh : (lists : List (List Command)) → ◌≡◌ {A = List (List Request)} (replicate (length lists) []) (map (λ (commands : List Command). []) lists)
queues-fresh [] = refl
queues-fresh (commands ∷ lists) = ap (λ (qs : List (List Request)). [] ∷ qs) (queues-fresh lists)

-- A driver and a history of a script's start, with fresh players, stand for a run in which nothing has happened
pub start-stands : (script : Script) (specs : List Spec) (d : DriverView) (h : HistoryView) (players : List PlayerView) (queues : List (List Request)) (batch : List Request)
    → IsReadable (length specs) script → driver.StandsFor d (record { opening = opening_of script; specs = specs; start = d.opening }) []
    → d.opening.sessions ≡ script.sessions → d.records ≡ [] → d.replies ≡ []
    → ((opening : PlainGraph) (ss : List Spec) → AreRight opening ss d.opening [] → history.StandsFor h opening ss d.opening [])
    → players ≡ players_from 0 script.commands → queues ≡ replicate script.sessions [] → batch ≡ []
    → Stands (record { opening = opening_of script; specs = specs; start = d.opening }) script.commands
    (record { driver = d; history = h; players = players; queues = queues; batch = batch })
unfolding after front forests_after
start-stands script specs d h players queues batch readable stands sessions records replies opened players_are queues_are empty =
    let ground : Ground = record { opening = opening_of script; specs = specs; start = d.opening } in
    let some = readable.some in
    let few = readable.few in
    let given : IsGiven ground script.commands = record {
      opening = record { proper = readable.opening; right = stands.right.forests 0 (omega arith) };
      some = omega arith;
      few = omega arith;
      one_each = readable.lists ∙ sym sessions;
      askable = readable.askable;
      leaving = readable.leaving;
    } in
    let begun = played-start ground script.commands given in
    let waiting : queues ≡ map (λ (commands : List Command). []) script.commands =
    queues_are ∙ ap (λ (n : ℕ). replicate n []) (sym readable.lists) ∙ queues-fresh script.commands in
    record {
      records = [];
      of = record {
        played = subst (λ (ps : List PlayerView). IsPlayed ground script.commands (record { records = []; players = ps; queues = queues })) (sym players_are)
            (subst (λ (qs : List (List Request)). IsPlayed ground script.commands (record { records = []; players = players_from 0 script.commands; queues = qs })) (sym waiting) begun);
        driver_stands = stands;
        history_stands = opened (opening_of script) specs stands.right;
        none = records;
        told = replies;
        empty = empty;
      };
    }

-- The end

-- the replies of players so far, and of those that are left
pub record AreLogs (all left : List PlayerView) (logs : List (List LogLine)) : Type 0 where
  pub are : logs ++ map (λ (p : PlayerView). p.log) left ≡ map (λ (p : PlayerView). p.log) all
  pub done : All (λ p. step_of p ≡ next.Done) left

pub logs-none : (all left : List PlayerView) (logs : List (List LogLine)) → All (λ p. step_of p ≡ next.Done) all → left ≡ all → logs ≡ [] → AreLogs all left logs
logs-none all left logs done is none = record {
  are = ap (λ (ls : List (List LogLine)). ls ++ map (λ (p : PlayerView). p.log) left) none ∙ ap (map (λ (p : PlayerView). p.log)) is;
  done = subst (λ (ps : List PlayerView). All (λ p. step_of p ≡ next.Done) ps) (sym is) done;
}

pub logs-more : (all left rest : List PlayerView) (logs more : List (List LogLine)) (p : PlayerView) (log : List LogLine) → AreLogs all left logs
    → slice_get left 0 ≡ Some p → rest ≡ drop 1 left → log ≡ p.log → more ≡ logs ++ log ∷ [] → AreLogs all rest more
logs-more all left rest logs more p log before at behind own pushed =
    let split : left ≡ p ∷ rest = split-first left p at ∙ ap (λ (ps : List PlayerView). p ∷ ps) (sym behind) in
    record {
      are = ap (λ (ls : List (List LogLine)). ls ++ map (λ (x : PlayerView). x.log) rest) pushed
          ∙ append_assoc logs (log ∷ []) (map (λ (x : PlayerView). x.log) rest)
          ∙ ap (λ (l : List LogLine). logs ++ l ∷ map (λ (x : PlayerView). x.log) rest) own
          ∙ ap (λ (ps : List PlayerView). logs ++ map (λ (x : PlayerView). x.log) ps) (sym split)
          ∙ before.are;
      done = All-tail (λ x. step_of x ≡ next.Done) p rest (subst (λ (ps : List PlayerView). All (λ x. step_of x ≡ next.Done) ps) split before.done);
    }

pub logs-done : (all left : List PlayerView) (logs : List (List LogLine)) (p : PlayerView) → AreLogs all left logs → slice_get left 0 ≡ Some p → step_of p ≡ next.Done
logs-done all left logs p before at =
    All-head (λ x. step_of x ≡ next.Done) p (drop 1 left) (subst (λ (ps : List PlayerView). All (λ x. step_of x ≡ next.Done) ps) (split-first left p at) before.done)

pub all-done : (r : RoundsView) → AreDone r → All (λ p. step_of p ≡ next.Done) r.players
all-done r done = λ k d less.
    subst (λ (p : PlayerView). step_of p ≡ next.Done)
    (sym (get_or_from_slice_get r.players k (player_in r.players k) d (slice_get-get_or r.players k (player_of k []) less))) (done k less)

-- where all players are done, their replies and the lines are those of a transcript of the script
pub end-answered : (script : Script) (specs : List Spec) (ground : Ground) (r : RoundsView) (logs : List (List LogLine)) (lines : List Line)
    → ground.opening ≡ opening_of script → ground.specs ≡ specs → ground.start.sessions ≡ script.sessions → Stands ground script.commands r → AreDone r
    → logs ≡ map (λ p. p.log) r.players → lines ≡ r.driver.journal.lines → AreAnswered script specs logs lines
end-answered script specs ground r logs lines opening specs_are sessions s done logs_are lines_are =
    let all = s.of.played.players in
    let there : (n : ℕ) → n < ground.start.sessions → step_of (player_in r.players n) ≡ next.Done = λ n less. done n (omega arith) in
    let setup : ◌≡◌ {A = Setup} (setup_for ground.opening ground.specs ground.start) (record { opening = opening_of script; specs = specs; sessions = script.sessions }) =
    λ i. record { opening = opening i; specs = specs_are i; sessions = sessions i } in
    record {
      form = subst (λ (ls : List (List LogLine)). EachPair (EachPair (λ asked reply. IsTrue (can_have asked reply))) script.commands ls) (sym logs_are)
          (ended-kinds ground script.commands (run_behind s.records r) s.of.played there);
      legal = subst (λ (x : Setup). IsLegal x (asked_in script.commands) (replies_in logs) lines) setup
          (subst (λ (ls : List (List LogLine)). IsLegal (setup_for ground.opening ground.specs ground.start) (asked_in script.commands) (replies_in ls) lines) (sym logs_are)
          (subst (λ (ls : List Line). IsLegal (setup_for ground.opening ground.specs ground.start) (asked_in script.commands) (replies_in (map (λ (p : PlayerView). p.log) r.players)) ls)
          (sym (lines_are ∙ s.of.driver_stands.lines))
          (ended-legal ground script.commands (run_behind s.records r) s.of.played there)));
    }
