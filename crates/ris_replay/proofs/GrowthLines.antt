-- The lines of a script that takes nothing away take nothing away.
use Rattle.std.proofs.Common.{◌≡◌, ℕ, zero, suc, ◌-◌, ◌&&◌, Bool, true, false, List, [], ◌∷◌, map, Option, Some, None, arith, refl, sym, subst, ap, ◌∙◌}
use Rattle.std.specs.List.{AllByRecursion, list_all, list_any, slice_get, slice_index_or}
use Rattle.std.specs.Option.{option_and_then}
use Rattle.std.proofs.lemmas.Bool.{and_parts}
use Rattle.ris_base.specs.Epoch.{Ground}
use Rattle.ris_base.specs.Falling.{start_reach}
use Rattle.ris_base.specs.Replies.{wants_memory}
use Rattle.ris_base.specs.Script.{opening_of}
use Rattle.ris_base.specs.Transcript.{command_at, entry_by}
use Rattle.ris_base.specs.Visits.{IsReachOfGrowth, is_growth, only_adds}
use Rattle.ris_base.specs.declared.analyses.Spec.{Spec}
use Rattle.ris_base.specs.declared.commands.Command.{Command}
use Rattle.ris_base.specs.declared.commands.Command.TheVariants as command
use Rattle.ris_base.specs.declared.graphs.PlainGraph.{PlainGraph}
use Rattle.ris_base.specs.declared.lines.Entry.{Entry}
use Rattle.ris_base.specs.declared.lines.Line.{Line}
use Rattle.ris_base.specs.declared.lines.Line.TheVariants as line
use Rattle.ris_base.specs.declared.replies.LogLine.{LogLine}
use Rattle.ris_base.specs.declared.scripts.Script.{Script}
use Rattle.ris_base.specs.declared.updates.Update.{Update}
use Rattle.ris_graph.specs.Ticks.{IsRise}
use Rattle.ris_text.proofs.Laws.{IsMade, all_made}
use Rattle.ris_replay.specs.Playing.{AreAnswered}
use Rattle.ris_replay.specs.RoundsView.{IsCounted, RoundsView}
use Rattle.ris_replay.specs.Visits.{AreWithinReach, grows}
use Rattle.ris_replay.proofs.MeterRises.{rise-most}

-- where all items pass, one of them does
all-at : {X : Type 0} (p : X → Bool) (xs : List X) (k : ℕ) (x : X) → list_all p xs ≡ true → slice_get xs k ≡ Some x → p x ≡ true
all-at p [] k x h at = absurd (cc)
all-at p (y ∷ xs) zero x h at = let same : y ≡ x = cc in subst (λ z. p z ≡ true) same (and_parts (p y) (list_all p xs) h).0
all-at p (y ∷ xs) (suc k) x h at = all-at p xs k x (and_parts (p y) (list_all p xs) h).1 at

all-list : {X : Type 0} (p : X → Bool) (lists : List (List X)) (s : ℕ) → list_all (list_all p) lists ≡ true → list_all p (slice_index_or lists s []) ≡ true
all-list p [] s h = refl
all-list p (xs ∷ lists) zero h = (and_parts (list_all p xs) (list_all (list_all p) lists) h).0
all-list p (xs ∷ lists) (suc s) h = all-list p lists s (and_parts (list_all p xs) (list_all (list_all p) lists) h).1

-- an entry of a command that takes nothing away takes nothing away
entry-grows : (lists : List (List Command)) (e : Entry) → list_all (list_all is_growth) lists ≡ true → IsMade lists (line.Entry e) → list_all only_adds e.parts ≡ true
entry-grows lists e all made = by (command_at lists e.session e.seq) refl made
  where
    by : (o : Option Command) → command_at lists e.session e.seq ≡ o → option_and_then (entry_by e.session e.seq) o ≡ Some (line.Entry e) → list_all only_adds e.parts ≡ true
    by None at is = absurd (cc)
    by (Some (command.Change parts)) at is =
        let same : ◌≡◌ {A = Entry} (record { session = e.session; seq = e.seq; parts = parts }) e = cc in
        subst (λ (ps : List Update). list_all only_adds ps ≡ true) (ap (λ (x : Entry). x.parts) same)
        (all-at is_growth (slice_index_or lists e.session []) e.seq (command.Change parts) (all-list is_growth lists e.session all) at)
    by (Some (command.Release upto)) at is = absurd (cc)
    by (Some command.Leave) at is = absurd (cc)
    by (Some (command.Value version a x)) at is = absurd (cc)
    by (Some (command.Parent version a x)) at is = absurd (cc)
    by (Some (command.Path version a x)) at is = absurd (cc)
    by (Some (command.Modified version a)) at is = absurd (cc)
    by (Some command.Current) at is = absurd (cc)

lines-grow : (lists : List (List Command)) (lines : List Line) → list_all (list_all is_growth) lists ≡ true → AllByRecursion (IsMade lists) lines
    → list_all grows lines ≡ true
lines-grow lists [] all made = refl
lines-grow lists (line.Entry e ∷ lines) all made =
    ap (λ (b : Bool). b && list_all grows lines) (entry-grows lists e all made.0) ∙ lines-grow lists lines all made.1
lines-grow lists (line.Mark s q u ∷ lines) all made = lines-grow lists lines all made.1
lines-grow lists (line.Leave s q ∷ lines) all made = lines-grow lists lines all made.1

-- so what was counted from the start on is within the reach
pub end-within : (script : Script) (specs : List Spec) (ground : Ground) (r : RoundsView) (logs : List (List LogLine)) (lines : List Line) (first mid now : ℕ)
    → ground.opening ≡ opening_of script → ground.specs ≡ specs → AreAnswered script specs logs lines → logs ≡ map (λ p. p.log) r.players
    → lines ≡ r.driver.journal.lines → IsRise first mid (start_reach (opening_of script) specs) → IsCounted ground r mid now
    → AreWithinReach script specs logs lines (now - first)
end-within script specs ground r logs lines first mid now opening specs_are answered logs_are lines_are rise counted = λ grown quiet n reach.
    let from_start = rise-most first mid (start_reach (opening_of script) specs) rise in
    let all = lines-grow script.commands lines grown (all_made script.commands lines answered.legal.each_once.of_commands) in
    let more = counted (subst (λ (ls : List Line). list_all grows ls ≡ true) lines_are all)
    (subst (λ (ls : List (List LogLine)). list_any (list_any wants_memory) ls ≡ false) logs_are quiet) n
    (subst (λ (ls : List Line). IsReachOfGrowth ground.opening ground.specs ls n) lines_are
    (subst (λ (ss : List Spec). IsReachOfGrowth ground.opening ss lines n) (sym specs_are)
    (subst (λ (g : PlainGraph). IsReachOfGrowth g specs lines n) (sym opening) reach))) in
    omega arith
