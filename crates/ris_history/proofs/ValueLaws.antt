-- What a history holds at each place from its floor on, by the records that made it.
use Rattle.std.proofs.Common.{◌≡◌, ℕ, zero, suc, ◌+◌, ◌<◌, ◌≤◌, if◌then◌else◌, List, [], ◌∷◌, length, map, Some, arith, refl, sym, subst, ap, ◌∙◌}
use Rattle.std.specs.Prelude.{fold}
use Rattle.std.specs.List.{slice_get}
use Rattle.ris_base.specs.Forest.{Forest, forest_in}
use Rattle.ris_base.specs.Records.{overwritten, overwritten_from, changed_forests, forests_after, opening_forests, is_entry}
use Rattle.ris_base.specs.declared.forests.ForestRow.{ForestRow}
use Rattle.ris_base.specs.declared.lines.Line.{Line}
use Rattle.ris_base.specs.declared.lines.Line.TheVariants as line
use Rattle.ris_base.specs.declared.records.Change.{Change}
use Rattle.ris_base.specs.declared.records.Record.{Record}
use Rattle.ris_base.specs.declared.records.Start.{Start}
use Rattle.ris_history.specs.Applied.{opened_table, entered_table, trimmed_table, opened, entered, raised, applied_line, applied}
use Rattle.ris_history.specs.Chains.{latest, number, chain_at, grown, with_forests, bound_of}
use Rattle.ris_history.specs.HistoryView.{TableView, HistoryView, shown}
use Rattle.ris_history.proofs.ChainLemmas.{chain_at-grown, length-grown}
use Rattle.ris_history.proofs.ChangeLemmas.{bound_of-at}
use Rattle.ris_history.proofs.TableLaws.{IsShown, shown-entered, shown-trimmed, AreTaken, shown-changes, shown-forests}

-- What one line leaves

-- the floor and the front never fall
pub floor-applied : (h : HistoryView) (l : Line) (ds : List Change) → h.floor ≤ (applied_line h l ds).floor
unfolding applied_line entered raised
floor-applied h (line.Entry e) ds = omega arith
floor-applied h (line.Mark s q u) ds = omega arith
floor-applied h (line.Leave s q) ds = omega arith

pub front-applied : (h : HistoryView) (l : Line) (ds : List Change) → h.table.front ≤ (applied_line h l ds).table.front
unfolding applied_line entered raised entered_table trimmed_table
front-applied h (line.Entry e) ds = omega arith
front-applied h (line.Mark s q u) ds = omega arith
front-applied h (line.Leave s q) ds = omega arith

-- the analyses stay
pub analyses-applied : (h : HistoryView) (l : Line) (ds : List Change) → (applied_line h l ds).table.analyses ≡ h.table.analyses
unfolding applied_line entered raised entered_table trimmed_table
analyses-applied h (line.Entry e) ds = refl
analyses-applied h (line.Mark s q u) ds = refl
analyses-applied h (line.Leave s q) ds = refl

-- a line changes nothing at the places up to the front and from the new floor on
shown-applied : (h : HistoryView) (l : Line) (ds : List Change) (v a x : ℕ) → v ≤ h.table.front → (applied_line h l ds).floor ≤ v
    → shown (applied_line h l ds).table v a x ≡ shown h.table v a x
unfolding applied_line entered raised
shown-applied h (line.Entry e) ds v a x within low = shown-entered h.table ds v a x within
shown-applied h (line.Mark s q u) ds v a x within low = shown-trimmed _ h.table v a x low
shown-applied h (line.Leave s q) ds v a x within low = shown-trimmed _ h.table v a x low

-- What records leave

pub floor-fold : (h : HistoryView) (rs : List Record) → h.floor ≤ (fold applied h rs).floor
floor-fold h [] = omega arith
floor-fold h (r ∷ rs) = let one = floor-applied h r.line r.changes in let more = floor-fold (applied h r) rs in omega arith

pub analyses-fold : (h : HistoryView) (rs : List Record) → (fold applied h rs).table.analyses ≡ h.table.analyses
analyses-fold h [] = refl
analyses-fold h (r ∷ rs) = analyses-fold (applied h r) rs ∙ analyses-applied h r.line r.changes

shown-fold : (h : HistoryView) (rs : List Record) (v a x : ℕ) → v ≤ h.table.front → (fold applied h rs).floor ≤ v
    → shown (fold applied h rs).table v a x ≡ shown h.table v a x
shown-fold h [] v a x within low = refl
shown-fold h (r ∷ rs) v a x within low =
    let rises = front-applied h r.line r.changes in
    let more = floor-fold (applied h r) rs in
    shown-fold (applied h r) rs v a x (omega arith) low ∙ shown-applied h r.line r.changes v a x within (omega arith)

-- Forests

-- the chains say at each place from the front and from f on what these forests say
Agrees : TableView → ℕ → List Forest → Type 0
Agrees t f forests =
    (w : ℕ) → t.front ≤ w → f ≤ w → (a : ℕ) (F : Forest) → slice_get forests a ≡ Some F → a < t.analyses → (x : ℕ) → IsShown F x (shown t w a x)

-- a forest of overwritten ones comes from one that was there
slice_get-overwritten : (b : ℕ) (forests : List Forest) (ds : List Change) (a : ℕ) (G : Forest) → slice_get (overwritten_from b forests ds) a ≡ Some G
    → (F : Forest) × (slice_get forests a ≡ Some F) × (G ≡ overwritten (b + a) F ds)
unfolding overwritten_from
slice_get-overwritten b [] ds a G h = absurd (cc)
slice_get-overwritten b (F ∷ forests) ds zero G h =
    let e : b + 0 ≡ b = omega arith in let same : overwritten b F ds ≡ G = cc in (F, refl, sym same ∙ ap (λ k. overwritten k F ds) (sym e))
slice_get-overwritten b (F ∷ forests) ds (suc a) G h =
    let more = slice_get-overwritten (b + 1) forests ds a G h in
    let e : b + suc a ≡ b + 1 + a = omega arith in
    (more.0, more.1, more.2 ∙ ap (λ k. overwritten k more.0 ds) (sym e))

agrees-entered : (t : TableView) (f : ℕ) (forests : List Forest) (ds : List Change) → AreTaken t.analyses ds → Agrees t f forests
    → Agrees (entered_table t ds) f (changed_forests forests ds)
unfolding Agrees entered_table
agrees-entered t f forests ds taken h w above low a G at an x =
    let n = t.analyses in
    let m = bound_of n ds in
    let wide = grown m t.chains in
    let size = length-grown (bound_of t.analyses ds) t.chains in
    let was = slice_get-overwritten 0 forests ds a G at in
    let F = was.0 in
    let zero_up : 0 + a ≡ a = omega arith in
    let same : G ≡ overwritten a F ds = was.2 ∙ ap (λ k. overwritten k F ds) zero_up in
    subst (λ (K : Forest). IsShown K x (shown (entered_table t ds) w a x)) (sym same)
    (shown-changes n (t.front + 1) w wide ds a F above taken an (λ k d atk own. let low_k = bound_of-at n ds k d atk own in omega arith)
    (λ y. subst (λ c. IsShown F y (latest c w)) (sym (chain_at-grown m t.chains (number n a y))) (h w (omega arith) low a F was.1 an y)) x)

agrees-trimmed : (t : TableView) (f g : ℕ) (forests : List Forest) → f ≤ g → Agrees t f forests → Agrees (trimmed_table g t) g forests
unfolding Agrees trimmed_table
agrees-trimmed t f g forests le h w above low a F at an x =
    subst (IsShown F x) (sym (shown-trimmed g t w a x low)) (h w above (omega arith) a F at an x)

-- the changes of each record are taken
abbrev pub AllTaken : ℕ → List Record → Type 0
AllTaken n [] = Unit {0}
AllTaken n (r ∷ rs) = AreTaken n r.changes × AllTaken n rs

-- what the law says of a history and some records
Holds : List Record → HistoryView → List Forest → ℕ → Type 0
Holds rs h forests v =
    Agrees h.table h.floor forests → AllTaken h.table.analyses rs → (fold applied h rs).floor ≤ h.table.front + v
    → (a : ℕ) (F : Forest) → slice_get (forests_after forests rs v) a ≡ Some F → a < h.table.analyses
    → (x : ℕ) → IsShown F x (shown (fold applied h rs).table (h.table.front + v) a x)

-- one line more in front
values-line : (h : HistoryView) (rs : List Record) (forests : List Forest) (v a : ℕ) (F : Forest) (x : ℕ) (l : Line) (ds : List Change)
    → ((k : HistoryView) (later : List Forest) (w : ℕ) → Holds rs k later w)
    → Agrees h.table h.floor forests → AreTaken h.table.analyses ds → AllTaken h.table.analyses rs
    → (fold applied (applied_line h l ds) rs).floor ≤ h.table.front + suc v
    → slice_get (if is_entry l then forests_after (changed_forests forests ds) rs v else forests_after forests rs (suc v)) a ≡ Some F → a < h.table.analyses
    → IsShown F x (shown (fold applied (applied_line h l ds) rs).table (h.table.front + suc v) a x)
unfolding Holds applied_line entered raised entered_table trimmed_table
values-line h rs forests v a F x (line.Entry e) ds more agrees own taken low at an =
    let after = applied_line h (line.Entry e) ds in
    let place : h.table.front + suc v ≡ h.table.front + 1 + v = omega arith in
    subst (λ w. IsShown F x (shown (fold applied after rs).table w a x)) (sym place)
    (more after (changed_forests forests ds) v (agrees-entered h.table h.floor forests ds own agrees) taken
    (subst (λ w. (fold applied after rs).floor ≤ w) place low) a F at an x)
values-line h rs forests v a F x (line.Mark s q u) ds more agrees own taken low at an =
    let after = applied_line h (line.Mark s q u) ds in
    more after forests (suc v) (agrees-trimmed h.table h.floor after.floor forests (floor-applied h (line.Mark s q u) ds) agrees) taken low a F at an x
values-line h rs forests v a F x (line.Leave s q) ds more agrees own taken low at an =
    let after = applied_line h (line.Leave s q) ds in
    more after forests (suc v) (agrees-trimmed h.table h.floor after.floor forests (floor-applied h (line.Leave s q) ds) agrees) taken low a F at an x

-- the values and parents of the place that is v entries past the front are those of the forests of that place
values-fold : (h : HistoryView) (rs : List Record) (forests : List Forest) (v : ℕ) → Agrees h.table h.floor forests → AllTaken h.table.analyses rs
    → (fold applied h rs).floor ≤ h.table.front + v → (a : ℕ) (F : Forest) → slice_get (forests_after forests rs v) a ≡ Some F → a < h.table.analyses
    → (x : ℕ) → IsShown F x (shown (fold applied h rs).table (h.table.front + v) a x)
unfolding forests_after Agrees Holds
values-fold h [] forests v agrees taken low a F at an x = agrees (h.table.front + v) (omega arith) low a F at an x
values-fold h (r ∷ rs) forests zero agrees taken low a F at an x =
    let first = floor-fold h (r ∷ rs) in
    let place : h.table.front + 0 ≡ h.table.front = omega arith in
    let here = agrees h.table.front (omega arith) (omega arith) a F at an x in
    subst (λ w. IsShown F x (shown (fold applied h (r ∷ rs)).table w a x)) (sym place)
    (subst (IsShown F x) (sym (shown-fold h (r ∷ rs) h.table.front a x (omega arith) (omega arith))) here)
values-fold h (r ∷ rs) forests (suc v) agrees taken low a F at an x =
    values-line h rs forests v a F x r.line r.changes (λ k later w. values-fold k rs later w) agrees taken.0 taken.1 low at an

-- The start

-- an item of a mapped list comes from one of the list
pub slice_get-mapped : {X Y : Type 0} (f : X → Y) (xs : List X) (k : ℕ) (y : Y) → slice_get (map f xs) k ≡ Some y → (x : X) × (slice_get xs k ≡ Some x) × (f x ≡ y)
slice_get-mapped f [] k y h = absurd (cc)
slice_get-mapped f (x ∷ xs) zero y h = (x, refl, cc)
slice_get-mapped f (x ∷ xs) (suc k) y h = slice_get-mapped f xs k y h

agrees-opened : (forests : List (List ForestRow)) → Agrees (opened_table forests) 0 (map forest_in forests)
unfolding Agrees opened_table
agrees-opened forests w above low a F at an x =
    let rows = slice_get-mapped forest_in forests a F at in
    let up : 0 + a ≡ a = omega arith in
    subst (λ (K : Forest). IsShown K x (shown (opened_table forests) w a x)) rows.2
    (subst (λ b. IsShown (forest_in rows.0) x (latest (chain_at (with_forests (length forests) 0 forests []) (number (length forests) b x)) w)) up
    (shown-forests (length forests) 0 w forests [] a rows.0 (omega arith) rows.1 (λ b y l bn. refl) x))

-- the law: at each place from the floor on the history holds what the forests of that place say
pub values : (start : Start) (records : List Record) (v a x : ℕ) (F : Forest) → AllTaken (length start.forests) records → (fold applied (opened start) records).floor ≤ v
    → slice_get (forests_after (opening_forests start) records v) a ≡ Some F → a < length start.forests → IsShown F x (shown (fold applied (opened start) records).table v a x)
unfolding opened opened_table
values start records v a x F taken low at an =
    let place : 0 + v ≡ v = omega arith in
    subst (λ w. IsShown F x (shown (fold applied (opened start) records).table w a x)) place
    (values-fold (opened start) records (opening_forests start) v (agrees-opened start.forests) taken (omega arith) a F at an x)
