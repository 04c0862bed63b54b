-- How a driver handles requests of the tail: what it stands for, and the visits.
use Rattle.std.proofs.Common.{◌≡◌, ℕ, ◌+◌, ◌<◌, ◌≤◌, inl, inr, List, [], ◌∷◌, ◌++◌, Option, Some, None, IsSome, sum, arith, rules, refl, sym, subst, ap, ◌∙◌, append_assoc}
use Rattle.std.proofs.lemmas.List.{append-nil}
use Rattle.ris_base.specs.Epoch.{Ground, Resolved}
use Rattle.ris_base.specs.Falling.{AreReaches, IsReachUnless, dropped_degrees}
use Rattle.ris_base.specs.Forest.{Forest}
use Rattle.ris_base.specs.Lines.{front}
use Rattle.ris_base.specs.Machine.{session_by}
use Rattle.ris_base.specs.Records.{AreChanges, changed_forests, forests_at, lines_of, opening_forests}
use Rattle.ris_base.specs.Requests.{RefusedPart, after, entered, refusal_of, refused_at}
use Rattle.ris_base.specs.declared.graphs.PlainGraph.{PlainGraph}
use Rattle.ris_base.specs.declared.lines.Entry.{Entry}
use Rattle.ris_base.specs.declared.lines.Line.{Line}
use Rattle.ris_base.specs.declared.lines.Line.TheVariants as line
use Rattle.ris_base.specs.declared.records.Change.{Change}
use Rattle.ris_base.specs.declared.records.Record.{Record}
use Rattle.ris_base.specs.declared.replies.Outcome.{Outcome}
use Rattle.ris_base.specs.declared.replies.Outcome.TheVariants as outcome
use Rattle.ris_base.specs.declared.replies.Refusal.{Refusal}
use Rattle.ris_base.specs.declared.replies.Refusal.TheVariants as refusal
use Rattle.ris_base.specs.declared.requests.Request.{Request}
use Rattle.ris_base.specs.declared.requests.Request.TheVariants as request
use Rattle.ris_base.proofs.LineLemmas.{after-append, front-leave, front-mark}
use Rattle.ris_algo.proofs.RecordLemmas.{forests_after-append, lines_of-append}
use Rattle.ris_graph.specs.Ticks.{IsRise, ticked}
use Rattle.ris_epoch.specs.Account.{IsHandled, IsTail, IsWithinReach, entry_record, forests_behind, front_of, graph_behind, resolved}
use Rattle.ris_epoch.specs.DriverView.{DriverView, Fits, Stands, StandsFor}
use Rattle.ris_epoch.specs.Turning.{Does, Handles, HandlesAll}
use Rattle.ris_epoch.proofs.AccountSteps.{tail-none, tail-push}
use Rattle.ris_epoch.proofs.Rises.{between-rise, between-ticks, ticked-none, ticked-twice, visits_between}
use Rattle.ris_epoch.proofs.StandingFor.{stands-same}
use Rattle.ris_epoch.proofs.TurnRight.{forests-more, graph-more, right-handled}
use Rattle.ris_txn.specs.Refusals.{IsRefusal}

-- Visits

-- two rises are one
pub rise-both : (a b c m n : ℕ) → IsRise a b m → IsRise b c n → IsRise a c (m + n)
rise-both a b c m n first second = record {
  ticks = first.ticks + second.ticks;
  few = (let x = first.few in let y = second.few in omega arith);
  rose = second.rose ∙ ap (λ (k : ℕ). ticked k second.ticks) first.rose ∙ ticked-twice a first.ticks second.ticks;
}

-- no tick is no visit
pub between-same : (a b : ℕ) → b ≡ a → visits_between a b ≡ 0
between-same a b same = (let all = between-ticks a b 0 (same ∙ sym (ticked-none a)) in let few = all.1 in omega arith)

-- visits within what a request's dropped vertices and its reaches say are within its reach
pub within-change : (ground : Ground) (records : List Record) (e : Entry) (before after : ℕ)
    → ((counts : List ℕ) → refusal_of (graph_behind ground records) e.parts ≡ None
    → AreReaches (graph_behind ground records) e.parts ground.specs (forests_behind ground records) counts
    → IsRise before after (sum counts + dropped_degrees (graph_behind ground records) e.parts))
    → (IsSome (refusal_of (graph_behind ground records) e.parts) → after ≡ before) → IsWithinReach ground records (request.Submit e) (visits_between before after)
within-change ground records e before after accepted idle n reach = go (refusal_of (graph_behind ground records) e.parts) refl reach
  where
    go : (o : Option RefusedPart) → refusal_of (graph_behind ground records) e.parts ≡ o
        → IsReachUnless o (graph_behind ground records) ground.specs (forests_behind ground records) e.parts n → visits_between before after ≤ n
    go (Some part) is h = (let none = between-same before after (idle (subst (λ (o : Option RefusedPart). IsSome o) (sym is) (search rules))) in omega arith)
    go None is h = (let all = between-rise before after _ (accepted h.counts is h.each) in let few = all.1 in let count = h.count in omega arith)

-- no value is none
none-some : {X : Type 0} (o : Option X) → o ≡ None → IsSome o → ⊥
none-some (Some x) is some = cc
none-some None is some = cc

-- what a net and then the forests take is within the reach of a request that is accepted, and what is counted
pub risen : (ground : Ground) (records : List Record) (e : Entry) (a b c : ℕ) → refusal_of (graph_behind ground records) e.parts ≡ None
    → IsRise a b (dropped_degrees (graph_behind ground records) e.parts)
    → ((counts : List ℕ) → AreReaches (graph_behind ground records) e.parts ground.specs (forests_behind ground records) counts → IsRise b c (sum counts))
    → (k : ℕ) × (c ≡ ticked b k) → IsWithinReach ground records (request.Submit e) (visits_between a c) × (c ≡ ticked a (visits_between a c))
risen ground records e a b c accepted net renewed counted = (
  within-change ground records e a c
      (λ counts none reaches. (let both = rise-both a b c (dropped_degrees (graph_behind ground records) e.parts) (sum counts) net (renewed counts reaches) in
      record { ticks = both.ticks; few = (let few = both.few in omega arith); rose = both.rose }))
      (λ some. absurd (none-some (refusal_of (graph_behind ground records) e.parts) accepted some)),
  (between-ticks a c (net.ticks + counted.0) (counted.1 ∙ ap (λ (n : ℕ). ticked n counted.0) net.rose ∙ ticked-twice a net.ticks counted.0)).0,
)

-- Lines

-- a line that is no entry changes no graph and no forest
graph-line : (ground : Ground) (records : List Record) (l : Line) → front (lines_of records ++ l ∷ []) ≡ front (lines_of records)
    → graph_behind ground (records ++ record { line = l; changes = [] } ∷ []) ≡ graph_behind ground records
graph-line ground records l same =
    let more : lines_of (records ++ record { line = l; changes = [] } ∷ []) ≡ lines_of records ++ l ∷ [] = lines_of-append records (record { line = l; changes = [] } ∷ []) in
    ap (λ (ls : List Line). after ground.opening ls (front ls)) more ∙ ap (after ground.opening (lines_of records ++ l ∷ [])) same
    ∙ after-append ground.opening (lines_of records) (l ∷ []) (front (lines_of records)) (omega arith)

forests-line : (ground : Ground) (records : List Record) (l : Line) → front (lines_of records ++ l ∷ []) ≡ front (lines_of records)
    → forests_behind ground (records ++ record { line = l; changes = [] } ∷ []) ≡ forests_behind ground records
forests-line ground records l same =
    let more : lines_of (records ++ record { line = l; changes = [] } ∷ []) ≡ lines_of records ++ l ∷ [] = lines_of-append records (record { line = l; changes = [] } ∷ []) in
    ap (forests_at ground.start (records ++ record { line = l; changes = [] } ∷ [])) (ap front more ∙ same)
    ∙ forests_after-append (opening_forests ground.start) records (record { line = l; changes = [] } ∷ []) (front (lines_of records)) (omega arith)

-- Answers

module _ (ground : Ground) (records : List Record) (old new : DriverView) (before after : ℕ) where
  -- nothing changed but room
  pub does-nothing : (r : Request) (told : Outcome) → IsHandled ground records r records told → IsWithinReach ground records r (visits_between before after)
      → after ≡ ticked before (visits_between before after) → StandsFor new ground records → new.records ≡ old.records → Does ground records r told old new before after
  does-nothing r told handled within rose stands same = record {
    made = [];
    own = visits_between before after;
    handled = subst (λ (rs : List Record). IsHandled ground records r rs told) (sym (append-nil records)) handled;
    within = within;
    rose = rose;
    stands = subst (λ (rs : List Record). StandsFor new ground rs) (sym (append-nil records)) stands;
    records_are = same ∙ sym (append-nil old.records);
  }

  -- one line more, which changes no forest
  pub does-line : (r : Request) (told : Outcome) (l : Line) → StandsFor old ground records → IsHandled ground records r (records ++ record { line = l; changes = [] } ∷ []) told
      → IsWithinReach ground records r 0 → after ≡ before → session_by r < ground.start.sessions
      → front (lines_of records ++ l ∷ []) ≡ front (lines_of records)
      → new.graph ≡ old.graph → new.analyses ≡ old.analyses → new.opening ≡ old.opening → new.journal.lines ≡ old.journal.lines ++ l ∷ []
      → new.records ≡ old.records ++ record { line = l; changes = [] } ∷ [] → Does ground records r told old new before after
  does-line r told l stands handled within same here level graphs analyses opening lines given = record {
    made = record { line = l; changes = [] } ∷ [];
    own = 0;
    handled = handled;
    within = within;
    rose = same ∙ sym (ticked-none before);
    stands = record {
      right = right-handled ground records r (records ++ record { line = l; changes = [] } ∷ []) told stands.right here handled;
      opening = opening ∙ stands.opening;
      fits = subst (λ (p : PlainGraph). Fits new.graph new.analyses p ground.specs (forests_behind ground (records ++ record { line = l; changes = [] } ∷ []))) (sym (graph-line ground records l level))
          (subst (λ (fs : List Forest). Fits new.graph new.analyses (graph_behind ground records) ground.specs fs) (sym (forests-line ground records l level))
          (subst (λ g. Fits g new.analyses (graph_behind ground records) ground.specs (forests_behind ground records)) (sym graphs)
          (subst (λ ones. Fits old.graph ones (graph_behind ground records) ground.specs (forests_behind ground records)) (sym analyses) stands.fits)));
      lines = lines ∙ ap (λ (ls : List Line). ls ++ l ∷ []) stands.lines ∙ sym (lines_of-append records (record { line = l; changes = [] } ∷ []));
    };
    records_are = given;
  }

  -- one entry more
  pub does-entry : (e : Entry) (changes : List Change) → StandsFor old ground records → e.session < ground.start.sessions
      → refusal_of (graph_behind ground records) e.parts ≡ None
      → Fits new.graph new.analyses (entered (graph_behind ground records) e.parts) ground.specs (changed_forests (forests_behind ground records) changes)
      → AreChanges ground.specs (graph_behind ground records) (entered (graph_behind ground records) e.parts) changes
      → IsWithinReach ground records (request.Submit e) (visits_between before after) → after ≡ ticked before (visits_between before after)
      → new.opening ≡ old.opening → new.journal.lines ≡ old.journal.lines ++ line.Entry e ∷ [] → new.records ≡ old.records ++ entry_record e changes ∷ []
      → Does ground records (request.Submit e) (outcome.Placed (front_of records + 1)) old new before after
  does-entry e changes stands here accepted fits are within rose opening lines given = record {
    made = entry_record e changes ∷ [];
    own = visits_between before after;
    handled = handled;
    within = within;
    rose = rose;
    stands = record {
      right = right-handled ground records (request.Submit e) (records ++ entry_record e changes ∷ []) (outcome.Placed (front_of records + 1)) stands.right here handled;
      opening = opening ∙ stands.opening;
      fits = subst (λ (p : PlainGraph). Fits new.graph new.analyses p ground.specs (forests_behind ground (records ++ entry_record e changes ∷ []))) (sym (graph-more ground records e changes))
          (subst (λ (fs : List Forest). Fits new.graph new.analyses (entered (graph_behind ground records) e.parts) ground.specs fs) (sym (forests-more ground records e changes)) fits);
      lines = lines ∙ ap (λ (ls : List Line). ls ++ line.Entry e ∷ []) stands.lines ∙ sym (lines_of-append records (entry_record e changes ∷ []));
    };
    records_are = given;
  }
    where
      handled : IsHandled ground records (request.Submit e) (records ++ entry_record e changes ∷ []) (outcome.Placed (front_of records + 1))
      handled = inr (inl (record { changes = changes; accepted = accepted; right = fits.right; are = are; longer = refl; says = refl }))

-- a request that takes no visits and makes no line
pub does-idle : (ground : Ground) (records : List Record) (old new : DriverView) (t : ℕ) (r : Request) (told : Outcome) → IsHandled ground records r records told
    → IsWithinReach ground records r 0 → StandsFor new ground records → new.records ≡ old.records → Does ground records r told old new t t
does-idle ground records old new t r told handled within stands same = record {
  made = [];
  own = 0;
  handled = subst (λ (rs : List Record). IsHandled ground records r rs told) (sym (append-nil records)) handled;
  within = within;
  rose = sym (ticked-none t);
  stands = subst (λ (rs : List Record). StandsFor new ground rs) (sym (append-nil records)) stands;
  records_are = same ∙ sym (append-nil old.records);
}

-- a change that is refused, or for whose net there is no memory
pub does-refused : (ground : Ground) (records : List Record) (d : DriverView) (e : Entry) (n : ℕ) (why : Refusal) (before after : ℕ) → StandsFor d ground records
    → n ≡ front d.journal.lines → IsRefusal (graph_behind ground records) e.parts n why → IsRise before after (dropped_degrees (graph_behind ground records) e.parts)
    → (IsSome (refusal_of (graph_behind ground records) e.parts) → after ≡ before) → Does ground records (request.Submit e) (outcome.Refused why) d d before after
does-refused ground records d e n why before after stands now refused rise idle =
    does-nothing ground records d d before after (request.Submit e) (outcome.Refused why) (handled refused)
    (within-change ground records e before after (λ counts none reaches. record { ticks = rise.ticks; few = (let few = rise.few in omega arith); rose = rise.rose }) idle)
    (between-ticks before after rise.ticks rise.rose).0 stands refl
  where
    handled : IsRefusal (graph_behind ground records) e.parts n why → IsHandled ground records (request.Submit e) records (outcome.Refused why)
    handled (inl none) = inr (inr (record { same = refl; says = ap outcome.Refused none }))
    handled (inr part) = inl (record {
      part = part.0;
      refused = part.1;
      same = refl;
      says = ap outcome.Refused (part.2 ∙ ap (λ (v : ℕ). refused_at v part.0) (now ∙ ap front stands.lines));
    })

-- a change that is accepted, for which there is no memory
pub does-wanting : (ground : Ground) (records : List Record) (old new : DriverView) (e : Entry) (before after : ℕ) → StandsFor new ground records
    → new.records ≡ old.records → IsWithinReach ground records (request.Submit e) (visits_between before after) × (after ≡ ticked before (visits_between before after))
    → Does ground records (request.Submit e) (outcome.Refused refusal.NoMemory) old new before after
does-wanting ground records old new e before after stands same visits =
    does-nothing ground records old new before after (request.Submit e) (outcome.Refused refusal.NoMemory) (inr (inr (record { same = refl; says = refl }))) visits.0 visits.1 stands same

-- a release past the front
pub does-early : (ground : Ground) (records : List Record) (d e : DriverView) (t session seq upto n : ℕ) → StandsFor e ground records → n ≡ front e.journal.lines → n < upto
    → e.records ≡ d.records → Does ground records (request.Release session seq upto) (outcome.NotYet n) d e t t
does-early ground records d e t session seq upto n stands now past same =
    let here : n ≡ front_of records = now ∙ ap front stands.lines in
    does-idle ground records d e t (request.Release session seq upto) (outcome.NotYet n)
    (inl (record { past = (omega arith); same = refl; says = ap outcome.NotYet here })) refl stands same

-- a release, or a leave, for which there is no memory
pub does-unmarked : (ground : Ground) (records : List Record) (d e : DriverView) (t session seq upto : ℕ) → StandsFor e ground records → e.records ≡ d.records
    → Does ground records (request.Release session seq upto) (outcome.Refused refusal.NoMemory) d e t t
does-unmarked ground records d e t session seq upto stands same =
    does-idle ground records d e t (request.Release session seq upto) (outcome.Refused refusal.NoMemory) (inr (inr (record { same = refl; says = refl }))) refl stands same

pub does-unleft : (ground : Ground) (records : List Record) (d e : DriverView) (t session seq : ℕ) → StandsFor e ground records → e.records ≡ d.records
    → Does ground records (request.Leave session seq) (outcome.Refused refusal.NoMemory) d e t t
does-unleft ground records d e t session seq stands same =
    does-idle ground records d e t (request.Leave session seq) (outcome.Refused refusal.NoMemory) (inr (record { same = refl; says = refl })) refl stands same

-- a release that becomes a mark
pub does-marked : (ground : Ground) (records : List Record) (d e : DriverView) (t session seq upto n : ℕ) → StandsFor d ground records → n ≡ front d.journal.lines → upto ≤ n
    → session < ground.start.sessions → e.graph ≡ d.graph → e.analyses ≡ d.analyses → e.opening ≡ d.opening
    → e.journal.lines ≡ d.journal.lines ++ line.Mark session seq upto ∷ [] → e.records ≡ d.records ++ record { line = line.Mark session seq upto; changes = [] } ∷ []
    → Does ground records (request.Release session seq upto) (outcome.Marked n upto) d e t t
does-marked ground records d e t session seq upto n stands now within here graph analyses opening lines given =
    let place : n ≡ front_of records = now ∙ ap front stands.lines in
    does-line ground records d e t t (request.Release session seq upto) (outcome.Marked n upto) (line.Mark session seq upto) stands
    (inr (inl (record { within = (omega arith); longer = refl; says = ap (λ (v : ℕ). outcome.Marked v upto) place }))) refl refl here
    (front-mark (lines_of records) session seq upto) graph analyses opening lines given

-- a leave
pub does-left : (ground : Ground) (records : List Record) (d e : DriverView) (t session seq n : ℕ) → StandsFor d ground records → n ≡ front d.journal.lines
    → session < ground.start.sessions → e.graph ≡ d.graph → e.analyses ≡ d.analyses → e.opening ≡ d.opening
    → e.journal.lines ≡ d.journal.lines ++ line.Leave session seq ∷ [] → e.records ≡ d.records ++ record { line = line.Leave session seq; changes = [] } ∷ []
    → Does ground records (request.Leave session seq) (outcome.Left n) d e t t
does-left ground records d e t session seq n stands now here graph analyses opening lines given =
    let place : n ≡ front_of records = now ∙ ap front stands.lines in
    does-line ground records d e t t (request.Leave session seq) (outcome.Left n) (line.Leave session seq) stands
    (inl (record { longer = refl; says = ap outcome.Left place })) refl refl here
    (front-leave (lines_of records) session seq) graph analyses opening lines given

-- only these parts of the drivers matter
pub does-as : (ground : Ground) (records : List Record) (r q : Request) (told : Outcome) (old new a b : DriverView) (before after : ℕ) → Does ground records r told old new before after
    → q ≡ r → a.records ≡ old.records → b.graph ≡ new.graph → b.analyses ≡ new.analyses → b.opening ≡ new.opening → b.journal.lines ≡ new.journal.lines → b.records ≡ new.records
    → Does ground records q told a b before after
does-as ground records r q told old new a b before after h is from graph analyses opening lines to = record {
  made = h.made;
  own = h.own;
  handled = subst (λ (x : Request). IsHandled ground records x (records ++ h.made) told) (sym is) h.handled;
  within = subst (λ (x : Request). IsWithinReach ground records x h.own) (sym is) h.within;
  rose = h.rose;
  stands = stands-same new b ground (records ++ h.made) h.stands graph analyses opening lines;
  records_are = to ∙ h.records_are ∙ ap (λ (rs : List Record). rs ++ h.made) (sym from);
}

-- a driver that did a request stands for some records
pub stands-done : (ground : Ground) (records : List Record) (r : Request) (told : Outcome) (old new : DriverView) (before after : ℕ) → Does ground records r told old new before after
    → Stands new
stands-done ground records r told old new before after h = record { base = ground; records = records ++ h.made; of = h.stands }

-- All requests

-- none is handled
pub handles-none : (ground : Ground) (records : List Record) (d : DriverView) (t : ℕ) → StandsFor d ground records → HandlesAll ground records [] d d t t
handles-none ground records d t stands = record {
  made = [];
  outcomes = [];
  own = 0;
  handled = subst (λ (rs : List Record). IsTail ground records [] rs [] 0) (sym (append-nil records)) (tail-none ground records);
  rose = sym (ticked-none t);
  stands = subst (λ (rs : List Record). StandsFor d ground rs) (sym (append-nil records)) stands;
  records_are = sym (append-nil d.records);
  replies_are = sym (append-nil d.replies);
}

-- one more is
pub handles-push : (ground : Ground) (records : List Record) (tail : List Request) (r : Request) (a b c : DriverView) (t u v : ℕ) (h : HandlesAll ground records tail a b t u)
    → Handles ground (records ++ h.made) r b c u v → HandlesAll ground records (tail ++ r ∷ []) a c t v
handles-push ground records tail r a b c t u v h k =
    let all : (records ++ h.made) ++ k.does.made ≡ records ++ (h.made ++ k.does.made) = append_assoc records h.made k.does.made in record {
      made = h.made ++ k.does.made;
      outcomes = h.outcomes ++ resolved r k.told ∷ [];
      own = h.own + k.does.own;
      handled = subst (λ (rs : List Record). IsTail ground records (tail ++ r ∷ []) rs (h.outcomes ++ resolved r k.told ∷ []) (h.own + k.does.own)) all
          (tail-push ground tail records (records ++ h.made) ((records ++ h.made) ++ k.does.made) h.outcomes h.own r k.told k.does.own h.handled k.does.handled k.does.within);
      rose = k.does.rose ∙ ap (λ (n : ℕ). ticked n k.does.own) h.rose ∙ ticked-twice t h.own k.does.own;
      stands = subst (λ (rs : List Record). StandsFor c ground rs) all k.does.stands;
      records_are = k.does.records_are ∙ ap (λ (rs : List Record). rs ++ k.does.made) h.records_are ∙ append_assoc a.records h.made k.does.made;
      replies_are = k.replies_are ∙ ap (λ (os : List Resolved). os ++ resolved r k.told ∷ []) h.replies_are ∙ append_assoc a.replies h.outcomes (resolved r k.told ∷ []);
    }
