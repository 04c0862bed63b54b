-- The job that words say, and what it is done with.
use Rattle.std.proofs.Common.{◌≡◌, ℕ, ◌≤◌, Bool, true, false, List, [], ◌∷◌, Option, Some, None, length, take, drop, sum_by, refl, sym, ◌∙◌, ap, subst, codes, arith}
use Rattle.std.specs.Option.{option_map}
use Rattle.std.specs.Str.{bytes_eq}
use Rattle.std.proofs.lemmas.List.Elements.{All-cons, All-nil}
use Rattle.ris_analysis.specs.Analyses.{ArePlainSpecs}
use Rattle.ris_base.specs.CommandLine.{Choice, IsAnalysisList, SpellAll, analyses_said, analysis_named, root_of, rooted, size_said, workers_said}
use Rattle.ris_base.specs.CommandLine.Choice.{Threads, Workers, Size, Analyses}
use Rattle.ris_base.specs.Lists.{EachPair}
use Rattle.ris_base.specs.Script.{Bytes}
use Rattle.ris_base.specs.Status.{Stream, specs_of}
use Rattle.ris_base.specs.declared.analyses.Kind.{Kind}
use Rattle.ris_base.specs.declared.analyses.Kind.TheVariants.{Bfs, Sssp, Sswp, Wcc}
use Rattle.ris_base.specs.declared.analyses.Spec.{Spec}
use Rattle.ris_base.specs.declared.jobs.Job.{Job}
use Rattle.ris_base.specs.declared.jobs.Job.TheVariants.{Demo, Replay}
use Rattle.ris_base.specs.declared.scripts.Script.{Script}
use Rattle.ris_script.specs.Bytes.{script_of}
use Rattle.ris_words.proofs.CommandLines.{one_job}
use Rattle.ris_replay.specs.Jobs.{AreFit, HasBytes, IsFit, IsSize, SpellsFew}
use Rattle.ris_replay.specs.Program.{Takes}
use Rattle.ris_replay.proofs.MadeFacts.{made-script}
use Rattle.ris_script.proofs.ScriptCounts.{script-few}

-- words say one job
pub one-job : (words : List Bytes) (one other : Job) → Takes words one → Takes words other → one ≡ other
one-job words one other a b = one_job words one other a.0 b.0

-- The numbers that options say are within their limits

workers-within : (choices : List Choice) (words : List Bytes) → SpellAll choices words → (1 ≤ workers_said choices) × (workers_said choices ≤ 64)
unfolding workers_said
workers-within [] words h = (omega arith, omega arith)
workers-within (Workers n ∷ choices) words h = (h.2.some, h.2.most)
workers-within (Threads ∷ choices) words h = workers-within choices h.1 h.4
workers-within (Size n ∷ choices) words h = workers-within choices h.1 h.4
workers-within (Analyses specs ∷ choices) words h = workers-within choices h.1 h.4

size-within : (choices : List Choice) (words : List Bytes) → SpellAll choices words → IsSize (size_said choices)
unfolding size_said
size-within [] words h = record { some = omega arith; most = omega arith }
size-within (Size n ∷ choices) words h = record { some = h.2.some; most = h.2.most }
size-within (Threads ∷ choices) words h = size-within choices h.1 h.4
size-within (Workers n ∷ choices) words h = size-within choices h.1 h.4
size-within (Analyses specs ∷ choices) words h = size-within choices h.1 h.4

-- the analyses that options say stand in one of them
analyses-within : (choices : List Choice) (words : List Bytes) (specs : List Spec) → SpellAll choices words → analyses_said choices ≡ Some specs
    → (word : Bytes) × IsAnalysisList word specs
unfolding analyses_said
analyses-within [] words specs h e = absurd (cc)
analyses-within (Analyses own ∷ choices) words specs h e =
    let same : own ≡ specs = cc in
    (h.2.value, subst (λ (ss : List Spec). IsAnalysisList h.2.value ss) same h.2.named)
analyses-within (Threads ∷ choices) words specs h e = analyses-within choices h.1 specs h.4 e
analyses-within (Workers n ∷ choices) words specs h e = analyses-within choices h.1 specs h.4 e
analyses-within (Size n ∷ choices) words specs h e = analyses-within choices h.1 specs h.4 e

-- Roots

-- an analysis of components has root 0
abbrev IsPlainSpec : Spec → Type 0
IsPlainSpec spec = spec.kind ≡ Wcc → spec.root ≡ 0

-- an analysis of another kind is plain
rooted-plain : (kind : Kind) (digits : Bytes) (spec : Spec) → (kind ≡ Wcc → ⊥) → rooted kind digits ≡ Some spec → IsPlainSpec spec
rooted-plain kind digits spec other e = by (root_of digits) e
  where
    by : (o : Option ℕ) → ◌≡◌ {A = Option Spec} (option_map (λ root. record { kind = kind; root = root }) o) (Some spec) → IsPlainSpec spec
    by None q = absurd (cc)
    by (Some root) q =
        let same : ◌≡◌ {A = Spec} (record { kind = kind; root = root }) spec = cc in
        let kinds = ap (λ (s : Spec). s.kind) same in
        λ components. absurd (other (kinds ∙ components))

-- so is one that an item of a list says
named-plain : (item : Bytes) (spec : Spec) → analysis_named item ≡ Some spec → IsPlainSpec spec
unfolding analysis_named
named-plain item spec is =
    go (bytes_eq item (codes "wcc")) refl (bytes_eq (take 4 item) (codes "bfs:")) refl (bytes_eq (take 5 item) (codes "sssp:")) refl
    (bytes_eq (take 5 item) (codes "sswp:")) refl
  where
    go : (w : Bool) → bytes_eq item (codes "wcc") ≡ w → (b : Bool) → bytes_eq (take 4 item) (codes "bfs:") ≡ b
        → (p : Bool) → bytes_eq (take 5 item) (codes "sssp:") ≡ p → (q : Bool) → bytes_eq (take 5 item) (codes "sswp:") ≡ q → IsPlainSpec spec
    go true w b e2 p e3 q e4 =
        let found = rw w at is in
        let same : ◌≡◌ {A = Spec} (record { kind = Wcc; root = 0 }) spec = cc in
        let root = ap (λ (s : Spec). s.root) same in
        λ components. sym root
    go false w true b p e3 q e4 = rooted-plain Bfs (drop 4 item) spec (λ e. cc) (rw (w, b) at is)
    go false w false b true p q e4 = rooted-plain Sssp (drop 5 item) spec (λ e. cc) (rw (w, b, p) at is)
    go false w false b false p true q = rooted-plain Sswp (drop 5 item) spec (λ e. cc) (rw (w, b, p, q) at is)
    go false w false b false p false q = let none = rw (w, b, p, q) at is in absurd (cc)

-- so are the analyses of a list
list-plain : (items : List Bytes) (specs : List Spec) → EachPair (λ item spec. analysis_named item ≡ Some spec) items specs → ArePlainSpecs specs
list-plain [] [] h = All-nil IsPlainSpec
list-plain (item ∷ items) (spec ∷ specs) h = All-cons IsPlainSpec spec specs (named-plain item spec h.0) (list-plain items specs h.1)
list-plain [] (spec ∷ specs) h = absurd h
list-plain (item ∷ items) [] h = absurd h

-- What a job is done with

-- the analyses of a demo have root 0
demo-roots : ArePlainSpecs (record { kind = Bfs; root = 0 } ∷ record { kind = Sssp; root = 0 } ∷ record { kind = Wcc; root = 0 } ∷ [])
demo-roots =
    let last = All-cons IsPlainSpec (record { kind = Wcc; root = 0 }) [] (λ e. refl) (All-nil IsPlainSpec) in
    let others = All-cons IsPlainSpec (record { kind = Sssp; root = 0 }) (record { kind = Wcc; root = 0 } ∷ []) (λ e. refl) last in
    All-cons IsPlainSpec (record { kind = Bfs; root = 0 }) (record { kind = Sssp; root = 0 } ∷ record { kind = Wcc; root = 0 } ∷ []) (λ e. refl) others

demo-fit : (seed size workers : ℕ) → (1 ≤ workers) × (workers ≤ 64) → AreFit (specs_of (Demo seed size workers)) workers
demo-fit seed size workers within = record {
  some_specs = omega arith;
  few_specs = omega arith;
  roots = demo-roots;
  some_workers = within.0;
  few_workers = within.1;
}

-- the numbers of a job that words say are within their limits
pub taken-fit : (words : List Bytes) (job : Job) → Takes words job → IsFit job
taken-fit words (Replay threads workers specs) takes =
    let is = takes.0 in
    let within = workers-within is.choices is.rest is.spelled in
    let said = analyses-within is.choices is.rest specs is.spelled is.specs_are in
    record {
      some_specs = said.1.some;
      few_specs = said.1.few;
      roots = list-plain said.1.items specs said.1.named;
      some_workers = subst (λ (n : ℕ). 1 ≤ n) (sym is.workers_are) within.0;
      few_workers = subst (λ (n : ℕ). n ≤ 64) (sym is.workers_are) within.1;
    }
taken-fit words (Demo seed size workers) takes =
    let is = takes.0 in
    let within = workers-within is.choices is.rest is.spelled in (
      subst IsSize (sym is.size_is) (size-within is.choices is.rest is.spelled),
      demo-fit seed size workers (
        subst (λ (n : ℕ). 1 ≤ n) (sym is.workers_are) within.0,
        subst (λ (n : ℕ). n ≤ 64) (sym is.workers_are) within.1,
      ),
    )

-- the script that a job's bytes spell has few enough commands
pub bytes-few : (input : Stream) (job : Job) (bytes : Bytes) → IsFit job → HasBytes input job bytes → SpellsFew (length (specs_of job)) bytes
bytes-few input (Replay threads workers specs) bytes fit has script e =
    let few = script-few (length specs) bytes script e in
    let short = has.0 in
    omega arith
bytes-few input (Demo seed size workers) bytes fit has script e =
    let made = made-script seed size fit.0.most in
    let same : ◌≡◌ {A = Script} made.0 script = cc (sym made.1 ∙ ap (script_of 3) (sym has) ∙ e) in
    let few = subst (λ (s : Script). sum_by length s.commands ≤ size) same made.2 in
    let most = fit.0.most in
    omega arith

-- the analyses of a demo
pub demo-specs : (job : Job) (seed size workers : ℕ) (specs : List Spec) → job ≡ Demo seed size workers → ((s z w : ℕ) → specs ≡ specs_of (Demo s z w)) → specs ≡ specs_of job
demo-specs job seed size workers specs is same = same seed size workers ∙ ap specs_of (sym is)

-- they and its workers are within the limits
pub demo-has_fit : (job : Job) (seed size workers : ℕ) (specs : List Spec) → job ≡ Demo seed size workers → ((s z w : ℕ) → specs ≡ specs_of (Demo s z w)) → IsFit job
    → AreFit specs workers
demo-has_fit job seed size workers specs is same fit =
    let has = subst IsFit is fit in
    subst (λ (ss : List Spec). AreFit ss workers) (sym (same seed size workers)) has.1

-- its script has few enough commands
pub demo-few : (job : Job) (specs : List Spec) (bytes : Bytes) → specs ≡ specs_of job → SpellsFew (length (specs_of job)) bytes → SpellsFew (length specs) bytes
demo-few job specs bytes same few = subst (λ (ss : List Spec). SpellsFew (length ss) bytes) (sym same) few
