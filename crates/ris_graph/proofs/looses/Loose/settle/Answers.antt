use Rattle.std.proofs.Common.{◌≡◌, ◌<◌, ◌∙◌, List, length, map, sym, ap, subst, arith}
use Rattle.std.specs.List.{All, fold}
use Rattle.ris_base.specs.declared.events.Verdict.{Verdict}
use Rattle.ris_rows.specs.RowView.{RowView}
use Rattle.ris_graph.specs.GraphView.{IsOf}
use Rattle.ris_graph.specs.Jobs.{AreJobs, AreTold}
use Rattle.ris_graph.specs.Phase.{IsMerge, IsWorkOf, LooseView, entered_each}
use Rattle.ris_graph.specs.Settling.{CanAdd, CanTake, HasPlaces, judged, with_added, with_taken}
use Rattle.ris_graph.specs.Sound.{IsSound}
use Rattle.ris_graph.specs.StripeView.{StripeView}
use Rattle.ris_graph.specs.declared.stripes.StripeJob.{StripeJob}
use Rattle.ris_graph.proofs.PhaseLemmas.{AreDone, AreDone-judged, AreJobs-work, HasPlaces-work, IsWhole-work, sessions-given}
use Rattle.ris_graph.proofs.SettledLemmas.{CanAdd-work, CanTake-work, IsOf-settled, IsSound-settled, settled_ins}
use Rattle.ris_graph.proofs.looses.Loose.settle.Goals as goal

pub unload-requires-clause-whole : goal.unload-requires-clause-whole
unload-requires-clause-whole g c =
    let l : LooseView = record { format = c.self.inside.format; stripes = c.self.inside.stripes.items; ins = c.self.inside.ins; present = c.self.inside.present.items; jobs = c.self.inside.jobs.items } in
    let work = subst (IsWorkOf c.requires.graph c.requires.jobs) (sym c.self.view_is) c.requires.of in
    IsWhole-work c.requires.graph c.requires.jobs l work

pub unload-requires-clause-jobs : goal.unload-requires-clause-jobs
unload-requires-clause-jobs g c =
    let l : LooseView = record { format = c.self.inside.format; stripes = c.self.inside.stripes.items; ins = c.self.inside.ins; present = c.self.inside.present.items; jobs = c.self.inside.jobs.items } in
    let work = subst (IsWorkOf c.requires.graph c.requires.jobs) (sym c.self.view_is) c.requires.of in
    AreJobs-work c.requires.graph c.requires.jobs l work

pub unload-requires-clause-places : goal.unload-requires-clause-places
unload-requires-clause-places g c =
    let l : LooseView = record { format = c.self.inside.format; stripes = c.self.inside.stripes.items; ins = c.self.inside.ins; present = c.self.inside.present.items; jobs = c.self.inside.jobs.items } in
    let work = subst (IsWorkOf c.requires.graph c.requires.jobs) (sym c.self.view_is) c.requires.of in
    subst (HasPlaces (map (λ (s : StripeView). s.jobs) c.self.inside.stripes.items)) (sym c.deref.ensures.value) (HasPlaces-work c.requires.graph c.requires.jobs l work)

pub judge-requires : goal.judge-requires
judge-requires g c =
    let l : LooseView = record { format = c.self.inside.format; stripes = c.self.inside.stripes.items; ins = c.self.inside.ins; present = c.self.inside.present.items; jobs = c.self.inside.jobs.items } in
    let work = subst (IsWorkOf c.requires.graph c.requires.jobs) (sym c.self.view_is) c.requires.of in
    subst (λ n. All (λ (j : StripeJob). j.session < n) c.self.inside.jobs.items) (sym (ap length c.deref-2.ensures.value ∙ c.unload.ensures.sessions))
    (sessions-given c.requires.graph c.requires.jobs l work)

pub add_copies-requires : goal.add_copies-requires
add_copies-requires g c =
    let l : LooseView = record { format = c.self.inside.format; stripes = c.self.inside.stripes.items; ins = c.self.inside.ins; present = c.self.inside.present.items; jobs = c.self.inside.jobs.items } in
    let work = subst (IsWorkOf c.requires.graph c.requires.jobs) (sym c.self.view_is) c.requires.of in
    let is : c.judge.new.jobs.items ≡ map (judged c.unload.new.verdicts.items) c.self.inside.jobs.items
    = c.judge.ensures.jobs ∙ ap (λ (v : List Verdict). map (judged v) c.self.inside.jobs.items) c.deref-2.ensures.value in
    let jobs : List StripeJob = c.judge.new.jobs.items in
    let done : AreDone l jobs = subst (AreDone l) (sym is) (AreDone-judged c.requires.graph c.requires.jobs l work c.self.invariant.1 c.unload.new.verdicts.items c.unload.ensures.told) in
    subst (CanAdd c.self.inside.ins) (sym c.deref-3.ensures.value) (CanAdd-work c.requires.graph c.requires.jobs l work jobs done)

pub take_copies-requires : goal.take_copies-requires
take_copies-requires g c =
    let l : LooseView = record { format = c.self.inside.format; stripes = c.self.inside.stripes.items; ins = c.self.inside.ins; present = c.self.inside.present.items; jobs = c.self.inside.jobs.items } in
    let work = subst (IsWorkOf c.requires.graph c.requires.jobs) (sym c.self.view_is) c.requires.of in
    let is : c.judge.new.jobs.items ≡ map (judged c.unload.new.verdicts.items) c.self.inside.jobs.items
    = c.judge.ensures.jobs ∙ ap (λ (v : List Verdict). map (judged v) c.self.inside.jobs.items) c.deref-2.ensures.value in
    let jobs : List StripeJob = c.judge.new.jobs.items in
    let done : AreDone l jobs = subst (AreDone l) (sym is) (AreDone-judged c.requires.graph c.requires.jobs l work c.self.invariant.1 c.unload.new.verdicts.items c.unload.ensures.told) in
    let added : c.add_copies.new.ins ≡ fold with_added c.self.inside.ins jobs = c.add_copies.ensures ∙ ap (fold with_added c.self.inside.ins) c.deref-3.ensures.value in
    subst (CanTake c.add_copies.new.ins) (sym c.deref-4.ensures.value)
    (subst (λ (ins : List RowView). CanTake ins jobs) (sym added) (CanTake-work c.requires.graph c.requires.jobs l work jobs done))

pub invariant_of-graph-2 : goal.invariant_of-graph-2
invariant_of-graph-2 g c =
    let l : LooseView = record { format = c.self.inside.format; stripes = c.self.inside.stripes.items; ins = c.self.inside.ins; present = c.self.inside.present.items; jobs = c.self.inside.jobs.items } in
    let work = subst (IsWorkOf c.requires.graph c.requires.jobs) (sym c.self.view_is) c.requires.of in
    let is : c.judge.new.jobs.items ≡ map (judged c.unload.new.verdicts.items) c.self.inside.jobs.items
    = c.judge.ensures.jobs ∙ ap (λ (v : List Verdict). map (judged v) c.self.inside.jobs.items) c.deref-2.ensures.value in
    let jobs : List StripeJob = c.judge.new.jobs.items in
    let done : AreDone l jobs = subst (AreDone l) (sym is) (AreDone-judged c.requires.graph c.requires.jobs l work c.self.invariant.1 c.unload.new.verdicts.items c.unload.ensures.told) in
    let added : c.add_copies.new.ins ≡ fold with_added c.self.inside.ins jobs = c.add_copies.ensures ∙ ap (fold with_added c.self.inside.ins) c.deref-3.ensures.value in
    let taken : c.take_copies.new.ins ≡ settled_ins l jobs
    = c.take_copies.ensures ∙ ap (fold with_taken c.add_copies.new.ins) c.deref-4.ensures.value ∙ ap (λ (ins : List RowView). fold with_taken ins jobs) added in
    let sound = IsSound-settled c.requires.graph c.requires.jobs l work jobs done in
    subst (λ (t : List (List RowView)). IsSound (record { format = c.self.inside.format; stripes = t; ins = c.take_copies.new.ins; present = c.self.inside.present.items })) (sym c.unload.ensures.rows)
    (subst (λ (i : List RowView). IsSound (record { format = c.self.inside.format; stripes = map (λ (s : StripeView). s.rows) c.self.inside.stripes.items; ins = i; present = c.self.inside.present.items })) (sym taken) sound)

pub invariant_of-result : goal.invariant_of-result
invariant_of-result g c =
    let l : LooseView = record { format = c.self.inside.format; stripes = c.self.inside.stripes.items; ins = c.self.inside.ins; present = c.self.inside.present.items; jobs = c.self.inside.jobs.items } in
    let work = subst (IsWorkOf c.requires.graph c.requires.jobs) (sym c.self.view_is) c.requires.of in
    let is : c.judge.new.jobs.items ≡ map (judged c.unload.new.verdicts.items) c.self.inside.jobs.items
    = c.judge.ensures.jobs ∙ ap (λ (v : List Verdict). map (judged v) c.self.inside.jobs.items) c.deref-2.ensures.value in
    let jobs : List StripeJob = c.judge.new.jobs.items in
    let done : AreDone l jobs = subst (AreDone l) (sym is) (AreDone-judged c.requires.graph c.requires.jobs l work c.self.invariant.1 c.unload.new.verdicts.items c.unload.ensures.told) in
    let told = c.unload.ensures.told in
    let room = c.self.invariant.2 in
    let kept = c.judge.ensures.capacity in (
      subst AreJobs (sym done.is) (AreJobs-work c.requires.graph c.requires.jobs l work),
      subst (λ (js : List (List StripeJob)). AreTold js c.unload.new.verdicts.items) (sym done.is) (record { sessions = c.unload.ensures.sessions; told = told }),
      done.ascending,
      omega (arith, room, kept),
    )

pub returns-clause-graph : goal.returns-clause-graph
returns-clause-graph g c before js p updates worked of merge =
    let l : LooseView = record { format = c.self.inside.format; stripes = c.self.inside.stripes.items; ins = c.self.inside.ins; present = c.self.inside.present.items; jobs = c.self.inside.jobs.items } in
    let work = subst (IsWorkOf before js) (sym c.self.view_is) worked in
    let is : c.judge.new.jobs.items ≡ map (judged c.unload.new.verdicts.items) c.self.inside.jobs.items
    = c.judge.ensures.jobs ∙ ap (λ (v : List Verdict). map (judged v) c.self.inside.jobs.items) c.deref-2.ensures.value in
    let jobs : List StripeJob = c.judge.new.jobs.items in
    let done : AreDone l jobs = subst (AreDone l) (sym is) (AreDone-judged before js l work c.self.invariant.1 c.unload.new.verdicts.items c.unload.ensures.told) in
    let added : c.add_copies.new.ins ≡ fold with_added c.self.inside.ins jobs = c.add_copies.ensures ∙ ap (fold with_added c.self.inside.ins) c.deref-3.ensures.value in
    let taken : c.take_copies.new.ins ≡ settled_ins l jobs
    = c.take_copies.ensures ∙ ap (fold with_taken c.add_copies.new.ins) c.deref-4.ensures.value ∙ ap (λ (ins : List RowView). fold with_taken ins jobs) added in
    let merged = subst (λ (x : LooseView). IsMerge x updates) (sym c.self.view_is) merge in
    let both = IsOf-settled before js l work jobs done p updates of merged in (
      both.0,
      subst (λ (t : List (List RowView)). IsOf (record { format = c.self.inside.format; stripes = t; ins = c.take_copies.new.ins; present = c.self.inside.present.items }) (entered_each p updates))
          (sym c.unload.ensures.rows)
          (subst (λ (i : List RowView). IsOf (record { format = c.self.inside.format; stripes = map (λ (s : StripeView). s.rows) c.self.inside.stripes.items; ins = i; present = c.self.inside.present.items }) (entered_each p updates))
          (sym taken) both.1),
    )

pub returns-clause-jobs : goal.returns-clause-jobs
returns-clause-jobs g c =
    let l : LooseView = record { format = c.self.inside.format; stripes = c.self.inside.stripes.items; ins = c.self.inside.ins; present = c.self.inside.present.items; jobs = c.self.inside.jobs.items } in
    let work = subst (IsWorkOf c.requires.graph c.requires.jobs) (sym c.self.view_is) c.requires.of in
    let is : c.judge.new.jobs.items ≡ map (judged c.unload.new.verdicts.items) c.self.inside.jobs.items
    = c.judge.ensures.jobs ∙ ap (λ (v : List Verdict). map (judged v) c.self.inside.jobs.items) c.deref-2.ensures.value in
    let jobs : List StripeJob = c.judge.new.jobs.items in
    let done : AreDone l jobs = subst (AreDone l) (sym is) (AreDone-judged c.requires.graph c.requires.jobs l work c.self.invariant.1 c.unload.new.verdicts.items c.unload.ensures.told) in
    done.is ∙ ap (λ (x : LooseView). map (λ (s : StripeView). s.jobs) x.stripes) c.self.view_is
