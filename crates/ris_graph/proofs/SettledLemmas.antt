-- The graph that settling makes: the graph before with the applied updates, in any order that keeps that of each stripe.
use Rattle.std.proofs.Common.{◌≡◌, ◌≢◌, ℕ, zero, suc, ◌+◌, ◌-◌, ◌<◌, ◌≤◌, ◌/◌, ◌%◌, Bool, true, false, ◌&&◌, ◌==◌, IsTrue, List, [], ◌∷◌, ◌++◌, None, length, get_or, map, arith, refl, inl, inr, sym, ap, subst, ◌∙◌}
use Rattle.std.specs.List.{All, count_by, filter, flat_map, fold}
use Rattle.std.proofs.lemmas.Bool.{cases_eq, eq-eqb, ne_eqb}
use Rattle.std.proofs.lemmas.List.{append-nil, get_or-map, length-map}
use Rattle.std.proofs.lemmas.List.Concat.{flat_map-cons}
use Rattle.std.proofs.lemmas.List.Elements.{All-append, All-cons, All-filter, All-head, All-map, All-nil, All-tail, All-weaker, filter-append}
use Rattle.ris_base.specs.Effect.{first_past_limit}
use Rattle.ris_base.specs.Graph.{copies, triple}
use Rattle.ris_base.specs.Limits.{greatest_of}
use Rattle.ris_base.specs.declared.graphs.Format.{Format}
use Rattle.ris_base.specs.declared.graphs.Format.TheVariants.{Two}
use Rattle.ris_base.specs.declared.graphs.PlainGraph.{PlainGraph}
use Rattle.ris_base.specs.declared.graphs.Triple.{Triple}
use Rattle.ris_base.specs.declared.updates.Update.{Update}
use Rattle.ris_base.specs.declared.updates.Update.TheVariants.{AddV, DelV, AddE, DelE, SetW}
use Rattle.ris_base.proofs.RequestLemmas.{copies_through}
use Rattle.ris_rows.specs.Neighbours.{IsAscending, copies_of}
use Rattle.ris_rows.specs.RowView.{RowView}
use Rattle.ris_graph.specs.GraphView.{GraphView, IsOf, copies_in, in_row, out_row, row_at, vertex_in}
use Rattle.ris_graph.specs.Jobs.{IsJobOf, is_job, job_count, stripe_of}
use Rattle.ris_graph.specs.Phase.{AreAccepted, HasEnds, HasPhaseRoom, IsMerge, IsReady, IsWorkOf, LooseView, applied_of, entered_each, stripe_at}
use Rattle.ris_graph.specs.Settling.{CanAdd, CanTake, HasAddRoom, HasInRow, with_added, with_taken}
use Rattle.ris_graph.specs.Sound.{IsSized, IsSound}
use Rattle.ris_graph.specs.StripeView.{StripeView, fresh, is_applied, no_stripe}
use Rattle.ris_graph.specs.declared.stripes.StripeJob.{StripeJob}
use Rattle.ris_graph.proofs.GraphLemmas.{IsSound-from_IsOf, in_row-is, present-lt, vertex_in-is}
use Rattle.ris_graph.proofs.JobLemmas.{job_count-le, stripe_of-lt}
use Rattle.ris_graph.proofs.ListFacts.{filter-none}
use Rattle.ris_graph.proofs.ListedGraph.{IsOf-listed, listed}
use Rattle.ris_graph.proofs.MergeLemmas.{HasPlainEnds, IsFit, Runs-local, Runs-merged, accepted-each, copies_through-own, not_same, proper-each}
use Rattle.ris_graph.proofs.PhaseLemmas.{All-work, All-work_in, AreDone, count_by-work, count_in, under}
use Rattle.ris_graph.proofs.SettleLemmas.{CanTake-added, CanTake-after, added-copies, length-added, length-taken, taken-copies}
use Rattle.ris_graph.proofs.StepLemmas.{Runs, adds_triple, stripe_copies, takes_triple}
use Rattle.ris_graph.proofs.WorkLemmas.{out_row-at, ready-at}

-- Lists of updates

All-flat_map : {X Y : Type 0} (P : Y → Type 0) (f : X → List Y) (xs : List X) → ((x : X) → All P (f x)) → All P (flat_map f xs)
All-flat_map P f [] each = All-nil P
All-flat_map P f (x ∷ xs) each = subst (All P) (sym (flat_map-cons f x xs)) (All-append P (f x) (flat_map f xs) (each x) (All-flat_map P f xs each))

-- what holds of the jobs of a stripe holds of its applied updates
All-applied_of : (P : Update → Type 0) (s : StripeView) → All (λ j. P j.update) s.jobs → All P (applied_of s)
All-applied_of P s all =
    All-flat_map P (λ (x : ℕ). map (λ (j : StripeJob). j.update) (filter (λ (j : StripeJob). (j.session == x) && is_applied j) s.jobs)) s.log
    (λ x. All-map P (λ (j : StripeJob). j.update) (filter (λ (j : StripeJob). (j.session == x) && is_applied j) s.jobs)
    (All-filter (λ (j : StripeJob). (j.session == x) && is_applied j) (λ j. P j.update) s.jobs all))

-- what holds of the updates of each stripe holds of all
All-merged : (P : Update → Type 0) (us : List Update) → ((m : ℕ) → m < 64 → All P (filter (λ u. stripe_of u == m) us)) → All P us
All-merged P [] each = All-nil P
All-merged P (u ∷ us) each =
    let here = rw (eq-eqb (stripe_of u) (stripe_of u) refl) at (each (stripe_of u) (stripe_of-lt u)) in
    All-cons P u us (All-head P u (filter (λ (x : Update). stripe_of x == stripe_of u) us) here)
    (All-merged P us (λ m lt. elim (cases_eq (stripe_of u) m) [
      | inl own ↦ subst (λ k. All P (filter (λ (x : Update). stripe_of x == k) us)) own (All-tail P u (filter (λ (x : Update). stripe_of x == stripe_of u) us) here)
      | inr other ↦ rw (ne_eqb (stripe_of u) m other) at (each m lt)
    ]))

filter-all : {X : Type 0} (p : X → Bool) (xs : List X) → All (λ x. p x ≡ true) xs → filter p xs ≡ xs
filter-all p [] all = refl
filter-all p (x ∷ xs) all = rw (All-head (λ y. p y ≡ true) x xs all) (ap (λ l. x ∷ l) (filter-all p xs (All-tail (λ y. p y ≡ true) x xs all)))

other_adds : (t : Triple) (u : Update) → stripe_of u ≢ t.source % 64 → adds_triple t u ≡ false
other_adds t (AddE u v w) other = not_same t u v w other
other_adds t (AddV x) other = refl
other_adds t (DelV x) other = refl
other_adds t (DelE u v w) other = refl
other_adds t (SetW u v w w2) other = refl

other_takes : (t : Triple) (u : Update) → stripe_of u ≢ t.source % 64 → takes_triple t u ≡ false
other_takes t (DelE u v w) other = not_same t u v w other
other_takes t (AddV x) other = refl
other_takes t (DelV x) other = refl
other_takes t (AddE u v w) other = refl
other_takes t (SetW u v w w2) other = refl

plain-ends : (g : GraphView) (p : PlainGraph) (u : Update) → IsOf g p → HasEnds g u → HasPlainEnds p u
plain-ends g p (AddV x) of ends = (of.vertices x).0 ends
plain-ends g p (AddE u v w) of ends = ((of.vertices u).0 ends.0, (of.vertices v).0 ends.1)
plain-ends g p (DelE u v w) of ends = ((of.vertices u).0 ends.0, (of.vertices v).0 ends.1)
plain-ends g p (DelV x) of ends = tt
plain-ends g p (SetW u v w w2) of ends = tt

-- The settled graph

abbrev pub settled_ins : LooseView → List StripeJob → List RowView
settled_ins l jobs = fold with_taken (fold with_added l.ins jobs) jobs

abbrev pub settled : LooseView → List StripeJob → GraphView
settled l jobs = record { format = l.format; stripes = map (λ s. s.rows) l.stripes; ins = settled_ins l jobs; present = l.present }

-- the applied updates of the stripes below n, one stripe after another
abbrev pub by_stripes : LooseView → ℕ → List Update
by_stripes l zero = []
by_stripes l (suc n) = by_stripes l n ++ applied_of (stripe_at l n)

module _ (g : GraphView) (js : List (List StripeJob)) (l : LooseView) (work : IsWorkOf g js l) (jobs : List StripeJob) (done : AreDone l jobs) where
  -- Room in the in rows

  add_room : (n : ℕ) → n ≤ 64 → (u : Update) → HasEnds g u → HasPhaseRoom n g u → HasAddRoom g.ins n u
  add_room n le (AddE u v w) ends room =
      let lt = present-lt g v ends.1 in
      let size = work.sound.sized.ins in
      let same = ap (λ (r : RowView). r.spare) (in_row-is g v) in
      let copies = ap (λ (r : RowView). copies_of r.items u w) (in_row-is g v) in
      let turned = work.sound.transposed (triple u v w) in
      let spare = room.1 in
      let few = room.2 in
      (omega arith, omega arith, omega arith)
  add_room n le (AddV x) ends room = tt
  add_room n le (DelV x) ends room = tt
  add_room n le (DelE u v w) ends room = tt
  add_room n le (SetW u v w w2) ends room = tt

  in_row_for : (u : Update) → HasEnds g u → HasInRow g.ins u
  in_row_for (DelE u v w) ends = (let lt = present-lt g v ends.1 in let size = work.sound.sized.ins in omega arith)
  in_row_for (AddV x) ends = tt
  in_row_for (DelV x) ends = tt
  in_row_for (AddE u v w) ends = tt
  in_row_for (SetW u v w w2) ends = tt

  pub CanAdd-work : CanAdd l.ins jobs
  CanAdd-work = subst (λ (ins : List RowView). CanAdd ins jobs) (sym work.ins) (record {
    ascending = λ v. subst (λ (r : RowView). IsAscending r.items) (in_row-is g v) (work.sound.ins v);
    limits = All-work_in g js l work jobs done (λ s u. first_past_limit (greatest_of Two) u ≡ None)
        (λ m lt. All-weaker (IsJobOf m) (λ j. first_past_limit (greatest_of Two) j.update ≡ None) (λ j h. h.limits) (get_or js m []) (work.jobs.each m));
    room = All-work_in g js l work jobs done (λ s u. HasAddRoom g.ins (length jobs) u)
        (λ m lt. All-weaker (IsReady (job_count js) g) (λ j. HasAddRoom g.ins (length jobs) j.update)
        (λ j h. subst (λ (n : ℕ). HasAddRoom g.ins n j.update) (sym (count_in g js l work jobs done)) (add_room (job_count js) (job_count-le js work.jobs) j.update h.ends h.room))
        (get_or js m []) (ready-at (job_count js) g js m work.jobs work.ready lt));
  })

  pub CanTake-work : CanTake (fold with_added l.ins jobs) jobs
  CanTake-work = CanTake-added l.ins jobs CanAdd-work
      (All-work_in g js l work jobs done (λ s u. HasInRow l.ins u)
      (λ m lt. All-weaker (IsReady (job_count js) g) (λ j. HasInRow l.ins j.update) (λ j h. subst (λ (ins : List RowView). HasInRow ins j.update) (sym work.ins) (in_row_for j.update h.ends))
      (get_or js m []) (ready-at (job_count js) g js m work.jobs work.ready lt)))

  -- Copies

  own-lt : (t : Triple) → t.source % 64 < 64
  own-lt t = omega arith

  homes : (m : ℕ) → m < 64 → All (λ j. stripe_of j.update ≡ m) (stripe_at l m).jobs
  homes m lt = All-work g js l work (λ s u. stripe_of u ≡ m) m lt (All-weaker (IsJobOf m) (λ j. stripe_of j.update ≡ m) (λ j h. h.home) (get_or js m []) (work.jobs.each m))

  -- the jobs of other stripes add nothing to a triple and take nothing
  own-count : (p : Triple → Update → Bool) (t : Triple) → ((u : Update) → stripe_of u ≢ t.source % 64 → p t u ≡ false)
      → count_by (λ j. is_applied j && p t j.update) jobs ≡ count_by (λ j. is_applied j && p t j.update) (stripe_at l (t.source % 64)).jobs
  own-count p t others =
      count_by-work g js l work jobs done (λ j. is_applied j && p t j.update) (t.source % 64) (own-lt t)
      (λ j other. and_fails (is_applied j) (p t j.update) (others j.update other))
    where
      and_fails : (a b : Bool) → b ≡ false → (a && b) ≡ false
      and_fails true b h = h
      and_fails false b h = refl

  -- the copies of a triple before and after, in its stripe
  copies-began : (t : Triple) → stripe_copies (fresh (get_or g.stripes (t.source % 64) []) (get_or js (t.source % 64) [])) t ≡ copies_in g t
  copies-began t = ap (λ (r : RowView). copies_of r.items t.target t.weight) (sym (out_row-at g (t.source % 64) (t.source / 64) t.source refl refl))

  settled-row : (u : ℕ) → out_row (settled l jobs) u ≡ row_at (stripe_at l (u % 64)).rows (u / 64)
  settled-row u =
      let size = work.stripes in
      out_row-at (settled l jobs) (u % 64) (u / 64) u refl refl
      ∙ ap (λ (rows : List RowView). row_at rows (u / 64)) (get_or-map (λ (s : StripeView). s.rows) l.stripes (u % 64) no_stripe [] (omega arith))

  copies-settled : (t : Triple) → copies_in (settled l jobs) t ≡ stripe_copies (stripe_at l (t.source % 64)) t
  copies-settled t = ap (λ (r : RowView). copies_of r.items t.target t.weight) (settled-row t.source)

  -- the in rows are the transpose again
  transposed-settled : (t : Triple) → copies_of (in_row (settled l jobs) t.target).items t.source t.weight ≡ copies_in (settled l jobs) t
  transposed-settled t =
      let m = t.source % 64 in
      let added = added-copies l.ins jobs t.source t.target t.weight CanAdd-work in
      let taken = taken-copies (fold with_added l.ins jobs) jobs t.source t.target t.weight CanTake-work in
      let gave = own-count adds_triple t (other_adds t) in
      let took = own-count takes_triple t (other_takes t) in
      let balance = (under g js l work m (own-lt t)).balance t refl in
      let began = copies-began t in
      let now = copies-settled t in
      let was : copies_of (row_at l.ins t.target).items t.source t.weight ≡ copies_in g t
      = ap (λ (ins : List RowView). copies_of (row_at ins t.target).items t.source t.weight) work.ins
      ∙ ap (λ (r : RowView). copies_of r.items t.source t.weight) (sym (in_row-is g t.target)) ∙ work.sound.transposed t in
      let is : copies_of (in_row (settled l jobs) t.target).items t.source t.weight ≡ copies_of (row_at (settled_ins l jobs) t.target).items t.source t.weight
      = ap (λ (r : RowView). copies_of r.items t.source t.weight) (in_row-is (settled l jobs) t.target) in
      all_in _ _ _ _ _ _ _ _ _ is taken added was gave took balance began now
    where
      all_in : (into rows mid old was gave took before after : ℕ) {a d : ℕ} → into ≡ rows → rows ≡ mid - d → mid ≡ old + a → old ≡ was → a ≡ gave → d ≡ took
          → after + took ≡ before + gave → before ≡ was → {now : ℕ} → now ≡ after → into ≡ now
      all_in into rows mid old was gave took before after e1 e2 e3 e4 e5 e6 e7 e8 e9 = omega arith

  IsSized-settled : IsSized (settled l jobs)
  IsSized-settled =
      let size = length-map l.stripes (λ (s : StripeView). s.rows) ∙ work.stripes in
      let ins = length-taken (fold with_added l.ins jobs) jobs ∙ length-added l.ins jobs ∙ ap length work.ins in
      let present = ap length work.present in
      let longer = work.sound.sized.ins in
      let few = work.sound.sized.few in
      record {
        stripes = size;
        outs = λ u lt. (
            let stripes = work.stripes in
            let old = work.sound.sized.outs u (omega arith) in
            let rows = (under g js l work (u % 64) (omega arith)).rows in
            let read = ap length (get_or-map (λ (s : StripeView). s.rows) l.stripes (u % 64) no_stripe [] (omega arith)) in
            omega arith);
        ins = omega arith;
        few = omega arith;
      }

  -- Merges

  module _ (p : PlainGraph) (us : List Update) (of : IsOf g p) (merge : IsMerge l us) where
    fit_updates : All (IsFit p) us
    fit_updates = All-merged (IsFit p) us (λ m lt. subst (All (IsFit p)) (sym (merge m lt)) (All-applied_of (IsFit p) (stripe_at l m)
        (All-work g js l work (λ s u. IsFit p u) m lt (λ k d less. (
        let j = get_or (get_or js m []) k d in
        let ready = ready-at (job_count js) g js m work.jobs work.ready lt k d less in
        record {
          kind = (work.jobs.each m k d less).kind;
          limits = subst (λ (f : Format). first_past_limit (greatest_of f) j.update ≡ None) (sym of.format) ready.limits;
          ends = plain-ends g p j.update of ready.ends;
        })))))

    kinds : All (λ u. IsTrue (is_job u)) us
    kinds = All-weaker (IsFit p) (λ u. IsTrue (is_job u)) (λ u h. h.kind) us fit_updates

    updates-run : Runs (copies p) us
    updates-run = Runs-merged (copies p) us kinds (λ m lt.
        subst (Runs (copies p)) (sym (merge m lt))
        (Runs-local m (stripe_copies (fresh (get_or g.stripes m []) (get_or js m []))) (copies p) (applied_of (stripe_at l m))
        (All-applied_of (λ u. stripe_of u ≡ m) (stripe_at l m) (homes m lt))
        (λ t at. subst (λ k. stripe_copies (fresh (get_or g.stripes k []) (get_or js k [])) t ≡ copies p t) at (copies-began t ∙ of.triples t))
        (under g js l work m lt).runs))

    copies-after : (t : Triple) → copies_in (settled l jobs) t ≡ copies_through (copies p t) us t
    copies-after t =
        let m = t.source % 64 in
        copies-settled t ∙ (under g js l work m (own-lt t)).copies t refl
        ∙ ap (λ n. copies_through n (applied_of (stripe_at l m)) t) (copies-began t ∙ of.triples t)
        ∙ ap (λ x. copies_through (copies p t) x t) (sym (merge m (own-lt t))) ∙ sym (copies_through-own us (copies p t) t kinds)

    -- the applied updates are accepted one after another, and the settled graph is the one that they leave
    pub IsOf-settled : AreAccepted p us × IsOf (settled l jobs) (entered_each p us)
    IsOf-settled =
        let after = accepted-each p us fit_updates updates-run in (
          after.0,
          record {
            format = after.1.format ∙ of.format ∙ sym work.format;
            proper = proper-each p us of.proper;
            vertices = λ x. (
                let same : vertex_in (settled l jobs) x ≡ vertex_in g x = vertex_in-is (settled l jobs) x ∙ ap (λ (b : List Bool). get_or b x false) work.present ∙ sym (vertex_in-is g x) in
                (λ h. (after.1.vertices x).1 ((of.vertices x).0 (sym same ∙ h)), λ h. same ∙ (of.vertices x).1 ((after.1.vertices x).0 h)));
            triples = λ t. copies-after t ∙ sym (after.1.copies t);
            transposed = λ t. transposed-settled t ∙ copies-after t ∙ sym (after.1.copies t);
            outs = λ u. subst (λ (r : RowView). IsAscending r.items) (sym (settled-row u)) ((under g js l work (u % 64) (omega arith)).ascending (u / 64));
            ins = λ v. subst (λ (r : RowView). IsAscending r.items) (sym (in_row-is (settled l jobs) v))
                ((CanTake-after (fold with_added l.ins jobs) jobs [] (rw append-nil CanTake-work)).ascending v);
          },
        )

  -- one stripe after another is such an order

  home_updates : (m : ℕ) → m < 64 → All (λ u. stripe_of u ≡ m) (applied_of (stripe_at l m))
  home_updates m lt = All-applied_of (λ u. stripe_of u ≡ m) (stripe_at l m) (homes m lt)

  by_stripes-past : (n m : ℕ) → n ≤ m → m < 64 → filter (λ u. stripe_of u == m) (by_stripes l n) ≡ []
  by_stripes-past zero m le lt = refl
  by_stripes-past (suc n) m le lt =
      let us = applied_of (stripe_at l n) in
      filter-append (λ (u : Update). stripe_of u == m) (by_stripes l n) us
      ∙ ap (λ x. x ++ filter (λ (u : Update). stripe_of u == m) us) (by_stripes-past n m (omega arith) lt)
      ∙ filter-none (λ (u : Update). stripe_of u == m) us (AddV 0) (λ i less. (
      let home = home_updates n (omega arith) i (AddV 0) less in
      ne_eqb (stripe_of (get_or us i (AddV 0))) m (λ e. absurd (omega arith))))

  by_stripes-in : (n m : ℕ) → m < n → n ≤ 64 → filter (λ u. stripe_of u == m) (by_stripes l n) ≡ applied_of (stripe_at l m)
  by_stripes-in zero m lt le = absurd (omega arith)
  by_stripes-in (suc n) m lt le =
      let us = applied_of (stripe_at l n) in
      filter-append (λ (u : Update). stripe_of u == m) (by_stripes l n) us
      ∙ elim (cases_eq m n) [
        | inl own ↦ (let all : filter (λ (u : Update). stripe_of u == m) us ≡ us
            = filter-all (λ (u : Update). stripe_of u == m) us (All-weaker (λ (u : Update). stripe_of u ≡ n) (λ u. (stripe_of u == m) ≡ true) (λ u h. eq-eqb (stripe_of u) m (h ∙ sym own)) us (home_updates n (omega arith))) in
            ap (λ x. x ++ filter (λ (u : Update). stripe_of u == m) us) (by_stripes-past n m (omega arith) (omega arith)) ∙ all ∙ ap (λ k. applied_of (stripe_at l k)) (sym own))
        | inr other ↦ (let none : filter (λ (u : Update). stripe_of u == m) us ≡ []
            = filter-none (λ (u : Update). stripe_of u == m) us (AddV 0) (λ i less. (
            let home = home_updates n (omega arith) i (AddV 0) less in
            ne_eqb (stripe_of (get_or us i (AddV 0))) m (λ e. other (sym e ∙ home)))) in
            ap (λ x. filter (λ (u : Update). stripe_of u == m) (by_stripes l n) ++ x) none ∙ append-nil (filter (λ (u : Update). stripe_of u == m) (by_stripes l n)) ∙ by_stripes-in n m (omega arith) (omega arith))
      ]

  pub IsMerge-by_stripes : IsMerge l (by_stripes l 64)
  IsMerge-by_stripes m lt = by_stripes-in 64 m lt (omega arith)

  pub IsSound-settled : IsSound (settled l jobs)
  IsSound-settled =
      IsSound-from_IsOf (settled l jobs) (entered_each (listed g) (by_stripes l 64)) IsSized-settled
      (IsOf-settled (listed g) (by_stripes l 64) (IsOf-listed g work.sound) IsMerge-by_stripes).1
