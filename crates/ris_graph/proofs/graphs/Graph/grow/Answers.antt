use Rattle.std.proofs.Common.{◌≡◌, ℕ, ◌+◌, ◌-◌, ◌*◌, ◌<◌, ◌≤◌, ◌/◌, ◌%◌, ◌∙◌, Bool, false, List, ◌++◌, length, take, replicate, min, subst, ap, refl, arith}
use Rattle.std.proofs.lemmas.Grind.{common_steps, div_ceil_times}
use Rattle.std.proofs.lemmas.List.{take_all, length-append, length-replicate}
use Rattle.ris_base.specs.Limits.{vertex_limit}
use Rattle.ris_rows.specs.RowView.{RowView}
use Rattle.ris_graph.specs.GraphView.{GraphView, row_at, HasRoomOf}
use Rattle.ris_graph.specs.Sound.{IsSound}
use Rattle.ris_graph.specs.Tables.{row_of, HasRow}
use Rattle.ris_graph.proofs.RoomLemmas.{IsGrown, HasRoomOf-grown, IsSound-grown, get_or-padded}
use Rattle.ris_graph.proofs.graphs.Graph.grow.Goals as goal
use Rattle.ris_graph.proofs.graphs.Graph.grow.Goals.{After-grow, After-grow-then-bound-len, In_ok-resize}

-- the places that are made are enough, and within the limit
enough : (n : ℕ) → n ≤ vertex_limit → (n ≤ (n / 64 + min 1 (n % 64)) * 64) × ((n / 64 + min 1 (n % 64)) * 64 ≤ vertex_limit)
enough n few = let b = div_ceil_times n 64 (omega arith) in (b.0, grind (arith, common_steps))

-- longer tables of rows
grown : (g : GraphView) (stripes : List (List RowView)) (ins : List RowView) → IsSound g → length stripes ≡ length g.stripes → ((u : ℕ) → row_of stripes u ≡ row_of g.stripes u)
    → ((u : ℕ) → HasRow g.stripes u → HasRow stripes u) → ((v : ℕ) → row_at ins v ≡ row_at g.ins v) → length g.ins ≤ length ins → IsGrown g (record g { stripes = stripes; ins = ins })
grown g stripes ins sound size outs has into longer = record {
  format = refl;
  stripes = size;
  out_rows = outs;
  in_rows = into;
  present = λ x. refl;
  longer = omega arith;
  outs = λ u lt. has u (sound.sized.outs u lt);
  ins = (let a = sound.sized.ins in omega arith);
  few = sound.sized.few;
}

-- more places, for which there are rows
longer : (g : GraphView) (stripes : List (List RowView)) (ins : List RowView) (present : List Bool) (places left : ℕ) → left ≡ places * 64 - length g.present → length g.present ≤ places * 64 → places * 64 ≤ vertex_limit
    → IsGrown g (record g { stripes = stripes; ins = ins }) → ((u : ℕ) → u < 64 * places → HasRow stripes u) → places * 64 ≤ length ins
    → present ≡ take (places * 64) g.present ++ replicate (left) false → IsGrown g (record g { stripes = stripes; ins = ins; present = present })
longer g stripes ins present places left gap more few grown has long is =
    let whole : present ≡ g.present ++ replicate (left) false
    = is ∙ ap (λ (xs : List Bool). xs ++ replicate (left) false) (take_all (places * 64) g.present more) in
    let size : length present ≡ places * 64 = rw whole (omega (arith, length-append g.present (replicate (left) false), length-replicate (left) false)) in
    record {
      format = refl;
      stripes = grown.stripes;
      out_rows = grown.out_rows;
      in_rows = grown.in_rows;
      present = λ x. rw whole (get_or-padded g.present (left) x);
      longer = omega arith;
      outs = λ u lt. has u (omega arith);
      ins = omega arith;
      few = omega arith;
    }

pub invariant_of-self : goal.invariant_of-self
invariant_of-self g c =
    let now : GraphView = record { format = c.self.inside.format; stripes = c.self.inside.outs; ins = c.self.inside.ins; present = c.self.inside.present.items } in
    let e = c.grow.ensures in
    IsSound-grown now _ (grown now c.grow.new.self now.ins c.self.invariant e.stripes e.rows e.longer (λ v. refl) (omega arith)) c.self.invariant

pub returns-in_err-grow-clause-same : goal.returns-in_err-grow-clause-same
returns-in_err-grow-clause-same g c =
    let now : GraphView = record { format = c.self.inside.format; stripes = c.self.inside.outs; ins = c.self.inside.ins; present = c.self.inside.present.items } in
    let e = c.grow.ensures in
    let new : GraphView = record now { stripes = c.grow.new.self } in
    let more = grown now c.grow.new.self now.ins c.self.invariant e.stripes e.rows e.longer (λ v. refl) (omega arith) in
    subst (λ (v : GraphView). HasRoomOf v new) c.self.view_is (HasRoomOf-grown now new more)

pub overflow_mul-places : goal.overflow_mul-places
overflow_mul-places g c =
    let few = c.bound-bound.ensures.least vertex_limit c.requires in
    let size = enough c.bound-bound.result few in
    let is = c.div_ceil-places.ensures in
    grind (arith, common_steps)

pub invariant_of-self-in_err-grow-2 : goal.invariant_of-self-in_err-grow-2
invariant_of-self-in_err-grow-2 g c =
    let now : GraphView = record { format = c.self.inside.format; stripes = c.self.inside.outs; ins = c.self.inside.ins; present = c.self.inside.present.items } in
    let e = c.grow.ensures in
    let f = c.grow-then-bound-len.ensures in
    IsSound-grown now _ (grown now c.grow.new.self c.grow-then-bound-len.new.self c.self.invariant e.stripes e.rows e.longer f.rows f.longer) c.self.invariant

pub returns-in_err-grow-2-clause-same : goal.returns-in_err-grow-2-clause-same
returns-in_err-grow-2-clause-same g c =
    let now : GraphView = record { format = c.self.inside.format; stripes = c.self.inside.outs; ins = c.self.inside.ins; present = c.self.inside.present.items } in
    let e = c.grow.ensures in
    let f = c.grow-then-bound-len.ensures in
    let new : GraphView = record now { stripes = c.grow.new.self; ins = c.grow-then-bound-len.new.self } in
    let more = grown now c.grow.new.self c.grow-then-bound-len.new.self c.self.invariant e.stripes e.rows e.longer f.rows f.longer in
    subst (λ (v : GraphView). HasRoomOf v new) c.self.view_is (HasRoomOf-grown now new more)

pub overflow_mul-places-then-bound-len : goal.overflow_mul-places-then-bound-len
overflow_mul-places-then-bound-len g c =
    let few = c.bound-bound.ensures.least vertex_limit c.requires in
    let size = enough c.bound-bound.result few in
    let is = c.div_ceil-places.ensures in
    grind (arith, common_steps)

pub invariant_of-self-in-Continue-branch-3 : goal.invariant_of-self-in-Continue-branch-3
invariant_of-self-in-Continue-branch-3 g c =
    let now : GraphView = record { format = c.self.inside.format; stripes = c.self.inside.outs; ins = c.self.inside.ins; present = c.self.inside.present.items } in
    let e = c.grow.ensures in
    let f = c.grow-then-bound-len.ensures in
    let more = grown now c.grow.new.self c.grow-then-bound-len.new.self c.self.invariant e.stripes e.rows e.longer f.rows f.longer in
    let few = c.bound-bound.ensures.least vertex_limit c.requires in
    let size = enough c.bound-bound.result few in
    let is = c.div_ceil-places.ensures in
    let past : length now.present < c.bound-bound.result = grind (arith, common_steps) in
    let whole = longer now c.grow.new.self c.grow-then-bound-len.new.self c.resize.new.self.items c.div_ceil-places.result _ (omega arith) (grind (arith, common_steps)) (grind (arith, common_steps))
    more c.in_ok-grow.ensures.ok c.in_ok-grow-2.ensures.ok c.in_ok-resize.ensures.items in
    IsSound-grown now _ whole c.self.invariant

pub invariant_of-self-in_err-resize : goal.invariant_of-self-in_err-resize
invariant_of-self-in_err-resize g c =
    let now : GraphView = record { format = c.self.inside.format; stripes = c.self.inside.outs; ins = c.self.inside.ins; present = c.self.inside.present.items } in
    let e = c.grow.ensures in
    let f = c.grow-then-bound-len.ensures in
    let more = grown now c.grow.new.self c.grow-then-bound-len.new.self c.self.invariant e.stripes e.rows e.longer f.rows f.longer in
    rw c.in_err-resize.ensures.items (IsSound-grown now _ more c.self.invariant)

pub returns-in_err-resize-clause-same : goal.returns-in_err-resize-clause-same
returns-in_err-resize-clause-same g c =
    let now : GraphView = record { format = c.self.inside.format; stripes = c.self.inside.outs; ins = c.self.inside.ins; present = c.self.inside.present.items } in
    let e = c.grow.ensures in
    let f = c.grow-then-bound-len.ensures in
    let more = grown now c.grow.new.self c.grow-then-bound-len.new.self c.self.invariant e.stripes e.rows e.longer f.rows f.longer in
    let mid : GraphView = record now { stripes = c.grow.new.self; ins = c.grow-then-bound-len.new.self } in
    subst (λ (v : GraphView). HasRoomOf v (record mid { present = c.resize.new.self.items })) c.self.view_is (rw c.in_err-resize.ensures.items (HasRoomOf-grown now mid more))

pub returns-in_ok-resize-clause-same : goal.returns-in_ok-resize-clause-same
returns-in_ok-resize-clause-same g c =
    let now : GraphView = record { format = c.self.inside.format; stripes = c.self.inside.outs; ins = c.self.inside.ins; present = c.self.inside.present.items } in
    let e = c.grow.ensures in
    let f = c.grow-then-bound-len.ensures in
    let more = grown now c.grow.new.self c.grow-then-bound-len.new.self c.self.invariant e.stripes e.rows e.longer f.rows f.longer in
    let few = c.bound-bound.ensures.least vertex_limit c.requires in
    let size = enough c.bound-bound.result few in
    let is = c.div_ceil-places.ensures in
    let past : length now.present < c.bound-bound.result = grind (arith, common_steps) in
    let whole = longer now c.grow.new.self c.grow-then-bound-len.new.self c.resize.new.self.items c.div_ceil-places.result _ (omega arith) (grind (arith, common_steps)) (grind (arith, common_steps))
    more c.in_ok-grow.ensures.ok c.in_ok-grow-2.ensures.ok c.in_ok-resize.ensures.items in
    let new : GraphView = record now { stripes = c.grow.new.self; ins = c.grow-then-bound-len.new.self; present = c.resize.new.self.items } in
    subst (λ (v : GraphView). HasRoomOf v new) c.self.view_is (HasRoomOf-grown now new whole)
