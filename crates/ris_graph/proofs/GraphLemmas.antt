-- Graphs and the plain graphs that they are.
use Rattle.std.proofs.Common.{◌≡◌, ℕ, ◌+◌, ◌<◌, ◌≤◌, false, ◌&&◌, ◌==◌, if◌then◌else◌, IsTrue, List, length, get_or, set, cond, arith, refl, inl, inr, sym, ap, subst, ◌∙◌}
use Rattle.std.proofs.lemmas.Bool.{cases_lt, cases_Bool, both_ways}
use Rattle.std.proofs.lemmas.List.{get_or_past, length-set}
use Rattle.std.proofs.lemmas.List.Elements.{All-contains, All-weaker, All-push}
use Rattle.std.proofs.lemmas.List.Sums.{sum_by_push}
use Rattle.ris_base.specs.Graph.{IsProperTriple, copies, is_equal}
use Rattle.ris_base.specs.declared.graphs.PlainGraph.{PlainGraph}
use Rattle.ris_base.specs.declared.graphs.Triple.{Triple}
use Rattle.ris_base.proofs.EffectLemmas.{HasTriple-copies, same_from_equal}
use Rattle.ris_rows.specs.Neighbours.{IsAscending, copies_of}
use Rattle.ris_rows.specs.RowView.{RowView, inserted}
use Rattle.ris_graph.specs.Appending.{appended}
use Rattle.ris_graph.specs.GraphView.{GraphView, row_at, out_row, in_row, vertex_in, copies_in, IsOf, HasRoomOf}
use Rattle.ris_graph.specs.Putting.{IsPut}
use Rattle.ris_graph.specs.Sound.{IsSized, IsSound}
use Rattle.ris_graph.specs.Tables.{row_of, with_row, HasRow, IsRoomier}
use Rattle.ris_graph.proofs.RowChanges.{IsPut-outs, IsPut-table, IsPut-ascending, IsPut-copies}
use Rattle.ris_graph.proofs.TableLemmas.{length-with_row, HasRow-with_row, roomier, roomier-table}

-- The parts of a view

pub out_row-is : (g : GraphView) (u : ℕ) → out_row g u ≡ row_of g.stripes u
unfolding out_row row_of
out_row-is g u = refl

pub in_row-is : (g : GraphView) (v : ℕ) → in_row g v ≡ row_at g.ins v
unfolding in_row
in_row-is g v = refl

pub vertex_in-is : (g : GraphView) (x : ℕ) → vertex_in g x ≡ get_or g.present x false
unfolding vertex_in
vertex_in-is g x = refl

pub present-lt : (g : GraphView) (x : ℕ) → IsTrue (vertex_in g x) → x < length g.present
present-lt g x there =
    elim (cases_lt x (length g.present)) [ inl lt ↦ lt | inr past ↦ absurd (both_ways (vertex_in g x) (vertex_in-is g x ∙ get_or_past g.present x false past) there) ]

-- Room

pub HasRoomOf-trans : (g h k : GraphView) → HasRoomOf g h → HasRoomOf h k → HasRoomOf g k
HasRoomOf-trans g h k a b = record {
  format = b.format ∙ a.format;
  tables = (let x = a.tables in let y = b.tables in omega arith);
  vertices = λ x. b.vertices x ∙ a.vertices x;
  outs = λ u. b.outs u ∙ a.outs u;
  ins = λ v. b.ins v ∙ a.ins v;
  out_room = λ u. (let x = a.out_room u in let y = b.out_room u in omega arith);
  in_room = λ v. (let x = a.in_room v in let y = b.in_room v in omega arith);
}

pub HasRoomOf-outs : (g : GraphView) (stripes : List (List RowView)) → ((u : ℕ) → IsRoomier (row_of g.stripes u) (row_of stripes u))
    → HasRoomOf g (record g { stripes = stripes })
unfolding out_row in_row vertex_in row_of
HasRoomOf-outs g stripes more = record {
  format = refl;
  tables = omega arith;
  vertices = λ x. refl;
  outs = λ u. (more u).items;
  ins = λ v. refl;
  out_room = λ u. (more u).spare;
  in_room = λ v. omega arith;
}

pub HasRoomOf-ins : (g : GraphView) (ins : List RowView) → ((v : ℕ) → IsRoomier (row_at g.ins v) (row_at ins v))
    → HasRoomOf g (record g { ins = ins })
unfolding out_row in_row vertex_in
HasRoomOf-ins g ins more = record {
  format = refl;
  tables = omega arith;
  vertices = λ x. refl;
  outs = λ u. refl;
  ins = λ v. (more v).items;
  out_room = λ u. omega arith;
  in_room = λ v. (more v).spare;
}

-- a graph with room is the same graph
pub IsOf-room : (g h : GraphView) (p : PlainGraph) → HasRoomOf g h → IsOf g p → IsOf h p
IsOf-room g h p room of = record {
  format = of.format ∙ sym room.format;
  proper = of.proper;
  vertices = λ x. rw (room.vertices x) (of.vertices x);
  triples = λ t. rw (room.outs t.source) (of.triples t);
  transposed = λ t. rw (room.ins t.target) (of.transposed t);
  outs = λ u. rw (room.outs u) (of.outs u);
  ins = λ v. rw (room.ins v) (of.ins v);
}

-- Soundness

pub IsSized-outs : (g : GraphView) (stripes : List (List RowView)) → length stripes ≡ length g.stripes → ((u : ℕ) → HasRow g.stripes u → HasRow stripes u)
    → IsSized g → IsSized (record g { stripes = stripes })
IsSized-outs g stripes size longer h = record { stripes = size ∙ h.stripes; outs = λ u lt. longer u (h.outs u lt); ins = h.ins; few = h.few }

pub IsSized-ins : (g : GraphView) (ins : List RowView) → length g.ins ≤ length ins → IsSized g → IsSized (record g { ins = ins })
IsSized-ins g ins longer h = record { stripes = h.stripes; outs = h.outs; ins = (let a = h.ins in omega arith); few = h.few }

pub IsSized-with_row : (g : GraphView) (u : ℕ) (r : RowView) → IsSized g → IsSized (record g { stripes = with_row g.stripes u r })
IsSized-with_row g u r h = IsSized-outs g (with_row g.stripes u r) (length-with_row g.stripes u r) (λ x has. HasRow-with_row g.stripes u x r has) h

-- a graph of large enough tables that is a plain graph is sound
pub IsSound-from_IsOf : (g : GraphView) (p : PlainGraph) → IsSized g → IsOf g p → IsSound g
IsSound-from_IsOf g p sized of = record {
  sized = sized;
  outs = of.outs;
  ins = of.ins;
  transposed = λ t. of.transposed t ∙ sym (of.triples t);
  joined = λ t some. (
      let has = HasTriple-copies p t (let e = of.triples t in omega arith) in
      let proper = All-contains (IsProperTriple p) p.triples t of.proper.triples has in
      record { source = (of.vertices t.source).1 proper.source; target = (of.vertices t.target).1 proper.target; weight = rw (← of.format) proper.weight });
}

-- and so is a sound one with more room
pub IsSound-room : (g h : GraphView) → IsSized h → HasRoomOf g h → IsSound g → IsSound h
IsSound-room g h sized room sound = record {
  sized = sized;
  outs = λ u. rw (room.outs u) (sound.outs u);
  ins = λ v. rw (room.ins v) (sound.ins v);
  transposed = λ t. rw (room.ins t.target, room.outs t.source) (sound.transposed t);
  joined = λ t some. (
      let j = sound.joined t (rw (← room.outs t.source) some) in
      record { source = room.vertices t.source ∙ j.source; target = room.vertices t.target ∙ j.target; weight = rw room.format j.weight });
}

-- a step that makes room in one out row, or in one in row
pub IsSound-outs : (g : GraphView) (stripes : List (List RowView)) (u : ℕ) → IsSound g → stripes ≡ with_row g.stripes u (row_of stripes u)
    → IsRoomier (row_of g.stripes u) (row_of stripes u) → HasRoomOf g (record g { stripes = stripes }) × IsSound (record g { stripes = stripes })
IsSound-outs g stripes u sound is more =
    let room = HasRoomOf-outs g stripes (roomier g.stripes stripes u is more) in
    let sized : IsSized (record g { stripes = stripes }) = subst (λ (t : List (List RowView)). IsSized (record g { stripes = t })) (sym is) (IsSized-with_row g u (row_of stripes u) sound.sized) in
    (room, IsSound-room g (record g { stripes = stripes }) sized room sound)

pub IsSound-ins : (g : GraphView) (ins : List RowView) (v : ℕ) → IsSound g → ins ≡ set g.ins v (row_at ins v)
    → IsRoomier (row_at g.ins v) (row_at ins v) → HasRoomOf g (record g { ins = ins }) × IsSound (record g { ins = ins })
IsSound-ins g ins v sound is more =
    let room = HasRoomOf-ins g ins (roomier-table g.ins ins v is more) in
    let size = ap length is ∙ length-set g.ins v (row_at ins v) in
    (room, IsSound-room g (record g { ins = ins }) (IsSized-ins g ins (omega arith) sound.sized) room sound)

-- Another number of copies of a triple

swapped : (a b c d e f k n : ℕ) → (if (b == e) && (a == d) && (c == f) then k else n) ≡ (if (a == d) && (b == e) && (c == f) then k else n)
swapped a b c d e f k n = elim (cases_Bool (a == d)) [
  | inl x ↦ elim (cases_Bool (b == e)) [ inl y ↦ rw (x, y) refl | inr y ↦ rw (x, y) refl ]
  | inr x ↦ elim (cases_Bool (b == e)) [ inl y ↦ rw (x, y) refl | inr y ↦ rw (x, y) refl ]
]

pub out_copies : (g h : GraphView) (t s : Triple) (k : ℕ) → IsPut (out_row g) (out_row h) t.source t.target t.weight k → ((u : ℕ) → IsAscending (out_row g u).items)
    → copies_in h s ≡ (if is_equal s t then k else copies_in g s)
out_copies g h t s k put ascending = IsPut-copies (out_row g) (out_row h) t.source t.target t.weight k put ascending s.source s.target s.weight

pub in_copies : (g h : GraphView) (t s : Triple) (k : ℕ) → IsPut (in_row g) (in_row h) t.target t.source t.weight k → ((v : ℕ) → IsAscending (in_row g v).items)
    → copies_of (in_row h s.target).items s.source s.weight ≡ (if is_equal s t then k else copies_of (in_row g s.target).items s.source s.weight)
in_copies g h t s k put ascending =
    IsPut-copies (in_row g) (in_row h) t.target t.source t.weight k put ascending s.target s.source s.weight
    ∙ swapped s.source s.target s.weight t.source t.target t.weight k (copies_of (in_row g s.target).items s.source s.weight)

-- One copy more

copies-appended : (p : PlainGraph) (t s : Triple) → copies (appended p t) s ≡ copies p s + cond (is_equal s t) 1 0
copies-appended p t s = sum_by_push (λ x. cond (is_equal s x) 1 0) p.triples t

one_more : (n : Triple → ℕ) (p : PlainGraph) (t s : Triple) → ((r : Triple) → n r ≡ copies p r) → (if is_equal s t then n t + 1 else n s) ≡ copies (appended p t) s
one_more n p t s same =
    elim (cases_Bool (is_equal s t)) [
      | inl e ↦ (let appended = copies-appended p t s in let r = same_from_equal s t e in rw e (ap (λ x. n x + 1) (sym r) ∙ ap (λ m. m + 1) (same s) ∙ sym (rw e at appended)))
      | inr e ↦ (let appended = rw e at (copies-appended p t s) in let old = same s in rw e (omega (arith, appended)))
    ]

pub IsOf-appended : (g h : GraphView) (p : PlainGraph) (t : Triple) → IsOf g p → IsProperTriple p t → h.format ≡ g.format → ((x : ℕ) → vertex_in h x ≡ vertex_in g x)
    → IsPut (out_row g) (out_row h) t.source t.target t.weight (copies_in g t + 1)
    → IsPut (in_row g) (in_row h) t.target t.source t.weight (copies_of (in_row g t.target).items t.source t.weight + 1)
    → IsOf h (appended p t)
IsOf-appended g h p t of joined format present outs ins = record {
  format = of.format ∙ sym format;
  proper = record {
    once = of.proper.once;
    vertices = of.proper.vertices;
    triples = All-push (IsProperTriple (appended p t)) p.triples t
        (All-weaker (IsProperTriple p) (IsProperTriple (appended p t)) (λ s q. record { source = q.source; target = q.target; weight = q.weight }) p.triples of.proper.triples)
        (record { source = joined.source; target = joined.target; weight = joined.weight });
  };
  vertices = λ x. rw (present x) (of.vertices x);
  triples = λ s. out_copies g h t s (copies_in g t + 1) outs of.outs ∙ one_more (copies_in g) p t s of.triples;
  transposed = λ s. in_copies g h t s (copies_of (in_row g t.target).items t.source t.weight + 1) ins of.ins
      ∙ one_more (λ r. copies_of (in_row g r.target).items r.source r.weight) p t s of.transposed;
  outs = IsPut-ascending (out_row g) (out_row h) t.source t.target t.weight (copies_in g t + 1) outs of.outs;
  ins = IsPut-ascending (in_row g) (in_row h) t.target t.source t.weight (copies_of (in_row g t.target).items t.source t.weight + 1) ins of.ins;
}

-- a triple that joins vertices of one plain graph that a graph is joins those of every other
pub IsProperTriple-same : (g : GraphView) (p q : PlainGraph) (t : Triple) → IsOf g p → IsOf g q → IsProperTriple p t → IsProperTriple q t
IsProperTriple-same g p q t a b h = record {
  source = (b.vertices t.source).0 ((a.vertices t.source).1 h.source);
  target = (b.vertices t.target).0 ((a.vertices t.target).1 h.target);
  weight = rw (b.format ∙ sym a.format) h.weight;
}

-- one copy more in both rows of a triple
module _ (g : GraphView) (t : Triple) (stripes : List (List RowView)) (ins : List RowView) (sized : IsSized g)
    (source : t.source < length g.present) (target : t.target < length g.present)
    (outs_are : stripes ≡ with_row g.stripes t.source (inserted (row_of g.stripes t.source) t.target t.weight))
    (ins_are : ins ≡ set g.ins t.target (inserted (row_at g.ins t.target) t.source t.weight)) where
  pub IsSized-inserted : IsSized (record g { stripes = stripes; ins = ins })
  IsSized-inserted =
      let one = IsSized-with_row g t.source (inserted (row_of g.stripes t.source) t.target t.weight) sized in
      let size = ap length ins_are ∙ length-set g.ins t.target (inserted (row_at g.ins t.target) t.source t.weight) in
      IsSized-ins (record g { stripes = stripes }) ins (omega arith) (rw outs_are one)

  pub IsOf-inserted : (p : PlainGraph) → IsOf g p → IsProperTriple p t → IsOf (record g { stripes = stripes; ins = ins }) (appended p t)
  unfolding out_row in_row vertex_in row_of
  IsOf-inserted p of proper =
      let size = sized.ins in
      let outs = IsPut-outs g.stripes t.source t.target t.weight (copies_in g t + 1) (sized.outs t.source source) in
      let into = IsPut-table g.ins t.target t.source t.weight (copies_of (in_row g t.target).items t.source t.weight + 1) (omega arith) in
      IsOf-appended g (record g { stripes = stripes; ins = ins }) p t of proper refl (λ x. refl)
      (subst (λ (s : List (List RowView)). IsPut (row_of g.stripes) (row_of s) t.source t.target t.weight (copies_in g t + 1)) (sym outs_are) outs)
      (subst (λ (s : List RowView). IsPut (row_at g.ins) (row_at s) t.target t.source t.weight (copies_of (in_row g t.target).items t.source t.weight + 1)) (sym ins_are) into)
