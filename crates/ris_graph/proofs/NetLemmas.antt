-- What a net makes of a graph, forwards and back.
use Rattle.std.proofs.Common.{◌≡◌, ◌≢◌, ◌↔◌, ℕ, ◌+◌, ◌<◌, ◌≤◌, ◌⊎◌, Bool, true, false, not, ◌&&◌, ◌==◌, nat_lt, if◌then◌else◌, IsTrue, List, [], ◌∷◌, length, get_or, arith, refl, inl, inr, sym, ap, subst, ◌∙◌}
use Rattle.std.specs.List.{All, AllPairs, Contains, count_by, list_any}
use Rattle.std.proofs.lemmas.Bool.{cases_eq, cases_Bool, both_ways, false_from_ne_true, eq-eqb, ne_eqb, eqb-true}
use Rattle.std.proofs.lemmas.List.Elements.{Contains-get_or, All-contains, filter_agree}
use Rattle.std.proofs.lemmas.List.Sums.{length-filter}
use Rattle.ris_base.specs.Falling.{Drops}
use Rattle.ris_base.specs.Graph.{HasVertex, IsProper, IsProperTriple, copies, is_equal, has_vertex, triple}
use Rattle.ris_base.specs.Limits.{vertex_limit}
use Rattle.ris_base.specs.Requests.{entered}
use Rattle.ris_base.specs.declared.graphs.PlainGraph.{PlainGraph}
use Rattle.ris_base.specs.declared.graphs.Triple.{Triple}
use Rattle.ris_base.specs.declared.updates.Update.{Update}
use Rattle.ris_base.specs.declared.updates.Update.TheVariants.{AddV, DelV, AddE, DelE, SetW}
use Rattle.ris_base.proofs.EffectLemmas.{HasTriple-copies, HasVertex-from_test, has_vertex-true, equal_itself, vertex_after}
use Rattle.ris_base.proofs.ListLemmas.{Contains-from_list_any, list_any-from_passing, Contains-first, Contains-rest}
use Rattle.ris_base.proofs.RequestLemmas.{proper-entered, has_vertex-entered, vertex_through}
use Rattle.ris_rows.specs.Neighbours.{copies_of}
use Rattle.ris_rows.specs.RowView.{RowView}
use Rattle.ris_graph.specs.GraphView.{GraphView, row_at, vertex_in, IsOf}
use Rattle.ris_graph.specs.Nets.{IsNet, comes, goes, HasRowsFor}
use Rattle.ris_graph.specs.Putting.{count_from, count_to, comes_to, source_of, target_of, ArePut, CanPut, HasRows}
use Rattle.ris_graph.specs.Sound.{IsSized}
use Rattle.ris_graph.specs.Tables.{row_of, HasRow}
use Rattle.ris_graph.specs.declared.nets.Net.{Net}
use Rattle.ris_graph.specs.declared.nets.NetTriple.{NetTriple}
use Rattle.ris_graph.proofs.GraphLemmas.{out_row-is, in_row-is, present-lt}
use Rattle.ris_graph.proofs.PutLemmas.{ArePut-total}

-- Triples

-- the triples of a net lead from one plain graph to another
pub record IsTurn (forward : Bool) (from to : PlainGraph) (triples : List NetTriple) : Type 0 where
  pub once : AllPairs (λ s t. is_equal s.triple t.triple ≢ true) triples
  pub before : All (λ t. count_from forward t ≡ copies from t.triple) triples
  pub after : All (λ t. count_to forward t ≡ copies to t.triple) triples
  pub covered : (t : Triple) → copies from t ≢ copies to t → (n : NetTriple) × Contains triples n × (n.triple ≡ t)

pub IsTurn-forward : (p : PlainGraph) (parts : List Update) (n : Net) → IsNet p parts n → IsTurn true p (entered p parts) n.triples
IsTurn-forward p parts n net = record {
  once = net.once;
  before = λ k d lt. (net.counted k d lt).before;
  after = λ k d lt. (net.counted k d lt).after;
  covered = net.covered;
}

pub IsTurn-back : (p : PlainGraph) (parts : List Update) (n : Net) → IsNet p parts n → IsTurn false (entered p parts) p n.triples
IsTurn-back p parts n net = record {
  once = net.once;
  before = λ k d lt. (net.counted k d lt).after;
  after = λ k d lt. (net.counted k d lt).before;
  covered = λ t other. net.covered t (λ same. other (sym same));
}

crossed : (x y z : Bool) → (x && y && z) ≡ false → (y && x && z) ≡ false
crossed true true z h = h
crossed true false z h = refl
crossed false true z h = refl
crossed false false z h = refl

uncrossed : (x y z : Bool) → (x && y && z) ≡ true → (y && x && z) ≡ true
uncrossed true true z h = h
uncrossed true false z h = absurd (cc)
uncrossed false true z h = absurd (cc)
uncrossed false false z h = absurd (cc)

module _ (g : GraphView) (forward : Bool) (from to : PlainGraph) (triples : List NetTriple) (of : IsOf g from) (turn : IsTurn forward from to triples) where
  pub CanPut-outs : ((u : ℕ) → count_by (λ t. (source_of t == u) && comes_to forward t) triples ≤ (row_of g.stripes u).spare)
      → CanPut source_of target_of forward (row_of g.stripes) triples
  CanPut-outs room = record {
    ascending = λ u. rw (← out_row-is g u) (of.outs u);
    once = λ i j d lt high. false_from_ne_true _ (turn.once i j d lt high);
    counts = λ k d lt. (let t = get_or triples k d in
        ap (λ (r : RowView). copies_of r.items t.triple.target t.triple.weight) (sym (out_row-is g t.triple.source)) ∙ of.triples t.triple ∙ sym (turn.before k d lt));
    room = room;
  }

  pub CanPut-ins : ((v : ℕ) → count_by (λ t. (target_of t == v) && comes_to forward t) triples ≤ (row_at g.ins v).spare)
      → CanPut target_of source_of forward (row_at g.ins) triples
  CanPut-ins room = record {
    ascending = λ v. rw (← in_row-is g v) (of.ins v);
    once = λ i j d lt high. (let s = get_or triples i d in let t = get_or triples j d in
        crossed (s.triple.source == t.triple.source) (s.triple.target == t.triple.target) (s.triple.weight == t.triple.weight) (false_from_ne_true _ (turn.once i j d lt high)));
    counts = λ k d lt. (let t = get_or triples k d in
        ap (λ (r : RowView). copies_of r.items t.triple.source t.triple.weight) (sym (in_row-is g t.triple.target)) ∙ of.transposed t.triple ∙ sym (turn.before k d lt));
    room = room;
  }

  -- a triple that no triple of the net is keeps its copies
  untouched : (t : Triple) → All (λ n. is_equal t n.triple ≡ false) triples → copies from t ≡ copies to t
  untouched t apart =
      elim (cases_eq (copies from t) (copies to t)) [
        | inl same ↦ same
        | inr other ↦ (let found = turn.covered t other in
            let never = All-contains (λ (n : NetTriple). is_equal t n.triple ≡ false) triples found.0 apart found.1 in
            absurd (both_ways (is_equal t found.0.triple) never (subst (λ (s : Triple). is_equal t s ≡ true) (sym found.2) (equal_itself t))))
      ]

  pub out_copies-turned : (outs : ℕ → RowView) → ArePut source_of target_of forward (row_of g.stripes) outs triples
      → (t : Triple) → copies_of (outs t.source).items t.target t.weight ≡ copies to t
  out_copies-turned outs are t =
      ArePut-total source_of target_of forward (row_of g.stripes) outs triples (λ a e w. copies from (triple a e w)) (λ a e w. copies to (triple a e w)) are
      (λ a e w. ap (λ (r : RowView). copies_of r.items e w) (sym (out_row-is g a)) ∙ of.triples (triple a e w))
      turn.after (λ a e w apart. untouched (triple a e w) apart) t.source t.target t.weight

  pub in_copies-turned : (ins : ℕ → RowView) → ArePut target_of source_of forward (row_at g.ins) ins triples
      → (t : Triple) → copies_of (ins t.target).items t.source t.weight ≡ copies to t
  in_copies-turned ins are t =
      ArePut-total target_of source_of forward (row_at g.ins) ins triples (λ a e w. copies from (triple e a w)) (λ a e w. copies to (triple e a w)) are
      (λ a e w. ap (λ (r : RowView). copies_of r.items e w) (sym (in_row-is g a)) ∙ of.transposed (triple e a w))
      turn.after (λ a e w apart. untouched (triple e a w) (λ k d lt. (let n = get_or triples k d in
      crossed (a == n.triple.target) (e == n.triple.source) (w == n.triple.weight) (apart k d lt)))) t.target t.source t.weight

-- what came took room, so what goes when it is taken back has it
pub room-back : (place end : NetTriple → ℕ) (forward : Bool) (old new : ℕ → RowView) (triples : List NetTriple) → ArePut place end forward old new triples
    → ((a : ℕ) → count_by (λ t. (place t == a) && comes_to forward t) triples ≤ (old a).spare)
    → (a : ℕ) → count_by (λ t. (place t == a) && comes_to (not forward) t) triples ≤ (new a).spare
room-back place end forward old new triples are room a = room_left _ _ _ _ (are.spare a) (room a)
  where
    room_left : (new came old went : ℕ) → new + came ≡ old + went → came ≤ old → went ≤ new
    room_left new came old went e le = omega arith

-- what goes is what comes when the net is taken back
goes-back : (t : NetTriple) → comes_to false t ≡ goes t
goes-back t = flipped (t.after == 0) (nat_lt 0 t.before)
  where
    flipped : (x y : Bool) → (x && y) ≡ (y && x)
    flipped true true = refl
    flipped true false = refl
    flipped false true = refl
    flipped false false = refl

pub count_by-agree : {X : Type 0} (p q : X → Bool) → ((x : X) → p x ≡ q x) → (xs : List X) → count_by p xs ≡ count_by q xs
count_by-agree p q same xs = sym (length-filter p xs) ∙ ap length (filter_agree p q same xs) ∙ length-filter q xs

pub count_by-goes : (place : NetTriple → ℕ) (a : ℕ) (triples : List NetTriple)
    → count_by (λ t. (place t == a) && comes_to false t) triples ≡ count_by (λ t. (place t == a) && goes t) triples
count_by-goes place a triples = count_by-agree (λ t. (place t == a) && comes_to false t) (λ t. (place t == a) && goes t) (λ t. ap (λ b. (place t == a) && b) (goes-back t)) triples

-- Vertices

kept-through : (parts : List Update) (x : ℕ) → ¬ (Drops parts x) → vertex_through true parts x ≡ true
kept-through [] x none = refl
kept-through (part ∷ parts) x none =
    rw (stays part (λ same. none (subst (λ (u : Update). Contains (u ∷ parts) (DelV x)) (sym same) (Contains-first (DelV x) parts))))
    (kept-through parts x (λ d. none (Contains-rest part parts (DelV x) d)))
  where
    stays : (part : Update) → ¬ (part ≡ DelV x) → vertex_after true part x ≡ true
    stays (AddV y) other = refl
    stays (DelV y) other = (let ne = ne_eqb x y (λ same. other (ap DelV (sym same))) in rw ne refl)
    stays (AddE u v w) other = refl
    stays (DelE u v w) other = refl
    stays (SetW u v w w2) other = refl

-- a vertex that a net doesn't drop stays
pub vertex-stays : (p : PlainGraph) (parts : List Update) (n : Net) (x : ℕ) → IsNet p parts n → HasVertex p x → ¬ (Contains n.dropped x) → HasVertex (entered p parts) x
vertex-stays p parts n x net has none =
    HasVertex-from_test (entered p parts) x
    (has_vertex-entered p parts x net.accepted ∙ rw (has_vertex-true p x has) (kept-through parts x (λ d. none ((net.dropped x).1 (has, d)))))

pub listed : (xs : List ℕ) (x : ℕ) → list_any (λ y. y == x) xs ≡ true → Contains xs x
listed xs x h = (let r = Contains-from_list_any (λ y. y == x) xs h in subst (Contains xs) (eqb-true r.0 x r.2) r.1)

pub unlisted : (xs : List ℕ) (x : ℕ) → list_any (λ y. y == x) xs ≡ false → ¬ (Contains xs x)
unlisted xs x h has = both_ways (list_any (λ y. y == x) xs) h (list_any-from_passing (λ y. y == x) xs x has (eq-eqb x x refl))

-- whether a vertex is in the graph after a net, by the marks of its lists
pub marked-forward : (p : PlainGraph) (parts : List Update) (n : Net) (x : ℕ) (was : Bool) → IsNet p parts n → (IsTrue was ↔ HasVertex p x)
    → IsTrue (if list_any (λ y. y == x) n.added then true else (if list_any (λ y. y == x) n.dropped then false else was)) ↔ HasVertex (entered p parts) x
marked-forward p parts n x was net before =
    elim (cases_Bool (list_any (λ y. y == x) n.added)) [
      | inl some ↦ (let has = ((net.added x).0 (listed n.added x some)).0 in rw some (λ _. has, λ _. refl))
      | inr none ↦ elim (cases_Bool (list_any (λ y. y == x) n.dropped)) [
        | inl gone ↦ (let dropped = listed n.dropped x gone in
            rw (none, gone) (λ t. absurd (cc), λ has. absurd (unlisted n.added x none ((net.added x).1 (has, inr dropped)))))
        | inr stays ↦ rw (none, stays) (
          λ t. vertex-stays p parts n x net (before.0 t) (unlisted n.dropped x stays),
          λ has. before.1 (elim (cases_Bool (has_vertex p x)) [
            | inl old ↦ HasVertex-from_test p x old
            | inr new ↦ absurd (unlisted n.added x none ((net.added x).1 (has, inl (λ old. both_ways (has_vertex p x) new (has_vertex-true p x old)))))
          ]),
        )
      ]
    ]

pub marked-back : (p : PlainGraph) (parts : List Update) (n : Net) (x : ℕ) (was : Bool) → IsNet p parts n → (IsTrue was ↔ HasVertex (entered p parts) x)
    → IsTrue (if list_any (λ y. y == x) n.dropped then true else (if list_any (λ y. y == x) n.added then false else was)) ↔ HasVertex p x
marked-back p parts n x was net before =
    elim (cases_Bool (list_any (λ y. y == x) n.dropped)) [
      | inl some ↦ (let has = ((net.dropped x).0 (listed n.dropped x some)).0 in rw some (λ _. has, λ _. refl))
      | inr none ↦ elim (cases_Bool (list_any (λ y. y == x) n.added)) [
        | inl came ↦ (let added = ((net.added x).0 (listed n.added x came)).1 in
            rw (none, came) (λ t. absurd (cc), λ has. absurd (elim added [ inl new ↦ new has | inr dropped ↦ unlisted n.dropped x none dropped ])))
        | inr stays ↦ rw (none, stays) (
          λ t. elim (cases_Bool (has_vertex p x)) [
            | inl old ↦ HasVertex-from_test p x old
            | inr new ↦ absurd (unlisted n.added x stays ((net.added x).1 (before.0 t, inl (λ old. both_ways (has_vertex p x) new (has_vertex-true p x old)))))
          ],
          λ has. before.1 (vertex-stays p parts n x net has (unlisted n.dropped x none)),
        )
      ]
    ]

-- Ends

-- the ends of a triple whose copies change are vertices before or after
pub ends-known : (p : PlainGraph) (parts : List Update) (n : Net) (t : NetTriple) → IsNet p parts n → t.before ≡ copies p t.triple → t.after ≡ copies (entered p parts) t.triple
    → t.before ≢ t.after → IsProperTriple p t.triple ⊎ IsProperTriple (entered p parts) t.triple
ends-known p parts n t net before after other =
    elim (cases_eq t.before 0) [
      | inl none ↦ (let some : 0 < copies (entered p parts) t.triple = omega arith in
          inr (All-contains (IsProperTriple (entered p parts)) (entered p parts).triples t.triple (proper-entered p parts net.proper).triples (HasTriple-copies (entered p parts) t.triple some)))
      | inr some ↦ (let has : 0 < copies p t.triple = omega arith in
          inl (All-contains (IsProperTriple p) p.triples t.triple net.proper.triples (HasTriple-copies p t.triple has)))
    ]

-- the vertices that a net adds are below the limit
pub few-added : (p : PlainGraph) (parts : List Update) (n : Net) → IsNet p parts n → All (λ x. x < vertex_limit) n.added
few-added p parts n net k d lt =
    let x = get_or n.added k d in
    let has = ((net.added x).0 (Contains-get_or n.added k d lt)).0 in
    All-contains (λ (y : ℕ). y < vertex_limit) (entered p parts).vertices x (proper-entered p parts net.proper).vertices has

-- a vertex before or after a net has its place in the tables
pub placed-before : (g : GraphView) (p : PlainGraph) (parts : List Update) (n : Net) (x : ℕ) → IsOf g p → IsNet p parts n → All (λ y. y < length g.present) n.added
    → HasVertex p x ⊎ HasVertex (entered p parts) x → x < length g.present
placed-before g p parts n x of net room has =
    elim (cases_Bool (has_vertex p x)) [
      | inl old ↦ present-lt g x ((of.vertices x).1 (HasVertex-from_test p x old))
      | inr new ↦ elim has [
        | inl old ↦ absurd (both_ways (has_vertex p x) new (has_vertex-true p x old))
        | inr now ↦ All-contains (λ (y : ℕ). y < length g.present) n.added x room ((net.added x).1 (now, inl (λ old. both_ways (has_vertex p x) new (has_vertex-true p x old))))
      ]
    ]

pub placed-after : (g : GraphView) (p : PlainGraph) (parts : List Update) (n : Net) (x : ℕ) → IsOf g (entered p parts) → IsNet p parts n → All (λ y. y < length g.present) n.dropped
    → HasVertex p x ⊎ HasVertex (entered p parts) x → x < length g.present
placed-after g p parts n x of net room has =
    elim (cases_Bool (list_any (λ y. y == x) n.dropped)) [
      | inl gone ↦ All-contains (λ (y : ℕ). y < length g.present) n.dropped x room (listed n.dropped x gone)
      | inr stays ↦ present-lt g x ((of.vertices x).1 (elim has [ inl old ↦ vertex-stays p parts n x net old (unlisted n.dropped x stays) | inr now ↦ now ]))
    ]

-- Graphs

-- the rows of a graph were gone through forwards or back, and its tables are as long as before
pub record IsTurned (g h : GraphView) (forward : Bool) (triples : List NetTriple) : Type 0 where
  pub format : h.format ≡ g.format
  pub outs : ArePut source_of target_of forward (row_of g.stripes) (row_of h.stripes) triples
  pub ins : ArePut target_of source_of forward (row_at g.ins) (row_at h.ins) triples
  pub stripes : length h.stripes ≡ length g.stripes
  pub has_rows : (u : ℕ) → HasRow g.stripes u → HasRow h.stripes u
  pub places : length h.ins ≡ length g.ins
  pub present : length h.present ≡ length g.present

pub IsSized-turned : (g h : GraphView) (forward : Bool) (triples : List NetTriple) → IsTurned g h forward triples → IsSized g → IsSized h
IsSized-turned g h forward triples t sized =
    let present = t.present in
    let places = t.places in
    let ins = sized.ins in
    let few = sized.few in
    record {
      stripes = t.stripes ∙ sized.stripes;
      outs = λ u lt. t.has_rows u (sized.outs u (omega arith));
      ins = omega arith;
      few = omega arith;
    }

pub IsOf-turned : (g h : GraphView) (forward : Bool) (from to : PlainGraph) (triples : List NetTriple) → IsOf g from → IsTurn forward from to triples
    → IsTurned g h forward triples → to.format ≡ from.format → IsProper to → ((x : ℕ) → IsTrue (vertex_in h x) ↔ HasVertex to x) → IsOf h to
IsOf-turned g h forward from to triples of turn t format proper vertices = record {
  format = format ∙ of.format ∙ sym t.format;
  proper = proper;
  vertices = vertices;
  triples = λ s. ap (λ (r : RowView). copies_of r.items s.target s.weight) (out_row-is h s.source) ∙ out_copies-turned g forward from to triples of turn (row_of h.stripes) t.outs s;
  transposed = λ s. ap (λ (r : RowView). copies_of r.items s.source s.weight) (in_row-is h s.target) ∙ in_copies-turned g forward from to triples of turn (row_at h.ins) t.ins s;
  outs = λ u. rw (out_row-is h u) (t.outs.ascending u);
  ins = λ v. rw (in_row-is h v) (t.ins.ascending v);
}

-- each triple whose copies change has its rows
has_rows : (g : GraphView) (p : PlainGraph) (parts : List Update) (n : Net) (t : NetTriple) → IsSized g → IsNet p parts n
    → ((x : ℕ) → HasVertex p x ⊎ HasVertex (entered p parts) x → x < length g.present)
    → t.before ≡ copies p t.triple → t.after ≡ copies (entered p parts) t.triple → HasRows g.stripes g.ins t
has_rows g p parts n t sized net placed before after = record {
  out = λ other. sized.outs t.triple.source (placed t.triple.source (elim (ends-known p parts n t net before after other) [ inl old ↦ inl old.source | inr now ↦ inr now.source ]));
  into = λ other. (
      let lt = placed t.triple.target (elim (ends-known p parts n t net before after other) [ inl old ↦ inl old.target | inr now ↦ inr now.target ]) in
      let ins = sized.ins in
      omega arith);
}

pub commit-rows : (g : GraphView) (p : PlainGraph) (parts : List Update) (n : Net) → IsSized g → IsOf g p → IsNet p parts n → All (λ y. y < length g.present) n.added
    → All (HasRows g.stripes g.ins) n.triples
commit-rows g p parts n sized of net room k d lt =
    has_rows g p parts n (get_or n.triples k d) sized net (λ x has. placed-before g p parts n x of net room has) (net.counted k d lt).before (net.counted k d lt).after

pub undo-rows : (g : GraphView) (p : PlainGraph) (parts : List Update) (n : Net) → IsSized g → IsOf g (entered p parts) → IsNet p parts n
    → All (λ y. y < length g.present) n.dropped → All (HasRows g.stripes g.ins) n.triples
undo-rows g p parts n sized of net room k d lt =
    has_rows g p parts n (get_or n.triples k d) sized net (λ x has. placed-after g p parts n x of net room has) (net.counted k d lt).before (net.counted k d lt).after

-- the room that was made is what is asked for
pub out_room-for : (g : GraphView) (triples : List NetTriple) → HasRowsFor g comes triples
    → (u : ℕ) → count_by (λ t. (source_of t == u) && comes_to true t) triples ≤ (row_of g.stripes u).spare
out_room-for g triples room u = rw (out_row-is g u) at (room.outs u)

pub in_room-for : (g : GraphView) (triples : List NetTriple) → HasRowsFor g comes triples
    → (v : ℕ) → count_by (λ t. (target_of t == v) && comes_to true t) triples ≤ (row_at g.ins v).spare
in_room-for g triples room v = rw (in_row-is g v) at (room.ins v)

pub out_room-back : (g : GraphView) (triples : List NetTriple) → HasRowsFor g goes triples
    → (u : ℕ) → count_by (λ t. (source_of t == u) && comes_to false t) triples ≤ (row_of g.stripes u).spare
out_room-back g triples room u = (let le = rw (out_row-is g u) at (room.outs u) in let same = count_by-goes source_of u triples in omega (arith, same))

pub in_room-back : (g : GraphView) (triples : List NetTriple) → HasRowsFor g goes triples
    → (v : ℕ) → count_by (λ t. (target_of t == v) && comes_to false t) triples ≤ (row_at g.ins v).spare
in_room-back g triples room v = (let le = rw (in_row-is g v) at (room.ins v) in let same = count_by-goes target_of v triples in omega (arith, same))

-- after a commit there is room to take it back
pub HasRowsFor-back : (g h : GraphView) (triples : List NetTriple) → IsTurned g h true triples → HasRowsFor g comes triples → HasRowsFor h goes triples
HasRowsFor-back g h triples t room = record {
  outs = λ u. (let le = room-back source_of target_of true (row_of g.stripes) (row_of h.stripes) triples t.outs (out_room-for g triples room) u in
      let same = count_by-goes source_of u triples in rw (out_row-is h u) (omega (arith, le, same)));
  ins = λ v. (let le = room-back target_of source_of true (row_at g.ins) (row_at h.ins) triples t.ins (in_room-for g triples room) v in
      let same = count_by-goes target_of v triples in rw (in_row-is h v) (omega (arith, le, same)));
}
