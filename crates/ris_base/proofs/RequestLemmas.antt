-- What requests do: part by part, to the graph as a whole, and along the serial list.
use Rattle.std.proofs.Common.{◌≡◌, ℕ, zero, suc, ◌+◌, ◌==◌, Bool, true, false, List, [], ◌∷◌, Option, Some, None, Result, Ok, Err, refl, sym, subst, ap, ◌∙◌}
use Rattle.std.specs.List.{Contains}
use Rattle.std.specs.Result.{result_err, result_unwrap_or}
use Rattle.ris_base.specs.Effect.{Objection, does, changed}
use Rattle.std.proofs.lemmas.Bool.{ne_eqb}
use Rattle.ris_base.specs.Falling.{Drops}
use Rattle.ris_base.specs.Graph.{HasVertex, IsProper, copies, has_vertex}
use Rattle.ris_base.specs.Requests.{RefusedPart, does_from, refusal_of, entered, after}
use Rattle.ris_base.specs.declared.graphs.PlainGraph.{PlainGraph}
use Rattle.ris_base.specs.declared.graphs.Triple.{Triple}
use Rattle.ris_base.specs.declared.updates.Update.{Update}
use Rattle.ris_base.specs.declared.updates.Update.TheVariants.{AddV, DelV, AddE, DelE, SetW}
use Rattle.ris_base.specs.declared.lines.Line.{Line}
use Rattle.ris_base.specs.declared.lines.Line.TheVariants.{Entry, Mark, Leave}
use Rattle.ris_base.proofs.EffectLemmas.{does-accepted, copies_after, copies-changed, vertex_after, has_vertex-changed, has_vertex-true, HasVertex-from_test, format-changed, proper-does}
use Rattle.ris_base.proofs.ListLemmas.{Contains-first, Contains-rest}

-- Part by part

-- no parts change nothing
pub does_from-none : (k : ℕ) (g : PlainGraph) → does_from k g [] ≡ Ok g
unfolding does_from
does_from-none k g = refl

-- a part that is accepted leaves the others to the graph after it
pub does_from-accepted : (k : ℕ) (g h : PlainGraph) (part : Update) (parts : List Update) → does g part ≡ Ok h
    → does_from k g (part ∷ parts) ≡ does_from (k + 1) h parts
unfolding does_from
does_from-accepted k g h part parts e = rw (does_from, e) refl

-- a part that is refused decides
pub does_from-refused : (k : ℕ) (g : PlainGraph) (part : Update) (parts : List Update) (why : Objection) → does g part ≡ Err why
    → does_from k g (part ∷ parts) ≡ Err (record { part = k; why = why })
unfolding does_from
does_from-refused k g part parts why e = rw (does_from, e) refl

-- what each accepted part keeps, an accepted request keeps
pub does_from-keeps : (P : PlainGraph → Type 0) → ((g h : PlainGraph) (part : Update) → P g → does g part ≡ Ok h → P h)
    → (k : ℕ) (g h : PlainGraph) (parts : List Update) → P g → does_from k g parts ≡ Ok h → P h
unfolding does_from
does_from-keeps P each k g h [] start e = subst P (let same : g ≡ h = cc in same) start
does_from-keeps P each k g h (part ∷ parts) start e = go (does g part) refl e (λ mid p rest. does_from-keeps P each (k + 1) mid h parts p rest)
  where
    go : (r : Result PlainGraph Objection) → does g part ≡ r
        → ◌≡◌ {A = Result PlainGraph RefusedPart} (elim r [ Ok mid ↦ does_from (k + 1) mid parts | Err why ↦ Err (record { part = k; why = why }) ]) (Ok h)
        → ((mid : PlainGraph) → P mid → does_from (k + 1) mid parts ≡ Ok h → P h) → P h
    go (Ok mid) is rest more = more mid (each g mid part start is) rest
    go (Err why) is rest more = absurd (cc)

-- The request as a whole

-- the graph after a request that is accepted
pub entered-accepted : (g h : PlainGraph) (parts : List Update) → does_from 1 g parts ≡ Ok h → entered g parts ≡ h
entered-accepted g h parts e = rw e refl

-- a request that is refused changes nothing
pub entered-refused : (g : PlainGraph) (parts : List Update) (p : RefusedPart) → refusal_of g parts ≡ Some p → entered g parts ≡ g
entered-refused g parts p e = go (does_from 1 g parts) e
  where
    go : (r : Result PlainGraph RefusedPart) → result_err r ≡ Some p → result_unwrap_or r g ≡ g
    go (Ok h) k = absurd (cc)
    go (Err q) k = refl

-- what each accepted part keeps, every request keeps
pub entered-keeps : (P : PlainGraph → Type 0) → ((g h : PlainGraph) (part : Update) → P g → does g part ≡ Ok h → P h)
    → (g : PlainGraph) (parts : List Update) → P g → P (entered g parts)
entered-keeps P each g parts start = go (does_from 1 g parts) refl
  where
    go : (r : Result PlainGraph RefusedPart) → does_from 1 g parts ≡ r → P (result_unwrap_or r g)
    go (Ok h) e = does_from-keeps P each 1 g h parts start e
    go (Err p) e = start

-- every request keeps a graph proper
pub proper-entered : (g : PlainGraph) (parts : List Update) → IsProper g → IsProper (entered g parts)
proper-entered = entered-keeps IsProper proper-does

-- and its format
pub format-entered : (g : PlainGraph) (parts : List Update) → (entered g parts).format ≡ g.format
format-entered g parts =
    entered-keeps (λ h. h.format ≡ g.format)
    (λ h now part same e. ap (λ (n : PlainGraph). n.format) (sym (does-accepted h now part e).1) ∙ format-changed h part ∙ same) g parts refl

-- the graph after a request of one part
pub entered-one : (g h : PlainGraph) (part : Update) → does g part ≡ Ok h → entered g (part ∷ []) ≡ h
entered-one g h part e = entered-accepted g h (part ∷ []) (does_from-accepted 1 g h part [] e ∙ does_from-none 2 h)

-- a request of one part is accepted where that part is
pub refusal_of-one : (g h : PlainGraph) (part : Update) → does g part ≡ Ok h → refusal_of g (part ∷ []) ≡ None
refusal_of-one g h part e = ap result_err (does_from-accepted 1 g h part [] e ∙ does_from-none 2 h)

-- and refused where that part is refused
pub refusal_of-one_refused : (g : PlainGraph) (part : Update) (why : Objection) → does g part ≡ Err why
    → refusal_of g (part ∷ []) ≡ Some (record { part = 1; why = why })
refusal_of-one_refused g part why e = ap result_err (does_from-refused 1 g part [] why e)

-- Copies and vertices

-- how many copies of a triple the parts leave of so many, one after another
abbrev pub copies_through : ℕ → List Update → Triple → ℕ
copies_through n [] t = n
copies_through n (part ∷ parts) t = copies_through (copies_after n part t) parts t

-- whether the parts leave a vertex, by whether it was there
abbrev pub vertex_through : Bool → List Update → ℕ → Bool
vertex_through had [] x = had
vertex_through had (part ∷ parts) x = vertex_through (vertex_after had part x) parts x

-- a measure of graphs that each accepted part changes by a step is changed by an accepted request step by step
through : {A : Type 0} (measure : PlainGraph → A) (next : A → Update → A) (all : A → List Update → A)
    → ((a : A) → all a [] ≡ a) → ((a : A) (part : Update) (parts : List Update) → all a (part ∷ parts) ≡ all (next a part) parts)
    → ((g : PlainGraph) (part : Update) → measure (changed g part) ≡ next (measure g) part)
    → (k : ℕ) (g h : PlainGraph) (parts : List Update) → does_from k g parts ≡ Ok h → measure h ≡ all (measure g) parts
unfolding does_from
through measure next all none more each k g h [] e = ap measure (let same : h ≡ g = cc in same) ∙ sym (none (measure g))
through measure next all none more each k g h (part ∷ parts) e =
    go (does g part) refl e (λ mid rest. through measure next all none more each (k + 1) mid h parts rest)
  where
    go : (r : Result PlainGraph Objection) → does g part ≡ r
        → ◌≡◌ {A = Result PlainGraph RefusedPart} (elim r [ Ok mid ↦ does_from (k + 1) mid parts | Err why ↦ Err (record { part = k; why = why }) ]) (Ok h)
        → ((mid : PlainGraph) → does_from (k + 1) mid parts ≡ Ok h → measure h ≡ all (measure mid) parts) → measure h ≡ all (measure g) (part ∷ parts)
    go (Ok mid) is rest then' =
        then' mid rest ∙ ap (λ a. all a parts) (ap measure (sym (does-accepted g mid part is).1) ∙ each g part) ∙ sym (more (measure g) part parts)
    go (Err why) is rest then' = absurd (cc)

-- an accepted request leaves the graph of its parts
pub does_from-entered : (g : PlainGraph) (parts : List Update) → refusal_of g parts ≡ None → does_from 1 g parts ≡ Ok (entered g parts)
does_from-entered g parts e = go (does_from 1 g parts) e
  where
    go : (r : Result PlainGraph RefusedPart) → result_err r ≡ None → r ≡ Ok (result_unwrap_or r g)
    go (Ok h) k = refl
    go (Err p) k = absurd (cc)

-- the copies of a triple after an accepted request are those that the parts leave
pub copies-entered : (g : PlainGraph) (parts : List Update) (t : Triple) → refusal_of g parts ≡ None
    → copies (entered g parts) t ≡ copies_through (copies g t) parts t
copies-entered g parts t e =
    through (λ h. copies h t) (λ n part. copies_after n part t) (λ n rest. copies_through n rest t) (λ n. refl) (λ n part rest. refl)
    (λ h part. copies-changed h part t) 1 g (entered g parts) parts (does_from-entered g parts e)

-- and so are the vertices
pub has_vertex-entered : (g : PlainGraph) (parts : List Update) (x : ℕ) → refusal_of g parts ≡ None
    → has_vertex (entered g parts) x ≡ vertex_through (has_vertex g x) parts x
has_vertex-entered g parts x e =
    through (λ h. has_vertex h x) (λ had part. vertex_after had part x) (λ had rest. vertex_through had rest x) (λ had. refl) (λ had part rest. refl)
    (λ h part. has_vertex-changed h part x) 1 g (entered g parts) parts (does_from-entered g parts e)

-- a vertex that no part drops stays
kept_through : (parts : List Update) (x : ℕ) → ¬ (Drops parts x) → vertex_through true parts x ≡ true
kept_through [] x none = refl
kept_through (AddV y ∷ parts) x none = kept_through parts x (λ h. none (Contains-rest (AddV y) parts (DelV x) h))
kept_through (DelV y ∷ parts) x none =
    let other : (x == y) ≡ false = ne_eqb x y (λ same. none (subst (λ n. Contains (DelV y ∷ parts) (DelV n)) (sym same) (Contains-first (DelV y) parts))) in
    rw other (kept_through parts x (λ h. none (Contains-rest (DelV y) parts (DelV x) h)))
kept_through (AddE u v w ∷ parts) x none = kept_through parts x (λ h. none (Contains-rest (AddE u v w) parts (DelV x) h))
kept_through (DelE u v w ∷ parts) x none = kept_through parts x (λ h. none (Contains-rest (DelE u v w) parts (DelV x) h))
kept_through (SetW u v w w2 ∷ parts) x none = kept_through parts x (λ h. none (Contains-rest (SetW u v w w2) parts (DelV x) h))

-- so a vertex of the graph that no part drops is one after the request
pub HasVertex-kept : (g : PlainGraph) (parts : List Update) (x : ℕ) → ¬ (Drops parts x) → HasVertex g x → HasVertex (entered g parts) x
HasVertex-kept g parts x none has = go (refusal_of g parts) refl
  where
    go : (o : Option RefusedPart) → refusal_of g parts ≡ o → HasVertex (entered g parts) x
    go None e =
        HasVertex-from_test (entered g parts) x
        (has_vertex-entered g parts x e ∙ ap (λ b. vertex_through b parts x) (has_vertex-true g x has) ∙ kept_through parts x none)
    go (Some p) e = subst (λ (n : PlainGraph). HasVertex n x) (sym (entered-refused g parts p e)) has

-- The serial list

-- what each request keeps, the list keeps
pub after-keeps : (P : PlainGraph → Type 0) → ((g : PlainGraph) (parts : List Update) → P g → P (entered g parts))
    → (g : PlainGraph) (lines : List Line) (v : ℕ) → P g → P (after g lines v)
unfolding after
after-keeps P each g [] v start = start
after-keeps P each g (Entry e ∷ lines) zero start = start
after-keeps P each g (Entry e ∷ lines) (suc v) start = after-keeps P each (entered g e.parts) lines v (each g e.parts start)
after-keeps P each g (Mark session seq upto ∷ lines) v start = after-keeps P each g lines v start
after-keeps P each g (Leave session seq ∷ lines) v start = after-keeps P each g lines v start

-- the graph after any part of the list is proper where the first one is
pub proper-after : (g : PlainGraph) (lines : List Line) (v : ℕ) → IsProper g → IsProper (after g lines v)
proper-after = after-keeps IsProper proper-entered

-- and has its format
pub format-after : (g : PlainGraph) (lines : List Line) (v : ℕ) → (after g lines v).format ≡ g.format
format-after g lines v = after-keeps (λ h. h.format ≡ g.format) (λ h parts same. format-entered h parts ∙ same) g lines v refl
