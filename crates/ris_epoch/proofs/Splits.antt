-- How a batch splits: request after request, and what holds of the parts.
use Rattle.std.proofs.Common.{◌≡◌, ℕ, ◌⊎◌, inl, inr, Bool, true, false, List, [], ◌∷◌, ◌++◌, map, refl, sym, subst, ap, ◌∙◌, append_assoc}
use Rattle.std.specs.List.{Contains}
use Rattle.std.proofs.lemmas.List.{append-nil}
use Rattle.std.proofs.lemmas.List.Elements.{Contains-append_cases, Contains-append_left, Contains-append_right}
use Rattle.ris_base.specs.Graph.{EachOnce}
use Rattle.ris_base.specs.Machine.{session_by}
use Rattle.ris_base.specs.declared.lines.Entry.{Entry}
use Rattle.ris_base.specs.declared.requests.Request.{Request}
use Rattle.ris_base.specs.declared.requests.Request.TheVariants as request
use Rattle.ris_base.proofs.ListLemmas.{Contains-cases, Contains-first, Contains-none, Contains-rest, EachOnce-cons, EachOnce-head, EachOnce-tail}
use Rattle.ris_epoch.specs.Account.{IsSplit}
use Rattle.ris_epoch.proofs.Stands.{Contains-map, Contains-mapped}

-- Steps

-- one split behind another
pub split-append : (test : Request → Bool) (xs ys : List Request) (w v : List Entry) (c d : List Entry) (o p : List Request)
    → IsSplit test xs w c o → IsSplit test ys v d p → IsSplit test (xs ++ ys) (w ++ v) (c ++ d) (o ++ p)
unfolding IsSplit
split-append test [] ys w v c d o p h k =
    subst (λ (x : List Entry). IsSplit test ys (x ++ v) (c ++ d) (o ++ p)) (sym h.0)
    (subst (λ (x : List Entry). IsSplit test ys v (x ++ d) (o ++ p)) (sym h.1)
    (subst (λ (x : List Request). IsSplit test ys v d (x ++ p)) (sym h.2) k))
split-append test (r ∷ xs) ys w v c d o p (inl h) k =
    inl (h.0, h.1 ++ v, h.2, h.3, ap (λ (x : List Entry). x ++ v) h.4, split-append test xs ys h.1 v c d o p h.5 k)
split-append test (r ∷ xs) ys w v c d o p (inr (inl h)) k =
    inr (inl (h.0, h.1 ++ d, h.2, h.3, ap (λ (x : List Entry). x ++ d) h.4, split-append test xs ys w v h.1 d o p h.5 k))
split-append test (r ∷ xs) ys w v c d o p (inr (inr h)) k =
    inr (inr (h.0 ++ p, h.1, ap (λ (x : List Request). x ++ p) h.2, split-append test xs ys w v c d h.0 p h.3 k))

-- nothing is split
pub split-none : (test : Request → Bool) → IsSplit test [] [] [] []
unfolding IsSplit
split-none test = (refl, refl, refl)

-- one more candidate, which gets no memory
pub split-want : (test : Request → Bool) (batch : List Request) (w c : List Entry) (o : List Request) (e : Entry) → IsSplit test batch w c o
    → test (request.Submit e) ≡ true → IsSplit test (batch ++ request.Submit e ∷ []) (w ++ e ∷ []) c o
unfolding IsSplit
split-want test batch w c o e h is =
    subst (λ (x : List Entry). IsSplit test (batch ++ request.Submit e ∷ []) (w ++ e ∷ []) x o) (append-nil c)
    (subst (λ (x : List Request). IsSplit test (batch ++ request.Submit e ∷ []) (w ++ e ∷ []) (c ++ []) x) (append-nil o)
    (split-append test batch (request.Submit e ∷ []) w (e ∷ []) c [] o [] h (inl (e, [], refl, is, refl, (refl, refl, refl)))))

-- one more candidate, which cells decide
pub split-candidate : (test : Request → Bool) (batch : List Request) (w c : List Entry) (o : List Request) (e : Entry) → IsSplit test batch w c o
    → test (request.Submit e) ≡ true → IsSplit test (batch ++ request.Submit e ∷ []) w (c ++ e ∷ []) o
unfolding IsSplit
split-candidate test batch w c o e h is =
    subst (λ (x : List Entry). IsSplit test (batch ++ request.Submit e ∷ []) x (c ++ e ∷ []) o) (append-nil w)
    (subst (λ (x : List Request). IsSplit test (batch ++ request.Submit e ∷ []) (w ++ []) (c ++ e ∷ []) x) (append-nil o)
    (split-append test batch (request.Submit e ∷ []) w [] c (e ∷ []) o [] h (inr (inl (e, [], refl, is, refl, (refl, refl, refl))))))

-- one more request that is no candidate
pub split-other : (test : Request → Bool) (batch : List Request) (w c : List Entry) (o : List Request) (r : Request) → IsSplit test batch w c o
    → test r ≡ false → IsSplit test (batch ++ r ∷ []) w c (o ++ r ∷ [])
unfolding IsSplit
split-other test batch w c o r h is =
    subst (λ (x : List Entry). IsSplit test (batch ++ r ∷ []) x c (o ++ r ∷ [])) (append-nil w)
    (subst (λ (x : List Entry). IsSplit test (batch ++ r ∷ []) (w ++ []) x (o ++ r ∷ [])) (append-nil c)
    (split-append test batch (r ∷ []) w [] c [] o (r ∷ []) h (inr (inr ([], is, refl, (refl, refl, refl))))))

-- The parts

-- the requests that entries are
abbrev pub submits : List Entry → List Request
submits entries = map (λ e. request.Submit e) entries

-- all parts of a split
abbrev pub parts_of : List Entry → List Entry → List Request → List Request
parts_of w c o = submits w ++ (submits c ++ o)

-- an item put into a list stands there with those that were there
put-in : {X : Type 0} (xs ys : List X) (x z : X) → Contains (xs ++ x ∷ ys) z → (x ≡ z) ⊎ Contains (xs ++ ys) z
put-in xs ys x z h = elim (Contains-append_cases xs (x ∷ ys) z h) [
  | inl left ↦ inr (Contains-append_left xs ys z left)
  | inr more ↦ elim (Contains-cases x ys z more) [ inl first ↦ inl first | inr right ↦ inr (Contains-append_right xs ys z right) ]
]

-- the item put in stands there
put-here : {X : Type 0} (xs ys : List X) (x : X) → Contains (xs ++ x ∷ ys) x
put-here xs ys x = Contains-append_right xs (x ∷ ys) x (Contains-first x ys)

-- and so do the others
put-there : {X : Type 0} (xs ys : List X) (x z : X) → Contains (xs ++ ys) z → Contains (xs ++ x ∷ ys) z
put-there xs ys x z h = elim (Contains-append_cases xs ys z h) [
  | inl left ↦ Contains-append_left xs (x ∷ ys) z left
  | inr right ↦ Contains-append_right xs (x ∷ ys) z (Contains-rest x ys z right)
]

-- a new key may be put into keys that stand once
put-once : {X : Type 0} (f : X → ℕ) (xs ys : List X) (x : X) → ¬ (Contains (map f (xs ++ ys)) (f x)) → EachOnce (map f (xs ++ ys)) → EachOnce (map f (xs ++ x ∷ ys))
put-once f [] ys x new once = EachOnce-cons (f x) (map f ys) new once
put-once f (m ∷ xs) ys x new once =
    EachOnce-cons (f m) (map f (xs ++ x ∷ ys))
    (λ h. (let z = Contains-map f (xs ++ x ∷ ys) (f m) h in
    elim (put-in xs ys x z.0 z.1) [
      | inl same ↦ new (subst (λ (n : ℕ). Contains (f m ∷ map f (xs ++ ys)) n) (sym (ap f same ∙ z.2)) (Contains-first (f m) (map f (xs ++ ys))))
      | inr old ↦ EachOnce-head (f m) (map f (xs ++ ys)) once (subst (λ (n : ℕ). Contains (map f (xs ++ ys)) n) z.2 (Contains-mapped f (xs ++ ys) z.0 old))
    ]))
    (put-once f xs ys x (λ h. new (Contains-rest (f m) (map f (xs ++ ys)) (f x) h)) (EachOnce-tail (f m) (map f (xs ++ ys)) once))

-- the parts of a split have the requests of the batch, each once, those of the first two being candidates
pub record ArePartsOf (test : Request → Bool) (batch : List Request) (w c : List Entry) (o : List Request) : Type 0 where
  pub to : (r : Request) → Contains batch r → Contains (parts_of w c o) r
  pub from : (r : Request) → Contains (parts_of w c o) r → Contains batch r
  pub once : EachOnce (map session_by batch) → EachOnce (map session_by (parts_of w c o))
  pub wanting : (e : Entry) → Contains w e → test (request.Submit e) ≡ true
  pub candidates : (e : Entry) → Contains c e → test (request.Submit e) ≡ true
  pub others : (r : Request) → Contains o r → test r ≡ false

-- one request more in front, put somewhere into the parts
record IsPutIn (r : Request) (batch : List Request) (xs ys : List Request) : Type 0 where
  to : (z : Request) → Contains (r ∷ batch) z → Contains (xs ++ r ∷ ys) z
  from : (z : Request) → Contains (xs ++ r ∷ ys) z → Contains (r ∷ batch) z
  once : EachOnce (map session_by (r ∷ batch)) → EachOnce (map session_by (xs ++ r ∷ ys))

-- one more request is put in
is-put : (r : Request) (batch xs ys : List Request) → ((z : Request) → Contains batch z → Contains (xs ++ ys) z) → ((z : Request) → Contains (xs ++ ys) z → Contains batch z)
    → (EachOnce (map session_by batch) → EachOnce (map session_by (xs ++ ys))) → IsPutIn r batch xs ys
is-put r batch xs ys to from once = record {
  to = λ z h. elim (Contains-cases r batch z h) [
    | inl first ↦ subst (λ (x : Request). Contains (xs ++ r ∷ ys) x) first (put-here xs ys r)
    | inr later ↦ put-there xs ys r z (to z later)
  ];
  from = λ z h. elim (put-in xs ys r z h) [
    | inl first ↦ subst (λ (x : Request). Contains (r ∷ batch) x) first (Contains-first r batch)
    | inr later ↦ Contains-rest r batch z (from z later)
  ];
  once = λ all. put-once session_by xs ys r
      (λ h. (let z = Contains-map session_by (xs ++ ys) (session_by r) h in
      EachOnce-head (session_by r) (map session_by batch) all (subst (λ (n : ℕ). Contains (map session_by batch) n) z.2 (Contains-mapped session_by batch z.0 (from z.0 z.1)))))
      (once (EachOnce-tail (session_by r) (map session_by batch) all));
}

-- a test that an item in front passes, and all others
first-too : {X : Type 0} (P : X → Type 0) (x : X) (xs : List X) → P x → ((y : X) → Contains xs y → P y) → (y : X) → Contains (x ∷ xs) y → P y
first-too P x xs here rest y h = elim (Contains-cases x xs y h) [ inl first ↦ subst P first here | inr later ↦ rest y later ]

-- the parts of a split are parts of its batch
pub parts-of : (test : Request → Bool) (batch : List Request) (w c : List Entry) (o : List Request) → IsSplit test batch w c o → ArePartsOf test batch w c o
unfolding IsSplit
parts-of test [] w c o h =
    subst (λ (x : List Entry). ArePartsOf test [] x c o) (sym h.0)
    (subst (λ (x : List Entry). ArePartsOf test [] [] x o) (sym h.1)
    (subst (λ (x : List Request). ArePartsOf test [] [] [] x) (sym h.2) (record {
      to = λ r at. at;
      from = λ r at. at;
      once = λ all. all;
      wanting = λ e at. absurd (Contains-none e at);
      candidates = λ e at. absurd (Contains-none e at);
      others = λ r at. absurd (Contains-none r at);
    })))
parts-of test (r ∷ batch) w c o (inl h) =
    let e : Entry = h.0 in
    let more = parts-of test batch h.1 c o h.5 in
    let its = is-put r batch [] (parts_of h.1 c o) more.to more.from more.once in
    let all : parts_of w c o ≡ r ∷ parts_of h.1 c o =
    ap (λ (x : List Entry). parts_of x c o) h.4 ∙ ap (λ (x : Request). x ∷ parts_of h.1 c o) (sym h.2) in
    let is : test (request.Submit e) ≡ true = ap test (sym h.2) ∙ h.3 in
    record {
      to = λ z at. subst (λ (xs : List Request). Contains xs z) (sym all) (its.to z at);
      from = λ z at. its.from z (subst (λ (xs : List Request). Contains xs z) all at);
      once = λ single. subst (λ (xs : List Request). EachOnce (map session_by xs)) (sym all) (its.once single);
      wanting = subst (λ (xs : List Entry). (y : Entry) → Contains xs y → test (request.Submit y) ≡ true) (sym h.4)
          (first-too (λ (y : Entry). test (request.Submit y) ≡ true) e h.1 is more.wanting);
      candidates = more.candidates;
      others = more.others;
    }
parts-of test (r ∷ batch) w c o (inr (inl h)) =
    let e : Entry = h.0 in
    let more = parts-of test batch w h.1 o h.5 in
    let its = is-put r batch (submits w) (submits h.1 ++ o) more.to more.from more.once in
    let all : parts_of w c o ≡ submits w ++ (r ∷ submits h.1 ++ o) =
    ap (λ (x : List Entry). parts_of w x o) h.4 ∙ ap (λ (x : Request). submits w ++ (x ∷ submits h.1 ++ o)) (sym h.2) in
    let is : test (request.Submit e) ≡ true = ap test (sym h.2) ∙ h.3 in
    record {
      to = λ z at. subst (λ (xs : List Request). Contains xs z) (sym all) (its.to z at);
      from = λ z at. its.from z (subst (λ (xs : List Request). Contains xs z) all at);
      once = λ single. subst (λ (xs : List Request). EachOnce (map session_by xs)) (sym all) (its.once single);
      wanting = more.wanting;
      candidates = subst (λ (xs : List Entry). (y : Entry) → Contains xs y → test (request.Submit y) ≡ true) (sym h.4)
          (first-too (λ (y : Entry). test (request.Submit y) ≡ true) e h.1 is more.candidates);
      others = more.others;
    }
parts-of test (r ∷ batch) w c o (inr (inr h)) =
    let more = parts-of test batch w c h.0 h.3 in
    let old : parts_of w c h.0 ≡ (submits w ++ submits c) ++ h.0 = sym (append_assoc (submits w) (submits c) h.0) in
    let its = is-put r batch (submits w ++ submits c) h.0
    (λ z at. subst (λ (xs : List Request). Contains xs z) old (more.to z at))
    (λ z at. more.from z (subst (λ (xs : List Request). Contains xs z) (sym old) at))
    (λ single. subst (λ (xs : List Request). EachOnce (map session_by xs)) old (more.once single)) in
    let all : parts_of w c o ≡ (submits w ++ submits c) ++ r ∷ h.0 = ap (λ (x : List Request). parts_of w c x) h.2 ∙ sym (append_assoc (submits w) (submits c) (r ∷ h.0)) in
    record {
      to = λ z at. subst (λ (xs : List Request). Contains xs z) (sym all) (its.to z at);
      from = λ z at. its.from z (subst (λ (xs : List Request). Contains xs z) all at);
      once = λ single. subst (λ (xs : List Request). EachOnce (map session_by xs)) (sym all) (its.once single);
      wanting = more.wanting;
      candidates = more.candidates;
      others = subst (λ (xs : List Request). (y : Request) → Contains xs y → test y ≡ false) (sym h.2)
          (first-too (λ (y : Request). test y ≡ false) r h.0 h.1 more.others);
    }
