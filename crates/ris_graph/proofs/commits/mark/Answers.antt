use Rattle.std.proofs.Common.{◌≡◌, ◌<◌, ◌+◌, ◌==◌, ◌||◌, Bool, true, false, ℕ, if◌then◌else◌, ◌∙◌, List, length, get_or, set, take, arith, sym, inl, inr, refl, get_or-set_same, get_or-set_other}
use Rattle.std.specs.List.{list_any}
use Rattle.std.proofs.lemmas.Bool.{cases_eq, eq-eqb, ne_eqb, or_right}
use Rattle.std.proofs.lemmas.List.{length-set}
use Rattle.std.proofs.lemmas.List.Folds.{list_any_more}
use Rattle.std.proofs.lemmas.Option.{gets}
use Rattle.ris_graph.proofs.commits.mark.Goals as goal

or_nothing : (b : Bool) → (b || false) ≡ b
or_nothing true = refl
or_nothing false = refl

-- one vertex more that is marked
marked : (now : List Bool) (xs : List ℕ) (k x y : ℕ) (there was : Bool) → k < length xs → get_or xs k y ≡ y → y < length now
    → get_or now x false ≡ (if list_any (λ z. z == x) (take k xs) then there else was)
    → get_or (set now y there) x false ≡ (if list_any (λ z. z == x) (take (k + 1) xs) then there else was)
marked now xs k x y there was lt read within before =
    let some = list_any (λ z. z == x) (take k xs) in
    let more : list_any (λ z. z == x) (take (k + 1) xs) ≡ (list_any (λ z. z == x) (take k xs) || (y == x)) = rw read at (list_any_more (λ z. z == x) xs k y lt) in
    elim (cases_eq x y) [
      | inl same ↦ (let here = or_right some (y == x) (eq-eqb y x (sym same)) in
          rw (more, here, same) (get_or-set_same now y there false within))
      | inr ne ↦ (let other = ne_eqb y x (λ q. ne (sym q)) in
          rw (more, other, or_nothing some) (get_or-set_other now y x there false ne ∙ before))
    ]

pub loop-k-preserved : goal.loop-k-preserved
loop-k-preserved c =
    let y = c.at-x.result.now in
    let lt : c.loop-k.k < length c.args.vertices.now = (let test = c.loop-k-test.true in omega arith) in
    let read : get_or c.args.vertices.now c.loop-k.k c.at-x.result.now ≡ c.at-x.result.now = grind (arith, gets) in
    let places = c.loop-k.invariant.places in
    let low : get_or c.args.vertices.now c.loop-k.k c.at-x.result.now < length c.args.present.now.items = c.requires c.loop-k.k y lt in
    let within : c.at-x.result.now < length c.loop-k.present.items = omega (arith, read) in
    record {
      places = length-set c.loop-k.present.items y c.args.there ∙ c.loop-k.invariant.places;
      marked = λ x. marked c.loop-k.present.items c.args.vertices.now c.loop-k.k x y c.args.there _ lt read within (c.loop-k.invariant.marked x);
    }
