-- That a vertex number has one value.
use Rattle.std.proofs.Common.{◌≡◌, ◌≢◌, ℕ, ◌↔◌, refl, ap, ◌∙◌}
use Rattle.ris_base.specs.Forest.{Forest, IsForest}
use Rattle.ris_base.specs.Value.{IsValue, IsBestWorth, Moves}
use Rattle.ris_base.specs.declared.graphs.PlainGraph.{PlainGraph}
use Rattle.ris_base.specs.declared.analyses.Spec.{Spec}
use Rattle.ris_base.specs.declared.analyses.Value.{Value}
use Rattle.ris_base.specs.declared.analyses.Value.TheVariants.{Absent, Unreached, Num}
use Rattle.ris_algo.proofs.Four.{laws_of, meaning_of}
use Rattle.ris_algo.proofs.Meaning.{not_better}

-- two best worths are the same
best_unique : (g : PlainGraph) (spec : Spec) (x c d : ℕ) → IsBestWorth g spec x c → IsBestWorth g spec x d → c ≡ d
best_unique g spec x c d one two =
    let meaning = meaning_of g spec in
    (laws_of g spec).total c d
    (not_better meaning c d (rw one.some.2 at (two.best one.some.0 one.some.1)))
    (not_better meaning d c (rw two.some.2 at (one.best two.some.0 two.some.1)))

-- two values of a vertex number are the same
pub value_unique : (g : PlainGraph) (spec : Spec) (x : ℕ) (a b : Value) → IsValue g spec x a → IsValue g spec x b → a ≡ b
value_unique g spec x Absent Absent h k = refl
value_unique g spec x Absent Unreached h k = absurd (h k.0)
value_unique g spec x Absent (Num d) h k = absurd (h k.0)
value_unique g spec x Unreached Absent h k = absurd (k h.0)
value_unique g spec x Unreached Unreached h k = refl
value_unique g spec x Unreached (Num d) h k = absurd (h.1 k.1.some.0 k.1.some.1)
value_unique g spec x (Num c) Absent h k = absurd (k h.0)
value_unique g spec x (Num c) Unreached h k = absurd (k.1 h.1.some.0 h.1.some.1)
value_unique g spec x (Num c) (Num d) h k = ap Num (best_unique g spec x c d h.1 k.1)

-- no value differs between a graph and itself
pub Moves-none : (g : PlainGraph) (spec : Spec) (x : ℕ) → ¬ (Moves g g spec x)
Moves-none g spec x m = m.differs (value_unique g spec x m.old m.new m.was m.is)

-- two right forests of one graph and analysis have the same values
pub values_agree : (g : PlainGraph) (spec : Spec) (F G : Forest) → IsForest g spec F → IsForest g spec G → (x : ℕ) → F.value x ≡ G.value x
values_agree g spec F G one two x = value_unique g spec x (F.value x) (G.value x) (one.values x) (two.values x)

-- a value differs between two graphs exactly where it differs between right forests of them
pub Moves-forests : (g h : PlainGraph) (spec : Spec) (F G : Forest) → IsForest g spec F → IsForest h spec G → (x : ℕ)
    → Moves g h spec x ↔ (F.value x ≢ G.value x)
Moves-forests g h spec F G before after x = (
  λ m same. m.differs (value_unique g spec x m.old (F.value x) m.was (before.values x) ∙ same ∙ value_unique h spec x (G.value x) m.new (after.values x) m.is),
  λ differs. record { old = F.value x; new = G.value x; was = before.values x; is = after.values x; differs = differs },
)
