use Rattle.std.proofs.Common.{◌≡◌, ◌<◌, ◌+◌, ℕ, suc, List, length, get_or, set, take, arith, sym, subst, ap, ◌∙◌}
use Rattle.std.proofs.lemmas.Option.{get_or_from_slice_get}
use Rattle.ris_forest.specs.declared.deltas.DeltaRow.{DeltaRow}
use Rattle.ris_analysis.specs.AnyForest.{cells_of, with_delta}
use Rattle.ris_analysis.specs.Analyses.{committed_all}
use Rattle.ris_analysis.specs.Repairing.{CanCommitOne}
use Rattle.ris_analysis.specs.declared.kinds.AnyForest.{AnyForest}
use Rattle.ris_analysis.proofs.CommitLemmas.{committed_all-none, length-committed_all, committed_all-at, committed_all-suc}
use Rattle.ris_analysis.proofs.PairLemmas.{EachPair-length, EachPair-at}
use Rattle.ris_analysis.proofs.lists.commit.Goals as goal

-- one that is read behind the deltas is as before
unchanged : (ones items : List AnyForest) (deltas : List (List DeltaRow)) (k : ℕ) (one : AnyForest) → items ≡ committed_all ones (take k deltas)
    → one ≡ get_or items k one → get_or ones k one ≡ one
unchanged ones items deltas k one is read =
    sym (committed_all-at ones deltas k one) ∙ ap (λ (l : List AnyForest). get_or l k one) (sym is) ∙ sym read

pub loop-k-init : goal.loop-k-init
loop-k-init c = sym (committed_all-none c.args.forests.now.items)

pub index_mut-requires : goal.index_mut-requires
index_mut-requires c =
    let same = ap length c.loop-k.invariant in
    let size = length-committed_all c.args.forests.now.items (take c.loop-k.k c.args.deltas.now) in
    let pairs = EachPair-length (λ (one : AnyForest) (delta : List DeltaRow). CanCommitOne (cells_of one) delta) c.args.forests.now.items c.args.deltas.now c.requires in
    let ok = c.loop-k.forests.ok.0 in
    omega arith

pub commit-requires : goal.commit-requires
commit-requires c =
    let ones = c.args.forests.now.items in
    let deltas = c.args.deltas.now in
    let k = c.loop-k.k in
    let one = c.index_mut.result.now in
    let delta = c.at.result.now in
    let R = λ (o : AnyForest) (rows : List DeltaRow). CanCommitOne (cells_of o) rows in
    let pairs = EachPair-length R c.args.forests.now.items c.args.deltas.now c.requires in
    let less : c.loop-k.k < length c.args.forests.now.items = omega arith in
    subst (λ (o : AnyForest). R o delta) (unchanged ones c.loop-k.forests.items deltas k one c.loop-k.invariant c.index_mut.ensures.value)
    (subst (λ (rows : List DeltaRow). R (get_or ones k one) rows) (get_or_from_slice_get deltas k delta delta c.at.ensures) (EachPair-at R ones deltas k one delta c.requires less))

pub loop-k-preserved : goal.loop-k-preserved
loop-k-preserved c =
    let ones = c.args.forests.now.items in
    let deltas = c.args.deltas.now in
    let k = c.loop-k.k in
    let one = c.index_mut.result.now in
    let delta = c.at.result.now in
    let pairs = EachPair-length (λ (o : AnyForest) (rows : List DeltaRow). CanCommitOne (cells_of o) rows) c.args.forests.now.items c.args.deltas.now c.requires in
    let within : c.loop-k.k < length c.args.forests.now.items = omega arith in
    let less : c.loop-k.k < length c.args.deltas.now = omega arith in
    let next : suc c.loop-k.k ≡ c.loop-k.k + 1 = omega arith in
    ap (λ (l : List AnyForest). set l k c.commit.new.self) c.loop-k.invariant
    ∙ ap (set (committed_all ones (take k deltas)) k) (c.commit.ensures
    ∙ ap (λ (o : AnyForest). with_delta o delta) (sym (unchanged ones c.loop-k.forests.items deltas k one c.loop-k.invariant c.index_mut.ensures.value))
    ∙ ap (with_delta (get_or ones k one)) (sym (get_or_from_slice_get deltas k delta delta c.at.ensures)))
    ∙ sym (committed_all-suc ones deltas k one delta within less)
    ∙ ap (λ n. committed_all ones (take n deltas)) next
