-- What is told of bytes as pieces are taken from them or put behind them.
use Rattle.std.proofs.Common.{◌≡◌, ℕ, ◌+◌, ◌-◌, ◌≤◌, List, ◌++◌, length, take, drop, Some, None, Option, refl, sym, ◌∙◌, ap, subst, append_assoc}
use Rattle.std.proofs.lemmas.List.{take_at, length-take-le, take_rest, take-append-drop, drop-drop}
use Rattle.std.proofs.Math.Seq.{take-add}
use Rattle.std.specs.Io.KnownBytes.{prepend_known, append_known}
use Rattle.ris_io.specs.Streams.{WhereTold}

-- the first n items, copied over the front of others, and then the rest
pub front_then_rest : (xs others : List ℕ) (n : ℕ) → n ≤ length xs → take n (take n xs ++ drop n others) ++ drop n xs ≡ xs
front_then_rest xs others n h =
    ap (λ (front : List ℕ). front ++ drop n xs) (take_at (take n xs) (drop n others) n (length-take-le n xs h)) ∙ take-append-drop n xs

-- the same of the bytes from a place on
pub read_front : (left bytes old new : List ℕ) (start n : ℕ) → left ≡ drop start bytes → n ≤ length left → new ≡ take n left ++ drop n old
    → left ≡ take n new ++ drop (start + n) bytes
read_front left bytes old new start n is within copied =
    let rest : drop n left ≡ drop (start + n) bytes = ap (λ (xs : List ℕ). drop n xs) is ∙ drop-drop n start bytes in
    sym (front_then_rest left old n within)
    ∙ ap (λ (xs : List ℕ). take n xs ++ drop n left) (sym copied)
    ∙ ap (λ (xs : List ℕ). take n new ++ xs) rest

pub append_known-append : (told : Option (List ℕ)) (first second : List ℕ) → append_known (append_known told first) second ≡ append_known told (first ++ second)
append_known-append None first second = refl
append_known-append (Some xs) first second = ap Some (append_assoc xs first second)

-- one piece more of bytes that are written in pieces
pub held_more : (before held after : Option (List ℕ)) (bytes : List ℕ) (done n : ℕ) → held ≡ append_known before (take done bytes)
    → after ≡ append_known held (take n (take (length bytes - done) (drop done bytes))) → after ≡ append_known before (take (done + n) bytes)
held_more before held after bytes done n so_far more =
    rw (take_rest bytes done) at more
    ∙ ap (λ (told : Option (List ℕ)). append_known told (take n (drop done bytes))) so_far
    ∙ append_known-append before (take done bytes) (take n (drop done bytes))
    ∙ ap (append_known before) (sym (take-add done n bytes))

pub prepend_known-append : (told : Option (List ℕ)) (first second : List ℕ) → prepend_known first (prepend_known second told) ≡ prepend_known (first ++ second) told
prepend_known-append None first second = refl
prepend_known-append (Some xs) first second = ap Some (sym (append_assoc first second xs))

-- one piece more of bytes that are read in pieces
pub left_less : (before left after : Option (List ℕ)) (taken piece : List ℕ) → before ≡ prepend_known taken left → left ≡ prepend_known piece after
    → before ≡ prepend_known (taken ++ piece) after
left_less before left after taken piece so_far more =
    so_far ∙ ap (prepend_known taken) more ∙ prepend_known-append after taken piece

-- what holds of taken bytes and those behind them holds of what was told before and after
pub told_behind : (before after : Option (List ℕ)) (taken : List ℕ) (P : List ℕ → List ℕ → Type 0) → before ≡ prepend_known taken after
    → ((rest : List ℕ) → after ≡ Some rest → P (taken ++ rest) rest) → WhereTold before after P
told_behind before None taken P is holds = subst (λ (b : Option (List ℕ)). WhereTold b None P) (sym is) tt
told_behind before (Some rest) taken P is holds = subst (λ (b : Option (List ℕ)). WhereTold b (Some rest) P) (sym is) (holds rest refl)
