use Rattle.std.proofs.Common.{◌≡◌, ◌∙◌, ◌≤◌, ◌<◌, ◌^◌, ℕ, sym, ap, arith, append_assoc, decimal, ◌++◌, ◌/◌, ◌%◌, ◌+◌, ◌∷◌, []}
use Rattle.std.proofs.lemmas.Fmt.{decimal_digit, decimal_step}
use Rattle.ris_base.specs.Script.{Bytes}
use Rattle.ris_words.proofs.scripts.+put_number.Goals as goal
use Rattle.ris_words.proofs.scripts.+put_number.Goals.{then-n-ge10+in_ok-put_number, else-n-ge10}

-- the last digit behind the others
last-put : (n : ℕ) (old mid new : Bytes) → 10 ≤ n → n < 2 ^ 64 → mid ≡ old ++ decimal (n / 10) → new ≡ mid ++ (48 + n % 10) ∷ [] → new ≡ old ++ decimal n
last-put n old mid new large small grew more =
    more ∙ ap (λ (t : Bytes). t ++ (48 + n % 10) ∷ []) grew ∙ append_assoc old (decimal (n / 10)) ((48 + n % 10) ∷ [])
    ∙ ap (λ (t : Bytes). old ++ t) (sym (decimal_step n large small))

-- the only digit
only-put : (n : ℕ) (old new : Bytes) → n < 10 → new ≡ old ++ (48 + n % 10) ∷ [] → new ≡ old ++ decimal n
only-put n old new small more =
    let same : n % 10 ≡ n = omega arith in
    more ∙ ap (λ (digit : ℕ). old ++ (48 + digit) ∷ []) same ∙ ap (λ (t : Bytes). old ++ t) (sym (decimal_digit n small))

pub returns : goal.returns
returns t c =
    elim c.if-n-ge10.branch [
      | then-n-ge10+in_ok-put_number w ↦
          last-put c.args.n c.args.text.now.items c.if-n-ge10.text.items c.push.new.self.items w.if-n-ge10.true (omega arith)
          (rw w.text-is w.in_ok-put_number.ensures) c.in_ok-push.ensures.items
      | else-n-ge10 w ↦ only-put c.args.n c.args.text.now.items c.push.new.self.items w.if-n-ge10.false (rw w.text-is at c.in_ok-push.ensures.items)
    ]
