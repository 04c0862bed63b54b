-- The public clauses from how a run ended: no ending has the cause of another one.
use Rattle.std.proofs.Common.{◌≡◌, ℕ, ◌-◌, ◌^◌, ◌<◌, Bool, true, false, List, Some, None, Option, Result, Ok, Err, refl, sym, arith, inl, inr, subst}
use Rattle.std.specs.Prelude.{IsTrue}
use Rattle.std.specs.Option.{IsSome}
use Rattle.std.specs.Result.{IsOk, IsErr}
use Rattle.ris_base.specs.Causes.{Rose}
use Rattle.ris_base.specs.Script.{Bytes, Fault}
use Rattle.ris_base.specs.Status.{Stream, Program, OnJob, OnTold, HasScript, HasScriptBy, reads_input, IsReadWhole, IsUntouched, IsCause, IsExact, HasCauses, PassesNone, Grew, Reports, IsAnswered, IsCutShort, HasOutput, MakesNoVisit, status_line}
use Rattle.ris_base.specs.declared.jobs.Job.{Job}
use Rattle.ris_base.specs.declared.scripts.Script.{Script}
use Rattle.ris_base.specs.declared.statuses.Status.{Status}
use Rattle.ris_base.specs.declared.statuses.Status.TheVariants as status
use Rattle.ris_replay.specs.declared.endings.Ending.{Ending}
use Rattle.ris_replay.specs.declared.endings.Ending.TheVariants as ending
use Rattle.ris_replay.specs.Endings.{Ends, HasNoFault, IsLong, ReadsInput, fault_of, status_of}
use Rattle.ris_replay.specs.Reports.{reported_cause}

-- the words say at most one job
abbrev pub IsDetermined : Program → Type 0
IsDetermined program = (words : List Bytes) (a b : Job) → program.Takes words a → program.Takes words b → a ≡ b

-- a count that rose isn't the same
pub rose-same : (before after : ℕ) → before < 2 ^ 64 - 1 → Rose before after → after ≡ before → ⊥
rose-same before after small rose same = omega arith

some-of : {X : Type 0} (o : Option X) → IsSome o → (x : X) × (o ≡ Some x)
some-of None h = cc
some-of (Some x) h = (x, refl)

-- a result isn't both
pub ok-err : {T E : Type 0} (r : Result T E) → IsOk r → IsErr r → ⊥
ok-err (Ok x) a b = cc
ok-err (Err e) a b = cc

pub is-err : {T E : Type 0} (r : Result T E) (e : E) → r ≡ Err e → IsErr r
is-err r e h = rw h refl

pub is-ok : {T E : Type 0} (r : Result T E) (x : T) → r ≡ Ok x → IsOk r
is-ok r x h = rw h refl

-- a script of which P holds has Q, where that follows
pub HasScript-map : (program : Program) (input : Stream) (job : Job) (P Q : Result Script Fault → Type 0) → ((r : Result Script Fault) → P r → Q r)
    → HasScript program input job P → HasScript program input job Q
HasScript-map program input job P Q f h = by (reads_input job) h
  where
    by : (b : Bool) → HasScriptBy b program input job P → HasScriptBy b program input job Q
    by true h = λ before told. let x = h before told in (x.0, x.1, (x.2.0, f _ x.2.1))
    by false h = (h.0, h.1, f _ h.2)

-- two facts of the script of a job that exclude each other
HasScript-clash : (program : Program) (input : Stream) (job : Job) (P Q : Result Script Fault → Type 0) → IsSome input.before
    → ((r : Result Script Fault) → P r → Q r → ⊥) → HasScript program input job P → HasScript program input job Q → ⊥
HasScript-clash program input job P Q told never h k = by (reads_input job) h k
  where
    by : (b : Bool) → HasScriptBy b program input job P → HasScriptBy b program input job Q → ⊥
    by true h k = let t = some-of input.before told in never _ (h t.0 t.1).2.1 (k t.0 t.1).2.1
    by false h k = never _ h.2 k.2

-- a job that has a script has an input without a fault
HasScript-no_fault : (program : Program) (input : Stream) (job : Job) (P : Result Script Fault → Type 0) → IsSome input.before
    → HasScript program input job P → HasNoFault input
HasScript-no_fault program input job P told h = by (reads_input job) h
  where
    by : (b : Bool) → HasScriptBy b program input job P → HasNoFault input
    by true h = let t = some-of input.before told in (h t.0 t.1).2.0.no_fault
    by false h = h.1

-- where the script is that of an input which was read whole, not more bytes were taken than it may have
HasScript-short : (program : Program) (input : Stream) (job : Job) (P : Result Script Fault → Type 0) → IsSome input.before → IsTrue (reads_input job)
    → HasScript program input job P → OnTold input IsLong → ⊥
HasScript-short program input job P told reads h long = by (reads_input job) reads h
  where
    whole : (before after : Bytes) → IsReadWhole input before after → IsLong before after → ⊥
    whole before after w l = let within = w.within in omega arith

    same : (before after other : Bytes) → input.after ≡ Some after → input.after ≡ Some other → after ≡ other
    same before after other a b = cc

    by : (b : Bool) → IsTrue b → HasScriptBy b program input job P → ⊥
    by false never h = cc
    by true always h =
        let t = some-of input.before told in
        let x = h t.0 t.1 in
        let y = long t.0 t.1 in
        let z : IsLong t.0 x.0 = subst (λ (after : Bytes). IsLong t.0 after) (same t.0 y.0 x.0 y.1 x.1) y.2 in
        whole t.0 x.0 x.2.0 z

-- Two jobs of the same words are one

same-job : (program : Program) (words : List Bytes) (P Q : Job → Type 0) → IsDetermined program → OnJob program words P → OnJob program words Q
    → ((job : Job) → P job → Q job → ⊥) → ⊥
same-job program words P Q one p q never =
    never q.0 (subst P (one words p.0 q.0 p.1 q.1) p.2) q.2

OnJob-map : (program : Program) (words : List Bytes) (P Q : Job → Type 0) → ((job : Job) → P job → Q job) → OnJob program words P → OnJob program words Q
OnJob-map program words P Q f p = (p.0, p.1, f p.0 p.2)

no-job : (program : Program) (words : List Bytes) (P : Job → Type 0) → ((job : Job) → ¬ (program.Takes words job)) → OnJob program words P → ⊥
no-job program words P none p = none p.0 p.1

-- What the endings say of the job and its script

-- the words say a job, and its script has P
abbrev pub Reads : (Result Script Fault → Type 0) → Program → List Bytes → Stream → Type 0
Reads P program words input = OnJob program words (λ job. HasScript program input job P)

abbrev pub IsThis : Fault → Result Script Fault → Type 0
IsThis fault script = script ≡ Err fault

Reads-err : (program : Program) (words : List Bytes) (input : Stream) (fault : Fault) → Reads (IsThis fault) program words input → Reads IsErr program words input
Reads-err program words input fault h =
    OnJob-map program words (λ job. HasScript program input job (IsThis fault)) (λ job. HasScript program input job IsErr)
    (λ job k. HasScript-map program input job (IsThis fault) IsErr (λ r e. is-err r fault e) k) h

Reads-answered : (program : Program) (words : List Bytes) (input output : Stream) (visits : ℕ) → IsAnswered program words input output visits
    → Reads IsOk program words input
Reads-answered program words input output visits h = (h.0, h.1, HasScript-map program input h.0 _ IsOk (λ r x. is-ok r x.0 x.1) h.2)

Reads-cut : (program : Program) (words : List Bytes) (input output : Stream) (visits : ℕ) → IsCutShort program words input output visits
    → Reads IsOk program words input
Reads-cut program words input output visits h = (h.0, h.1, HasScript-map program input h.0 _ IsOk (λ r x. is-ok r x.0 x.1) h.2)

-- a script isn't both whole and faulty
clash : (program : Program) (words : List Bytes) (input : Stream) → IsDetermined program → IsSome input.before
    → Reads IsOk program words input → Reads IsErr program words input → ⊥
clash program words input one told a b =
    same-job program words (λ job. HasScript program input job IsOk) (λ job. HasScript program input job IsErr) one a b
    (λ job p q. HasScript-clash program input job IsOk IsErr told (λ r x y. ok-err r x y) p q)

-- nor was its input read too far, nor did a read fail
long-clash : (program : Program) (words : List Bytes) (input : Stream) (P : Result Script Fault → Type 0) → IsDetermined program → IsSome input.before
    → ReadsInput program words → OnTold input IsLong → Reads P program words input → ⊥
long-clash program words input P one told reads long a =
    same-job program words (λ job. IsTrue (reads_input job)) (λ job. HasScript program input job P) one reads a
    (λ job p q. HasScript-short program input job P told p q long)

read-clash : (program : Program) (words : List Bytes) (input : Stream) (P : Result Script Fault → Type 0) → IsSome input.before → input.faults_before < 2 ^ 64 - 1
    → Rose input.faults_before input.faults_after → Reads P program words input → ⊥
read-clash program words input P told small rose a =
    rose-same input.faults_before input.faults_after small rose (HasScript-no_fault program input a.0 P told a.2)

long-not : (input : Stream) → IsSome input.before → OnTold input IsLong → OnTold input (λ before after. ¬ (IsLong before after)) → ⊥
long-not input told p q =
    let t = some-of input.before told in
    let a = p t.0 t.1 in
    let b = q t.0 t.1 in
    let same : a.0 ≡ b.0 = same_some input.after a.0 b.0 a.1 b.1 in
    b.2 (subst (λ (after : Bytes). IsLong t.0 after) same a.2)
  where
    same_some : (o : Option Bytes) (x y : Bytes) → o ≡ Some x → o ≡ Some y → x ≡ y
    same_some o x y a b = cc

-- The causes of the statuses, without what isn't theirs

-- a cause of TooLong, and one of ReadFault
abbrev pub LongCause : Program → List Bytes → Stream → Type 0
LongCause program words input = OnJob program words (λ job. IsTrue (reads_input job) × OnTold input IsLong)

long-reads : (program : Program) (words : List Bytes) (input : Stream) → LongCause program words input → ReadsInput program words
long-reads program words input h = (h.0, h.1, h.2.0)

abbrev pub ReadCause : Program → List Bytes → Stream → Type 0
ReadCause program words input = OnJob program words (λ job. IsTrue (reads_input job) × Rose input.faults_before input.faults_after)

-- the scripts of the causes of WriteFault and Ok
write-reads : (program : Program) (words : List Bytes) (input output : Stream) → IsCause program words input output status.WriteFault → Reads IsOk program words input
write-reads program words input output h = (h.0, h.1, h.2.0)

ok-reads : (program : Program) (words : List Bytes) (input output : Stream) → IsCause program words input output status.Ok → Reads IsOk program words input
ok-reads program words input output h = (h.0, h.1, h.2.0)

-- Each status exactly

usage : (program : Program) (words : List Bytes) (input output : Stream) (visits : ℕ) (e : Ending) → IsDetermined program → Ends program words input output visits e
    → IsExact program words input output (status_of e) status.Usage
usage program words input output visits ending.Usage one h = record { only = λ s. h.0; always = λ seen cause. inl refl }
usage program words input output visits ending.NoMemory one h = record { only = λ s. cc; always = λ seen cause. inr refl }
usage program words input output visits ending.ReadFault one h = record { only = λ s. cc; always = λ seen cause. absurd (no-job program words _ cause h.0) }
usage program words input output visits ending.TooLong one h = record { only = λ s. cc; always = λ seen cause. absurd (no-job program words _ cause h.0) }
usage program words input output visits (ending.Script number why) one h = record { only = λ s. cc; always = λ seen cause. absurd (no-job program words _ cause h.0) }
usage program words input output visits ending.WriteFault one h = record { only = λ s. cc; always = λ seen cause. absurd (no-job program words _ cause h.0) }
usage program words input output visits ending.Done one h = record { only = λ s. cc; always = λ seen cause. absurd (no-job program words _ cause h.0) }

read_fault : (program : Program) (words : List Bytes) (input output : Stream) (visits : ℕ) (e : Ending) → IsDetermined program → Ends program words input output visits e
    → IsExact program words input output (status_of e) status.ReadFault
read_fault program words input output visits ending.Usage one h = record { only = λ s. cc; always = λ seen cause. absurd (no-job program words _ h.0 cause) }
read_fault program words input output visits ending.NoMemory one h = record { only = λ s. cc; always = λ seen cause. inr refl }
read_fault program words input output visits ending.ReadFault one h = record { only = λ s. (h.0.0, h.0.1, (h.0.2, h.1)); always = λ seen cause. inl refl }
read_fault program words input output visits ending.TooLong one h = record { only = λ s. cc; always = λ seen cause. absurd (rose-same _ _ seen.reads cause.2.1 h.1) }
read_fault program words input output visits (ending.Script number why) one h = record { only = λ s. cc; always = λ seen cause. absurd (rose-same _ _ seen.reads cause.2.1 h.1) }
read_fault program words input output visits ending.WriteFault one h = record { only = λ s. cc; always = λ seen cause. absurd (rose-same _ _ seen.reads cause.2.1 h.1) }
read_fault program words input output visits ending.Done one h = record { only = λ s. cc; always = λ seen cause. absurd (rose-same _ _ seen.reads cause.2.1 h.1) }

too_long : (program : Program) (words : List Bytes) (input output : Stream) (visits : ℕ) (e : Ending) → IsDetermined program → Ends program words input output visits e
    → IsExact program words input output (status_of e) status.TooLong
too_long program words input output visits ending.Usage one h = record { only = λ s. cc; always = λ seen cause. absurd (no-job program words _ h.0 cause) }
too_long program words input output visits ending.NoMemory one h = record { only = λ s. cc; always = λ seen cause. inr refl }
too_long program words input output visits ending.ReadFault one h = record { only = λ s. cc; always = λ seen cause. absurd (long-not input seen.before cause.2.1 h.2) }
too_long program words input output visits ending.TooLong one h = record { only = λ s. (h.0.0, h.0.1, (h.0.2, h.2)); always = λ seen cause. inl refl }
too_long program words input output visits (ending.Script number why) one h =
    record { only = λ s. cc; always = λ seen cause. absurd (long-clash program words input (IsThis (reported_cause number why)) one seen.before (long-reads program words input cause) cause.2.1 h.0) }
too_long program words input output visits ending.WriteFault one h =
    record { only = λ s. cc; always = λ seen cause. absurd (long-clash program words input IsOk one seen.before (long-reads program words input cause) cause.2.1 (Reads-cut program words input output visits h.0)) }
too_long program words input output visits ending.Done one h =
    record { only = λ s. cc; always = λ seen cause. absurd (long-clash program words input IsOk one seen.before (long-reads program words input cause) cause.2.1 (Reads-answered program words input output visits h.0)) }

script : (program : Program) (words : List Bytes) (input output : Stream) (visits : ℕ) (e : Ending) → IsDetermined program → Ends program words input output visits e
    → IsExact program words input output (status_of e) status.Script
script program words input output visits ending.Usage one h = record { only = λ s. cc; always = λ seen cause. absurd (no-job program words _ h.0 cause) }
script program words input output visits ending.NoMemory one h = record { only = λ s. cc; always = λ seen cause. inr refl }
script program words input output visits ending.ReadFault one h = record { only = λ s. cc; always = λ seen cause. absurd (read-clash program words input IsErr seen.before seen.reads h.1 cause) }
script program words input output visits ending.TooLong one h = record { only = λ s. cc; always = λ seen cause. absurd (long-clash program words input IsErr one seen.before h.0 h.2 cause) }
script program words input output visits (ending.Script number why) one h =
    record { only = λ s. Reads-err program words input (reported_cause number why) h.0; always = λ seen cause. inl refl }
script program words input output visits ending.WriteFault one h =
    record { only = λ s. cc; always = λ seen cause. absurd (clash program words input one seen.before (Reads-cut program words input output visits h.0) cause) }
script program words input output visits ending.Done one h =
    record { only = λ s. cc; always = λ seen cause. absurd (clash program words input one seen.before (Reads-answered program words input output visits h.0) cause) }

write_fault : (program : Program) (words : List Bytes) (input output : Stream) (visits : ℕ) (e : Ending) → IsDetermined program → Ends program words input output visits e
    → IsExact program words input output (status_of e) status.WriteFault
write_fault program words input output visits ending.Usage one h = record { only = λ s. cc; always = λ seen cause. absurd (no-job program words _ h.0 cause) }
write_fault program words input output visits ending.NoMemory one h = record { only = λ s. cc; always = λ seen cause. inr refl }
write_fault program words input output visits ending.ReadFault one h =
    record { only = λ s. cc; always = λ seen cause. absurd (read-clash program words input IsOk seen.before seen.reads h.1 (write-reads program words input output cause)) }
write_fault program words input output visits ending.TooLong one h =
    record { only = λ s. cc; always = λ seen cause. absurd (long-clash program words input IsOk one seen.before h.0 h.2 (write-reads program words input output cause)) }
write_fault program words input output visits (ending.Script number why) one h =
    record { only = λ s. cc; always = λ seen cause. absurd (clash program words input one seen.before (write-reads program words input output cause) (Reads-err program words input (reported_cause number why) h.0)) }
write_fault program words input output visits ending.WriteFault one h =
    record { only = λ s. let r = Reads-cut program words input output visits h.0 in (r.0, r.1, (r.2, h.2)); always = λ seen cause. inl refl }
write_fault program words input output visits ending.Done one h = record { only = λ s. cc; always = λ seen cause. absurd (rose-same _ _ seen.writes cause.2.1 h.2) }

ok : (program : Program) (words : List Bytes) (input output : Stream) (visits : ℕ) (e : Ending) → IsDetermined program → Ends program words input output visits e
    → IsExact program words input output (status_of e) status.Ok
ok program words input output visits ending.Usage one h = record { only = λ s. cc; always = λ seen cause. absurd (no-job program words _ h.0 cause) }
ok program words input output visits ending.NoMemory one h = record { only = λ s. cc; always = λ seen cause. inr refl }
ok program words input output visits ending.ReadFault one h =
    record { only = λ s. cc; always = λ seen cause. absurd (read-clash program words input IsOk seen.before seen.reads h.1 (ok-reads program words input output cause)) }
ok program words input output visits ending.TooLong one h =
    record { only = λ s. cc; always = λ seen cause. absurd (long-clash program words input IsOk one seen.before h.0 h.2 (ok-reads program words input output cause)) }
ok program words input output visits (ending.Script number why) one h =
    record { only = λ s. cc; always = λ seen cause. absurd (clash program words input one seen.before (ok-reads program words input output cause) (Reads-err program words input (reported_cause number why) h.0)) }
ok program words input output visits ending.WriteFault one h = record { only = λ s. cc; always = λ seen cause. absurd (rose-same _ _ seen.writes h.2 cause.2.1) }
ok program words input output visits ending.Done one h =
    record { only = λ s. let r = Reads-answered program words input output visits h.0 in (r.0, r.1, (r.2, h.2)); always = λ seen cause. inl refl }

reads : (program : Program) (words : List Bytes) (input output : Stream) (visits : ℕ) (e : Ending) → Ends program words input output visits e → PassesNone input (status_of e) status.ReadFault
reads program words input output visits ending.Usage h other = h.1
reads program words input output visits ending.NoMemory h other = h.0
reads program words input output visits ending.ReadFault h other = absurd (other refl)
reads program words input output visits ending.TooLong h other = h.1
reads program words input output visits (ending.Script number why) h other = h.1
reads program words input output visits ending.WriteFault h other = h.1
reads program words input output visits ending.Done h other = h.1

writes : (program : Program) (words : List Bytes) (input output : Stream) (visits : ℕ) (e : Ending) → Ends program words input output visits e → PassesNone output (status_of e) status.WriteFault
writes program words input output visits ending.Usage h other = h.2.faults
writes program words input output visits ending.NoMemory h other = h.1.faults
writes program words input output visits ending.ReadFault h other = h.3.faults
writes program words input output visits ending.TooLong h other = h.3.faults
writes program words input output visits (ending.Script number why) h other = h.2.faults
writes program words input output visits ending.WriteFault h other = absurd (other refl)
writes program words input output visits ending.Done h other = h.2

-- The records that the top calls cite

-- each status has its cause
pub causes : (program : Program) (words : List Bytes) (input output : Stream) (visits : ℕ) (e : Ending) (answered : Status) → IsDetermined program
    → Ends program words input output visits e → answered ≡ status_of e → HasCauses program words input output answered
causes program words input output visits e answered one h same =
    subst (λ (s : Status). HasCauses program words input output s) (sym same) (record {
      usage = usage program words input output visits e one h;
      read_fault = read_fault program words input output visits e one h;
      too_long = too_long program words input output visits e one h;
      script = script program words input output visits e one h;
      write_fault = write_fault program words input output visits e one h;
      ok = ok program words input output visits e one h;
      reads = reads program words input output visits e h;
      writes = writes program words input output visits e h;
    })

-- the first fault of the script is the one that is reported
first : (program : Program) (words : List Bytes) (input output : Stream) (visits : ℕ) (e : Ending) → Ends program words input output visits e → status_of e ≡ status.Script
    → Reads (IsThis (fault_of e)) program words input
first program words input output visits ending.Usage h s = cc
first program words input output visits ending.NoMemory h s = cc
first program words input output visits ending.ReadFault h s = cc
first program words input output visits ending.TooLong h s = cc
first program words input output visits (ending.Script number why) h s = h.0
first program words input output visits ending.WriteFault h s = cc
first program words input output visits ending.Done h s = cc

-- what a run reports
pub report : (program : Program) (words : List Bytes) (input output faults : Stream) (visits : ℕ) (e : Ending) (answered : Status)
    → Ends program words input output visits e → answered ≡ status_of e → Grew faults (status_line (status_of e) (fault_of e))
    → (status_of e ≡ status.Ok → IsUntouched faults) → Reports program words input faults answered
report program words input output faults visits e answered h same grew still =
    subst (λ (s : Status). Reports program words input faults s) (sym same)
    (record { fault = fault_of e; line = grew; first = first program words input output visits e h; at_ok = still })

-- what stands in the output
by_ending : (program : Program) (words : List Bytes) (input output : Stream) (visits : ℕ) (e : Ending) → Ends program words input output visits e
    → HasOutput program words input output visits (status_of e)
by_ending program words input output visits ending.Usage h = record { headline = λ s. cc; cut_short = λ s. cc; untouched = λ a b. h.2 }
by_ending program words input output visits ending.NoMemory h = record { headline = λ s. cc; cut_short = λ s. cc; untouched = λ a b. h.1 }
by_ending program words input output visits ending.ReadFault h = record { headline = λ s. cc; cut_short = λ s. cc; untouched = λ a b. h.3 }
by_ending program words input output visits ending.TooLong h = record { headline = λ s. cc; cut_short = λ s. cc; untouched = λ a b. h.3 }
by_ending program words input output visits (ending.Script number why) h = record { headline = λ s. cc; cut_short = λ s. cc; untouched = λ a b. h.2 }
by_ending program words input output visits ending.WriteFault h = record { headline = λ s. cc; cut_short = λ s. h.0; untouched = λ a b. absurd (b refl) }
by_ending program words input output visits ending.Done h = record { headline = λ s. h.0; cut_short = λ s. cc; untouched = λ a b. absurd (a refl) }

pub output_of : (program : Program) (words : List Bytes) (input output : Stream) (visits : ℕ) (e : Ending) (answered : Status)
    → Ends program words input output visits e → answered ≡ status_of e → HasOutput program words input output visits answered
output_of program words input output visits e answered h same =
    subst (λ (s : Status). HasOutput program words input output visits s) (sym same) (by_ending program words input output visits e h)

-- a run that ends before its script is known makes no visit
no_visit : (program : Program) (words : List Bytes) (input output : Stream) (visits : ℕ) (e : Ending) → Ends program words input output visits e → MakesNoVisit (status_of e) visits
no_visit program words input output visits ending.Usage h = h.3
no_visit program words input output visits ending.NoMemory h = tt
no_visit program words input output visits ending.ReadFault h = h.4
no_visit program words input output visits ending.TooLong h = h.4
no_visit program words input output visits (ending.Script number why) h = h.3
no_visit program words input output visits ending.WriteFault h = tt
no_visit program words input output visits ending.Done h = tt

pub visits_of : (program : Program) (words : List Bytes) (input output : Stream) (visits : ℕ) (e : Ending) (answered : Status)
    → Ends program words input output visits e → answered ≡ status_of e → MakesNoVisit answered visits
visits_of program words input output visits e answered h same =
    subst (λ (s : Status). MakesNoVisit s visits) (sym same) (no_visit program words input output visits e h)
