-- Which words have so many letters.
use Rattle.std.proofs.Common.{◌≡◌, ◌≢◌, ℕ, Bool, true, false, ◌==◌, ◌&&◌, List, [], ◌∷◌, length, Some, None, arith, refl, codes, if◌then◌else◌}
use Rattle.std.specs.Str.{bytes_eq}
use Rattle.std.proofs.lemmas.Slice.Eq.{bytes_eq-Decides}
use Rattle.ris_base.specs.Script.{Addv, Delv, Adde, Dele, Setw, Begin, Commit, Value, Parent, Path, Modified, Current, Release, Leave, word_of}

-- fields of other lengths are other fields
bytes_eq-other : (xs ys : List ℕ) → length xs ≢ length ys → bytes_eq xs ys ≡ false
bytes_eq-other [] [] h = absurd (h refl)
bytes_eq-other [] (y ∷ ys) h = refl
bytes_eq-other (x ∷ xs) [] h = refl
bytes_eq-other (x ∷ xs) (y ∷ ys) h = by (x == y) (bytes_eq-other xs ys (λ e. h (omega arith)))
  where
    by : (b : Bool) → bytes_eq xs ys ≡ false → (b && bytes_eq xs ys) ≡ false
    by true e = e
    by false e = refl

pub word_of_four : (field : List ℕ) → length field ≡ 4
    → word_of field ≡ (if bytes_eq field (codes "adde") then Some Adde
    else if bytes_eq field (codes "dele") then Some Dele
    else if bytes_eq field (codes "addv") then Some Addv
    else if bytes_eq field (codes "delv") then Some Delv
    else if bytes_eq field (codes "setw") then Some Setw
    else if bytes_eq field (codes "path") then Some Path
    else None)
unfolding word_of
word_of_four field h =
    let begin = bytes_eq-other field (codes "begin") (omega arith) in
    let commit = bytes_eq-other field (codes "commit") (omega arith) in
    let value = bytes_eq-other field (codes "value") (omega arith) in
    let parent = bytes_eq-other field (codes "parent") (omega arith) in
    let modified = bytes_eq-other field (codes "modified") (omega arith) in
    let current = bytes_eq-other field (codes "current") (omega arith) in
    let release = bytes_eq-other field (codes "release") (omega arith) in
    let leave = bytes_eq-other field (codes "leave") (omega arith) in
    rw (begin, commit, value, parent, modified, current, release, leave) (by (bytes_eq field (codes "adde")) refl (bytes_eq field (codes "dele")) refl)
  where
    by : (a : Bool) → bytes_eq field (codes "adde") ≡ a → (b : Bool) → bytes_eq field (codes "dele") ≡ b
        → (if bytes_eq field (codes "addv") then Some Addv
        else if bytes_eq field (codes "delv") then Some Delv
        else if a then Some Adde
        else if b then Some Dele
        else if bytes_eq field (codes "setw") then Some Setw
        else if bytes_eq field (codes "path") then Some Path
        else None)
        ≡ (if a then Some Adde
        else if b then Some Dele
        else if bytes_eq field (codes "addv") then Some Addv
        else if bytes_eq field (codes "delv") then Some Delv
        else if bytes_eq field (codes "setw") then Some Setw
        else if bytes_eq field (codes "path") then Some Path
        else None)
    by true p b q = let same = (bytes_eq-Decides field (codes "adde")).0 p in rw same refl
    by false p true q = let same = (bytes_eq-Decides field (codes "dele")).0 q in rw same refl
    by false p false q = refl

pub word_of_five : (field : List ℕ) → length field ≡ 5
    → word_of field ≡ (if bytes_eq field (codes "begin") then Some Begin
    else if bytes_eq field (codes "value") then Some Value
    else if bytes_eq field (codes "leave") then Some Leave
    else None)
unfolding word_of
word_of_five field h =
    let addv = bytes_eq-other field (codes "addv") (omega arith) in
    let delv = bytes_eq-other field (codes "delv") (omega arith) in
    let adde = bytes_eq-other field (codes "adde") (omega arith) in
    let dele = bytes_eq-other field (codes "dele") (omega arith) in
    let setw = bytes_eq-other field (codes "setw") (omega arith) in
    let commit = bytes_eq-other field (codes "commit") (omega arith) in
    let parent = bytes_eq-other field (codes "parent") (omega arith) in
    let path = bytes_eq-other field (codes "path") (omega arith) in
    let modified = bytes_eq-other field (codes "modified") (omega arith) in
    let current = bytes_eq-other field (codes "current") (omega arith) in
    let release = bytes_eq-other field (codes "release") (omega arith) in
    rw (addv, delv, adde, dele, setw, commit, parent, path, modified, current, release) refl

pub word_of_six : (field : List ℕ) → length field ≡ 6
    → word_of field ≡ (if bytes_eq field (codes "commit") then Some Commit
    else if bytes_eq field (codes "parent") then Some Parent
    else None)
unfolding word_of
word_of_six field h =
    let addv = bytes_eq-other field (codes "addv") (omega arith) in
    let delv = bytes_eq-other field (codes "delv") (omega arith) in
    let adde = bytes_eq-other field (codes "adde") (omega arith) in
    let dele = bytes_eq-other field (codes "dele") (omega arith) in
    let setw = bytes_eq-other field (codes "setw") (omega arith) in
    let begin = bytes_eq-other field (codes "begin") (omega arith) in
    let value = bytes_eq-other field (codes "value") (omega arith) in
    let path = bytes_eq-other field (codes "path") (omega arith) in
    let modified = bytes_eq-other field (codes "modified") (omega arith) in
    let current = bytes_eq-other field (codes "current") (omega arith) in
    let release = bytes_eq-other field (codes "release") (omega arith) in
    let leave = bytes_eq-other field (codes "leave") (omega arith) in
    rw (addv, delv, adde, dele, setw, begin, value, path, modified, current, release, leave) refl

pub word_of_seven : (field : List ℕ) → length field ≡ 7
    → word_of field ≡ (if bytes_eq field (codes "current") then Some Current
    else if bytes_eq field (codes "release") then Some Release
    else None)
unfolding word_of
word_of_seven field h =
    let addv = bytes_eq-other field (codes "addv") (omega arith) in
    let delv = bytes_eq-other field (codes "delv") (omega arith) in
    let adde = bytes_eq-other field (codes "adde") (omega arith) in
    let dele = bytes_eq-other field (codes "dele") (omega arith) in
    let setw = bytes_eq-other field (codes "setw") (omega arith) in
    let begin = bytes_eq-other field (codes "begin") (omega arith) in
    let commit = bytes_eq-other field (codes "commit") (omega arith) in
    let value = bytes_eq-other field (codes "value") (omega arith) in
    let parent = bytes_eq-other field (codes "parent") (omega arith) in
    let path = bytes_eq-other field (codes "path") (omega arith) in
    let modified = bytes_eq-other field (codes "modified") (omega arith) in
    let leave = bytes_eq-other field (codes "leave") (omega arith) in
    rw (addv, delv, adde, dele, setw, begin, commit, value, parent, path, modified, leave) refl

pub word_of_other : (field : List ℕ) → length field ≢ 4 → length field ≢ 5 → length field ≢ 6 → length field ≢ 7
    → word_of field ≡ (if bytes_eq field (codes "modified") then Some Modified else None)
unfolding word_of
word_of_other field four five six seven =
    let addv = bytes_eq-other field (codes "addv") four in
    let delv = bytes_eq-other field (codes "delv") four in
    let adde = bytes_eq-other field (codes "adde") four in
    let dele = bytes_eq-other field (codes "dele") four in
    let setw = bytes_eq-other field (codes "setw") four in
    let begin = bytes_eq-other field (codes "begin") five in
    let commit = bytes_eq-other field (codes "commit") six in
    let value = bytes_eq-other field (codes "value") five in
    let parent = bytes_eq-other field (codes "parent") six in
    let path = bytes_eq-other field (codes "path") four in
    let current = bytes_eq-other field (codes "current") seven in
    let release = bytes_eq-other field (codes "release") seven in
    let leave = bytes_eq-other field (codes "leave") five in
    rw (addv, delv, adde, dele, setw, begin, commit, value, parent, path, current, release, leave) refl
