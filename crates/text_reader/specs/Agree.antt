-- Refusal 7, by the symbols and counts of the earlier lines of both tables.
--     clash_of, clashes_in   one symbol with another count; how many of the first n
--     Noted                there are n of them
--     Used                 none clashes with a symbol exactly where the lines so far agree with it
-- Assumes nothing.
use Rattle.std.specs.Prelude.{List, ◌≡◌, ℕ, zero, suc, ◌+◌, ◌≤◌, eqb, length, get_or, cond}
use Rattle.meaning.specs.Text.{Read, counts_agree}

unfoldable pub clash_of : ℕ → ℕ → ℕ → ℕ → ℕ
clash_of g m f k = cond (eqb g f) (cond (eqb m k) 0 1) 0

unfoldable pub clashes_in : List ℕ → List ℕ → ℕ → ℕ → ℕ → ℕ
clashes_in symbols counts f k zero = 0
clashes_in symbols counts f k (suc n) = clashes_in symbols counts f k n + clash_of (get_or symbols n 0) (get_or counts n 0) f k

pub record Noted (fs ks : List ℕ) (n : ℕ) : Type 0 where
  pub symbols : n ≤ length fs
  pub counts : n ≤ length ks

pub record Used (symbols counts : List ℕ) (n : ℕ) (s : Read) : Type 0 where
  pub agree : (f k : ℕ) → eqb (clashes_in symbols counts f k n) 0 ≡ counts_agree f k s
