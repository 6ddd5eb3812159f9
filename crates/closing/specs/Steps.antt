-- What the inner functions of the closing ask and answer. `further`, which goes on from a closed table, cites it too.
--     Laid, Comparable, Seated        rows that have their places
--     Roomy                           `Laid` of rows that are lent
--     arg_reps, same_args               two rows compared
--     state_step                       one statement of a pass over the statements
--     one_more                         a row or none, as a number
--     mix, key_of, Last, Mate, Joined  chains of rows, and the search along one
--     Kept, Grown, Outcome, Passed    the table between passes, and what a pass does to it
--     Found, Nearer                   merges that follow a merge
--     Read .. apart_at                 one statement, as `clash` and `apart` read it
-- Assumes nothing.
use Rattle.std.specs.Prelude.{Option, Some, None, Bool, true, false, not, ◌&&◌, ◌||◌, List, [], ◌∷◌, map, ◌≡◌, ◌⊎◌, ℕ, zero, suc, ◌+◌, ◌*◌, ◌%◌, ◌≤◌, ◌<◌, eqb, length, get_or, take, drop}
use Rattle.meaning.specs.Context.{Row, row_at}
use Rattle.meaning.specs.Equality.{rep_at}
use Rattle.meaning.specs.Formed.{Ordered}
use Rattle.meaning.specs.ByTable.{same_list}
use Rattle.columns.specs.declared.Terms.{Terms}
use Rattle.meaning.specs.Closing.{Sofar, total, unite, agree}

-- room for n rows, and no row has more than four arguments
pub record Laid (counts args : List ℕ) (n : ℕ) : Type 0 where
  pub long : n * 4 ≤ length args
  pub room : n ≤ 255
  pub few : (i : ℕ) → i < n → get_or counts i 0 ≤ 4

abbrev pub Roomy : Terms → Type 0
Roomy t = Laid t.counts.now t.args.now t.rows

-- rows i and j have places for their arguments, and count is no more than there are for each
pub record Comparable (args : List ℕ) (i j count : ℕ) : Type 0 where
  pub first : i < 255
  pub second : j < 255
  pub first-long : i * 4 + 4 ≤ length args
  pub second-long : j * 4 + 4 ≤ length args
  pub four : count ≤ 4

-- row i has places for its arguments, and count is no more than there are
pub record Seated (args : List ℕ) (i count : ℕ) : Type 0 where
  pub inside : i < 255
  pub long : i * 4 + 4 ≤ length args
  pub four : count ≤ 4

-- the representatives of the first count arguments of row i
abbrev pub arg_reps : List ℕ → List ℕ → ℕ → ℕ → List ℕ
arg_reps args t i count = map (rep_at t) (take count (drop (i * 4) args))

unfoldable pub same_args : List ℕ → List ℕ → ℕ → ℕ → ℕ → Bool
same_args args t i j count = same_list (arg_reps args t i count) (arg_reps args t j count)

-- ---- the stated equations

unfoldable pub state_step : List ℕ → List ℕ → List ℕ → ℕ → List ℕ → List ℕ
state_step kinds lefts rights k l = elim (eqb (get_or kinds k 0) 2) [ true ↦ unite (get_or lefts k 0) (get_or rights k 0) l | false ↦ l ]

-- ---- chains

-- a key with the elements of a list mixed in
unfoldable pub mix : ℕ → List ℕ → ℕ
mix s [] = s
mix s (a ∷ l) = mix ((s * 31 + a) % 256) l

-- rows that agree have one key, of 256
unfoldable pub key_of : List Row → List ℕ → ℕ → ℕ
key_of rows l i = mix (((row_at rows i).symbol * 37) % 256) (map (rep_at l) (row_at rows i).args)

-- the last of the first n rows with the key b, as one more than its number, or 0 where there is none
pub record Last (key : ℕ → ℕ) (n b at : ℕ) : Type 0 where
  pub bound : at ≤ n
  pub passed : (j : ℕ) → at ≤ j → j < n → key j ≡ b → ⊥
  pub holds : (p : ℕ) → at ≡ suc p → key p ≡ b

-- each of the first n rows leads to the last row before it with its key
abbrev pub Nexts : (ℕ → ℕ) → List ℕ → ℕ → Type 0
Nexts key next n = (j : ℕ) → j < n → Last key j (key j) (get_or next j 0)

-- a row as one more than its number, and none as 0
abbrev pub one_more : Option ℕ → ℕ
one_more None = 0
one_more (Some p) = suc p

-- what the search of row i's mate finds: an earlier row that agrees with it; or nothing, and then none on its chain does
pub record Mate (rows : List Row) (l next : List ℕ) (i head at : ℕ) : Type 0 where
  pub bound : at ≤ i
  pub agrees : (p : ℕ) → at ≡ suc p → agree rows l i p ≡ true
  pub none : (key : ℕ → ℕ) → Nexts key next i → Last key i (key i) head → at ≡ 0
      → (j : ℕ) → j < i → key j ≡ key i → agree rows l i j ≡ false

abbrev pub unite_at : ℕ → ℕ → List ℕ → List ℕ
unite_at i zero l = l
unite_at i (suc p) l = unite i p l

pub record Joined (rows : List Row) (next : List ℕ) (i head : ℕ) (l m : List ℕ) : Type 0 where
  pub at : ℕ
  pub mate : Mate rows l next i head at
  pub so : m ≡ unite_at i at l

-- ---- passes

-- what holds of the table from the start to the end
pub record Kept (rows : List Row) (eqs : List (ℕ × ℕ)) (l : List ℕ) : Type 0 where
  pub long : length l ≡ 255
  pub so : Sofar rows eqs (rep_at l)
  pub others : (i : ℕ) → length rows ≤ i → i < 255 → rep_at l i ≡ i

-- places that hold one number go on to hold one number
abbrev pub Grown : List ℕ → List ℕ → Type 0
Grown l m = (x y : ℕ) → x < 255 → y < 255 → rep_at l x ≡ rep_at l y → rep_at m x ≡ rep_at m y

-- from l to m: nothing changed, and a goal is met; or the sum fell
pub record Outcome (rows : List Row) (eqs : List (ℕ × ℕ)) (Ok : Type 0) (l m : List ℕ) : Type 0 where
  pub kept : Kept rows eqs m
  pub grown : Grown l m
  pub did : ((m ≡ l) × Ok) ⊎ (total (length rows) (rep_at m) < total (length rows) (rep_at l))

-- each two of the first n rows that agree have one representative
abbrev pub Alike : List Row → ℕ → List ℕ → Type 0
Alike rows n l =
    (i j : ℕ) → i < n → j < n → (row_at rows i).symbol ≡ (row_at rows j).symbol
    → map (rep_at l) (row_at rows i).args ≡ map (rep_at l) (row_at rows j).args → rep_at l i ≡ rep_at l j

pub record Passed (rows : List Row) (l m : List ℕ) : Type 0 where
  pub outcome : (eqs : List (ℕ × ℕ)) → Ordered rows → Kept rows eqs l → Outcome rows eqs (Alike rows (length rows) l) l m

-- ---- merges that follow a merge

-- a row that agrees with row i, as one more than its number, or 0 where none is found
pub record Found (rows : List Row) (l : List ℕ) (n i at : ℕ) : Type 0 where
  pub bound : at ≤ n
  pub agrees : (p : ℕ) → at ≡ suc p → agree rows l i p ≡ true

-- from l to m: what holds of the table goes on to hold, and the sum does not rise
pub record Nearer (rows : List Row) (l m : List ℕ) : Type 0 where
  pub outcome : (eqs : List (ℕ × ℕ)) → Ordered rows → Kept rows eqs l → Outcome rows eqs (Unit {0}) l m

-- ---- stated differences, by a table

-- a column of 510 places read at k
pub record Read (l : List ℕ) (k r : ℕ) : Type 0 where
  pub so : r ≡ get_or l k 0
  pub long : length l ≡ 510

pub record SideClass (sides t : List ℕ) (k r : ℕ) : Type 0 where
  pub so : r ≡ rep_at t (get_or sides k 0)
  pub long : length sides ≡ 510

unfoldable pub difference_at : List ℕ → ℕ → ℕ
difference_at kinds k = elim (eqb (get_or kinds k 0) 2) [ true ↦ 0 | false ↦ 1 ]

unfoldable pub clash_at : List ℕ → List ℕ → List ℕ → List ℕ → ℕ → Bool
clash_at kinds lefts rights t k = not (eqb (get_or kinds k 0) 2) && eqb (rep_at t (get_or lefts k 0)) (rep_at t (get_or rights k 0))

-- past the columns a statement reads as a difference of row 0 with itself
pub record ClashAt (kinds lefts rights t : List ℕ) (k : ℕ) (r : Bool) : Type 0 where
  pub so : r ≡ clash_at kinds lefts rights t k
  pub inside : r ≡ false → k < 510

unfoldable pub both_same : ℕ → ℕ → ℕ → ℕ → Bool
both_same a b p q = eqb a p && eqb b q

unfoldable pub either_same : ℕ → ℕ → ℕ → ℕ → Bool
either_same a b p q = both_same a b p q || both_same b a p q

unfoldable pub apart_at : List ℕ → List ℕ → List ℕ → List ℕ → ℕ → ℕ → ℕ → Bool
apart_at kinds lefts rights t k a b = not (eqb (get_or kinds k 0) 2) && either_same a b (rep_at t (get_or lefts k 0)) (rep_at t (get_or rights k 0))
