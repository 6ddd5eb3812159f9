-- What the functions below `close`, `clash` and `apart` ask and answer.
--     chains, most_args                how many there are of each
--     Laid, Seated                    rows that have their places
--     arg_reps, same_arg .. same_args    two rows compared
--     move_from, merge                 one merge
--     state_step                       one statement of a pass over the statements
--     mix, key_of, link_of .. Visited   chains of rows, and the search along one
--     Kept, Grown, Outcome, Passed    what holds of the table, and what a pass does to it
--     Found, Nearer                   merges that follow a merge
--     Pass, PassOn                    a pass with the sum after it
--     Met, Rounding                   the table between passes, with its sum
--     difference_at .. apart_at         one statement, as `clash` and `apart` read it
-- Assumes nothing.
use Rattle.std.specs.Prelude.{Bool, true, false, not, ◌&&◌, ◌||◌, List, [], ◌∷◌, ◌++◌, map, ◌≡◌, ◌⊎◌, ℕ, suc, ◌+◌, ◌*◌, ◌%◌, ◌≤◌, ◌<◌, eqb, ltb, length, get_or, set, take, drop, Option, Some, None}
use Rattle.meaning.specs.Context.{Row, row_at, equations_of, left_at, right_at}
use Rattle.meaning.specs.Equality.{rep_at}
use Rattle.meaning.specs.Formed.{Ordered, Fit}
use Rattle.meaning.specs.ByTable.{same_list}
use Rattle.meaning.specs.Closing.{Sofar, move, total, agree}
use Rattle.runs.specs.Limits.{most_rows, row_size, arg_places}
use Rattle.runs.specs.Runs.{args_from, row_count, symbol_in, count_in, arg_in, kind_in, left_in, right_in, rows_of, statements_of, context_of}

-- how many chains rows are kept on, and how many places of arguments the links lead over
abbrev pub chains : ℕ
chains = 256

abbrev pub most_args : ℕ
most_args = most_rows * arg_places

-- no more rows than the scratch arrays have places for, and no row with more than four arguments
pub record Laid (run : List ℕ) : Type 0 where
  pub room : row_count run ≤ most_rows
  pub few : (i : ℕ) → i < row_count run → count_in run i ≤ arg_places

-- row i is there, and count is no more than it has places for arguments
pub record Seated (run : List ℕ) (i count : ℕ) : Type 0 where
  pub inside : i < row_count run
  pub four : count ≤ arg_places

-- the representatives of the first count arguments of row i
abbrev pub arg_reps : List ℕ → List ℕ → ℕ → ℕ → List ℕ
arg_reps run t i count = map (rep_at t) (args_from run (i * row_size + 2) count)

-- argument k of rows i and j has one representative
unfoldable pub same_arg : List ℕ → List ℕ → ℕ → ℕ → ℕ → Bool
same_arg run t i j k = eqb (rep_at t (arg_in run i k)) (rep_at t (arg_in run j k))

-- rows i and j have one symbol, and as many arguments
unfoldable pub same_shape : List ℕ → ℕ → ℕ → Bool
same_shape run i j = eqb (symbol_in run i) (symbol_in run j) && eqb (count_in run i) (count_in run j)

unfoldable pub same_args : List ℕ → List ℕ → ℕ → ℕ → ℕ → Bool
same_args run t i j count = same_list (arg_reps run t i count) (arg_reps run t j count)

-- ---- one merge

-- hi gives way to lo in the places from hi on
unfoldable pub move_from : ℕ → ℕ → List ℕ → List ℕ
move_from lo hi l = take hi l ++ map (move lo hi) (drop hi l)

-- the classes of rows i and j become one, under the lower representative
unfoldable pub merge : ℕ → ℕ → List ℕ → List ℕ
merge i j l =
    elim (ltb (rep_at l i) (rep_at l j)) [
      | true ↦ move_from (rep_at l i) (rep_at l j) l
      | false ↦ move_from (rep_at l j) (rep_at l i) l
    ]

-- ---- the stated equations

unfoldable pub state_step : List ℕ → ℕ → List ℕ → List ℕ
state_step said k l = elim (eqb (kind_in said k) 2) [ true ↦ merge (left_in said k) (right_in said k) l | false ↦ l ]

-- ---- chains

-- a key with the elements of a list mixed in
unfoldable pub mix : ℕ → List ℕ → ℕ
mix s [] = s
mix s (a ∷ l) = mix ((s * 31 + a) % chains) l

-- rows that agree have one key
unfoldable pub key_of : List Row → List ℕ → ℕ → ℕ
key_of rows l i = mix (((row_at rows i).symbol * 37) % chains) (map (rep_at l) (row_at rows i).args)

-- how a chain's places say a row, or none
unfoldable pub link_of : Option ℕ → ℕ
link_of None = 0
link_of (Some p) = suc p

-- the last of the first n rows with the key b, as one more than its number, or 0 where there is none
pub record Last (key : ℕ → ℕ) (n b at : ℕ) : Type 0 where
  pub bound : at ≤ n
  pub passed : (j : ℕ) → at ≤ j → j < n → key j ≡ b → ⊥
  pub holds : (p : ℕ) → at ≡ suc p → key p ≡ b

-- each of the first n rows leads to the last row before it with its key
abbrev pub Nexts : (ℕ → ℕ) → List ℕ → ℕ → Type 0
Nexts key next n = (j : ℕ) → j < n → Last key j (key j) (get_or next j 0)

-- what the search of row i's mate finds: an earlier row that agrees with it; or nothing, and then none on its chain does
pub record Mate (rows : List Row) (l next : List ℕ) (i head : ℕ) (found : Option ℕ) : Type 0 where
  pub bound : (p : ℕ) → found ≡ Some p → p < i
  pub agrees : (p : ℕ) → found ≡ Some p → agree rows l i p ≡ true
  pub none : (key : ℕ → ℕ) → Nexts key next i → Last key i (key i) head → found ≡ None
      → (j : ℕ) → j < i → key j ≡ key i → agree rows l i j ≡ false

abbrev pub merge_at : ℕ → Option ℕ → List ℕ → List ℕ
merge_at i None l = l
merge_at i (Some p) l = merge i p l

pub record Joined (rows : List Row) (next : List ℕ) (i head : ℕ) (l m : List ℕ) : Type 0 where
  pub at : Option ℕ
  pub mate : Mate rows l next i head at
  pub so : m ≡ merge_at i at l

-- what keeps the search among the first n rows inside the table
pub record Bounded (heads next : List ℕ) (n : ℕ) : Type 0 where
  pub long-heads : length heads ≡ chains
  pub long-next : length next ≡ most_rows
  pub heads-low : (b : ℕ) → b < chains → get_or heads b 0 ≤ n
  pub nexts-low : (j : ℕ) → j < n → get_or next j 0 ≤ j

-- row i and its mate have one representative, and row i is the head of its chain
pub record Visited (rows : List Row) (i : ℕ) (l m heads heads' next next' : List ℕ) : Type 0 where
  pub joined : Joined rows next i (get_or heads (key_of rows l i) 0) l m
  pub head : heads' ≡ set heads (key_of rows l i) (i + 1)
  pub link : next' ≡ set next i (get_or heads (key_of rows l i) 0)

-- ---- passes

-- what holds of the table from the start to the end
pub record Kept (rows : List Row) (eqs : List (ℕ × ℕ)) (l : List ℕ) : Type 0 where
  pub long : length l ≡ length rows
  pub so : Sofar rows eqs (rep_at l)

-- rows that have one representative go on to have one
abbrev pub Grown : ℕ → List ℕ → List ℕ → Type 0
Grown n l m = (x y : ℕ) → x < n → y < n → rep_at l x ≡ rep_at l y → rep_at m x ≡ rep_at m y

-- from l to m: nothing changed, and a goal is met; or the sum fell
pub record Outcome (rows : List Row) (eqs : List (ℕ × ℕ)) (Ok : Type 0) (l m : List ℕ) : Type 0 where
  pub kept : Kept rows eqs m
  pub grown : Grown (length rows) l m
  pub did : ((m ≡ l) × Ok) ⊎ (total (length rows) (rep_at m) < total (length rows) (rep_at l))

-- each two of the first n rows that agree have one representative
abbrev pub Alike : List Row → ℕ → List ℕ → Type 0
Alike rows n l =
    (i j : ℕ) → i < n → j < n → (row_at rows i).symbol ≡ (row_at rows j).symbol
    → map (rep_at l) (row_at rows i).args ≡ map (rep_at l) (row_at rows j).args → rep_at l i ≡ rep_at l j

pub record Passed (rows : List Row) (l m : List ℕ) : Type 0 where
  pub outcome : (eqs : List (ℕ × ℕ)) → Ordered rows → Kept rows eqs l → Outcome rows eqs (Alike rows (length rows) l) l m

-- ---- merges that follow a merge

-- a row that agrees with row i, where one is found
pub record Found (rows : List Row) (l : List ℕ) (n i : ℕ) (at : Option ℕ) : Type 0 where
  pub bound : (p : ℕ) → at ≡ Some p → p < n
  pub agrees : (p : ℕ) → at ≡ Some p → agree rows l i p ≡ true

-- from l to m: what holds of the table goes on to hold, and the sum does not rise
pub record Nearer (rows : List Row) (l m : List ℕ) : Type 0 where
  pub outcome : (eqs : List (ℕ × ℕ)) → Ordered rows → Kept rows eqs l → Outcome rows eqs (Unit {0}) l m

-- ---- a pass of either kind, and the sum of the representatives after it

pub record Pass (rows : List Row) (l m : List ℕ) (s : ℕ) : Type 0 where
  pub passed : Passed rows l m
  pub sum : s ≡ total (length m) (rep_at m)

pub record PassOn (rows : List Row) (l m : List ℕ) (s : ℕ) : Type 0 where
  pub nearer : Nearer rows l m
  pub sum : s ≡ total (length m) (rep_at m)

-- ---- between passes

-- the sides of each equation have one representative
abbrev pub Met : List (ℕ × ℕ) → List ℕ → Type 0
Met eqs l = (p : ℕ) → p < length eqs → rep_at l (left_at eqs p) ≡ rep_at l (right_at eqs p)

-- a table t of the rows and the statements that are lent, with the sum of its representatives
pub record Rounding (run said t : List ℕ) (sum : ℕ) : Type 0 where
  pub fit : Fit (context_of run said)
  pub laid : Laid run
  pub kept : Kept (rows_of run) (equations_of (statements_of said)) t
  pub met : Met (equations_of (statements_of said)) t
  pub so : sum ≡ total (length t) (rep_at t)

-- ---- stated differences, by a table

unfoldable pub difference_at : List ℕ → ℕ → ℕ
difference_at said k = elim (eqb (kind_in said k) 2) [ true ↦ 0 | false ↦ 1 ]

unfoldable pub clash_at : List ℕ → List ℕ → ℕ → Bool
clash_at said t k = not (eqb (kind_in said k) 2) && eqb (rep_at t (left_in said k)) (rep_at t (right_in said k))

unfoldable pub both_same : ℕ → ℕ → ℕ → ℕ → Bool
both_same a b p q = eqb a p && eqb b q

unfoldable pub either_same : ℕ → ℕ → ℕ → ℕ → Bool
either_same a b p q = both_same a b p q || both_same b a p q

unfoldable pub apart_at : List ℕ → List ℕ → ℕ → ℕ → ℕ → Bool
apart_at said t k a b = not (eqb (kind_in said k) 2) && either_same a b (rep_at t (left_in said k)) (rep_at t (right_in said k))
