-- What a row that is a symbol can be, by the context rows that fit its arguments.
--     RowsOf                 settings that a run of rows, a table and a run of pattern rows say
--     Symbol                 what is asked: a row that is a symbol over earlier rows, and entries that have places in the sets
--     PatternAsk             the same of the row alone
--     SameHead               a context row has the row's symbol over as many arguments
--     RowAsk, HeadAsk, ArgAsk    a context row is asked besides; with the row's symbol; and a place of its arguments
--     FitsIn                 a context row has the row's symbol, over classes that its arguments can have
--     Joins                  one context row: its class is put in where it fits
--     Gathered               the classes of the context rows that fit are in, and whether one does
--     KnownArgs, KnownSymbol    the words of all arguments count
--     FixedArg, FixedAt, FixedArgs    an argument has one class at most and does not lie outside; all of them
-- Assumes nothing.
use Rattle.std.specs.Prelude.{Bool, true, false, List, ◌≡◌, ℕ, ◌+◌, ◌*◌, ◌≤◌, ◌<◌, length, get_or}
use Rattle.bits.specs.Sets.{bit_at, has}
use Rattle.runs.specs.Limits.{pattern_size}
use Rattle.runs.specs.Runs.{row_count, symbol_in, count_in, arg_in, rows_of, pattern_count, pattern_kind_in, head_in, pattern_count_in, pattern_arg_in, patterns_of}
use Rattle.runs.specs.Fit.{Decides, Every, PlacedAt, RowAt}
use Rattle.search_sets.specs.Places.{known_at, outside_at, RowIn}
use Rattle.search_sets.specs.Words.{Changed, Single}
use Rattle.search_sets.specs.Keeps.{Setting}

pub record RowsOf (rows table patterns : List ℕ) (s : Setting) : Type 0 where
  pub said : s.rows ≡ rows_of rows
  pub entry : (i : ℕ) → s.rep i ≡ get_or table i 0
  pub pattern : s.rule.patterns ≡ patterns_of patterns

pub record Symbol (rows table patterns : List ℕ) (size width p : ℕ) : Type 0 where
  pub row : RowIn size (pattern_count patterns) width p
  pub kind : pattern_kind_in patterns p ≡ 4 → ⊥
  pub args : PlacedAt patterns (p * pattern_size + 3) (pattern_count_in patterns p) p
  pub placed : Every (row_count rows) (RowAt rows)
  pub entries : (i : ℕ) → i < row_count rows → get_or table i 0 < width * 64
  pub long : row_count rows ≤ length table

-- what is asked of the pattern row alone
pub record PatternAsk (patterns : List ℕ) (size width p : ℕ) : Type 0 where
  pub row : RowIn size (pattern_count patterns) width p
  pub args : PlacedAt patterns (p * pattern_size + 3) (pattern_count_in patterns p) p

pub record RowAsk (rows table patterns : List ℕ) (size width p i : ℕ) : Type 0 where
  pub symbol : Symbol rows table patterns size width p
  pub below : i < row_count rows

pub record SameHead (rows patterns : List ℕ) (p i : ℕ) : Type 0 where
  pub symbol : symbol_in rows i ≡ head_in patterns p
  pub count : count_in rows i ≡ pattern_count_in patterns p

pub record HeadAsk (rows table patterns : List ℕ) (size width p i : ℕ) : Type 0 where
  pub ask : RowAsk rows table patterns size width p i
  pub head : SameHead rows patterns p i

pub record ArgAsk (rows table patterns : List ℕ) (size width p i k : ℕ) : Type 0 where
  pub ask : RowAsk rows table patterns size width p i
  pub head : SameHead rows patterns p i
  pub place : k < count_in rows i

abbrev pub ArgFits : List ℕ → List ℕ → List ℕ → List ℕ → ℕ → ℕ → ℕ → ℕ → Type 0
ArgFits rows table patterns sets width p i k = has sets (pattern_arg_in patterns p k * width) (get_or table (arg_in rows i k) 0) ≡ true

pub record FitsIn (rows table patterns sets : List ℕ) (width p i : ℕ) : Type 0 where
  pub head : SameHead rows patterns p i
  pub args : (k : ℕ) → k < count_in rows i → ArgFits rows table patterns sets width p i k

pub record Joins (rows table patterns old new : List ℕ) (width p i : ℕ) (r : Bool) : Type 0 where
  pub changed : Changed (pattern_count patterns) width old new p
  pub kept : (x : ℕ) → x < width * 64 → has old (p * width) x ≡ true → has new (p * width) x ≡ true
  pub fits : Decides r (FitsIn rows table patterns old width p i)
  pub joined : r ≡ true → has new (p * width) (get_or table i 0) ≡ true

pub record Fitting (rows table patterns sets : List ℕ) (width p n : ℕ) : Type 0 where
  pub row : ℕ
  pub below : row < n
  pub fits : FitsIn rows table patterns sets width p row

-- of the first n context rows
pub record Gathered (rows table patterns old new : List ℕ) (width p n : ℕ) (r : Bool) : Type 0 where
  pub changed : Changed (pattern_count patterns) width old new p
  pub reach : (j : ℕ) → j < n → FitsIn rows table patterns old width p j → has new (p * width) (get_or table j 0) ≡ true
  pub some : r ≡ true → Fitting rows table patterns old width p n

-- of the first n arguments
pub record KnownArgs (patterns sets : List ℕ) (width p n : ℕ) (r : Bool) : Type 0 where
  pub known : r ≡ true → (k : ℕ) → k < n → bit_at (get_or sets (known_at (pattern_count patterns) width) 0) (pattern_arg_in patterns p k) ≡ true

pub record FixedArg (sets : List ℕ) (count width a : ℕ) : Type 0 where
  pub inside : bit_at (get_or sets (outside_at count width) 0) a ≡ false
  pub one : Single sets (a * width) width true

-- the same by the places
pub record FixedAt (sets : List ℕ) (at base width a : ℕ) (r : Bool) : Type 0 where
  pub inside : r ≡ true → bit_at (get_or sets at 0) a ≡ false
  pub one : Single sets base width r

pub record FixedArgs (patterns sets : List ℕ) (width p n : ℕ) (r : Bool) : Type 0 where
  pub fixed : r ≡ true → (k : ℕ) → k < n → FixedArg sets (pattern_count patterns) width (pattern_arg_in patterns p k)

-- a symbol whose arguments are known
pub record KnownSymbol (rows table patterns sets : List ℕ) (width p : ℕ) : Type 0 where
  pub symbol : Symbol rows table patterns (length sets) width p
  pub known : KnownArgs patterns sets width p (pattern_count_in patterns p) true
