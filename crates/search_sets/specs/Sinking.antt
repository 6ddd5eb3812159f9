-- What the arguments of a row inside the table can be, by the context rows that fit and have a class of the row.
--     SinkAsk               what is asked: a row that is a symbol, and scratch for a set for each place of its arguments
--     TableRow              a context row that fits and whose class the row can have
--     AddAsk, AddArgAsk     a context row whose arguments' classes have places in the scratch; and one of them
--     AddsArg, AddsArgs     the class of one argument is put in at its place; of all of them
--     Sees, Seen, Looked    the same where a context row is one of the table's; for the first n context rows; for all
--     CutArgAsk, CutsArg, CutsAsk    one argument cut to its set of the scratch; what is asked for all
--     InMore, CutsArgs      the numbers of the arguments are in the scratch; a cut of the arguments leaves out no assignment for which they are
--     Inside, InsideBy, Enters      a row that is known, lies inside and has known arguments
-- Assumes nothing.
use Rattle.std.specs.Prelude.{Bool, true, false, List, ◌≡◌, ℕ, ◌*◌, ◌≤◌, ◌<◌, length, get_or}
use Rattle.meaning.specs.Values.{number_at, numbers}
use Rattle.bits.specs.Sets.{bit_at, has}
use Rattle.runs.specs.Limits.{arg_places}
use Rattle.runs.specs.Runs.{row_count, count_in, arg_in, pattern_count, pattern_count_in, pattern_arg_in}
use Rattle.runs.specs.Fit.{Decides, RowAt}
use Rattle.search_sets.specs.Places.{known_at, outside_at, most_words}
use Rattle.search_sets.specs.Words.{Grown, CutRow}
use Rattle.search_sets.specs.Keeps.{Setting, Fits, AllowedIn}
use Rattle.search_sets.specs.Rising.{Symbol, FitsIn, KnownSymbol, PatternAsk, KnownArgs}

pub record SinkAsk (rows table patterns : List ℕ) (size more width p : ℕ) : Type 0 where
  pub symbol : Symbol rows table patterns size width p
  pub wide : arg_places * width ≤ more

pub record SinkRowAsk (rows table patterns : List ℕ) (size more width p i : ℕ) : Type 0 where
  pub ask : SinkAsk rows table patterns size more width p
  pub below : i < row_count rows

pub record TableRow (rows table patterns sets : List ℕ) (width p i : ℕ) : Type 0 where
  pub class : has sets (p * width) (get_or table i 0) ≡ true
  pub fits : FitsIn rows table patterns sets width p i

pub record AddAsk (rows table : List ℕ) (more width i : ℕ) : Type 0 where
  pub below : i < row_count rows
  pub placed : RowAt rows i
  pub entries : (j : ℕ) → j < row_count rows → get_or table j 0 < width * 64
  pub long : row_count rows ≤ length table
  pub wide : arg_places * width ≤ more
  pub narrow : width ≤ most_words

pub record AddArgAsk (rows table : List ℕ) (more width i k : ℕ) : Type 0 where
  pub ask : AddAsk rows table more width i
  pub place : k < count_in rows i

pub record AddsArg (rows table old new : List ℕ) (width i k : ℕ) : Type 0 where
  pub grown : Grown old new
  pub put : has new (k * width) (get_or table (arg_in rows i k) 0) ≡ true

-- the first n of them
pub record AddsArgs (rows table old new : List ℕ) (width i n : ℕ) : Type 0 where
  pub grown : Grown old new
  pub put : (k : ℕ) → k < n → has new (k * width) (get_or table (arg_in rows i k) 0) ≡ true

pub record Sees (rows table patterns sets old new : List ℕ) (width p i : ℕ) (r : Bool) : Type 0 where
  pub grown : Grown old new
  pub row : Decides r (TableRow rows table patterns sets width p i)
  pub put : r ≡ true → (k : ℕ) → k < count_in rows i → has new (k * width) (get_or table (arg_in rows i k) 0) ≡ true

pub record Seen (rows table patterns sets old new : List ℕ) (width p n : ℕ) (r : Bool) : Type 0 where
  pub grown : Grown old new
  pub put : (i : ℕ) → i < n → TableRow rows table patterns sets width p i → (k : ℕ) → k < count_in rows i → has new (k * width) (get_or table (arg_in rows i k) 0) ≡ true
  pub none : r ≡ false → (i : ℕ) → i < n → TableRow rows table patterns sets width p i → ⊥

-- all of them, with nothing in the scratch before
pub record Looked (rows table patterns sets old new : List ℕ) (width p : ℕ) (r : Bool) : Type 0 where
  pub long : length new ≡ length old
  pub put : (i : ℕ) → i < row_count rows → TableRow rows table patterns sets width p i → (k : ℕ) → k < count_in rows i → has new (k * width) (get_or table (arg_in rows i k) 0) ≡ true
  pub none : r ≡ false → (i : ℕ) → i < row_count rows → TableRow rows table patterns sets width p i → ⊥

pub record CutArgAsk (patterns : List ℕ) (size more width p k : ℕ) : Type 0 where
  pub ask : PatternAsk patterns size width p
  pub place : k < pattern_count_in patterns p
  pub wide : arg_places * width ≤ more

pub record CutsArg (patterns more old new : List ℕ) (width p k : ℕ) : Type 0 where
  pub cut : CutRow old more new (known_at (pattern_count patterns) width) (pattern_arg_in patterns p k * width) (k * width) width (pattern_arg_in patterns p k)

-- of the first n arguments
pub record InMore (s : Setting) (patterns more : List ℕ) (width p n : ℕ) (a : List ℕ) : Type 0 where
  pub each : (k : ℕ) → k < n
      → (number_at (numbers s.rows s.rep s.offset s.rule.patterns a) (pattern_arg_in patterns p k) < s.bound)
      × (has more (k * width) (number_at (numbers s.rows s.rep s.offset s.rule.patterns a) (pattern_arg_in patterns p k)) ≡ true)

pub record CutsArgs (patterns more old new : List ℕ) (width p n : ℕ) : Type 0 where
  pub long : length new ≡ length old
  pub keeps : (s : Setting) → Fits (pattern_count patterns) width s → (a : List ℕ) → InMore s patterns more width p n a → AllowedIn s (pattern_count patterns) width old a
      → AllowedIn s (pattern_count patterns) width new a

pub record CutsAsk (patterns sets : List ℕ) (more width p : ℕ) : Type 0 where
  pub ask : PatternAsk patterns (length sets) width p
  pub known : KnownArgs patterns sets width p (pattern_count_in patterns p) true
  pub wide : arg_places * width ≤ more

pub record Inside (rows table patterns sets : List ℕ) (more width p : ℕ) : Type 0 where
  pub symbol : KnownSymbol rows table patterns sets width p
  pub wide : arg_places * width ≤ more
  pub known : bit_at (get_or sets (known_at (pattern_count patterns) width) 0) p ≡ true
  pub inside : bit_at (get_or sets (outside_at (pattern_count patterns) width) 0) p ≡ false

pub record InsideBy (patterns sets : List ℕ) (width p : ℕ) (r : Bool) : Type 0 where
  pub known : r ≡ true → bit_at (get_or sets (known_at (pattern_count patterns) width) 0) p ≡ true
  pub inside : r ≡ true → bit_at (get_or sets (outside_at (pattern_count patterns) width) 0) p ≡ false
  pub args : KnownArgs patterns sets width p (pattern_count_in patterns p) r

pub record Enters (rows table patterns sets : List ℕ) (more width p : ℕ) (r : Bool) : Type 0 where
  pub enter : r ≡ true → Inside rows table patterns sets more width p
