-- What the functions that make the sets ask and answer. A set is named by its number: those of over, beside and apart for each of n classes, and live.
--     Seat, Put                one number put into one set
--     More                     numbers put into sets, of which none says what is kept apart
--     Base .. Pair             rows, a table of classes and sets of a length, with one row, two, or an argument; two classes
--     ArgClass                 the class of an argument
--     OverPut .. Placed        rows over classes, and classes beside each other
--     Sided, Telling           the sides of differences are live; the first statements told
--     Told, Untold             what telling one statement asks, and telling all
--     ApartPut                 two classes kept apart
--     Fresh, LivePut .. Spread classes that become live
--     Connected                all but the statements
-- Assumes nothing.
use Rattle.std.specs.Prelude.{Bool, true, false, ◌||◌, List, [], ◌∷◌, ◌≡◌, ℕ, ◌+◌, ◌*◌, ◌<◌, ◌≤◌, eqb, length}
use Rattle.meaning.specs.Context.{differences_of}
use Rattle.meaning.specs.Equality.{rep_at}
use Rattle.meaning.specs.ByTable.{apart_by}
use Rattle.runs.specs.Fit.{Every, NamedAt}
use Rattle.runs.specs.Runs.{each, row_count, said_count, symbol_in, count_in, arg_in, statement_in}
use Rattle.bits.specs.Sets.{has}
use Rattle.search_pairs.specs.Ready.{words_for, most_words, over_at, beside_at, apart_at, live_at}
use Rattle.search_pairs.specs.Steps.{Laid, Inside, sets_size}

-- ---- one number put into one set

-- set s stands in a run of a length, and k is one of n
pub record Seat (n len s k : ℕ) : Type 0 where
  pub few : words_for n ≤ most_words
  pub set : s ≤ n + n + n
  pub room : s * words_for n + words_for n ≤ len
  pub inside : k < n

pub record Put (n s k : ℕ) (old new : List ℕ) : Type 0 where
  pub long : length new ≡ length old
  pub exact : (base j : ℕ) → has new base j ≡ (has old base j || eqb (base * 64 + j) (s * words_for n * 64 + k))

-- what was in a set still is, and what is kept apart is as it was
pub record More (n : ℕ) (old new : List ℕ) : Type 0 where
  pub long : length new ≡ length old
  pub grown : (base j : ℕ) → has old base j ≡ true → has new base j ≡ true
  pub apart : (a b : ℕ) → a < n → b < n → apart_at n new a b ≡ apart_at n old a b

-- ---- rows

-- n rows, the table of their classes, and sets of a length
pub record Base (n : ℕ) (rows table : List ℕ) (len : ℕ) : Type 0 where
  pub count : n ≡ row_count rows
  pub laid : Laid rows
  pub inside : Inside n table
  pub long : len ≡ sets_size n

pub record RowIn (n : ℕ) (rows table : List ℕ) (len r : ℕ) : Type 0 where
  pub base : Base n rows table len
  pub row : r < n

pub record TwoRows (n : ℕ) (rows table : List ℕ) (len r s : ℕ) : Type 0 where
  pub base : Base n rows table len
  pub row : r < n
  pub other : s < n

-- and one count
pub record Matched (n : ℕ) (rows table : List ℕ) (len r s : ℕ) : Type 0 where
  pub two : TwoRows n rows table len r s
  pub counts : count_in rows r ≡ count_in rows s

pub record ArgIn (n : ℕ) (rows table : List ℕ) (r k : ℕ) : Type 0 where
  pub count : n ≡ row_count rows
  pub laid : Laid rows
  pub inside : Inside n table
  pub row : r < n
  pub place : k < count_in rows r

-- two of n, and sets of a length
pub record Pair (n len x y : ℕ) : Type 0 where
  pub few : words_for n ≤ most_words
  pub long : len ≡ sets_size n
  pub left : x < n
  pub right : y < n

-- the class of argument k of row r
abbrev pub arg_class : List ℕ → List ℕ → ℕ → ℕ → ℕ
arg_class rows table r k = rep_at table (arg_in rows r k)

pub record ArgClass (n : ℕ) (rows table : List ℕ) (r k x : ℕ) : Type 0 where
  pub so : x ≡ arg_class rows table r k
  pub inside : x < n

pub record OverPut (n x r : ℕ) (old new : List ℕ) : Type 0 where
  pub more : More n old new
  pub here : over_at n new x r ≡ true

pub record BesidePut (n x y : ℕ) (old new : List ℕ) : Type 0 where
  pub more : More n old new
  pub there : beside_at n new x y ≡ true
  pub back : beside_at n new y x ≡ true

-- row r over the classes of its arguments before count
pub record OverRow (n : ℕ) (rows table : List ℕ) (r count : ℕ) (old new : List ℕ) : Type 0 where
  pub more : More n old new
  pub each : (k : ℕ) → k < count → over_at n new (arg_class rows table r k) r ≡ true

-- the classes of the arguments before count of rows r and s beside each other
pub record BesideArgs (n : ℕ) (rows table : List ℕ) (r s count : ℕ) (old new : List ℕ) : Type 0 where
  pub more : More n old new
  pub there : (k : ℕ) → k < count → beside_at n new (arg_class rows table r k) (arg_class rows table s k) ≡ true
  pub back : (k : ℕ) → k < count → beside_at n new (arg_class rows table s k) (arg_class rows table r k) ≡ true

-- whether two rows have one symbol and one count
pub record Alike (rows : List ℕ) (r s : ℕ) (b : Bool) : Type 0 where
  pub counts : b ≡ true → count_in rows r ≡ count_in rows s
  pub other : b ≡ false → symbol_in rows r ≡ symbol_in rows s → count_in rows r ≡ count_in rows s → ⊥

-- where they have
pub record BesideIn (n : ℕ) (rows table sets : List ℕ) (r s : ℕ) : Type 0 where
  pub each : symbol_in rows r ≡ symbol_in rows s → count_in rows r ≡ count_in rows s → (k : ℕ) → k < count_in rows r
      → (beside_at n sets (arg_class rows table r k) (arg_class rows table s k) ≡ true) × (beside_at n sets (arg_class rows table s k) (arg_class rows table r k) ≡ true)

pub record BesideRows (n : ℕ) (rows table : List ℕ) (r s : ℕ) (old new : List ℕ) : Type 0 where
  pub more : More n old new
  pub here : BesideIn n rows table new r s

-- row r and each row before a bound
pub record BesideRow (n : ℕ) (rows table : List ℕ) (r bound : ℕ) (old new : List ℕ) : Type 0 where
  pub more : More n old new
  pub each : (s : ℕ) → s < bound → BesideIn n rows table new r s

-- row r, over the classes of its arguments and beside each row up to itself
pub record RowPlaced (n : ℕ) (rows table : List ℕ) (r : ℕ) (old new : List ℕ) : Type 0 where
  pub more : More n old new
  pub over : (k : ℕ) → k < count_in rows r → over_at n new (arg_class rows table r k) r ≡ true
  pub beside : (s : ℕ) → s ≤ r → BesideIn n rows table new r s

-- the rows before a bound
pub record Placed (n : ℕ) (rows table : List ℕ) (bound : ℕ) (old new : List ℕ) : Type 0 where
  pub more : More n old new
  pub over : (r : ℕ) → r < bound → (k : ℕ) → k < count_in rows r → over_at n new (arg_class rows table r k) r ≡ true
  pub beside : (r : ℕ) → r < bound → (s : ℕ) → s ≤ r → BesideIn n rows table new r s

-- ---- statements

-- what is kept apart is live
pub record Sided (n : ℕ) (sets : List ℕ) : Type 0 where
  pub left : (a b : ℕ) → a < n → b < n → apart_at n sets a b ≡ true → live_at n sets a ≡ true
  pub right : (a b : ℕ) → a < n → b < n → apart_at n sets a b ≡ true → live_at n sets b ≡ true

-- the statements before k are told
pub record Telling (n : ℕ) (said table : List ℕ) (k : ℕ) (sets : List ℕ) : Type 0 where
  pub long : length sets ≡ sets_size n
  pub sided : Sided n sets
  pub apart : (a b : ℕ) → a < n → b < n → apart_at n sets a b ≡ apart_by (rep_at table) (differences_of (each (statement_in said) k)) a b
  pub rows : (a b : ℕ) → apart_by (rep_at table) (differences_of (each (statement_in said) k)) a b ≡ true → (a < n) × (b < n)

-- statement k can be told
pub record Told (n : ℕ) (said table : List ℕ) (k : ℕ) (sets : List ℕ) : Type 0 where
  pub few : words_for n ≤ most_words
  pub inside : Inside n table
  pub named : Every (said_count said) (NamedAt said n)
  pub statement : k < said_count said
  pub told : Telling n said table k sets

-- all can be told
pub record Untold (n : ℕ) (said table sets : List ℕ) : Type 0 where
  pub few : words_for n ≤ most_words
  pub inside : Inside n table
  pub named : Every (said_count said) (NamedAt said n)
  pub told : Telling n said table 0 sets

-- the classes x and y are kept apart too, and live
pub record ApartPut (n x y : ℕ) (old new : List ℕ) : Type 0 where
  pub long : length new ≡ length old
  pub sided : Sided n old → Sided n new
  pub apart : (a b : ℕ) → a < n → b < n → apart_at n new a b ≡ (apart_at n old a b || apart_by (λ v. v) ((x, y) ∷ []) a b)

-- ---- what is live

-- a class that was not live is
pub record Fresh (n : ℕ) (old new : List ℕ) : Type 0 where
  pub class : ℕ
  pub inside : class < n
  pub before : live_at n old class ≡ false
  pub after : live_at n new class ≡ true

pub record LivePut (n x : ℕ) (old new : List ℕ) (b : Bool) : Type 0 where
  pub more : More n old new
  pub here : live_at n new x ≡ true
  pub same : b ≡ false → new ≡ old
  pub fresh : b ≡ true → Fresh n old new

-- the classes of the arguments before count; the answer is whether one was not live
pub record LiveArgs (n : ℕ) (rows table : List ℕ) (r count : ℕ) (old new : List ℕ) (b : Bool) : Type 0 where
  pub more : More n old new
  pub here : (k : ℕ) → k < count → live_at n new (arg_class rows table r k) ≡ true
  pub same : b ≡ false → new ≡ old
  pub fresh : b ≡ true → Fresh n old new

-- with a row's class the classes of its arguments are live
pub record Under (n : ℕ) (rows table sets : List ℕ) (r : ℕ) : Type 0 where
  pub each : live_at n sets (rep_at table r) ≡ true → (k : ℕ) → k < count_in rows r → live_at n sets (arg_class rows table r k) ≡ true

pub record LiveRow (n : ℕ) (rows table : List ℕ) (r : ℕ) (old new : List ℕ) (b : Bool) : Type 0 where
  pub more : More n old new
  pub under : b ≡ false → Under n rows table new r
  pub same : b ≡ false → new ≡ old
  pub fresh : b ≡ true → Fresh n old new

-- the rows from r on
pub record LivePass (n : ℕ) (rows table : List ℕ) (r : ℕ) (old new : List ℕ) (b : Bool) : Type 0 where
  pub more : More n old new
  pub under : b ≡ false → (i : ℕ) → r ≤ i → i < n → Under n rows table new i
  pub same : b ≡ false → new ≡ old
  pub fresh : b ≡ true → Fresh n old new

pub record Spread (n : ℕ) (rows table : List ℕ) (old new : List ℕ) : Type 0 where
  pub more : More n old new
  pub under : (i : ℕ) → i < n → Under n rows table new i

-- each row placed, and then what is live
pub record Connected (n : ℕ) (rows table : List ℕ) (old new : List ℕ) : Type 0 where
  pub between : List ℕ
  pub placed : Placed n rows table n old between
  pub spread : Spread n rows table between new
