-- The steps that leave something out before a choice. Each is a function of what is possible; any number may be run in any order.
--     upward          what a pattern row can be, by its variable's candidates, or by the context rows of its symbol that fit its arguments
--     equate          an equal literal: what both can have; two terms outside the table have one symbol and equal arguments
--     keep_apart       an unequal literal: what may differ from something that the other can have
--     downward        a row inside the table has the arguments of some context row
--     choosable       a variable's candidates by one of its pattern rows
--     symbol_bit       a row inside the table has a class with its symbol's bit
--     match_bit        so has a variable that a literal equates with such a row
--     row_left, variable_left   nothing left for a row or for a variable: no breach
--     upward_first_by, downward_first_by   upward and downward from a table of facts without doubles
--     settled         a row whose variables are all chosen has its number
--     round           all of them once: upward, cut by the literals, downward
--     start, run      all that a choice and a box leave open; steps one after another
--     pruned_by        the box by what is possible
--     entries_below, guarded    whether a table's entries fit into the sets; a pruning only where they do
-- Assumes nothing.
use Rattle.std.specs.Prelude.{Bool, true, false, not, ◌&&◌, List, [], ◌∷◌, map, ℕ, zero, suc, ◌-◌, ◌%◌, eqb, leb, ltb, length, get_or}
use Rattle.meaning.specs.Context.{Row}
use Rattle.meaning.specs.Rules.{Pattern, variable, apply, Literal, equal, unequal, Clause}
use Rattle.meaning.specs.Grounds.{literal_at}
use Rattle.meaning.specs.Values.{pattern_at, number_at, held}
use Rattle.meaning.proofs.Box.{Box}
use Rattle.meaning.proofs.Prunings.{sift_box}
use Rattle.bits.specs.Sets.{any_below, size}
use Rattle.matching.specs.Possible.{Possible, put, cut, sift, shut, shut_if, any_row, may}

-- ---- pattern rows, place by place

-- what both rows can be
unfoldable pub meet : ℕ → ℕ → Possible → Possible
meet p q P =
    let set : ℕ → Bool = λ x. P.classes p x && P.classes q x in
    let out : Bool = P.outside p && P.outside q in
    put q set out (put p set out P)

-- a step for the pairs of two lists; no breach where one is longer
unfoldable pub pairwise : (ℕ → ℕ → Possible → Possible) → List ℕ → List ℕ → Possible → Possible
pairwise step [] [] P = P
pairwise step [] (b ∷ m) P = shut P
pairwise step (a ∷ l) [] P = shut P
pairwise step (a ∷ l) (b ∷ m) P = pairwise step l m (step a b P)

-- the arguments of two terms that both lie outside
unfoldable pub inside : (ℕ → ℕ → Possible → Possible) → Pattern → Pattern → Possible → Possible
inside step (variable v) p P = shut P
inside step (apply f l) (variable v) P = shut P
inside step (apply f l) (apply g m) P = elim (eqb f g) [ true ↦ pairwise step l m P | false ↦ shut P ]

-- the arguments from the j-th on; `set` is given the place
unfoldable pub cut_all : (ℕ → ℕ → Bool) → ℕ → List ℕ → Possible → Possible
cut_all set j [] P = P
cut_all set j (a ∷ l) P = cut_all set (suc j) l (cut a (set j) false P)

module _ (rows : List Row) (rep : ℕ → ℕ) (bound : ℕ) (ps : List Pattern) where
  -- ---- context rows that fit

  -- a context row has the symbol, over classes that the arguments can have
  unfoldable pub fits : Possible → ℕ → List ℕ → Row → Bool
  fits P f l r = eqb f r.symbol && may P.classes l (map rep r.args)

  unfoldable pub fitting : Possible → ℕ → List ℕ → Bool
  fitting P f l = any_row (λ i r. fits P f l r) 0 rows

  -- the classes of the context rows that fit
  unfoldable pub reached : Possible → ℕ → List ℕ → ℕ → Bool
  reached P f l x = any_row (λ i r. fits P f l r && eqb x (rep i)) 0 rows

  -- each row has one class at most, and does not lie outside
  unfoldable pub fixed : Possible → List ℕ → Bool
  fixed P [] = true
  fixed P (a ∷ l) = (not (P.outside a) && leb (size bound (P.classes a)) 1) && fixed P l

  -- ---- upward

  unfoldable pub upward_by : ℕ → Pattern → Possible → Possible
  upward_by p (variable v) P = put p (P.candidates v) false P
  upward_by p (apply f l) P = put p (reached P f l) (not (fixed P l && fitting P f l)) P

  unfoldable pub upward : ℕ → Possible → Possible
  upward p P = upward_by p (pattern_at ps p) P

  -- ---- equal literals

  -- into the arguments n deep, where no class is common
  unfoldable pub equate : ℕ → ℕ → ℕ → Possible → Possible
  equate zero p q P = meet p q P
  equate (suc n) p q P =
      elim (any_below bound (λ x. P.classes p x && P.classes q x)) [
        | true ↦ meet p q P
        | false ↦ elim (P.outside p && P.outside q) [ true ↦ inside (equate n) (pattern_at ps p) (pattern_at ps q) (meet p q P) | false ↦ shut P ]
      ]

  -- ---- unequal literals, by a test that passes all that differs

  unfoldable pub apart_right : (ℕ → ℕ → Bool) → ℕ → ℕ → Possible → Possible
  apart_right apart p q P = cut q (λ x. any_below bound (λ n. P.classes p n && apart n x)) false P

  unfoldable pub apart_left : (ℕ → ℕ → Bool) → ℕ → ℕ → Possible → Possible
  apart_left apart p q P = cut p (λ n. any_below bound (λ x. P.classes q x && apart n x)) false P

  unfoldable pub keep_apart : (ℕ → ℕ → Bool) → ℕ → ℕ → Possible → Possible
  keep_apart apart p q P = apart_left apart p q (apart_right apart p q P)

  -- ---- downward

  -- a context row that fits and has a class of the pattern row
  unfoldable pub in_table : Possible → ℕ → ℕ → List ℕ → ℕ → Row → Bool
  in_table P p f l i r = P.classes p (rep i) && fits P f l r

  -- the classes of the j-th argument
  unfoldable pub seen : Possible → ℕ → ℕ → List ℕ → ℕ → ℕ → Bool
  seen P p f l j x = any_row (λ i r. in_table P p f l i r && eqb x (get_or (map rep r.args) j 0)) 0 rows

  unfoldable pub downward_by : ℕ → Pattern → Possible → Possible
  downward_by p (variable v) P = P
  downward_by p (apply f l) P =
      elim (P.outside p) [
        | true ↦ P
        | false ↦ shut_if (not (any_row (in_table P p f l) 0 rows)) (cut_all (seen P p f l) 0 l P)
      ]

  unfoldable pub downward : ℕ → Possible → Possible
  downward p P = downward_by p (pattern_at ps p) P

  -- ---- candidates

  unfoldable pub choosable_by : ℕ → Pattern → Possible → Possible
  choosable_by p (variable v) P = sift v (P.classes p) P
  choosable_by p (apply f l) P = P

  unfoldable pub choosable : ℕ → Possible → Possible
  choosable p P = choosable_by p (pattern_at ps p) P

  -- ---- symbols as bits

  -- whether a class has a member whose symbol has bit b
  unfoldable pub symbols_of : ℕ → ℕ → Bool
  symbols_of x b = any_row (λ i r. eqb x (rep i) && eqb b (r.symbol % 64)) 0 rows

  -- `bits` is given a class and a bit
  unfoldable pub symbol_bit_by : (ℕ → ℕ → Bool) → ℕ → Pattern → Possible → Possible
  symbol_bit_by bits p (variable v) P = P
  symbol_bit_by bits p (apply f l) P = cut p (λ x. bits x (f % 64)) true P

  unfoldable pub symbol_bit : (ℕ → ℕ → Bool) → ℕ → Possible → Possible
  symbol_bit bits p P = symbol_bit_by bits p (pattern_at ps p) P

  -- an equal literal of a variable and a symbol row: the variable's row has a class with the symbol's bit
  unfoldable pub match_by : (ℕ → ℕ → Bool) → Pattern → Pattern → Possible → Possible
  match_by bits (variable v) (apply f l) P = sift v (λ x. bits x (f % 64)) P
  match_by bits (variable v) (variable w) P = P
  match_by bits (apply f l) q P = P

  unfoldable pub match_bit : (ℕ → ℕ → Bool) → ℕ → ℕ → Possible → Possible
  match_bit bits p q P = match_by bits (pattern_at ps q) (pattern_at ps p) (match_by bits (pattern_at ps p) (pattern_at ps q) P)

  -- ---- nothing left

  unfoldable pub row_left : ℕ → Possible → Possible
  row_left p P = shut_if (not (P.outside p) && not (any_below bound (P.classes p))) P

  unfoldable pub variable_left : ℕ → Possible → Possible
  variable_left v P = shut_if (not (any_below bound (P.candidates v))) P

  -- ---- the same from a table of facts that keeps one for each symbol over some classes: the first, whose class alone counts

  unfoldable pub class_first : ℕ → Row → ℕ
  class_first f r = held rep f (map rep r.args) 0 0 rows

  unfoldable pub reached_first : Possible → ℕ → List ℕ → ℕ → Bool
  reached_first P f l x = any_row (λ i r. fits P f l r && eqb x (class_first f r)) 0 rows

  unfoldable pub upward_first_by : ℕ → Pattern → Possible → Possible
  upward_first_by p (variable v) P = put p (P.candidates v) false P
  upward_first_by p (apply f l) P = put p (reached_first P f l) (not (fixed P l && fitting P f l)) P

  unfoldable pub in_table_first : Possible → ℕ → ℕ → List ℕ → Row → Bool
  in_table_first P p f l r = P.classes p (class_first f r) && fits P f l r

  unfoldable pub seen_first : Possible → ℕ → ℕ → List ℕ → ℕ → ℕ → Bool
  seen_first P p f l j x = any_row (λ i r. in_table_first P p f l r && eqb x (get_or (map rep r.args) j 0)) 0 rows

  unfoldable pub downward_first_by : ℕ → Pattern → Possible → Possible
  downward_first_by p (variable v) P = P
  downward_first_by p (apply f l) P =
      elim (P.outside p) [
        | true ↦ P
        | false ↦ shut_if (not (any_row (λ i r. in_table_first P p f l r) 0 rows)) (cut_all (seen_first P p f l) 0 l P)
      ]

-- ---- rows whose variables are all chosen

-- row p has the number n
unfoldable pub settled : ℕ → ℕ → ℕ → Possible → Possible
settled offset p n P = cut p (λ x. eqb x n) (leb offset n) P

-- ---- rounds

-- a step for the numbers below n, rising, and falling
unfoldable pub rising : (ℕ → Possible → Possible) → ℕ → Possible → Possible
rising step zero P = P
rising step (suc n) P = step n (rising step n P)

unfoldable pub falling : (ℕ → Possible → Possible) → ℕ → Possible → Possible
falling step zero P = P
falling step (suc n) P = falling step n (step n P)

unfoldable pub times : ℕ → (Possible → Possible) → Possible → Possible
times zero step P = P
times (suc n) step P = times n step (step P)

module _ (rows : List Row) (rep : ℕ → ℕ) (bound : ℕ) (k : Clause) (apart bits : ℕ → ℕ → Bool) where
  unfoldable pub literal_step : Literal → Possible → Possible
  literal_step (equal p q) P = equate rows rep bound k.patterns (length k.patterns) p q P
  literal_step (unequal p q) P = keep_apart rows rep bound k.patterns apart p q P

  unfoldable pub rise : ℕ → Possible → Possible
  rise p P = symbol_bit rows rep bound k.patterns bits p (upward rows rep bound k.patterns p P)

  unfoldable pub fall : ℕ → Possible → Possible
  fall p P =
      row_left rows rep bound k.patterns p (choosable rows rep bound k.patterns p (downward rows rep bound k.patterns p P))

  -- upward, cut by the literals, and downward
  unfoldable pub round : Possible → Possible
  round P =
      falling fall (length k.patterns)
      (rising (λ j. literal_step (literal_at k.literals j)) (length k.literals) (rising rise (length k.patterns) P))

-- ---- a pruning made of steps

unfoldable pub among : List ℕ → ℕ → Bool
among [] x = false
among (y ∷ l) x = elim (eqb x y) [ true ↦ true | false ↦ among l x ]

-- a chosen variable has its row, any other the rows of its place of the box
unfoldable pub start_rows : List ℕ → Box → ℕ → ℕ → Bool
start_rows chosen box v x = elim (ltb v (length chosen)) [ true ↦ eqb x (number_at chosen v) | false ↦ among (get_or box (v - length chosen) []) x ]

unfoldable pub start : List ℕ → Box → Possible
start chosen box = record { alive = true; classes = λ p x. true; outside = λ p. true; candidates = start_rows chosen box }

unfoldable pub run : List (Possible → Possible) → Possible → Possible
run [] P = P
run (step ∷ steps) P = run steps (step P)

-- a row of a variable is kept where it is a candidate, and none where no breach is left
unfoldable pub keeps : Possible → ℕ → ℕ → Bool
keeps P v x = P.alive && P.candidates v x

-- what some steps leave of a choice and a box
unfoldable pub possible_by : (List ℕ → Box → List (Possible → Possible)) → List ℕ → Box → Possible
possible_by steps chosen box = run (steps chosen box) (start chosen box)

-- the box by what is possible
unfoldable pub pruned_by : (List ℕ → Box → Possible) → List ℕ → Box → Box
pruned_by possible chosen box = sift_box (keeps (possible chosen box)) (length chosen) box

-- n rounds, by the choice and the box
unfoldable pub rounds : List Row → (ℕ → ℕ) → ℕ → Clause → (ℕ → ℕ → Bool) → (ℕ → ℕ → Bool) → (List ℕ → Box → ℕ) → List ℕ → Box → List (Possible → Possible)
rounds rows rep bound k apart bits n chosen box = times (n chosen box) (round rows rep bound k apart bits) ∷ []

-- ---- tables from outside

-- the entries of the first n rows stand below a bound
unfoldable pub entries_below : (ℕ → ℕ) → ℕ → ℕ → Bool
entries_below rep bound zero = true
entries_below rep bound (suc n) = ltb (rep n) bound && entries_below rep bound n

-- a pruning that is left out where a test fails
unfoldable pub guarded : Bool → (List ℕ → Box → Box) → List ℕ → Box → Box
guarded true prune chosen box = prune chosen box
guarded false prune chosen box = box
