-- The way from no steps to closed classes.
--     started       each entry has a reflexive step and its number for a label
--     blank         before the first, all places 0
--     pair_joined    two entries that a step of its own says are equal are joined
--     stated_pair, stated   the sides of each stated equation are joined
--     added_pair     the sides of an unequal literal are joined by its equation
--     one_label      whether two entries have one label
--     alike         whether two entries have one symbol, and arguments with the same labels
--     argued, congruence   a step for each two arguments, and the step that rests on them
--     united, paired   two entries with one symbol, and arguments with the same labels, are joined
--     passed        each two entries
--     rounds        passes till one writes no step
-- Assumes nothing.
use Rattle.std.specs.Prelude.{Bool, true, false, ◌&&◌, List, map, ℕ, zero, suc, ◌+◌, eqb, ltb, length, get_or, replicate}
use Rattle.meaning.specs.Context.{Row, row_at, left_at, right_at}
use Rattle.meaning.specs.Values.{number_at}
use Rattle.meaning.specs.ByTable.{same_list}
use Rattle.grounds_laws.specs.Limits.{draft_run, class_run}
use Rattle.grounds_laws.specs.Draft.{count_in, Written, pushed}
use Rattle.grounds_laws.specs.Classes.{label_in, labelled, State, state_of, upto, same, joined}

unfoldable pub start_one : List ℕ → ℕ → State → State
start_one ns x state =
    let w : Written = pushed state.cells 2 x (number_at ns x) 0 0 0 0 in
    state_of w.cells (labelled state.table x (number_at ns x) w.number)

-- the first n entries
unfoldable pub started : List ℕ → ℕ → State → State
started ns n state = upto n (start_one ns) state

unfoldable pub blank : State
blank = state_of (replicate draft_run 0) (replicate class_run 0)

-- of n entries; nothing where x and y have one label, and else a step of that kind, with one number
unfoldable pub pair_joined : ℕ → ℕ → ℕ → ℕ → ℕ → State → State
pair_joined n kind x y number state =
    elim (eqb (label_in state.table x) (label_in state.table y)) [
      | true ↦ state
      | false ↦ let w : Written = pushed state.cells kind x y number 0 0 0 in
          joined n w.number x y (state_of w.cells state.table)
    ]

-- l = r is equation i, counted from 0
unfoldable pub stated_pair : ℕ → ℕ → ℕ → ℕ → State → State
stated_pair n l r i state = pair_joined n 1 l r (i + 1) state

unfoldable pub added_pair : ℕ → ℕ → ℕ → State → State
added_pair n x y state = pair_joined n 6 x y 0 state

unfoldable pub state_one : ℕ → List (ℕ × ℕ) → ℕ → State → State
state_one n eqs i state = stated_pair n (left_at eqs i) (right_at eqs i) i state

unfoldable pub stated : ℕ → List (ℕ × ℕ) → State → State
stated n eqs state = upto (length eqs) (state_one n eqs) state

unfoldable pub one_label : List ℕ → ℕ → ℕ → Bool
one_label table x y = eqb (label_in table x) (label_in table y)

-- entries x and y have one symbol, and arguments with the same labels
unfoldable pub alike : List Row → List ℕ → ℕ → ℕ → Bool
alike ks table x y =
    eqb (row_at ks x).symbol (row_at ks y).symbol && same_list (map (label_in table) (row_at ks x).args) (map (label_in table) (row_at ks y).args)

-- arguments i of two lists; number 0 past the last
unfoldable pub argued : List ℕ → List ℕ → List ℕ → List ℕ → ℕ → Written
argued cells table xs ys i =
    elim (ltb i (length xs)) [ true ↦ same cells table (get_or xs i 0) (get_or ys i 0) | false ↦ record { cells = cells; number = 0 } ]

-- x = y by their arguments, the first two of which are shown
unfoldable pub congruent_by : List ℕ → List ℕ → List ℕ → List ℕ → ℕ → ℕ → ℕ → ℕ → Written
congruent_by cells table xs ys x y a b =
    let r : Written = argued cells table xs ys 2 in
    let s : Written = argued r.cells table xs ys 3 in
    pushed s.cells 5 x y a b r.number s.number

unfoldable pub congruence : List ℕ → List ℕ → List ℕ → List ℕ → ℕ → ℕ → Written
congruence cells table xs ys x y =
    let p : Written = argued cells table xs ys 0 in
    let q : Written = argued p.cells table xs ys 1 in
    congruent_by q.cells table xs ys x y p.number q.number

unfoldable pub united : ℕ → List ℕ → List ℕ → ℕ → ℕ → State → State
united n xs ys x y state =
    let w : Written = congruence state.cells state.table xs ys x y in
    joined n w.number x y (state_of w.cells state.table)

-- entries x and y, by the keys of all
unfoldable pub paired_apart : ℕ → List Row → ℕ → ℕ → State → State
paired_apart n ks x y state = elim (alike ks state.table x y) [ true ↦ united n (row_at ks x).args (row_at ks y).args x y state | false ↦ state ]

unfoldable pub paired : ℕ → List Row → ℕ → ℕ → State → State
paired n ks x y state =
    elim (eqb (label_in state.table x) (label_in state.table y)) [ true ↦ state | false ↦ paired_apart n ks x y state ]

-- entry x and each before it
unfoldable pub row_passed : ℕ → List Row → ℕ → State → State
row_passed n ks x state = upto x (paired n ks x) state

unfoldable pub passed : ℕ → List Row → State → State
passed n ks state = upto n (row_passed n ks) state

-- at most so many passes, till one writes no step
unfoldable pub rounds : ℕ → List Row → ℕ → State → State
rounds n ks zero state = state
rounds n ks (suc left) state =
    let after : State = passed n ks state in
    elim (eqb (count_in after.cells) (count_in state.cells)) [ true ↦ after | false ↦ rounds n ks left after ]
