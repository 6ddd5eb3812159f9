-- Classes of entries on the way, two numbers an entry, with a step for each entry that it is equal to its label, and how two classes become one.
--     label_in, why_in      an entry's label, and the number of the step that it is equal to it
--     labelled            an entry gets both
--     State, state_of      steps and classes
--     own_step             the number of an entry's own step
--     same                a step for two entries with one label
--     bridge              a step for the labels of two entries that a step says are equal
--     size_in              how many entries have a label
--     carried             the entries with one label get another
--     joined              the smaller class moves
-- Assumes nothing.
use Rattle.std.specs.Prelude.{true, false, List, ◌≡◌, ℕ, zero, suc, ◌+◌, ◌*◌, ◌≤◌, eqb, ltb, leb, get_or, set}
use Rattle.grounds_steps.specs.Steps.{most_each}
use Rattle.grounds_laws.specs.Limits.{class_size}
use Rattle.grounds_laws.specs.Draft.{Written, turned, linked}

abbrev pub label_in : List ℕ → ℕ → ℕ
label_in table x = get_or table (x * class_size) 0

abbrev pub why_in : List ℕ → ℕ → ℕ
why_in table x = get_or table (x * class_size + 1) 0

-- entry x gets a label, and the step that says so
abbrev pub labelled : List ℕ → ℕ → ℕ → ℕ → List ℕ
labelled table x label why = set (set table (x * class_size) label) (x * class_size + 1) why

pub record State : Type 0 where
  pub cells : List ℕ
  pub table : List ℕ

abbrev pub state_of : List ℕ → List ℕ → State
state_of cells table = record { cells = cells; table = table }

-- n times, by the number of times before
unfoldable pub upto : {A : Type 0} → ℕ → (ℕ → A → A) → A → A
upto zero step s = s
upto (suc n) step s = step n (upto n step s)

unfoldable pub own_step : ℕ → ℕ
own_step x = elim (ltb x most_each) [ true ↦ x + 1 | false ↦ 0 ]

-- x = y, where the two have one label; an entry is equal to itself by its own step
unfoldable pub same : List ℕ → List ℕ → ℕ → ℕ → Written
same cells table x y =
    elim (eqb x y) [
      | true ↦ record { cells = cells; number = own_step x }
      | false ↦ let back : Written = turned cells (why_in table y) y (label_in table y) in
          linked back.cells (why_in table x) back.number x (label_in table x) y
    ]

-- the label of x = the label of y, where step s is x = y
unfoldable pub bridge : List ℕ → List ℕ → ℕ → ℕ → ℕ → Written
bridge cells table s x y =
    let back : Written = turned cells (why_in table x) x (label_in table x) in
    let over : Written = linked back.cells back.number s (label_in table x) x y in
    linked over.cells over.number (why_in table y) (label_in table x) y (label_in table y)

-- among the first n entries
unfoldable pub size_in : List ℕ → ℕ → ℕ → ℕ
size_in table p zero = 0
size_in table p (suc n) = elim (eqb (label_in table n) p) [ true ↦ size_in table p n + 1 | false ↦ size_in table p n ]

-- entry z, where its label is p and step s is p = q
unfoldable pub carry : ℕ → ℕ → ℕ → ℕ → State → State
carry s p q z state =
    elim (eqb (label_in state.table z) p) [
      | true ↦ let w : Written = linked state.cells (why_in state.table z) s z p q in
          state_of w.cells (labelled state.table z q w.number)
      | false ↦ state
    ]

-- the first n entries
unfoldable pub carried : ℕ → ℕ → ℕ → ℕ → State → State
carried s p q n state = upto n (carry s p q) state

-- the class of x moves to that of y, where step s is x = y
unfoldable pub moved : ℕ → ℕ → ℕ → ℕ → State → State
moved n s x y state =
    let w : Written = bridge state.cells state.table s x y in
    carried w.number (label_in state.table x) (label_in state.table y) n (state_of w.cells state.table)

unfoldable pub joined : ℕ → ℕ → ℕ → ℕ → State → State
joined n s x y state =
    elim (leb (size_in state.table (label_in state.table x) n) (size_in state.table (label_in state.table y) n)) [
      | true ↦ moved n s x y state
      | false ↦ let w : Written = turned state.cells s x y in
          moved n w.number y x (state_of w.cells state.table)
    ]
