-- Classes as the code holds them: steps and classes in two slices that are lent.
--     class_in     an entry is equal to its label
--     met          an equation of two entries that are equal to one label
--     state_in     the steps and classes that are held
--     Keeps        the same slices are held
--     Becomes      and they hold a state
--     Adds         and a step was written, with the classes as before
-- Assumes nothing.
use Rattle.std.specs.Prelude.{true, false, List, ◌≡◌, ℕ, eqb}
use Rattle.grounds_laws.specs.Draft.{Written, Wrote, turned, linked}
use Rattle.grounds_laws.specs.Classes.{label_in, why_in, own_step, State, state_of}
use Rattle.grounds_classes.specs.declared.draft.Equation.{Equation}
use Rattle.grounds_classes.specs.declared.classes.Classes.{Classes}

abbrev pub class_in : List ℕ → ℕ → Equation
class_in table x = record { step = why_in table x; left = x; right = label_in table x }

-- an entry is equal to itself by its own step
unfoldable pub met : List ℕ → Equation → Equation → Written
met cells x y =
    elim (eqb x.left y.left) [
      | true ↦ record { cells = cells; number = own_step x.left }
      | false ↦ let back : Written = turned cells y.step y.left y.right in linked back.cells x.step back.number x.left x.right y.left
    ]

abbrev pub state_in : Classes → State
state_in c = state_of c.cells.now c.table.now

pub record Keeps (before after : Classes) : Type 0 where
  pub column : after.cells.ghost_name ≡ before.cells.ghost_name
  pub classes : after.table.ghost_name ≡ before.table.ghost_name

pub record Becomes (before after : Classes) (s : State) : Type 0 where
  pub keeps : Keeps before after
  pub so : state_in after ≡ s

pub record Adds (before after : Classes) (number : ℕ) (w : Written) : Type 0 where
  pub keeps : Keeps before after
  pub wrote : Wrote after.cells.now number w
  pub table : after.table.now ≡ before.table.now
