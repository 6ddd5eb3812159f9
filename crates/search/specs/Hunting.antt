-- The search, as columns, chosen rows and values are handed down.
--     stage_of, dead_of        the values after one level more, and whether a literal that is due there fails
--     start_of, rows_of        the row that a variable begins with, and the rows that it takes
--     hunt_of, enter_from      the first breach in which the variables before k have their chosen rows, after and before the values of level k are read
--     answer_of               what is answered for what was found
--     Ready, Hunting, Chosen what the search asks of its columns, and of the rows chosen so far
-- Assumes nothing.
use Rattle.std.specs.Prelude.{Bool, true, false, List, [], ◌∷◌, ◌++◌, ◌≡◌, ℕ, zero, suc, ◌-◌, ◌≤◌, ◌<◌, eqb, length, get_or, set, take, drop, replicate}
use Rattle.meaning.specs.Context.{Row}
use Rattle.meaning.specs.Rules.{Pattern, Literal, Found, found, nothing}
use Rattle.meaning.specs.ByTable.{same_list}
use Rattle.meaning.specs.FirstBy.{lowest, or_else}
use Rattle.meaning.specs.Pruning.{fails, due}
use Rattle.columns.specs.Fit.{Laid}
use Rattle.plan.specs.Planning.{RuleFit}
use Rattle.search.specs.declared.Kind.{Kind}
use Rattle.search.specs.declared.Kind.TheVariants.{Breach, Clear, Unfit}
use Rattle.search.specs.declared.Reply.{Reply}
use Rattle.values.specs.Chains.{LedgerFit}
use Rattle.values.specs.Reading.{Listed, read_of}
use Rattle.search.specs.Testing.{Tested}

unfoldable pub stage_of : List Row → (ℕ → ℕ) → List Pattern → List ℕ → List ℕ → ℕ → List ℕ → List ℕ → List ℕ
stage_of rows rep ps order ends k chosen values = read_of rows rep ps order chosen values (get_or ends k 0) (get_or ends (suc k) 0)

unfoldable pub dead_of : (ℕ → ℕ → Bool) → List ℕ → List Literal → ℕ → List ℕ → Bool
dead_of differs levels ls k values = fails differs (due k levels) values ls

unfoldable pub try_each : (ℕ → Found) → List ℕ → Found
try_each f [] = nothing
try_each f (x ∷ l) = let r : Found = try_each f l in or_else (f x) r

module _ (read : ℕ → List ℕ → List ℕ → List ℕ) (dead : ℕ → List ℕ → Bool) where
  -- the values are read one level further, and the search goes on where no literal fails
  unfoldable pub enter_of : (List ℕ → List ℕ → Found) → ℕ → List ℕ → List ℕ → Found
  enter_of next k chosen values =
      let v : List ℕ = read k chosen values in elim (dead k v) [ true ↦ nothing | false ↦ next chosen v ]

  -- variable k has row x
  unfoldable pub attempt_of : (List ℕ → List ℕ → Found) → ℕ → List ℕ → List ℕ → ℕ → Found
  attempt_of next k chosen values x = enter_of next (suc k) (set chosen k x) values

  module _ (rows_for : ℕ → List ℕ → List ℕ) where
    -- n variables are left
    unfoldable pub hunt_of : ℕ → ℕ → List ℕ → List ℕ → Found
    hunt_of zero k chosen values = found (take k chosen)
    hunt_of (suc n) k chosen values = try_each (attempt_of (hunt_of n (suc k)) k chosen values) (rows_for k chosen)

    unfoldable pub enter_from : ℕ → ℕ → List ℕ → List ℕ → Found
    enter_from n k chosen values = enter_of (hunt_of n k) k chosen values

-- the row that variable k begins with: that of an assignment while the rows before it are the assignment's, else row 0
unfoldable pub start_of : List ℕ → ℕ → List ℕ → ℕ
start_of from k chosen = elim (same_list (take k chosen) (take k from)) [ true ↦ get_or from k 0 | false ↦ 0 ]

-- a variable that is marked takes its first row alone
unfoldable pub alone_of : ℕ → List ℕ → List ℕ
alone_of mark l = elim (eqb mark 1) [ true ↦ take 1 l | false ↦ l ]

-- the rows of variable k that are their own representatives
unfoldable pub rows_of : (ℕ → ℕ) → ℕ → List ℕ → List ℕ → ℕ → List ℕ → List ℕ
rows_of rep n free from k chosen = alone_of (get_or free k 0) (lowest rep (start_of from k chosen) (n - start_of from k chosen))

unfoldable pub answer_of : Found → Reply
answer_of (found a) = record { kind = Breach (length a); places = a ++ replicate (4 - length a) 255 }
answer_of nothing = record { kind = Clear; places = 255 ∷ 255 ∷ 255 ∷ 255 ∷ [] }

abbrev pub is_breach : Kind → Bool
is_breach (Breach n) = true
is_breach Clear = false
is_breach Unfit = false

-- the order is cut into levels
pub record Planned (order ends : List ℕ) (patterns : ℕ) : Type 0 where
  pub listed : (k : ℕ) → k ≤ 5 → Listed order (get_or ends k 0) patterns
  pub rises : (k : ℕ) → k < 5 → get_or ends k 0 ≤ get_or ends (suc k) 0

-- before the rows are chained by their symbols
pub record Ready (counts args : List ℕ) (rows : ℕ) (shapes heads arities subs : List ℕ) (patterns : ℕ)
    (order ends firsts seconds : List ℕ) (literals variables : ℕ) : Type 0 where
  pub rows_few : rows ≤ 255
  pub laid : Laid counts args rows
  pub rule : RuleFit shapes heads arities subs patterns
  pub planned : Planned order ends patterns
  pub tested : Tested firsts seconds literals
  pub few : variables ≤ 4

pub record Hunting (symbols counts args : List ℕ) (rows : ℕ) (first next shapes heads arities subs : List ℕ) (patterns : ℕ)
    (order ends firsts seconds : List ℕ) (literals variables : ℕ) : Type 0 where
  pub ledger : LedgerFit symbols counts args rows first next
  pub rule : RuleFit shapes heads arities subs patterns
  pub planned : Planned order ends patterns
  pub tested : Tested firsts seconds literals
  pub few : variables ≤ 4

-- variables before k have their rows, and the other places hold 255
pub record Chosen (k : ℕ) (chosen : List ℕ) : Type 0 where
  pub long : length chosen ≡ 4
  pub rest : drop k chosen ≡ replicate (4 - k) 255
