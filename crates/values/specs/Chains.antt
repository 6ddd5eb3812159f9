-- Chains of the context rows whose symbols leave one remainder by 256.
--     Gap        no row of a chain stands from one place up to another
--     Chained    the first row of each chain, and the next row after each
--     Lined      what the comparison of a row asks of its columns
--     Looked     what the look-up finds
--     LedgerFit, LedgerFits  what the look-up of a row asks of its columns
-- Assumes nothing.
-- the remainder by which row i is chained
use Rattle.std.specs.Prelude.{Option, Some, None, List, ◌≡◌, ℕ, ◌+◌, ◌*◌, ◌%◌, ◌≤◌, ◌<◌, length, get_or}
use Rattle.meaning.specs.Context.{Row}
use Rattle.meaning.specs.Values.{held}
use Rattle.columns.specs.Fit.{PlacedAt, Laid}
use Rattle.values.specs.declared.chain.Ledger.{Ledger}

abbrev pub chain_of : List ℕ → ℕ → ℕ
chain_of symbols i = get_or symbols i 0 % 256

-- of n rows, none from i up to j is in chain b, and j is in it where it is a row
pub record Gap (symbols : List ℕ) (n b i j : ℕ) : Type 0 where
  pub passed : (r : ℕ) → i ≤ r → r < n → r < j → chain_of symbols r ≡ b → ⊥
  pub lands : j < n → chain_of symbols j ≡ b
  pub rises : i ≤ j

-- the same for the rows from i on
pub record Linked (symbols : List ℕ) (n i : ℕ) (first next : List ℕ) : Type 0 where
  pub heads : (b : ℕ) → b < 256 → Gap symbols n b i (get_or first b 0)
  pub links : (r : ℕ) → i ≤ r → r < n → Gap symbols n (chain_of symbols r) (r + 1) (get_or next r 0)

abbrev pub Chained : List ℕ → ℕ → List ℕ → List ℕ → Type 0
Chained symbols n first next = Linked symbols n 0 first next

-- row i can be compared with so many values: it has its places, and its arguments are earlier rows
pub record Lined (counts args : List ℕ) (i count : ℕ) : Type 0 where
  pub long : (i + 1) * 4 ≤ length args
  pub placed : PlacedAt counts args i
  pub few : count ≤ 4

pub record LedgerFit (symbols counts args : List ℕ) (rows : ℕ) (first next : List ℕ) : Type 0 where
  pub few : rows ≤ 255
  pub laid : Laid counts args rows
  pub chained : Chained symbols rows first next

-- a value that was looked up is that of the row, whatever it would be without one; or there is no such row
pub record Looked (rep : ℕ → ℕ) (f : ℕ) (ns : List ℕ) (rows : List Row) (r : Option ℕ) : Type 0 where
  pub found : (v : ℕ) → r ≡ Some v → (d : ℕ) → v ≡ held rep f ns d 0 rows
  pub absent : r ≡ None → (d : ℕ) → d ≡ held rep f ns d 0 rows

abbrev pub LedgerFits : Ledger → Type 0
LedgerFits l = LedgerFit l.terms.symbols.now l.terms.counts.now l.terms.args.now l.terms.rows l.chains.now.first l.chains.now.next
