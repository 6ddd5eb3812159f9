-- Steps as words, and what a batch leaves of them.
--     MarkOf     the mark of an entry, of so many context rows
--     RowOf      its row
--     Reaches    step i, counted from 0, has its places in a column, in marks and among new numbers
--     Kinded     the kind of each step of a column fits a byte
--     Sendable   what is asked of a column, of new numbers and of how many steps are written
--     Batched    after a batch
-- Assumes nothing.
use Rattle.std.specs.Prelude.{List, ◌≡◌, ℕ, ◌+◌, ◌*◌, ◌≤◌, ◌<◌, length}
use Rattle.grounds_steps.specs.Steps.{most_each}
use Rattle.grounds_laws.specs.Limits.{draft_size}
use Rattle.grounds_laws.specs.Draft.{ref_of, count_in, cell_in}
use Rattle.grounds_batches.specs.Sending.{Out, batch, Small}

pub record MarkOf (rows x r : ℕ) : Type 0 where
  pub value : r ≡ (ref_of rows x).mark
  pub most : r ≤ 1

pub record RowOf (rows x r : ℕ) : Type 0 where
  pub value : r ≡ (ref_of rows x).row
  pub most : r < 65536

pub record Reaches (cells marks news : List ℕ) (i : ℕ) : Type 0 where
  pub places : i * draft_size + draft_size < length cells
  pub mark : i + 1 < length marks
  pub number : i + 1 < length news

-- by what was written before and after
pub record Batched (rows from owner : ℕ) (cells : List ℕ) (s : ℕ) (start after : Out) : Type 0 where
  pub out : after ≡ batch rows from owner cells s start
  pub small : Small cells

pub record Kinded (cells : List ℕ) : Type 0 where
  pub kinds : (i : ℕ) → i < count_in cells → cell_in cells i 1 < 256

-- the places of each step are there, with one for its new number, and a new number fits 32 bits
pub record Sendable (cells news : List ℕ) (next : ℕ) : Type 0 where
  pub places : count_in cells * draft_size < length cells
  pub most : count_in cells ≤ most_each
  pub numbers : count_in cells < length news
  pub kinded : Kinded cells
  pub few : next + count_in cells < 4294967296
