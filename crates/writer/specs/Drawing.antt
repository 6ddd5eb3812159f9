-- What the functions that draw a breach ask and leave.
--     Broken                  runs that say a well-formed context and a well-formed rule, and an assignment that breaks it; places past the last variable are not read
--     owner_by, asked_of        whose steps a literal's own are; literal j by the numbers of its sides
--     said_to                  what is said for it from closed classes, behind so many shared steps of a column
--     Stated                  pairs of numbers at the start of a run
--     closed_by                classes closed by the stated equations
--     Sayable                 what a literal's turn asks
--     turns_to                 what is written for the first literals
--     Drawable, Drew          what the turns of all literals ask, and what they leave
--     Entries, Closed         a breach with the keys and the numbers of all entries, and with closed classes
--     grounds_of, Shows        the answer that they give; it shows the breach
-- Assumes nothing.
use Rattle.std.specs.Prelude.{true, false, List, ◌≡◌, ℕ, ◌+◌, ◌≤◌, ◌<◌, eqb, length, get_or, set, take}
use Rattle.meaning.specs.Context.{Context, equations, differences}
use Rattle.meaning.specs.Rules.{variables, Clause, AllHold}
use Rattle.meaning.specs.Formed.{Formed}
use Rattle.meaning.specs.Values.{number_at}
use Rattle.meaning.specs.Grounds.{Each, instances_of}
use Rattle.meaning.specs.Checking.{entries, numbered}
use Rattle.runs.specs.Limits.{most_rows, most_statements, most_patterns, most_literals}
use Rattle.runs.specs.Fit.{FitContext, FitClause}
use Rattle.runs.specs.Runs.{row_count, rows_of, statements_of, context_of, sign_in, left_in, right_in, literal_count, literals_of, clause_of}
use Rattle.replies.specs.declared.Outcome.{Outcome}
use Rattle.grounds_steps.specs.Steps.{most_steps}
use Rattle.grounds_numbers.specs.Entries.{entries_of, entry_count, Filled}
use Rattle.grounds_numbers.specs.Pairs.{pair_count, pairs_in, pairs_of}
use Rattle.grounds_verdict.specs.Claims.{Chosen}
use Rattle.grounds_laws.specs.Classes.{State, state_of}
use Rattle.grounds_laws.specs.Rounds.{started, stated, blank}
use Rattle.grounds_laws.specs.Concluding.{Said}
use Rattle.grounds_classes.specs.Settling.{Entered, rested_by}
use Rattle.grounds_conclusions.specs.Saying.{saying_by}
use Rattle.grounds_batches.specs.Sending.{Small}
use Rattle.grounds_batches.specs.Drawing.{Drawn, blank_drawn, drawn_to}
use Rattle.grounds_words.specs.Emitting.{Sendable}
use Rattle.writer.specs.Claims.{Shown}
use Rattle.writer.specs.declared.Grounds.{Grounds}
use Rattle.writer.specs.declared.drawing.Asked.{Asked}
use Rattle.writer.specs.declared.drawing.Support.{Support}

pub record Broken (rows said patterns literals places : List ℕ) : Type 0 where
  pub context : FitContext most_rows most_statements rows said
  pub rule : FitClause patterns literals
  pub chosen : Chosen rows patterns places
  pub holds : AllHold (context_of rows said) (instances_of (context_of rows said) (clause_of patterns literals) places) (literals_of literals)

-- ---- one literal

-- literal j, counted from 0
unfoldable pub owner_by : ℕ → ℕ → ℕ
owner_by kind j = elim (eqb kind 6) [ true ↦ 0 | false ↦ j + 1 ]

-- by the numbers of all entries, of which the first n are context rows
unfoldable pub asked_of : List ℕ → List ℕ → ℕ → ℕ → Asked
asked_of ns literals n j =
    record {
      kind = sign_in literals j;
      left = number_at ns (n + left_in literals j);
      right = number_at ns (n + right_in literals j);
      owner = owner_by (sign_in literals j) j;
    }

-- by the keys of all entries and the stated differences
unfoldable pub said_to : List ℕ → List ℕ → Asked → List ℕ → ℕ → List ℕ → Said
said_to keys apart q table from cells = saying_by keys apart q.kind q.left q.right (state_of (set cells 0 from) table)

-- the literal's steps fit their column, and there is a number for each step written after them
pub record Sayable (keys apart : List ℕ) (q : Asked) (table : List ℕ) (from : ℕ) (cells news : List ℕ) (next : ℕ) : Type 0 where
  pub start : 0 < length cells
  pub sendable : Sendable (said_to keys apart q table from cells).cells news next

-- ---- all of them

-- the first m numbers of a run say some pairs
pub record Stated (pairs : List (ℕ × ℕ)) (run : List ℕ) (m : ℕ) : Type 0 where
  pub inside : m ≤ length run
  pub few : pair_count (take m run) ≤ most_statements
  pub says : pairs_in (take m run) ≡ pairs

-- by the keys and the numbers of all entries
unfoldable pub closed_by : List ℕ → List ℕ → List ℕ → State
closed_by keys ns said =
    rested_by keys (stated (row_count keys) (numbered ns (pairs_of true (statements_of said))) (started ns (row_count keys) blank))

module _ (keys ns apart literals : List ℕ) (n : ℕ) (cells table : List ℕ) (steps : List (List ℕ)) where
  -- the first j, in a run of words
  unfoldable pub turns_to : ℕ → Drawn
  turns_to j =
      drawn_to (row_count keys) (rows_of keys) ns n (pairs_in apart) (state_of cells table) (literals_of literals) j
      (blank_drawn cells steps)

  -- the entries are those of an assignment that breaks a rule, the classes are closed, and there is room for the steps
  pub record Drawable : Type 0 where
    pub context : Context
    pub rule : Clause
    pub places : List ℕ
    pub formed : Formed context rule
    pub chosen : Each (variables rule.patterns) (λ v. (v < length places) × (get_or places v 0 < length context.rows))
    pub holds : AllHold context (instances_of context rule places) rule.literals
    pub filled : Filled (entries context.rows places rule.patterns) keys ns (length context.rows + length rule.patterns)
    pub rows_few : length context.rows ≤ most_rows
    pub patterns-few : length rule.patterns ≤ most_patterns
    pub literals-few : literal_count literals ≤ most_literals
    pub rows : n ≡ length context.rows
    pub differences-said : pairs_in apart ≡ numbered ns (differences context)
    pub literals-said : literals_of literals ≡ rule.literals
    pub pairs-few : pair_count apart ≤ most_statements
    pub entered : Entered keys
    pub closed : state_of cells table ≡ rested_by keys (stated (row_count keys) (numbered ns (equations context)) (started ns (row_count keys) blank))
    pub room : most_steps ≤ length steps

  -- what is left, and the numbers of each one's column are of 16 bits
  pub record Drew (r : Support) (steps' : List (List ℕ)) : Type 0 where
    pub many : r.steps ≡ (turns_to (literal_count literals)).out.next
    pub words : steps' ≡ (turns_to (literal_count literals)).out.steps
    pub firsts : r.conclusions.firsts ≡ (turns_to (literal_count literals)).ends
    pub differences : r.conclusions.differences ≡ (turns_to (literal_count literals)).differences
    pub small : (j : ℕ) → j < literal_count literals
        → Small (said_to keys apart (asked_of ns literals n j) table (get_or cells 0 0) (turns_to j).cells).cells

-- a breach at hand, with the keys and the numbers of all entries
pub record Entries (rows said patterns literals a keys ns : List ℕ) : Type 0 where
  pub broken : Broken rows said patterns literals a
  pub filled : Filled (entries_of rows a patterns) keys ns (entry_count rows patterns)

-- with closed classes and room for the steps
pub record Closed (rows said patterns literals a keys ns cells table : List ℕ) (steps : List (List ℕ)) : Type 0 where
  pub entries : Entries rows said patterns literals a keys ns
  pub closed : state_of cells table ≡ closed_by keys ns said
  pub room : most_steps ≤ length steps

-- ---- the answer

abbrev pub grounds_of : Outcome → List ℕ → ℕ → Support → Grounds
grounds_of outcome places literals s = record { outcome = outcome; places = places; steps = s.steps; literals = literals; conclusions = s.conclusions }

-- whatever reply it goes with
pub record Shows (rows said patterns literals a : List ℕ) (steps : List (List ℕ)) (s : Support) (steps' : List (List ℕ)) : Type 0 where
  pub shown : (o : Outcome) → Shown steps (grounds_of o a (literal_count literals) s) steps' (context_of rows said) (clause_of patterns literals)
