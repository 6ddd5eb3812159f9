-- The three demands, of any candidate: a finder takes a text to a reply, a normaliser a text and a lent space to an answer and the space.
--     RefusesRightly, LeavesRightly  demand 1: each refusal exactly where the list has it, and then no lent byte is written
--     FindsFirst                     demand 2: the first breach exactly where it is one, none exactly when there is none; differences follow
--     KeepsMeaning                   demand 3: there is a normal text; which ones agree, by what is equal and what is kept apart; normalising twice; one reply for every rule
-- Assumes nothing.
use Rattle.std.specs.Prelude.{List, [], ◌++◌, ◌≡◌, ◌↔◌, ℕ, ◌≤◌, ◌<◌, length, drop}
use Rattle.meaning.specs.Context.{Context, term_at}
use Rattle.meaning.specs.Equality.{EqualIn, ApartIn, Consistent}
use Rattle.meaning.specs.Rules.{Found}
use Rattle.meaning.specs.Text.{narrow, Refusal, Read, clause_of, taken, read}
use Rattle.meaning.specs.Replies.{Reply, refused, reply_of, Replies, Written, wrote, unwritten, Writes}

abbrev pub Finder : Type 0
Finder = List ℕ → Reply

abbrev pub Normaliser : Type 0
Normaliser = List ℕ → List ℕ → Written × List ℕ

-- ---- demand 1
abbrev pub RefusesRightly : Finder → Type 0
RefusesRightly f = (text : List ℕ) (r : Refusal) → (f text ≡ refused r) ↔ Replies narrow text (refused r)

pub record LeavesRightly (n : Normaliser) : Type 0 where
  pub refuses : (text lent : List ℕ) (r : Refusal) → ((n text lent).0 ≡ unwritten r) ↔ Writes narrow text lent (unwritten r) lent
  pub leaves : (text lent : List ℕ) (r : Refusal) → (n text lent).0 ≡ unwritten r → (n text lent).1 ≡ lent

-- ---- demand 2, with unequal literals as `Differ` says: differences that follow
abbrev pub FindsFirst : Finder → Type 0
FindsFirst f = (text : List ℕ) (r : Found) → (f text ≡ reply_of r) ↔ Replies narrow text (reply_of r)

-- ---- demand 3

-- what a candidate writes for a text, with space enough
abbrev pub Gives : Normaliser → List ℕ → List ℕ → Type 0
Gives n text normal =
    (lent : List ℕ) → length normal ≤ length lent → n text lent ≡ (wrote (length normal), normal ++ drop (length normal) lent)

-- the same rows are equal, and the same rows are kept apart: equal to the two sides of a stated difference
pub record Alike (c d : Context) : Type 0 where
  pub equal : (i j : ℕ) → i < length c.rows → j < length c.rows
      → EqualIn c (term_at c.rows i) (term_at c.rows j) ↔ EqualIn d (term_at d.rows i) (term_at d.rows j)
  pub apart : (i j : ℕ) → i < length c.rows → j < length c.rows
      → ApartIn c (term_at c.rows i) (term_at c.rows j) ↔ ApartIn d (term_at d.rows i) (term_at d.rows j)

-- a text that is read without a fault, as a context that does not contradict itself
pub record Tells (text : List ℕ) (c : Context) : Type 0 where
  pub all : Read
  pub reads : read narrow text ≡ taken all
  pub context : all.ledger.context ≡ c
  pub consistent : Consistent c

-- and has no clause lines
pub record Bare (text : List ℕ) (c : Context) : Type 0 where
  pub tells : Tells text c
  pub bare : tells.all.clause ≡ clause_of [] []

pub record KeepsMeaning (n : Normaliser) : Type 0 where
  -- each such text has a normal text
  pub gives : (s : List ℕ) (c : Context) → Tells s c → (u : List ℕ) × Gives n s u
  -- a: with the same rows, two normal texts agree exactly when the same rows are equal and the same are kept apart
  pub agree : (s t u v : List ℕ) (c d : Context) → Tells s c → Tells t d → c.rows ≡ d.rows → Gives n s u → Gives n t v → (u ≡ v) ↔ Alike c d
  -- b: a normal text is a text, and is its own normal text
  pub twice : (s u : List ℕ) (c : Context) → Tells s c → Gives n s u → ((d : Context) × Bare u d) × Gives n u u
  -- c: rule lines w are read without a fault after a context exactly when they are after its normal text, and then get one reply
  pub rules : (s u w : List ℕ) (c d : Context) → Bare s c → Gives n s u → Bare u d → Tells (s ++ w) c ↔ Tells (u ++ w) d
  pub replies : (s u w : List ℕ) (c d : Context) → Bare s c → Gives n s u → Bare u d → Tells (s ++ w) c → Tells (u ++ w) d
      → (r : Reply) → Replies narrow (s ++ w) r ↔ Replies narrow (u ++ w) r
