-- What the functions that follow an equation ask and answer.
--     Laid, Seated                   rows that have their places
--     label_by, same_args, agree_by     the label of a row's class; two rows compared under labels
--     Two, SameSymbol, SameArgs      two numbers in either order; two rows of one symbol, and with arguments that go to the same
--     Way                            labels and marks on the way from a closed table, with the equation of rows i and j
--     marked_at, moved_at              the marked rows, and the classes whose label is not their own
--     Space, Labelled, sets_size      runs that are long enough; labels as they are between two steps
--     NextClass, Member, Own         the next number of a set; the next member of a label; a class that is the label of its own
--     Differs, Partner .. Mate       a row to join with, or none among the rows over a class, over a label, and among all
--     Inside                         classes are rows
--     ApartFrom, Labels, Clashing    members of labels kept apart
--     Marked, Moved                  rows marked, and labels changed
--     Joined                         two labels made one
--     Meets, Meeting                 or members of them are kept apart
--     remaining, TurnAt, Turned      how much is left to do, and one step
--     Ends, Blank, Followed          labels before and after, and an equation that was followed
--     Classes, TwoClasses            what two classes ask, and the equation of two
--     Owned                          labels taken back
--     Open, Settled, Asked           whether an equation has to be followed; the answer for two classes, and for any two numbers
-- Assumes nothing.
use Rattle.std.specs.Prelude.{Bool, true, false, Option, None, Some, ◌&&◌, List, ◌∷◌, map, ◌≡◌, ◌⊎◌, ℕ, suc, ◌+◌, ◌*◌, ◌≤◌, ◌<◌, eqb, length, get_or}
use Rattle.meaning.specs.Context.{Row, row_at, Context, equations, differences}
use Rattle.meaning.specs.Equality.{rep_at}
use Rattle.meaning.specs.Formed.{Ordered}
use Rattle.meaning.specs.ByTable.{apart_by, same_list}
use Rattle.meaning.specs.Closing.{Sofar, move, total}
use Rattle.meaning.specs.Following.{differ_by}
use Rattle.runs.specs.Limits.{row_size, arg_places}
use Rattle.runs.specs.Runs.{args_from, row_count, count_in, rows_of, context_of}
use Rattle.bits.specs.Sets.{has, size}
use Rattle.search_pairs.specs.Ready.{words_for, most_words, over_at, beside_at, apart_at, live_at, Ready}

-- ---- rows

-- no more rows than a set has places for, none with more than four arguments, and each over earlier rows
pub record Laid (run : List ℕ) : Type 0 where
  pub room : words_for (row_count run) ≤ most_words
  pub few : (i : ℕ) → i < row_count run → count_in run i ≤ arg_places
  pub ordered : Ordered (rows_of run)

-- row i is there, and count is no more than it has places for arguments
pub record Seated (run : List ℕ) (i count : ℕ) : Type 0 where
  pub inside : i < row_count run
  pub four : count ≤ arg_places

abbrev pub label_by : List ℕ → List ℕ → ℕ → ℕ
label_by table labels i = rep_at labels (rep_at table i)

abbrev pub arg_labels : List ℕ → (ℕ → ℕ) → ℕ → ℕ → List ℕ
arg_labels run f i count = map f (args_from run (i * row_size + 2) count)

unfoldable pub same_args : List ℕ → (ℕ → ℕ) → ℕ → ℕ → ℕ → Bool
same_args run f i j count = same_list (arg_labels run f i count) (arg_labels run f j count)

unfoldable pub agree_by : (ℕ → ℕ) → List Row → ℕ → ℕ → Bool
agree_by f rows i j = eqb (row_at rows i).symbol (row_at rows j).symbol && same_list (map f (row_at rows i).args) (map f (row_at rows j).args)

-- ---- on the way

abbrev pub Two : ℕ → ℕ → ℕ → ℕ → Type 0
Two lo hi x y = ((x ≡ lo) × (y ≡ hi)) ⊎ ((x ≡ hi) × (y ≡ lo))

abbrev pub SameSymbol : List Row → ℕ → ℕ → Type 0
SameSymbol rows r s = (row_at rows r).symbol ≡ (row_at rows s).symbol

abbrev pub SameArgs : List Row → (ℕ → ℕ) → ℕ → ℕ → Type 0
SameArgs rows f r s = map f (row_at rows r).args ≡ map f (row_at rows s).args

-- what labels make one is equal by the equation; rows that agree have one label, or one of them is marked; no label has two members kept apart
pub record Way (c : Context) (rep : ℕ → ℕ) (i j : ℕ) (lab : ℕ → ℕ) (marked : ℕ → Bool) : Type 0 where
  pub so : Sofar c.rows ((i, j) ∷ equations c) (λ r. lab (rep r))
  pub agreeing : (r s : ℕ) → r < length c.rows → s < length c.rows → SameSymbol c.rows r s → SameArgs c.rows (λ x. lab (rep x)) r s
      → (lab (rep r) ≡ lab (rep s)) ⊎ ((marked r ≡ true) ⊎ (marked s ≡ true))
  pub apart : (a b : ℕ) → a < length c.rows → b < length c.rows → lab a ≡ lab b → apart_by rep (differences c) a b ≡ false

-- ---- labels

-- the marked rows stand in the first words, and the classes whose label is another class in the words after them
abbrev pub marked_at : List ℕ → ℕ → Bool
marked_at work r = has work 0 r

abbrev pub moved_at : ℕ → List ℕ → ℕ → Bool
moved_at n work a = has work (words_for n) a

-- a label for each of n classes, and two sets of them
pub record Space (n : ℕ) (labels work : List ℕ) : Type 0 where
  pub few : words_for n ≤ most_words
  pub labels-long : length labels ≡ n
  pub work-long : length work ≡ words_for n + words_for n

-- a label is the lowest class that has it, and whoever has another one's is known
pub record Labelled (n : ℕ) (labels work : List ℕ) : Type 0 where
  pub low : (a : ℕ) → a < n → rep_at labels a ≤ a
  pub own : (a : ℕ) → a < n → rep_at labels (rep_at labels a) ≡ rep_at labels a
  pub moved : (a : ℕ) → a < n → (rep_at labels a ≡ a) ⊎ (moved_at n work a ≡ true)

-- sets of n rows, four for each and one more
abbrev pub sets_size : ℕ → ℕ
sets_size n = (n + n + n + 1) * words_for n

-- the next of n numbers from a place on that a set has
pub record ClassAt (n : ℕ) (ws : List ℕ) (base from k : ℕ) : Type 0 where
  pub inside : k < n
  pub later : from ≤ k
  pub here : has ws base k ≡ true
  pub first : (a : ℕ) → from ≤ a → a < k → has ws base a ≡ false

pub record NoClass (n : ℕ) (ws : List ℕ) (base from : ℕ) : Type 0 where
  pub none : (a : ℕ) → from ≤ a → a < n → has ws base a ≡ false

abbrev pub NextClass : ℕ → List ℕ → ℕ → ℕ → Option ℕ → Type 0
NextClass n ws base from None = NoClass n ws base from
NextClass n ws base from (Some k) = ClassAt n ws base from k

-- the next class from a place on that has label z
pub record MemberAt (n : ℕ) (labels : List ℕ) (z from k : ℕ) : Type 0 where
  pub inside : k < n
  pub later : from ≤ k
  pub here : rep_at labels k ≡ z
  pub first : (a : ℕ) → from ≤ a → a < k → rep_at labels a ≡ z → ⊥

pub record NoMember (n : ℕ) (labels : List ℕ) (z from : ℕ) : Type 0 where
  pub none : (a : ℕ) → from ≤ a → a < n → rep_at labels a ≡ z → ⊥

abbrev pub Member : ℕ → List ℕ → ℕ → ℕ → Option ℕ → Type 0
Member n labels z from None = NoMember n labels z from
Member n labels z from (Some k) = MemberAt n labels z from k

-- z is one of n classes, and the label of its own
pub record Own (n : ℕ) (labels : List ℕ) (z : ℕ) : Type 0 where
  pub inside : z < n
  pub own : rep_at labels z ≡ z

-- row s agrees with row r and has another label
pub record Differs (rows : List Row) (table labels : List ℕ) (r s : ℕ) (b : Bool) : Type 0 where
  pub agrees : b ≡ true → agree_by (label_by table labels) rows r s ≡ true
  pub other : b ≡ true → label_by table labels r ≡ label_by table labels s → ⊥
  pub same : b ≡ false → agree_by (label_by table labels) rows r s ≡ true → label_by table labels r ≡ label_by table labels s

-- such a row
pub record Partner (rows table labels : List ℕ) (r s : ℕ) : Type 0 where
  pub inside : s < row_count rows
  pub agrees : agree_by (label_by table labels) (rows_of rows) r s ≡ true
  pub other : label_by table labels r ≡ label_by table labels s → ⊥

-- none of the rows over class a is so
pub record NoneOver (rows table sets labels : List ℕ) (a r : ℕ) : Type 0 where
  pub none : (t : ℕ) → t < row_count rows → over_at (row_count rows) sets a t ≡ true
      → agree_by (label_by table labels) (rows_of rows) r t ≡ true → label_by table labels r ≡ label_by table labels t

abbrev pub OverClass : List ℕ → List ℕ → List ℕ → List ℕ → ℕ → ℕ → Option ℕ → Type 0
OverClass rows table sets labels a r None = NoneOver rows table sets labels a r
OverClass rows table sets labels a r (Some s) = Partner rows table labels r s

-- none of the rows over a member of label z
pub record NoneOverLabel (rows table sets labels : List ℕ) (z r : ℕ) : Type 0 where
  pub none : (a t : ℕ) → a < row_count rows → rep_at labels a ≡ z → t < row_count rows → over_at (row_count rows) sets a t ≡ true
      → agree_by (label_by table labels) (rows_of rows) r t ≡ true → label_by table labels r ≡ label_by table labels t

abbrev pub OverLabel : List ℕ → List ℕ → List ℕ → List ℕ → ℕ → ℕ → Option ℕ → Type 0
OverLabel rows table sets labels z r None = NoneOverLabel rows table sets labels z r
OverLabel rows table sets labels z r (Some s) = Partner rows table labels r s

-- classes are rows
pub record Inside (n : ℕ) (table : List ℕ) : Type 0 where
  pub each : (i : ℕ) → i < n → rep_at table i < n

-- none of all rows, where the table and its sets are the context's
pub record NoMate (rows table sets labels : List ℕ) (r : ℕ) : Type 0 where
  pub none : (said : List ℕ) → Ready rows said table sets → (t : ℕ) → t < row_count rows
      → agree_by (label_by table labels) (rows_of rows) r t ≡ true → label_by table labels r ≡ label_by table labels t

abbrev pub Mate : List ℕ → List ℕ → List ℕ → List ℕ → ℕ → Option ℕ → Type 0
Mate rows table sets labels r None = NoMate rows table sets labels r
Mate rows table sets labels r (Some s) = Partner rows table labels r s

-- whether a class is kept apart from a member of label y
pub record ApartFrom (n : ℕ) (sets labels : List ℕ) (a y : ℕ) (r : Bool) : Type 0 where
  pub found : r ≡ true → (b : ℕ) × (b < n) × (rep_at labels b ≡ y) × (apart_at n sets a b ≡ true)
  pub clear : r ≡ false → (b : ℕ) → b < n → rep_at labels b ≡ y → apart_at n sets a b ≡ false

-- x and y are labels
pub record Labels (n : ℕ) (labels : List ℕ) (x y : ℕ) : Type 0 where
  pub left : x < n
  pub right : y < n
  pub left-own : rep_at labels x ≡ x
  pub right-own : rep_at labels y ≡ y

-- whether a member of label x is kept apart from a member of label y
pub record Clashing (n : ℕ) (sets labels : List ℕ) (x y : ℕ) (r : Bool) : Type 0 where
  pub found : r ≡ true → (a : ℕ) × (b : ℕ) × (a < n) × (b < n) × (rep_at labels a ≡ x) × (rep_at labels b ≡ y) × (apart_at n sets a b ≡ true)
  pub clear : r ≡ false → (a b : ℕ) → a < n → b < n → rep_at labels a ≡ x → rep_at labels b ≡ y → apart_at n sets a b ≡ false

-- the rows over the members of label z are marked too
pub record Marked (n : ℕ) (sets labels : List ℕ) (z : ℕ) (work work' : List ℕ) : Type 0 where
  pub long : length work' ≡ length work
  pub kept : (r : ℕ) → marked_at work r ≡ true → marked_at work' r ≡ true
  pub reached : (a r : ℕ) → a < n → r < n → rep_at labels a ≡ z → over_at n sets a r ≡ true → marked_at work' r ≡ true
  pub others : (a : ℕ) → moved_at n work' a ≡ moved_at n work a

-- the members of label hi get lo
pub record Moved (n lo hi : ℕ) (labels labels' : List ℕ) : Type 0 where
  pub long : length labels' ≡ length labels
  pub so : (a : ℕ) → a < n → rep_at labels' a ≡ move lo hi (rep_at labels a)

-- the labels x and y become one
pub record Joined (n : ℕ) (sets : List ℕ) (x y : ℕ) (labels work labels' work' : List ℕ) : Type 0 where
  pub lo : ℕ
  pub hi : ℕ
  pub picked : ℕ
  pub two : Two lo hi x y
  pub less : lo < hi
  pub one : (picked ≡ lo) ⊎ (picked ≡ hi)
  pub moves : Moved n lo hi labels labels'
  pub long : length work' ≡ length work
  pub kept : (r : ℕ) → marked_at work r ≡ true → marked_at work' r ≡ true
  pub reached : (a r : ℕ) → a < n → r < n → rep_at labels a ≡ picked → over_at n sets a r ≡ true → marked_at work' r ≡ true
  pub others : (a : ℕ) → moved_at n work a ≡ true → moved_at n work' a ≡ true
  pub known : moved_at n work' hi ≡ true

-- two labels that are to become one
pub record Meets (n : ℕ) (sets labels work : List ℕ) (x y : ℕ) : Type 0 where
  pub space : Space n labels work
  pub laid : Labelled n labels work
  pub room : sets_size n ≤ length sets
  pub labels-there : Labels n labels x y
  pub other : x ≡ y → ⊥

-- the labels x and y become one, or the answer is that members of them are kept apart
pub record Meeting (n : ℕ) (sets : List ℕ) (x y : ℕ) (labels work labels' work' : List ℕ) (b : Bool) : Type 0 where
  pub clash : b ≡ true → Clashing n sets labels x y true
  pub labels-kept : b ≡ true → labels' ≡ labels
  pub work-kept : b ≡ true → work' ≡ work
  pub clear : b ≡ false → Clashing n sets labels x y false
  pub joined : b ≡ false → Joined n sets x y labels work labels' work'

-- the labels fall, or else the marks
unfoldable pub remaining : ℕ → List ℕ → List ℕ → ℕ
remaining n labels work = total n (rep_at labels) * suc (words_for n * 64) + size (words_for n * 64) (marked_at work)

-- row r is marked, and can be looked at
pub record TurnAt (rows table sets labels work : List ℕ) (r : ℕ) : Type 0 where
  pub rows-laid : Laid rows
  pub inside : Inside (row_count rows) table
  pub room : sets_size (row_count rows) ≤ length sets
  pub space : Space (row_count rows) labels work
  pub laid : Labelled (row_count rows) labels work
  pub row : r < row_count rows
  pub marked : marked_at work r ≡ true

-- one marked row looked at: nothing agrees with it, and it is marked no more; or labels were joined; or the answer is that sides became equal
pub record Turned (rows table sets labels work labels' work' : List ℕ) (b : Bool) : Type 0 where
  pub space : Space (row_count rows) labels' work'
  pub laid : Labelled (row_count rows) labels' work'
  pub less : b ≡ false → remaining (row_count rows) labels' work' < remaining (row_count rows) labels work
  pub grown : (x y : ℕ) → label_by table labels x ≡ label_by table labels y → rep_at table x < row_count rows → rep_at table y < row_count rows → label_by table labels' x ≡ label_by table labels' y
  pub way : (said : List ℕ) (i j : ℕ) → Ready rows said table sets → i < row_count rows → j < row_count rows
      → Way (context_of rows said) (rep_at table) i j (rep_at labels) (marked_at work) → b ≡ false
      → Way (context_of rows said) (rep_at table) i j (rep_at labels') (marked_at work')
  pub wider : (said : List ℕ) (i j : ℕ) → Ready rows said table sets → i < row_count rows → j < row_count rows
      → Way (context_of rows said) (rep_at table) i j (rep_at labels) (marked_at work) → b ≡ true → differ_by (context_of rows said) i j ≡ true

-- two classes
pub record Ends (n x y : ℕ) : Type 0 where
  pub left : x < n
  pub right : y < n
  pub other : x ≡ y → ⊥

-- own labels, and nothing marked
pub record Blank (n : ℕ) (labels work : List ℕ) : Type 0 where
  pub space : Space n labels work
  pub own : (a : ℕ) → a < n → rep_at labels a ≡ a
  pub none : (j : ℕ) → get_or work j 0 ≡ 0

-- two classes to be asked for
pub record Classes (rows table sets labels work : List ℕ) (x y : ℕ) : Type 0 where
  pub laid : Laid rows
  pub inside : Inside (row_count rows) table
  pub room : sets_size (row_count rows) ≤ length sets
  pub blank : Blank (row_count rows) labels work
  pub left : x < row_count rows
  pub right : y < row_count rows

-- and whose equation is to be followed
pub record TwoClasses (rows table sets labels work : List ℕ) (x y : ℕ) : Type 0 where
  pub laid : Laid rows
  pub inside : Inside (row_count rows) table
  pub room : sets_size (row_count rows) ≤ length sets
  pub blank : Blank (row_count rows) labels work
  pub ends : Ends (row_count rows) x y

-- the equation of the classes x and y followed
pub record Followed (rows table sets : List ℕ) (x y : ℕ) (labels work : List ℕ) (b : Bool) : Type 0 where
  pub space : Space (row_count rows) labels work
  pub laid : Labelled (row_count rows) labels work
  pub so : (said : List ℕ) → Ready rows said table sets → rep_at table x ≡ x → rep_at table y ≡ y → b ≡ differ_by (context_of rows said) x y

-- each of n classes has its own label
pub record Owned (n : ℕ) (labels labels' : List ℕ) : Type 0 where
  pub long : length labels' ≡ length labels
  pub own : (a : ℕ) → a < n → rep_at labels' a ≡ a

-- ---- the answer

-- whether the equation of two classes has to be followed
pub record Open (n : ℕ) (sets : List ℕ) (x y : ℕ) (b : Bool) : Type 0 where
  pub shut : b ≡ false → (x ≡ y) ⊎ ((beside_at n sets x y ≡ false) ⊎ ((live_at n sets x ≡ false) × (live_at n sets y ≡ false)))
  pub other : b ≡ true → x ≡ y → ⊥

-- of two classes
pub record Settled (rows table sets : List ℕ) (x y : ℕ) (labels work : List ℕ) (b : Bool) : Type 0 where
  pub blank : Blank (row_count rows) labels work
  pub so : (said : List ℕ) → Ready rows said table sets → rep_at table x ≡ x → rep_at table y ≡ y → b ≡ differ_by (context_of rows said) x y

-- of any two numbers, for each context that the table and its sets are those of; labels and marks come back as they were
pub record Asked (rows table sets : List ℕ) (x y : ℕ) (labels work : List ℕ) (b : Bool) : Type 0 where
  pub blank : Blank (row_count rows) labels work
  pub so : (said : List ℕ) → Ready rows said table sets → b ≡ differ_by (context_of rows said) x y
